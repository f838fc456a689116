use Rattle.std.proofs.Common.{◌≡◌, ◌+◌, ◌++◌, ◌∙◌, [], ap, sym, subst, length, ◌∷◌}
use Rattle.flow_base.specs.declared.types.Key.TheVariants.{Process}
use Rattle.acts.specs.declared.act.Act.TheVariants.{See}
use Rattle.acts.specs.Keys.{name_if}
use Rattle.acts.specs.Flows.{acts_of, objects, flows, with_ends}
use Rattle.flow_events.specs.Acting.{pair_if}
use Rattle.flow_events.specs.Added.{flows_if}
use Rattle.flow_events.specs.Entering.{NameAlike}
use Rattle.std.proofs.lemmas.Result.{err_from_is_err_and}
use Rattle.flow_events.proofs.Drafting.{flows_after}
use Rattle.flow_events.proofs.KnownNames.{named_after}
use Rattle.flow_events.proofs.Past.{link_past}
use Rattle.flow_events.proofs.draft.Draft.see.Goals as goal

pub returns-clause-next : goal.returns-clause-next
returns-clause-next c = λ few before base lives life so_far.
    let pid = c.args.acting.now.pid in
    let exe = c.args.exe.now in
    let act = See pid c.args.ppid exe in
    let known = c.args.ground.now.entities.now.keys in
    let link = c.requires.link few (acts_of before) exe lives in
    let named = subst (λ l. NameAlike c.args.ground.now.entities.now (name_if (Process pid l) exe) (pair_if c.in_ok-name.name)) (sym life) c.in_ok-name.ensures in
    let objects_are : objects (act ∷ acts_of before) ≡ known ++ c.add_link.new.added.keys =
    (λ i. with_ends (so_far.objects_are i) (sym link i)) ∙ sym c.in_ok-add_link.ensures.keys in
    record {
      before_are = so_far.before_are;
      now_are = record { each = so_far.now_are.each };
      known_are = so_far.known_are;
      names_are = named_after c.args.ground.now.entities.now _ _ _ _ _ _ so_far.known_are so_far.names_are named c.in_ok-put_name.ensures;
      objects_are = objects_are;
      flows_are =
          flows_after before [] (record { act = act; ms = c.args.ground.now.ms; serial = c.args.ground.now.serial }) c.args.self.now.added.flows (known ++ c.add_link.new.added.keys) c.args.link
          (c.args.ground.now.flows + length c.args.self.now.added.flows) so_far.flows_are objects_are (sym link)
          (ap (λ n. n + length c.args.self.now.added.flows) base)
          ∙ ap (λ added. flows before ++ added) (ap (λ n. c.args.self.now.added.flows ++ flows_if (known ++ c.add_link.new.added.keys) c.args.ground.now.ms c.args.ground.now.serial (c.args.ground.now.flows + n) c.args.link) (sym c.count.ensures) ∙ sym c.in_ok-add_link.ensures.flows);
    }

pub returns-in_err-add_link-clause-full : goal.returns-in_err-add_link-clause-full
returns-in_err-add_link-clause-full c =
    let p = err_from_is_err_and c.from_residual-in_err-add_link.result c.from_residual-in_err-add_link.ensures.1 in
    rw (p.1, p.2) (λ full is few before lives so_far.
    link_past _ full _ (objects (acts_of before)) _ _ so_far.objects_are (c.requires.link few (acts_of before) c.args.exe.now lives) (c.in_err-add_link.ensures.full full is))
