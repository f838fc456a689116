use Rattle.std.proofs.Common.{◌≡◌, ◌≤◌, ◌<◌, refl, ◌+◌, ◌-◌, ◌^◌, ◌++◌, ◌∙◌, ap, sym, subst, length, length-append, reverse, List}
use Rattle.std.proofs.lemmas.List.{map-append, append_cancel_right}
use Rattle.flow_base.specs.declared.types.Flow.{Flow}
use Rattle.acts.specs.declared.act.Act.{Act}
use Rattle.acts.specs.declared.act.Taken.{Taken}
use Rattle.acts.specs.Holding.{address_of}
use Rattle.entity_names.specs.Known.{Known, saved_at}
use Rattle.fd_table.specs.Table.{AddressesAs, HoldsAs, address_at, held_at}
use Rattle.flow_events.specs.Changes.{changed}
use Rattle.flow_events.specs.Since.{Remembers}
use Rattle.flow_events.specs.Standing.{readdressed}
use Rattle.acts.specs.Keys.{all_given}
use Rattle.acts.specs.Flows.{acts_of, flows}
use Rattle.proc_table.specs.Table.{StandsFor as LivesAs}
use Rattle.flow_events.specs.Births.{BornAs}
use Rattle.flow_events.specs.Entering.{entered}
use Rattle.flow_events.proofs.Applying.{held_after, addresses_after, names_kept, same_kept}
use Rattle.flow_events.proofs.Rooming.{marks_go_on, saved_still, stands_joined}
use Rattle.flow_events.proofs.Safety.{acts_fit, safe_grown}
use Rattle.flow_events.proofs.tables.Tables.apply.Goals as goal

pub returns-clause-next : goal.returns-clause-next
returns-clause-next c = λ text before now stands plan.
    let old = c.args.self.now in
    let done = c.args.plan.now in
    let mid = c.give_all.new.entities in
    record {
      lives_are = subst (λ acts. LivesAs c.live_through.new.procs acts)
          (ap (λ acts. reverse acts ++ acts_of before) c.as_slice-2.ensures ∙ sym plan.acts_are)
          (c.live_through.ensures.next (acts_of before) (acts_fit before old.acts _ stands.acts_are (subst (λ (l : List Act). old.acts + length l < 2 ^ 64 - 1) (sym c.as_slice-2.ensures) c.requires.ready.acts_fit)) stands.lives_are);
      held_are = held_after old.fds c.make_change.new.fds c.make_change-2.new.fds c.readdress.new.fds done.work.see done.work.last (acts_of before) (acts_of (now ++ before))
          stands.held_are
          (λ p n. c.make_change.ensures.held p n ∙ ap (λ change. changed change (held_at old.fds) p n) c.replace.ensures.value)
          (λ p n. c.make_change-2.ensures.held p n ∙ ap (λ change. changed change (held_at c.make_change.new.fds) p n) c.replace-2.ensures.value)
          c.readdress.ensures.held plan.held_are;
      addresses_are = addresses_after old.fds c.make_change.new.fds c.make_change-2.new.fds c.readdress.new.fds done.work.address (acts_of before) (acts_of (now ++ before))
          stands.addresses_are c.make_change.ensures.addresses c.make_change-2.ensures.addresses
          (λ s. c.readdress.ensures.addresses s ∙ ap (λ new. readdressed new (address_at c.make_change-2.new.fds) s) c.take.ensures.value) plan.addresses_are;
      births_are = subst (λ acts. BornAs c.bear_through.new.births acts)
          (ap (λ acts. reverse acts ++ acts_of before) c.as_slice-3.ensures ∙ sym plan.acts_are)
          (c.bear_through.ensures.next (acts_of before) (acts_fit before old.acts _ stands.acts_are (subst (λ (l : List Act). old.acts + length l < 2 ^ 64 - 1) (sym c.as_slice-3.ensures) c.requires.ready.acts_fit)) stands.births_are);
      objects_are = c.enter_all.ensures.keys
          ∙ ap (λ seen. entered seen done.work.draft.added.keys) (ap (λ e. e.keys) c.give_all.ensures.rest ∙ stands.objects_are)
          ∙ sym plan.objects_are;
      names_are = same_kept c.enter_all.new.entities _ _ plan.names_are
          (names_kept mid c.enter_all.new.entities _ c.enter_all.ensures.rest (c.give_all.ensures.next (all_given text (acts_of before)) stands.names_are));
      flows_are = (λ i. stands.flows_are i + ap length (c.flows.ensures ∙ c.enter_all.ensures.flows) i) ∙ sym (length-append (flows before) done.work.draft.added.flows) ∙ ap length (sym plan.flows_are);
      acts_are = (λ i. stands.acts_are i + ap length c.as_slice-4.ensures i) ∙ sym plan.count_is;
      objects_fit =
          subst (λ keys. length keys ≤ c.enter_all.new.entities.limit) (sym c.enter_all.ensures.keys ∙ refl)
          (rw (ap (λ e. e.limit) c.enter_all.ensures.rest ∙ ap (λ e. e.limit) c.give_all.ensures.rest, ap (λ e. e.keys) c.give_all.ensures.rest) c.requires.ready.objects_fit);
      limit_is = stands.limit_is ∙ sym (ap (λ e. e.limit) c.enter_all.ensures.rest ∙ ap (λ e. e.limit) c.give_all.ensures.rest);
    }

pub returns-clause-since : goal.returns-clause-since
returns-clause-since c = λ text before now fresh stands plan. record {
  stands = stands_joined text _ fresh now before (returns-clause-next c text (now ++ before) fresh stands.stands plan);
  since =
      let joined : acts_of (now ++ before) ≡ acts_of now ++ acts_of before = map-append (λ (t : Taken). t.act) now before in
      let later : acts_of (fresh ++ (now ++ before)) ≡ acts_of fresh ++ (acts_of now ++ acts_of before) = map-append (λ (t : Taken). t.act) fresh (now ++ before) ∙ ap (λ (l : List Act). acts_of fresh ++ l) joined in
      let turned : acts_of fresh ≡ reverse c.args.plan.now.acts = append_cancel_right (acts_of fresh) (reverse c.args.plan.now.acts) (acts_of (now ++ before)) (sym (map-append (λ (t : Taken). t.act) fresh (now ++ before)) ∙ plan.acts_are) in
      subst (Remembers c.note_event.new.since (acts_of before)) (sym (map-append (λ (t : Taken). t.act) fresh now))
      (c.note_event.ensures (acts_of before) (acts_of now) (acts_of fresh) (subst (LivesAs c.args.self.now.procs) joined stands.stands.lives_are) (subst (HoldsAs c.args.self.now.fds) joined stands.stands.held_are) (subst (AddressesAs c.args.self.now.fds) joined stands.stands.addresses_are)
      (turned ∙ ap reverse (sym c.as_slice.ensures))
      (λ s. ap (λ (l : List Act). address_of l s) (sym later) ∙ plan.addresses_are s ∙ ap (λ (l : List Act). readdressed c.args.plan.now.work.address (address_of l) s) joined)
      stands.since);
  saved = saved_still text c.args.self.now.entities c.enter_all.new.entities before
      (ap (λ e. e.most_names) c.enter_all.ensures.rest ∙ ap (λ e. e.most_names) c.give_all.ensures.rest)
      (λ key. ap (λ (e : Known). saved_at e key) c.enter_all.ensures.rest ∙ c.give_all.ensures.saved key)
      stands.saved;
}

pub returns-clause-limits : goal.returns-clause-limits
returns-clause-limits c = λ limits has. record {
  limits_are = has.limits_are;
  names_are = ap (λ e. e.most_names) c.enter_all.ensures.rest ∙ ap (λ e. e.most_names) c.give_all.ensures.rest ∙ has.names_are;
}

pub returns-clause-grown : goal.returns-clause-grown
returns-clause-grown c = record {
  acts = ap (λ (l : List Act). c.args.self.now.acts + length l) c.as_slice-4.ensures;
  flows = ap (λ (l : List Flow). c.args.self.now.flows + length l) (c.flows.ensures ∙ c.enter_all.ensures.flows);
  keys = c.enter_all.ensures.keys ∙ ap (λ seen. entered seen c.args.plan.now.work.draft.added.keys) (ap (λ e. e.keys) c.give_all.ensures.rest);
  limits = refl;
  marked = refl;
}

pub returns-clause-marks : goal.returns-clause-marks
returns-clause-marks c = λ text taken fresh marks plan. marks_go_on text c.args.self.now _ c.args.plan.now taken fresh (returns-clause-since c) refl marks plan

pub returns-clause-safe : goal.returns-clause-safe
returns-clause-safe c =
    safe_grown c.args.self.now _ c.args.plan.now (returns-clause-grown c) (ap (λ e. e.limit) c.enter_all.ensures.rest ∙ ap (λ e. e.limit) c.give_all.ensures.rest) c.requires.ready.flows_fit c.requires.ready.objects_fit c.requires.safe
