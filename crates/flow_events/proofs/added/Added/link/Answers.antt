use Rattle.std.proofs.Common.{◌≤◌, ◌++◌, ◌∙◌, ℕ, List, [], ◌∷◌, ap, sym, subst, length}
use Rattle.flow_base.specs.declared.types.Key.{Key}
use Rattle.flow_base.specs.contracts.types.KeyPartialEq.TheImpl.{ghosts}
use Rattle.acts.specs.Keys.{put_new}
use Rattle.flow_events.specs.Added.{flow_of}
use Rattle.acts.proofs.Entering.{AreOne}
use Rattle.flow_events.proofs.GoingOn.{link_numbered}
use Rattle.flow_events.proofs.Numbering.{from_number, to_number}
use Rattle.flow_events.proofs.added.Added.link.Goals as goal

pub returns-clause-flows : goal.returns-clause-flows
returns-clause-flows c =
    let same = c.equal_keys_are_one.ensures.same in
    let known = c.args.entities.now.keys in
    let after = ap (λ v. known ++ v.keys) c.self.view_is ∙ c.in_ok-to.ensures.keys in
    let from = from_number same (known ++ c.args.self.now.keys) (known ++ c.number.new.self.keys) (known ++ c.self.inside.keys) c.args.link.from c.args.link.to c.in_ok-from.from.0
    c.in_ok-from.ensures.keys after c.in_ok-from.ensures.id in
    let to = to_number same (known ++ c.number.new.self.keys) (known ++ c.self.inside.keys) c.args.link.to c.in_ok-to.to.0 after c.in_ok-to.ensures.id in
    let flows = ap (λ v. v.flows) c.self.view_is ∙ c.in_ok-to.ensures.flows ∙ c.in_ok-from.ensures.flows in
    c.in_ok-push.ensures.ok ∙ (λ i. flows i ++ record {
      from = record { 0 = from i };
      to = record { 0 = to i };
      how = c.args.link.how;
      at = c.args.at;
      serial = c.args.serial;
    } ∷ [])

pub returns-clause-numbered : goal.returns-clause-numbered
returns-clause-numbered c = λ place is so_far.
    let one : AreOne = record { exact = c.equal_keys_are_one.ensures.exact; same = c.equal_keys_are_one.ensures.same } in
    let known = c.args.entities.now.keys in
    let all = known ++ c.self.inside.keys in
    let keys = ap (λ v. known ++ v.keys) c.self.view_is ∙ c.in_ok-to.ensures.keys ∙ ap (λ seen. put_new ghosts.eq seen c.args.link.to) c.in_ok-from.ensures.keys in
    let fits : length all ≤ c.args.most = subst (λ (ks : List Key). length ks ≤ c.args.most) (ap (λ v. known ++ v.keys) (sym c.self.view_is)) c.in_ok-to.ensures.fits in
    let flows = returns-clause-flows c ∙ ap (λ (p : ℕ). c.args.self.now.flows ++ flow_of all c.args.at.ms c.args.serial p c.args.link ∷ []) is in
    link_numbered one known c.args.at.ms place c.args.serial c.args.most c.args.self.now _ c.args.link c.requires.ends keys flows fits c.ranges.most.fits so_far
