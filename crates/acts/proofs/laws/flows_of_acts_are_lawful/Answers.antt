use Rattle.acts.proofs.LawfulFlows.{acts_are_lawful}
use Rattle.acts.proofs.laws.flows_of_acts_are_lawful.Goals as goal

pub returns : goal.returns
returns c =
    acts_are_lawful (record { exact = c.equal_keys_are_one.ensures.exact; same = c.equal_keys_are_one.ensures.same })
    c.lawful_flows_grow.ensures.next c.lawful_flows_grow.ensures.none
