use Rattle.reach_model.specs.Rows.{none, more}
use Rattle.reach_model.proofs.ByRows.{verdict_by_rows}
use Rattle.reach_model.proofs.Lawful.{last_ends}
use Rattle.reach_rows.proofs.NextFlow.{comes_after, goes_on, no_more_rows}
use Rattle.reach_rows.proofs.laws.verdicts_make_the_rows.Goals as goal

pub returns-clause-none : goal.returns-clause-none
returns-clause-none c = λ mode. none

pub returns-clause-kept : goal.returns-clause-kept
returns-clause-kept c = λ mode F R f d l k v. more f d k (verdict_by_rows mode F R f d l k v)

pub returns-clause-next : goal.returns-clause-next
returns-clause-next c = λ mode F R f d l k few v. record { after = comes_after F R f l k; differ = last_ends F f l; verdict = v; few = few }

pub returns-clause-after : goal.returns-clause-after
returns-clause-after c = λ mode F R f l k. comes_after F R f l k

pub returns-clause-goes_on : goal.returns-clause-goes_on
returns-clause-goes_on c = λ mode F R f l n few k. goes_on F R f l k n few

pub returns-clause-few : goal.returns-clause-few
returns-clause-few c = λ mode F R k. no_more_rows k
