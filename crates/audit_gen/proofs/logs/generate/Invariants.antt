use Rattle.std.proofs.Common.{◌≡◌, ℕ, List}
use Rattle.rand_pcg.specs.Lcg.{Lcg, advance}
use Rattle.rand_pcg.specs.Pcg.{multiplier_64}
use Rattle.audit_gen.specs.Logs.{generated, generator_of}
use Rattle.audit_gen.proofs.logs.generate.Given as goal

-- a word was drawn for each event so far, and their lines were put
pub record HasPut (words : Lcg) (log : List ℕ) (seed number : ℕ) : Type 0 where
  pub drawn : words ≡ advance 64 multiplier_64 number (generator_of seed)
  pub put : log ≡ generated seed number

abbrev pub invariant-loop-number : goal.invariant-loop-number
invariant-loop-number l = HasPut l.words l.log.items l.seed l.number
