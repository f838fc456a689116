use Rattle.std.proofs.Common.{map}
use Rattle.name_text.specs.Paths.{Gains}
use Rattle.name_text.proofs.paths.put_parts.Given as goal

-- the parts so far were put behind
abbrev pub invariant-loop-part : goal.invariant-loop-part
invariant-loop-part l = Gains l.absolute (map (λ p. p.now) l.initial.parts.items) (map (λ p. p.now) l.parts.items) (map (λ p. p.now) l.yielded)
