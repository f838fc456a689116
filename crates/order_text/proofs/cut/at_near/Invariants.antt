use Rattle.std.proofs.Common.{◌≡◌, ◌<◌, ℕ, get_or, false}
use Rattle.memchr.specs.Find.{is_byte}
use Rattle.order_text.proofs.cut.at_near.Given as goal

-- none of the bytes so far is the one
abbrev pub invariant-loop-place : goal.invariant-loop-place
invariant-loop-place l = (k : ℕ) → k < l.place → is_byte l.byte (get_or l.text k 0) ≡ false
