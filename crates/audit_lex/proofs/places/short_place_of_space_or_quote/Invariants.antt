use Rattle.std.proofs.Common.{◌≡◌, ◌<◌, ℕ, get_or, false}
use Rattle.memchr.specs.Find.{is_byte2}
use Rattle.audit_lex.proofs.places.short_place_of_space_or_quote.Given as goal

-- none of the bytes so far is one of them
abbrev pub invariant-loop-place : goal.invariant-loop-place
invariant-loop-place l = (k : ℕ) → k < l.place → is_byte2 32 34 (get_or l.text k 0) ≡ false
