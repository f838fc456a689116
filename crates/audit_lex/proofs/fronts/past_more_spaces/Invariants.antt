use Rattle.std.specs.Prelude.{◌≡◌, drop}
use Rattle.audit_lex.specs.Tokens.{tokens_of}
use Rattle.audit_lex.proofs.fronts.past_more_spaces.Given as goal

-- the tokens from here are those of the text
abbrev pub invariant-loop-place : goal.invariant-loop-place
invariant-loop-place l = tokens_of (drop l.place l.text) ≡ tokens_of l.text
