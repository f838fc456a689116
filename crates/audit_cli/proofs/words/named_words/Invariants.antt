use Rattle.std.proofs.Common.{◌≡◌, ◌∷◌, map, take, string_bytes}
use Rattle.audit_cli.specs.CommandLine.{own_name}
use Rattle.audit_cli.proofs.words.named_words.Given as goal

-- the name of the command and the words so far
abbrev pub invariant-loop-word : goal.invariant-loop-word
invariant-loop-word l = map (λ word. word.now) l.named.items ≡ own_name ∷ map string_bytes (take l.word-index l.words)
