use Rattle.std.proofs.Common.{◌≡◌, ◌∷◌, ◌∙◌, ap, map, List, ℕ, Bor, string_bytes}
use Rattle.audit_cli.specs.CommandLine.{own_name}
use Rattle.audit_cli.proofs.WordLemmas.{refused_words}
use Rattle.audit_cli.proofs.words.read_words.Goals as goal

pub returns-clause-refused : goal.returns-clause-refused
returns-clause-refused c =
    let all : map (λ (word : Bor (List ℕ)). word.now) c.as_slice.result.now ≡ own_name ∷ map string_bytes c.args.words.now =
    ap (map (λ (word : Bor (List ℕ)). word.now)) c.as_slice.ensures.value ∙ c.in_ok-spoken.ensures in
    refused_words _ _ c.in-Err.why all c.in-Err.ensures.refused
