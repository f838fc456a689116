-- From what the command finds in the words to the job that they name.
use Rattle.std.proofs.Common.{◌≡◌, ◌≢◌, ◌∙◌, ap, sym, refl, subst, ℕ, List, [], ◌∷◌, None}
use Rattle.clap.specs.Kinds.{Kinds}
use Rattle.clap.specs.Words.{Row, fault_of, matches_of}
use Rattle.audit_cli.specs.declared.words.WordsFault.{WordsFault}
use Rattle.audit_cli.specs.declared.words.WordsFault.TheVariants as fault
use Rattle.audit_cli.specs.CommandLine.{Parses, Refuses, command, own_name}
use Rattle.audit_cli.specs.Words.{RefusesWords, job_of, row_by, row_in}

-- what is parsed of words that the command takes is their job
pub parsed_row : (words named : List (List ℕ)) (rows : List Row) → named ≡ own_name ∷ words → Parses named rows → row_in rows ≡ job_of words
parsed_row words named rows is parses =
    let found : rows ≡ matches_of command (own_name ∷ words) = parses.found ∙ ap (matches_of command) is in
    let taken : fault_of command (own_name ∷ words) ≡ [] = sym (ap (fault_of command) is) ∙ parses.taken in
    ap row_in found ∙ sym (ap (λ faults. row_by faults (matches_of command (own_name ∷ words))) taken)

no_row : (faults : Kinds) (rows : List Row) → faults ≢ [] → row_by faults rows ≡ None
no_row [] rows some = absurd (some refl)
no_row (kind ∷ more) rows some = refl

-- words that the command refuses have no job
pub refused_words : (words named : List (List ℕ)) (why : WordsFault) → named ≡ own_name ∷ words → Refuses named why → RefusesWords (job_of words) why
refused_words words named fault.NoMemory is refused = tt
refused_words words named fault.BadWords is refused =
    no_row (fault_of command (own_name ∷ words)) (matches_of command (own_name ∷ words)) (subst (λ all. fault_of command all ≢ []) is refused)
