-- What `{:02x}` writes.
use Rattle.std.proofs.Common.{◌≡◌, ℕ, ◌-◌, ◌^◌, [], ◌++◌, length, false, ap, ◌∙◌, arith, replicate}
use Rattle.std.specs.Fmt.{char_count, digits, format_spec, padded_integral}
use Rattle.std.proofs.lemmas.List.{append-nil}
use Rattle.name_text.specs.KeyTexts.{half_of}

pub half_is : (n : ℕ) → padded_integral (format_spec 32 0 4 2 (2 ^ 64 - 1)) false [] (digits 16 false n) ≡ half_of n
unfolding padded_integral char_count
half_is n =
    let numeral = digits 16 false n in
    let missing : 2 - length numeral - 0 - 0 ≡ 2 - length numeral = omega arith in
    ap (λ k. replicate k 48 ++ (numeral ++ [])) missing ∙ ap (λ r. replicate (2 - length numeral) 48 ++ r) (append-nil numeral)
