-- What `{:03}` writes.
use Rattle.std.proofs.Common.{◌≡◌, ℕ, ◌-◌, ◌^◌, [], ◌++◌, length, false, ap, ◌∙◌, arith, replicate}
use Rattle.std.specs.Fmt.{char_count, decimal, format_spec, padded_integral}
use Rattle.std.proofs.lemmas.List.{append-nil}
use Rattle.report_json.specs.Replies.{three_digits}

pub three_digits_are : (n : ℕ)
    → padded_integral (format_spec 32 0 4 3 (2 ^ 64 - 1)) false [] (decimal n) ≡ three_digits n
unfolding padded_integral char_count
three_digits_are n =
    let numeral = decimal n in
    let missing : 3 - length numeral - 0 - 0 ≡ 3 - length numeral = omega arith in
    ap (λ k. replicate k 48 ++ (numeral ++ [])) missing
    ∙ ap (λ r. replicate (3 - length numeral) 48 ++ r) (append-nil numeral)
