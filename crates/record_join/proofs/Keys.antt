-- The order of keys is total, and equal keys are one.
use Rattle.std.proofs.Common.{◌≡◌, true, arith}
use Rattle.std.specs.Cmp.{IsTotalOrder, IsEquivalence, nat_cmp_total, on_total, then_total, eq_by_cmp_equiv}
use Rattle.std.proofs.lemmas.Bool.Decides.{nat_tests}
use Rattle.record_join.specs.Keys.{key_cmp, is_key}
use Rattle.audit_lex.specs.declared.header.EventKey.{EventKey}

pub key_cmp_total : IsTotalOrder key_cmp
key_cmp_total = then_total (on_total (λ (k : EventKey). k.ms) nat_cmp_total) (on_total (λ (k : EventKey). k.serial) nat_cmp_total)

pub key_laws : IsEquivalence is_key
key_laws = eq_by_cmp_equiv key_cmp_total

pub ms_same : (a b : EventKey) → is_key a b ≡ true → a.ms ≡ b.ms
ms_same a b e = grind (arith, nat_tests, e)

pub serial_same : (a b : EventKey) → is_key a b ≡ true → a.serial ≡ b.serial
serial_same a b e = grind (arith, nat_tests, e)

pub one_key : (a b : EventKey) → is_key a b ≡ true → a ≡ b
one_key a b e = λ i. record { ms = ms_same a b e i; serial = serial_same a b e i }
