-- The law of lives and of lines.
use Rattle.std.proofs.Common.{◌≡◌, ℕ, zero, suc, ◌<◌, ◌^◌, List, [], ◌∷◌, ◌++◌, length, Option, Some, None, Bool, true, false, refl, sym, ap, subst, ◌∙◌, arith}
use Rattle.std.specs.Prelude.{⊤}
use Rattle.row_codec.specs.Parsing.{text}
use Rattle.row_codec.specs.Tables.{awaits, awaits_parts, FitsAwaits, awaited, awaits_at, life, FitsLife, life_of, life_at, lines, FitsLines, lines_at}
use Rattle.row_codec.proofs.ExactLaws.{IsBytes, IsExact, exact-both, exact-seen, exact-as}
use Rattle.row_codec.proofs.NumberLaws.{exact-n4, exact-n8, exact-text}
use Rattle.row_codec.proofs.FieldLaws.{exact-flag}
use Rattle.row_codec.proofs.ListLaws.{exact-list}

awaits_there : (o : Option ℕ) → FitsAwaits o → (⊤ × ((awaits_parts o).1 < 2 ^ 32)) × (awaited (awaits_parts o).0 (awaits_parts o).1 ≡ Some o)
awaits_there None h = ((tt, omega arith), refl)
awaits_there (Some ppid) h = ((tt, h), refl)

awaits_back : (p : Bool × ℕ) (o : Option ℕ) → ⊤ × (p.1 < 2 ^ 32) → awaited p.0 p.1 ≡ Some o → (awaits_parts o ≡ p) × FitsAwaits o
awaits_back (true, ppid) o h e = let is : Some ppid ≡ o = cc in (ap awaits_parts (sym is), subst FitsAwaits is h.1)
awaits_back (false, zero) o h e = let is : None ≡ o = cc in (ap awaits_parts (sym is), subst FitsAwaits is tt)
awaits_back (false, suc n) o h e = absurd cc

exact-awaits : IsExact awaits awaits_at FitsAwaits
exact-awaits = exact-seen (λ p. awaited p.0 p.1) awaits_parts FitsAwaits awaits_there awaits_back (exact-both exact-flag exact-n4)

pub exact-life : IsExact life life_at FitsLife
exact-life = exact-as life_of (λ l. (l.life, (l.live, (l.awaits, l.linked)))) FitsLife
    (λ b. refl) (λ a. refl) (λ b g. (g.life, (tt, (g.awaits, tt)))) (λ a h. record { life = h.0; awaits = h.1.1.0 })
    (exact-both exact-n8 (exact-both exact-flag (exact-both exact-awaits exact-flag)))

pub exact-lines : IsExact lines lines_at FitsLines
exact-lines = exact-list exact-text
