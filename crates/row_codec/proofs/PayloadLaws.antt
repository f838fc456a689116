-- The law of payloads.
use Rattle.std.proofs.Common.{◌≡◌, ℕ, zero, suc, ◌<◌, List, [], ◌∷◌, ◌++◌, Option, Some, None, refl, sym, ap, subst, ◌∙◌, arith}
use Rattle.std.specs.Prelude.{⊤}
use Rattle.reach_model.specs.declared.modes.Mode.{Mode}
use Rattle.reach_model.specs.declared.modes.Mode.TheVariants.{Plain, Continuous, Full, Source}
use Rattle.row_codec.specs.Payload.{mode_number, mode_of, mode_at, header, header_at}
use Rattle.row_codec.proofs.ExactLaws.{IsExact, exact-seen, exact-after}
use Rattle.row_codec.proofs.NumberLaws.{exact-byte}

mode_there : (m : Mode) → ⊤ → (mode_number m < 256) × (mode_of (mode_number m) ≡ Some m)
mode_there Plain t = (omega arith, refl)
mode_there Continuous t = (omega arith, refl)
mode_there Full t = (omega arith, refl)
mode_there Source t = (omega arith, refl)

mode_is : (m n : Mode) (b : ℕ) → mode_number m ≡ b → Some m ≡ Some n → (mode_number n ≡ b) × ⊤
mode_is m n b e f = let is : m ≡ n = cc in (ap mode_number (sym is) ∙ e, tt)

mode_back : (b : ℕ) (m : Mode) → b < 256 → mode_of b ≡ Some m → (mode_number m ≡ b) × ⊤
mode_back zero m lt e = absurd cc
mode_back (suc zero) m lt e = mode_is Plain m 1 refl e
mode_back (suc (suc zero)) m lt e = mode_is Continuous m 2 refl e
mode_back (suc (suc (suc zero))) m lt e = mode_is Full m 3 refl e
mode_back (suc (suc (suc (suc zero)))) m lt e = mode_is Source m 4 refl e
mode_back (suc (suc (suc (suc (suc b))))) m lt e = absurd cc

exact-mode : IsExact (λ m. mode_number m ∷ []) mode_at (λ m. ⊤)
exact-mode = exact-seen mode_of mode_number (λ m. ⊤) mode_there mode_back exact-byte

pub exact-header : IsExact header header_at (λ m. ⊤)
exact-header = exact-after 65 (exact-after 68 (exact-after 76 (exact-after 82 (exact-after 1 exact-mode))))
