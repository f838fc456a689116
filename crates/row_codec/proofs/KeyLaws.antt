-- The law of keys and of objects.
use Rattle.std.proofs.Common.{◌≡◌, ℕ, zero, suc, ◌<◌, ◌^◌, List, [], ◌∷◌, ◌++◌, length, Option, Some, None, Bool, refl, sym, ap, subst, ◌∙◌}
use Rattle.std.specs.Prelude.{⊤}
use Rattle.flow_base.specs.declared.types.Key.{Key}
use Rattle.flow_base.specs.declared.types.Key.TheVariants.{Process, Inode, Path, Address, Made, Lost}
use Rattle.acts.specs.declared.held.Object.{Object}
use Rattle.acts.specs.declared.held.Object.TheVariants.{File, Pipe, Sock}
use Rattle.row_codec.specs.Parsing.{Parsed}
use Rattle.row_codec.specs.Keys.{file, FitsFile, file_of, file_at, key, FitsKey, key_fields_at, key_at, IsFileKey, held_file_of, object, FitsObject, object_fields_at, object_at, held, FitsHeld, held_of, held_at}
use Rattle.row_codec.proofs.ExactLaws.{IsBytes, IsExact, exact-both, exact-as, all_again, all_only, variant_only, tagged_at, exact-tagged}
use Rattle.row_codec.proofs.NumberLaws.{exact-n4, exact-n8, exact-text}
use Rattle.row_codec.proofs.FieldLaws.{exact-flag}

pub exact-file : IsExact file file_at FitsFile
exact-file = exact-as file_of (λ f. (f.device.major, (f.device.minor, f.ino))) FitsFile
    (λ b. refl) (λ a. refl) (λ b g. (g.major, (g.minor, g.ino))) (λ a h. record { major = h.0; minor = h.1.0; ino = h.1.1 })
    (exact-both exact-n4 (exact-both exact-n4 exact-n8))

key_again : (k : Key) (rest : List ℕ) → FitsKey k → tagged_at key_fields_at (key k ++ rest) ≡ Some (k, rest)
key_again (Process pid life) rest fits = all_again (λ p. Process p.0 p.1) (exact-both exact-n4 exact-n8) (pid, life) rest fits
key_again (Inode f born) rest fits = all_again (λ p. Inode p.0 p.1) (exact-both exact-file exact-n8) (f, born) rest fits
key_again (Path path) rest fits = all_again (λ p. Path p) exact-text path rest fits
key_again (Address bytes) rest fits = all_again (λ p. Address p) exact-text bytes rest fits
key_again (Made act) rest fits = all_again (λ act. Made act) exact-n8 act rest fits
key_again (Lost pid life fd) rest fits = all_again (λ p. Lost p.0 p.1.0 p.1.1) (exact-both exact-n4 (exact-both exact-n8 exact-n4)) (pid, (life, fd)) rest fits

key_only : (kind : ℕ) (bytes : List ℕ) (k : Key) (rest : List ℕ) → IsBytes bytes → key_fields_at kind bytes ≡ Some (k, rest) → FitsKey k × (kind ∷ bytes ≡ key k ++ rest)
key_only zero bytes k rest are e = absurd cc
key_only (suc zero) bytes k rest are e = all_only (λ p. Process p.0 p.1) key FitsKey 1 (exact-both exact-n4 exact-n8) (λ a h. h) (λ a. refl) bytes k rest are e
key_only (suc (suc zero)) bytes k rest are e = all_only (λ p. Inode p.0 p.1) key FitsKey 2 (exact-both exact-file exact-n8) (λ a h. h) (λ a. refl) bytes k rest are e
key_only (suc (suc (suc zero))) bytes k rest are e = all_only (λ p. Path p) key FitsKey 3 exact-text (λ a h. h) (λ a. refl) bytes k rest are e
key_only (suc (suc (suc (suc zero)))) bytes k rest are e = all_only (λ p. Address p) key FitsKey 4 exact-text (λ a h. h) (λ a. refl) bytes k rest are e
key_only (suc (suc (suc (suc (suc zero))))) bytes k rest are e = all_only (λ act. Made act) key FitsKey 5 exact-n8 (λ a h. h) (λ a. refl) bytes k rest are e
key_only (suc (suc (suc (suc (suc (suc zero)))))) bytes k rest are e = all_only (λ p. Lost p.0 p.1.0 p.1.1) key FitsKey 6 (exact-both exact-n4 (exact-both exact-n8 exact-n4)) (λ a h. h) (λ a. refl) bytes k rest are e
key_only (suc (suc (suc (suc (suc (suc (suc n))))))) bytes k rest are e = absurd cc

pub exact-key : IsExact key key_at FitsKey
unfolding key_at
exact-key = exact-tagged key key_fields_at FitsKey key_again key_only

-- ---- objects

held_file_there : (k : Key) → IsFileKey k → held_file_of k ≡ Some (File k)
held_file_there (Process pid life) h = absurd h
held_file_there (Inode f born) h = refl
held_file_there (Path path) h = refl
held_file_there (Address bytes) h = absurd h
held_file_there (Made act) h = absurd h
held_file_there (Lost pid life fd) h = refl

held_file_is : (k : Key) (o : Object) → FitsKey k → IsFileKey k → Some (File k) ≡ Some o → FitsObject o × (object o ≡ 1 ∷ key k)
held_file_is k o fits file e = let is : File k ≡ o = cc in (subst FitsObject is (fits, file), ap object (sym is))

held_file_back : (k : Key) (o : Object) → FitsKey k → held_file_of k ≡ Some o → FitsObject o × (object o ≡ 1 ∷ key k)
held_file_back (Process pid life) o fits e = absurd cc
held_file_back (Inode f born) o fits e = held_file_is (Inode f born) o fits tt e
held_file_back (Path path) o fits e = held_file_is (Path path) o fits tt e
held_file_back (Address bytes) o fits e = absurd cc
held_file_back (Made act) o fits e = absurd cc
held_file_back (Lost pid life fd) o fits e = held_file_is (Lost pid life fd) o fits tt e

object_again : (o : Object) (rest : List ℕ) → FitsObject o → tagged_at object_fields_at (object o ++ rest) ≡ Some (o, rest)
object_again (File k) rest fits = rw (exact-key.again k rest fits.0, held_file_there k fits.1) refl
object_again (Pipe act) rest fits = all_again (λ act. Pipe act) exact-n8 act rest fits
object_again (Sock act) rest fits = all_again (λ act. Sock act) exact-n8 act rest fits

object_only : (kind : ℕ) (bytes : List ℕ) (o : Object) (rest : List ℕ) → IsBytes bytes → object_fields_at kind bytes ≡ Some (o, rest) → FitsObject o × (kind ∷ bytes ≡ object o ++ rest)
object_only zero bytes o rest are e = absurd cc
object_only (suc zero) bytes o rest are e = variant_only held_file_of object FitsObject 1 exact-key held_file_back bytes o rest are e
object_only (suc (suc zero)) bytes o rest are e = all_only (λ act. Pipe act) object FitsObject 2 exact-n8 (λ a h. h) (λ a. refl) bytes o rest are e
object_only (suc (suc (suc zero))) bytes o rest are e = all_only (λ act. Sock act) object FitsObject 3 exact-n8 (λ a h. h) (λ a. refl) bytes o rest are e
object_only (suc (suc (suc (suc n)))) bytes o rest are e = absurd cc

exact-object : IsExact object object_at FitsObject
exact-object = exact-tagged object object_fields_at FitsObject object_again object_only

pub exact-held : IsExact held held_at FitsHeld
exact-held = exact-as held_of (λ h. (h.cloexec, h.object)) FitsHeld
    (λ b. refl) (λ a. refl) (λ b g. (tt, g)) (λ a h. h.1)
    (exact-both exact-flag exact-object)
