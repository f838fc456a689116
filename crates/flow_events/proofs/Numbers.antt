-- Lives and births are numbered below the number of acts.
use Rattle.std.proofs.Common.{◌≡◌, ◌≤◌, ◌<◌, ◌+◌, ◌++◌, ◌∙◌, refl, ap, ℕ, Bool, true, false, List, [], ◌∷◌, length, Option, Some, None, if◌then◌else◌, arith}
use Rattle.std.specs.Prelude.{IfSome}
use Rattle.std.proofs.lemmas.Grind.{common_steps}
use Rattle.flow_base.specs.declared.types.FileId.{FileId}
use Rattle.acts.specs.declared.act.Act.{Act}
use Rattle.acts.specs.Lives.{beginnings}
use Rattle.acts.specs.Births.{born, file_key, is_birth_of, same_file}
use Rattle.acts.specs.declared.act.Act.TheVariants.{Birth}
use Rattle.acts.specs.declared.act.FileRef.{FileRef}
use Rattle.flow_base.specs.declared.types.Key.TheVariants.{Inode}
use Rattle.std.proofs.lemmas.Bool.Decides.{nat_tests}
use Rattle.proc_table.specs.declared.life.Life.{Life}
use Rattle.proc_table.specs.Table.{Table, StandsFor, standing_of, at}
use Rattle.flow_events.specs.Births.{Table as Counts, BornAs, BornBelow}
use Rattle.flow_events.specs.Lives.{LivesBelow}

one_below : (life : Option Life) (n most : ℕ) → (standing_of life).beginnings ≡ n → n ≤ most → IfSome life (λ last. last.life < most)
one_below None n most is few = tt
one_below (Some last) n most is few = let e : last.life + 1 ≡ n = is in omega (arith, e, few)

-- after fewer acts than these no life has so great a number
pub lives_below : (table : Table) (acts : List Act) (most : ℕ) → ((acts : List Act) (p : ℕ) → beginnings acts p ≤ length acts) → StandsFor table acts → length acts ≤ most → LivesBelow table most
lives_below table acts most few stands below = λ p.
    one_below (at table p) (beginnings acts p) most (ap (λ s. s.beginnings) (stands.each p)) (let h = few acts p in omega (arith, h, below))

one_more : (b : Bool) (n m : ℕ) → n ≤ m → (if b then n + 1 else n) ≤ m + 1
one_more true n m few = omega (arith, few)
one_more false n m few = omega (arith, few)

-- no file is born more often than there are acts
births_are_acts : (acts : List Act) (id : FileId) → born acts id ≤ length acts
births_are_acts [] id = omega arith
births_are_acts (act ∷ before) id = let h = one_more (is_birth_of act id) (born before id) (length before) (births_are_acts before id) in grind (arith, common_steps, h)

-- after fewer acts than these no file has so many births
pub born_below : (table : Counts) (acts : List Act) (most : ℕ) → BornAs table acts → length acts < most → BornBelow table most
born_below table acts most stands below = λ id. let e = stands.each id in let h = births_are_acts acts id in grind (arith, e, h, below)

joined_by : (b : Bool) (n m k : ℕ) → n ≡ m + k → (if b then n + 1 else n) ≡ m + (if b then k + 1 else k)
joined_by true n m k so_far = let e : n + 1 ≡ m + (k + 1) = omega (arith, so_far) in e
joined_by false n m k so_far = so_far

-- a file is born as often as before the event and in it
pub born_both : (now before : List Act) (id : FileId) → born (now ++ before) id ≡ born before id + born now id
born_both [] before id = let e : born before id ≡ born before id + 0 = omega arith in e
born_both (act ∷ now) before id = joined_by (is_birth_of act id) (born (now ++ before) id) (born before id) (born now id) (born_both now before id)

same_itself : (id : FileId) → same_file id id ≡ true
same_itself id = grind (arith, nat_tests)

counted : (b : Bool) (n : ℕ) → b ≡ true → (if b then n + 1 else n) ≡ n + 1
counted b n is = rw is refl

key_counts : (acts : List Act) (path : Option (List ℕ)) (id : FileId)
    → file_key (Birth (record { file = Some id; path = path }) ∷ acts) (record { file = Some id; path = path }) ≡ Inode id (born acts id + 1)
key_counts acts path id = ap (Inode id) (counted (same_file id id) (born acts id) (same_itself id))

-- the key of a file that is born counts its birth
pub birth_counts : (acts : List Act) (file : FileRef) (id : FileId) → file.file ≡ Some id → file_key (Birth file ∷ acts) file ≡ Inode id (born acts id + 1)
birth_counts acts file id is =
    ap (λ number. file_key (Birth (record { file = number; path = file.path }) ∷ acts) (record { file = number; path = file.path })) is ∙ key_counts acts file.path id
