-- What descriptors hold after the rows of one more batch.
use Rattle.std.proofs.lemmas.Bool.Decides.{nat_tests}
use Rattle.std.proofs.Common.{◌≡◌, ◌∙◌, refl, sym, ap, ℕ, ◌<◌, Bool, true, false, List, [], ◌∷◌, ◌++◌, map, Option, Some, None, arith}
use Rattle.std.specs.Prelude.{◌==◌, fold, if◌then◌else◌}
use Rattle.std.specs.List.{AllByRecursion}
use Rattle.std.proofs.lemmas.Grind.{fold-append}
use Rattle.acts.specs.declared.held.Held.{Held as AHeld}
use Rattle.acts.specs.Holding.{is_at}
use Rattle.proc_table.specs.declared.life.Life.{Life as ALife}
use Rattle.row_codec.specs.declared.rows.StoreRow.{StoreRow}
use Rattle.row_codec.specs.declared.rows.StoreRow.TheVariants.{Entity, Kept, Extend, Name, Life, Held, Address, Born, Waiting, State}
use Rattle.store_check.specs.Store.{newer, life_in, life_of}
use Rattle.stored.specs.Words.{Holding, holding_with, nothing_held, goes_on, held_of}
use Rattle.stored.specs.Batch.{Batch, name_row, life_row, held_row, address_row, born_row, waiting_row, front, back, laid, said, Ascends}

-- whether what a pid holds stays by its Life row, if there is one
abbrev pub remains : Option ALife → Option ALife → Bool
remains before None = true
remains before (Some l) = goes_on before l

-- the value of a Held row, or else this
abbrev pub told : Option (Option AHeld) → Option AHeld → Option AHeld
told None left = left
told (Some v) left = v

module _ (p n : ℕ) where
  abbrev H : Holding → StoreRow → Holding
  H = holding_with p n

  -- ---- the first part is the last life

  life_if : (b : Bool) (h : Holding) (l : ALife) → (if b then record { life = Some l; held = if goes_on h.life l then h.held else None } else h).life ≡ newer h.life (if b then Some l else None)
  life_if true h l = refl
  life_if false h l = refl

  held_if : (b : Bool) (h : Holding) (v : Option AHeld) → (if b then record { life = h.life; held = v } else h).life ≡ h.life
  held_if true h v = refl
  held_if false h v = refl

  life_step : (h : Holding) (row : StoreRow) → (H h row).life ≡ newer h.life (life_in p row)
  life_step h (Life q l) = life_if (q == p) h l
  life_step h (Held q m v) = held_if (is_at q m p n) h v
  life_step h (Entity k) = refl
  life_step h (Kept r) = refl
  life_step h (Extend e) = refl
  life_step h (Name k t) = refl
  life_step h (Address a b) = refl
  life_step h (Born f b) = refl
  life_step h (Waiting m s c l) = refl
  life_step h (State s) = refl

  life_from : (h : Holding) (rows : List StoreRow) → (fold H h rows).life ≡ fold (λ (found : Option ALife) (row : StoreRow). newer found (life_in p row)) h.life rows
  life_from h [] = refl
  life_from h (row ∷ rows) = life_from (H h row) rows ∙ ap (λ (o : Option ALife). fold (λ (found : Option ALife) (r : StoreRow). newer found (life_in p r)) o rows) (life_step h row)

  pub held_life : (rows : List StoreRow) → (fold H nothing_held rows).life ≡ life_of p rows
  held_life rows = life_from nothing_held rows

  -- ---- parts that say nothing of it

  still : {B : Type 0} (make : B → StoreRow) → ((h : Holding) (b : B) → H h (make b) ≡ h) → (h : Holding) (bs : List B) → fold H h (map make bs) ≡ h
  still make same h [] = refl
  still make same h (b ∷ bs) = ap (λ (x : Holding). fold H x (map make bs)) (same h b) ∙ still make same h bs

  pass : {B : Type 0} (make : B → StoreRow) → ((h : Holding) (b : B) → H h (make b) ≡ h) → (h : Holding) (bs : List B) (rest : List StoreRow) → fold H h (map make bs ++ rest) ≡ fold H h rest
  pass make same h bs rest = fold-append H h (map make bs) rest ∙ ap (λ (x : Holding). fold H x rest) (still make same h bs)

  -- ---- Life rows

  abbrev after_lives : Holding → Option ALife → Holding
  after_lives h l = record { life = newer h.life l; held = if remains h.life l then h.held else None }

  abbrev IsOther : ℕ × ALife → Type 0
  IsOther e = (e.0 == p) ≡ false

  other_step : (b : Bool) (h : Holding) (l : ALife) → b ≡ false → (if b then record { life = Some l; held = if goes_on h.life l then h.held else None } else h) ≡ h
  other_step true h l is = absurd cc
  other_step false h l is = refl

  others_still : (h : Holding) (lives : List (ℕ × ALife)) → AllByRecursion IsOther lives → fold H h (map life_row lives) ≡ h
  others_still h [] all = refl
  others_still h (e ∷ lives) all = ap (λ (x : Holding). fold H x (map life_row lives)) (other_step (e.0 == p) h e.1 all.0) ∙ others_still h lives all.1

  abbrev said_step : Option ALife → ℕ × ALife → Option ALife
  said_step found e = newer found (if e.0 == p then Some e.1 else None)

  other_said : (b : Bool) (o : Option ALife) (l : ALife) → b ≡ false → newer o (if b then Some l else None) ≡ o
  other_said true o l is = absurd cc
  other_said false o l is = refl

  others_said : (o : Option ALife) (lives : List (ℕ × ALife)) → AllByRecursion IsOther lives → fold said_step o lives ≡ o
  others_said o [] all = refl
  others_said o (e ∷ lives) all = ap (λ (x : Option ALife). fold said_step x lives) (other_said (e.0 == p) o e.1 all.0) ∙ others_said o lives all.1

  above_other : (q : ℕ) (lives : List (ℕ × ALife)) → (q == p) ≡ true → AllByRecursion (λ x. q < x.0) lives → AllByRecursion IsOther lives
  above_other q [] is all = tt
  above_other q (e ∷ lives) is all = (grind (arith, nat_tests), above_other q lives is all.1)

  true-false : {A : Type 0} → true ≡ false → A
  true-false e = absurd cc

  one_said : (b : Bool) (o : Option ALife) (l : ALife) → b ≡ true → newer o (if b then Some l else None) ≡ Some l
  one_said true o l is = refl
  one_said false o l is = true-false (sym is)

  one_step : (b : Bool) (h : Holding) (l : ALife) → b ≡ true → (if b then record { life = Some l; held = if goes_on h.life l then h.held else None } else h) ≡ after_lives h (Some l)
  one_step true h l is = refl
  one_step false h l is = true-false (sym is)

  lives_case : (b : Bool) (h : Holding) (e : ℕ × ALife) (lives : List (ℕ × ALife)) → (e.0 == p) ≡ b → Ascends (λ x y. x.0 < y.0) (e ∷ lives)
      → (fold H h (map life_row lives) ≡ after_lives h (said (λ q. q == p) lives))
      → fold H h (map life_row (e ∷ lives)) ≡ after_lives h (said (λ q. q == p) (e ∷ lives))
  lives_case true h e lives is up rest =
      let others = above_other e.0 lives is up.0 in
      ap (λ (x : Holding). fold H x (map life_row lives)) (one_step (e.0 == p) h e.1 is)
      ∙ others_still (after_lives h (Some e.1)) lives others
      ∙ ap (after_lives h) (sym (others_said (newer None (if e.0 == p then Some e.1 else None)) lives others ∙ one_said (e.0 == p) None e.1 is))
  lives_case false h e lives is up rest =
      ap (λ (x : Holding). fold H x (map life_row lives)) (other_step (e.0 == p) h e.1 is) ∙ rest
      ∙ ap (λ (o : Option ALife). after_lives h (fold said_step o lives)) (sym (other_said (e.0 == p) None e.1 is))

  lives_fold : (h : Holding) (lives : List (ℕ × ALife)) → Ascends (λ x y. x.0 < y.0) lives → fold H h (map life_row lives) ≡ after_lives h (said (λ q. q == p) lives)
  lives_fold h [] up = refl
  lives_fold h (e ∷ lives) up = lives_case (e.0 == p) h e lives refl up (lives_fold h lives up.1)

  front_fold : (h : Holding) (b : Batch) → Ascends (λ x y. x.0 < y.0) b.lives → fold H h (front b) ≡ after_lives h (said (λ q. q == p) b.lives)
  front_fold h b up =
      pass Entity (λ x e. refl) h b.entities _ ∙ pass Kept (λ x e. refl) h b.kept _ ∙ pass Extend (λ x e. refl) h b.extends _ ∙ pass name_row (λ x e. refl) h b.names _
      ∙ lives_fold h b.lives up

  -- ---- Held rows

  abbrev SaidHeld : Option (Option AHeld) → ((ℕ × ℕ) × Option AHeld) → Option (Option AHeld)
  SaidHeld found e = newer found (if is_at e.0.0 e.0.1 p n then Some e.1 else None)

  abbrev with_held : Option ALife → Option (Option AHeld) → Option AHeld → Holding
  with_held life o left = record { life = life; held = told o left }

  held_step : (b : Bool) (life : Option ALife) (o : Option (Option AHeld)) (left v : Option AHeld) → (if b then record { life = life; held = v } else with_held life o left) ≡ with_held life (newer o (if b then Some v else None)) left
  held_step true life o left v = refl
  held_step false life o left v = refl

  held_fold : (life : Option ALife) (o : Option (Option AHeld)) (left : Option AHeld) (hs : List ((ℕ × ℕ) × Option AHeld)) → fold H (with_held life o left) (map held_row hs) ≡ with_held life (fold SaidHeld o hs) left
  held_fold life o left [] = refl
  held_fold life o left (e ∷ hs) = ap (λ (x : Holding). fold H x (map held_row hs)) (held_step (is_at e.0.0 e.0.1 p n) life o left e.1) ∙ held_fold life (newer o (if is_at e.0.0 e.0.1 p n then Some e.1 else None)) left hs

  back_fold : (h : Holding) (b : Batch) → fold H h (back b) ≡ with_held h.life (said (λ q. is_at q.0 q.1 p n) b.held) h.held
  back_fold h b =
      fold-append H h (map held_row b.held) _
      ∙ ap (λ (x : Holding). fold H x (map address_row b.addresses ++ (map born_row b.births ++ (map waiting_row b.waiting ++ State b.state ∷ [])))) (held_fold h.life None h.held b.held)
      ∙ pass address_row (λ x e. refl) _ b.addresses _ ∙ pass born_row (λ x e. refl) _ b.births _ ∙ pass waiting_row (λ x e. refl) _ b.waiting _

  -- ---- all of a batch

  pub held_laid : (rows : List StoreRow) (b : Batch) → Ascends (λ x y. x.0 < y.0) b.lives
      → held_of p n (rows ++ laid b) ≡ told (said (λ q. is_at q.0 q.1 p n) b.held) (if remains (life_of p rows) (said (λ q. q == p) b.lives) then held_of p n rows else None)
  held_laid rows b up =
      let h = fold H nothing_held rows in
      let all : fold H nothing_held (rows ++ laid b) ≡ with_held (newer h.life (said (λ q. q == p) b.lives)) (said (λ q. is_at q.0 q.1 p n) b.held) (if remains h.life (said (λ q. q == p) b.lives) then h.held else None) =
      fold-append H nothing_held rows (laid b) ∙ fold-append H h (front b) (back b)
      ∙ ap (λ (x : Holding). fold H x (back b)) (front_fold h b up) ∙ back_fold (after_lives h (said (λ q. q == p) b.lives)) b in
      ap (λ (x : Holding). x.held) all
      ∙ ap (λ (l : Option ALife). told (said (λ q. is_at q.0 q.1 p n) b.held) (if remains l (said (λ q. q == p) b.lives) then held_of p n rows else None)) (held_life rows)
