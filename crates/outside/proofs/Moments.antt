-- How clauses on the moments of a call are joined over calls in a row.
use Rattle.std.proofs.Common.{◌≡◌, ◌⊎◌, ◌∙◌, inl, inr, ⊎_elim, ℕ, Bool, true, false, List, arith, refl, sym, subst}
use Rattle.outside.specs.Disk.{DiskState, LeavesOnly, OnlyLooks, Only, Settles, IsDisk, UsesDisk}

-- before the first call
pub leaves_at_start : (old : DiskState) → IsDisk old → LeavesOnly old old old.image
leaves_at_start old is = record { later = omega arith; each = is.only_now; before = λ t c le left. inl left }

-- one property for another that it leads to
pub leaves_more : (old new : DiskState) (P Q : List ℕ → Type 0) → LeavesOnly old new P → ((c : List ℕ) → P c → Q c) → LeavesOnly old new Q
leaves_more old new P Q so_far wider = record {
  later = so_far.later;
  each = λ c left. wider c (so_far.each c left);
  before = λ t c le left. ⊎_elim (λ past. inl past) (λ now. inr (wider c now)) (so_far.before t c le left);
}

-- two runs of calls, one after the other
pub leaves_in_a_row : (old mid new : DiskState) (P : List ℕ → Type 0) → LeavesOnly old mid P → LeavesOnly mid new P → LeavesOnly old new P
leaves_in_a_row old mid new P first second = record {
  later = omega (arith, first.later, second.later);
  each = λ c left. ⊎_elim (first.each c) (λ now. now) (second.before old.moment c first.later left);
  before = λ t c le left. ⊎_elim (first.before t c le) (λ now. inr now) (second.before t c (omega (arith, le, first.later)) left);
}

-- calls that write nothing
pub leaves_by_looking : (old new : DiskState) → IsDisk old → OnlyLooks old new → LeavesOnly old new old.image
leaves_by_looking old new is looks = record {
  later = looks.later;
  each = λ c left. is.only_now c (looks.adds_nothing old.moment c (omega arith) left);
  before = λ t c le left. inl (looks.adds_nothing t c le left);
}

-- a run of calls, and then calls that write nothing
pub leaves_then_looks : (old mid new : DiskState) (P : List ℕ → Type 0) → LeavesOnly old mid P → OnlyLooks mid new → LeavesOnly old new P
leaves_then_looks old mid new P run looks = record {
  later = omega (arith, run.later, looks.later);
  each = λ c left. run.each c (looks.adds_nothing old.moment c run.later left);
  before = λ t c le left. run.before t c le (looks.adds_nothing t c (omega (arith, le, run.later)) left);
}

-- a sync, and then calls that write nothing
pub settles_by_sync : (old mid new : DiskState) → IsDisk mid → OnlyLooks old mid → Only mid.reads mid.image → OnlyLooks mid new → mid.told → Settles old new
settles_by_sync old mid new is synced only looks told = record {
  from = mid.moment;
  after = synced.later;
  by_now = looks.later;
  only = λ c left. only c (is.only_now c (looks.adds_nothing mid.moment c (omega arith) left)) ∙ sym (looks.same told);
}

-- from the moment of that sync on, over a run that follows
pub since_settled : (old mid new : DiskState) (P : List ℕ → Type 0) (settles : Settles old mid) → LeavesOnly mid new P → P mid.reads → (c : List ℕ) → new.since settles.from c → P c
since_settled old mid new P settles run here c left =
    ⊎_elim (λ past. subst P (sym (settles.only c past)) here) (λ now. now) (run.before settles.from c settles.by_now left)

-- from before that sync on, over the same run
pub since_start : (old mid new : DiskState) (P : List ℕ → Type 0) → IsDisk old → OnlyLooks old mid → LeavesOnly mid new P → (c : List ℕ) → new.since old.moment c → old.image c ⊎ P c
since_start old mid new P is looks run c left =
    ⊎_elim (λ past. inl (is.only_now c (looks.adds_nothing old.moment c (omega arith) past))) (λ now. inr now) (run.before old.moment c looks.later left)

-- two values are equal if each is true when the other is
both : (a b : Bool) → (a ≡ true → b ≡ true) → (b ≡ true → a ≡ true) → a ≡ b
both true b to back = sym (to refl)
both false true to back = back refl
both false false to back = refl

-- calls that use a disk, one after the other
module _ {D : Type 0} {state : D → DiskState} {faults : D → ℕ} {spent : D → Type 0} where
  pub uses_in_a_row : {P Q : Type 0} (old mid new : D) → UsesDisk state faults spent old mid P → UsesDisk state faults spent mid new Q
      → UsesDisk state faults spent old new ⊥
  uses_in_a_row old mid new first second = record {
    still_told = λ told. second.still_told (first.still_told told);
    told_before = λ told. first.told_before (second.told_before told);
    later = omega (arith, first.later, second.later);
    stays = λ spent. second.stays (first.stays spent);
    rose = λ none. absurd none;
  }

  -- they don't change whether it is observable, also not as a value
  pub same_tells : {P : Type 0} (old new : D) → IsDisk (state old) → IsDisk (state new) → UsesDisk state faults spent old new P
      → (state new).tells ≡ (state old).tells
  same_tells old new was is uses = both ((state new).tells) ((state old).tells)
      (λ so. was.told_is.0 (uses.told_before (is.told_is.1 so))) (λ so. is.told_is.0 (uses.still_told (was.told_is.1 so)))
