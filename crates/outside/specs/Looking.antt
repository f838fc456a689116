-- Calls in a row that only look at a disk.
use Rattle.std.proofs.Common.{◌∙◌, ℕ, arith, refl}
use Rattle.outside.specs.Disk.{DiskState, OnlyLooks, UsesDisk}

pub looks_in_a_row : (old mid new : DiskState) → OnlyLooks old mid → OnlyLooks mid new → OnlyLooks old new
looks_in_a_row old mid new first second = record {
  later = omega (arith, first.later, second.later);
  keeps = λ t c le left. second.keeps t c (omega (arith, le, first.later)) (first.keeps t c le left);
  adds_nothing = λ t c le left. first.adds_nothing t c le (second.adds_nothing t c (omega (arith, le, first.later)) left);
  image = λ c now. first.image c (second.image c now);
  same = λ told. second.same (first.tells told) ∙ first.same told;
  tells = λ told. second.tells (first.tells told);
}

pub no_look : (old : DiskState) → OnlyLooks old old
no_look old = record {
  later = omega arith;
  keeps = λ t c le left. left;
  adds_nothing = λ t c le left. left;
  image = λ c now. now;
  same = λ told. refl;
  tells = λ told. told;
}

-- Calls on a disk that wrote nothing. The count of its faults doesn't fall, whatever they were.
pub record LooksAt {D : Type 0} (state : D → DiskState) (faults : D → ℕ) (spent : D → Type 0) (old new : D) : Type 0 where
  pub looks : OnlyLooks (state old) (state new)
  pub uses : UsesDisk state faults spent old new ⊥

module _ {D : Type 0} {state : D → DiskState} {faults : D → ℕ} {spent : D → Type 0} where
  pub looks_at_none : (disk : D) → LooksAt state faults spent disk disk
  looks_at_none disk = record {
    looks = no_look (state disk);
    uses = record {
      still_told = λ told. told;
      told_before = λ told. told;
      later = omega arith;
      stays = λ spent. spent;
      rose = λ none. absurd none;
    };
  }

  pub looks_at_twice : (old mid new : D) → LooksAt state faults spent old mid → LooksAt state faults spent mid new → LooksAt state faults spent old new
  looks_at_twice old mid new first second = record {
    looks = looks_in_a_row (state old) (state mid) (state new) first.looks second.looks;
    uses = record {
      still_told = λ told. second.uses.still_told (first.uses.still_told told);
      told_before = λ told. first.uses.told_before (second.uses.told_before told);
      later = omega (arith, first.uses.later, second.uses.later);
      stays = λ spent. second.uses.stays (first.uses.stays spent);
      rose = λ none. absurd none;
    };
  }
