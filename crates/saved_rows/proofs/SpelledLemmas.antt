-- Spellings of rows: how long they are, and that what is read where one stands is this row.
use Rattle.std.proofs.Common.{◌≡◌, ◌≤◌, ◌++◌, ◌∷◌, [], ◌+◌, ◌∙◌, ℕ, suc, List, length, take, drop, refl, sym, ap, arith, length-append, take-append-drop}
use Rattle.std.specs.List.{All, flat_map}
use Rattle.std.proofs.lemmas.List.{append-nil, drop_at, drop-drop, drop-take, take_at, take-take}
use Rattle.std.proofs.Math.Seq.{take-length}
use Rattle.block_cache.specs.Cached.{HasRange, range}
use Rattle.block_cache.proofs.RangeLemmas.{has_range}
use Rattle.reach_rows.specs.declared.rows.Mark.{Mark}
use Rattle.row_codec.specs.declared.rows.ExtendRow.{ExtendRow}
use Rattle.row_codec.specs.declared.rows.KeptRow.{KeptRow}
use Rattle.row_codec.specs.declared.rows.StoreRow.{StoreRow}
use Rattle.row_codec.specs.declared.rows.StoreRow.TheVariants.{Kept, Extend}
use Rattle.row_codec.specs.Parsing.{number}
use Rattle.row_codec.specs.Fields.{n4, n8, how, mark, link}
use Rattle.row_codec.specs.Rows.{row as spelling, Fits, IsSpelling, Begins}
use Rattle.saved_rows.specs.Saved.{AreSpelledFrom, IsSpelledAt}

four : (n : ℕ) → length (n4 n) ≡ 4
unfolding number
four n = refl

eight : (n : ℕ) → length (n8 n) ≡ 8
unfolding number
eight n = refl

mark_long : (m : Mark) → length (mark m) ≡ 21
mark_long m =
    omega (
      arith,
      length-append (n8 m.at.ms) (n8 m.at.place ++ (how m.how ++ n4 m.serial)),
      length-append (n8 m.at.place) (how m.how ++ n4 m.serial),
      length-append (how m.how) (n4 m.serial),
      eight m.at.ms,
      eight m.at.place,
      four m.serial,
    )

pub kept_long : (r : KeptRow) → length (spelling (Kept r)) ≡ 46
kept_long r =
    let links = link r.before_to ++ link r.before_from in
    omega (
      arith,
      length-append (n4 r.from.0) (n4 r.to.0 ++ (mark r.mark ++ links)),
      length-append (n4 r.to.0) (mark r.mark ++ links),
      length-append (mark r.mark) links,
      length-append (link r.before_to) (link r.before_from),
      four r.from.0,
      four r.to.0,
      mark_long r.mark,
      link_long r.before_to,
      link_long r.before_from,
    )
  where
    link_long : (o : _) → length (link o) ≡ 8
    link_long o = eight _

pub extend_long : (e : ExtendRow) → length (spelling (Extend e)) ≡ 30
extend_long e = omega (arith, length-append (n8 e.row) (mark e.mark), eight e.row, mark_long e.mark)

-- that no spelling begins another one
abbrev pub AreApart : Type 0
AreApart = (r s : StoreRow) (x y : List ℕ) → Fits r → Fits s → spelling r ++ x ≡ spelling s ++ y → (r ≡ s) × (x ≡ y)

module _ (bytes : List ℕ) (firm at n : ℕ) (s : StoreRow) (is : IsSpelledAt bytes firm at s) (long : length (spelling s) ≡ n) where
  -- all bytes of the row are there
  pub is_there : HasRange at n bytes
  is_there = has_range at n bytes (ap (λ k. length (range at k bytes)) (sym long) ∙ ap length is.is ∙ long)

  module _ (read : List ℕ) (all : read ≡ range at (length read) bytes) (whole : length read ≡ n) where
    pub is_spelling : read ≡ spelling s
    is_spelling = all ∙ ap (λ k. range at k bytes) (whole ∙ sym long) ∙ is.is

    -- what is found there is the row
    pub same_row : AreApart → (r : StoreRow) (k : ℕ) → Begins r k read → r ≡ s
    same_row apart r k begins =
        (apart r s (drop k read) [] begins.spelling.fits is.fits
        (ap (λ xs. xs ++ drop k read) (sym begins.spelling.is) ∙ take-append-drop k read ∙ is_spelling ∙ sym (append-nil (spelling s)))).0

    -- and it is found
    pub is_found : ((k : ℕ) → ¬ IsSpelling s (take k read)) → ⊥
    is_found none = absurd (none (length read) (record { fits = is.fits; is = take-length read ∙ is_spelling }))

-- a row of these kinds is known by its fields
pub same_kept : (r s : KeptRow) → Kept r ≡ Kept s → r ≡ s
same_kept r s e = cc

pub same_extend : (r s : ExtendRow) → Extend r ≡ Extend s → r ≡ s
same_extend r s e = cc

-- rows whose spellings stand in the bytes as one piece stand there one after the other
pub spelled_from : (bytes : List ℕ) (firm at : ℕ) (rows : List StoreRow) → All Fits rows → range at (length (flat_map spelling rows)) bytes ≡ flat_map spelling rows
    → at + length (flat_map spelling rows) ≤ firm → AreSpelledFrom bytes firm at rows
spelled_from bytes firm at [] fit is within = tt
spelled_from bytes firm at (r ∷ rows) fit is within =
    let s = spelling r in
    let t = flat_map spelling rows in
    let long = length-append s t in
    let whole : take (length s + length t) (drop at bytes) ≡ s ++ t = ap (λ n. take n (drop at bytes)) (sym long) ∙ is in
    let first : range at (length s) bytes ≡ s = sym (take-take (length s) (length s + length t) (drop at bytes) (omega arith)) ∙ ap (take (length s)) whole ∙ take_at s t (length s) refl in
    let rest : range (at + length s) (length t) bytes ≡ t =
    ap (take (length t)) (sym (drop-drop (length s) at bytes)) ∙ sym (drop-take (length s) (length t) (drop at bytes)) ∙ ap (drop (length s)) whole ∙ drop_at s t (length s) refl in (
      record { fits = fit 0 r (omega arith); is = first; firmly = omega (arith, within, long) },
      spelled_from bytes firm (at + length s) rows (λ i d h. fit (suc i) d (omega (arith, h))) rest (omega (arith, within, long)),
    )
