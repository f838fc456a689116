-- The rows of a batch lead from the rows of the last commit to those of now.
use Rattle.std.proofs.Common.{◌≡◌, ◌≢◌, ◌==◌, ◌∙◌, ℕ, zero, suc, ◌+◌, ◌<◌, ◌≤◌, Bool, true, false, List, [], ◌∷◌, ◌++◌, if◌then◌else◌, length, get_or, take, drop, map, Option, Some, None, inl, inr, refl, sym, ap, subst, arith}
use Rattle.std.specs.List.{All}
use Rattle.std.proofs.lemmas.Bool.{cases_eq, eq-eqb, ne_eqb}
use Rattle.std.proofs.lemmas.List.{append-nil, append_assoc, drop_at, length-append, length-map, map-append, get_or-map, get_or_append_left}
use Rattle.std.proofs.lemmas.List.Elements.{Contains-get_or}
use Rattle.flow_base.specs.declared.types.Flow.{Flow}
use Rattle.reach_model.specs.Flows.{source, target}
use Rattle.reach_model.specs.Rows.{Row, firsts}
use Rattle.reach_rows.specs.Kept.{ComesAfter, row_of_kept, IsLastOf, IsLastAt, Enters, Leaves}
use Rattle.reach_rows.specs.InMemory.{HasLinks}
use Rattle.reach_rows.specs.declared.rows.Mark.{Mark}
use Rattle.reach_rows.specs.declared.rows.Row.{Row as KeptRow}
use Rattle.row_codec.specs.declared.rows.ExtendRow.{ExtendRow}
use Rattle.row_codec.specs.declared.rows.StoreRow.{StoreRow}
use Rattle.row_codec.specs.declared.rows.StoreRow.TheVariants.{Extend, Kept}
use Rattle.saved_rows.specs.Joining.{batch_rows, extend_of, extends_in, mark_in, renew, renew_from}
use Rattle.saved_rows.proofs.JoinLemmas.{renew_append, renew_at, renew_long}
use Rattle.reach_rows.specs.declared.objects.Object.{Object}
use Rattle.reduced_store.specs.Held.{AreHeld, Held}
use Rattle.saved_rows.specs.Saved.{IsSingle, as_kept}
use Rattle.store_check.specs.Store.{last_index, one_later}
use Rattle.stored.specs.Batch.{extends_from, fresh, kept_row, kept_from, mark_of}
use Rattle.reduced_store.specs.OnDisk.{IsLater, rows_since}
use Rattle.reduced_store.specs.Placing.{Follow, extends_now}
use Rattle.reduced_store.proofs.HeldLemmas.{held_along, plain_renewed, same_firsts}

-- the last flow that passes a test is where it is
module _ (p : Flow → Bool) (P : Flow → Type 0) (yes : (g : Flow) → P g → p g ≡ true) (no : (g : Flow) → ¬ P g → p g ≡ false) where
  none_there : (K : List Flow) → ((j : ℕ) (d : Flow) → j < length K → ¬ P (get_or K j d)) → last_index p K ≡ None
  none_there [] none = refl
  none_there (f ∷ K) none =
      ap (λ (i : Option ℕ). one_later i (p f)) (none_there K (λ j d h. none (suc j) d (omega (arith, h)))) ∙ ap (one_later None) (no f (none 0 f (omega arith)))

  at_there : (K : List Flow) (i : ℕ) → IsLastAt K P i → last_index p K ≡ Some i
  at_there [] i is = absurd (omega (arith, is.within))
  at_there (f ∷ K) zero is =
      ap (λ (i : Option ℕ). one_later i (p f)) (none_there K (λ j d h. is.no_later (suc j) d (omega arith) (omega (arith, h)))) ∙ ap (one_later None) (yes f (is.meets f))
  at_there (f ∷ K) (suc i) is =
      let rest : IsLastAt K P i = record { within = omega (arith, is.within); meets = λ d. is.meets d; no_later = λ j d low h. is.no_later (suc j) d (omega (arith, low)) (omega (arith, h)) } in
      ap (λ (o : Option ℕ). one_later o (p f)) (at_there K i rest) ∙ ap (λ (n : ℕ). Some n) (let e : i + 1 ≡ suc i = omega arith in e)

  last_there : (K : List Flow) (o : Option ℕ) → IsLastOf K P o → last_index p K ≡ o
  last_there K None is = none_there K (λ j d h. is (get_or K j d) (Contains-get_or K j d h))
  last_there K (Some i) is = at_there K i is

-- a row with its links, as its Kept row
one_kept : (K : List Flow) (r : KeptRow) → HasLinks K r → as_kept r ≡ Kept (kept_row K (row_of_kept r).first)
one_kept K r links =
    let x = r.to.0 in
    let y = r.from.0 in
    let into = last_there (λ g. target g == x) (Enters x) (λ g e. eq-eqb (target g) x e) (λ g n. ne_eqb (target g) x n) K r.before_to links.before_to in
    let out = last_there (λ g. source g == y) (Leaves y) (λ g e. eq-eqb (source g) y e) (λ g n. ne_eqb (source g) y n) K r.before_from links.before_from in
    ap (λ (o : Option ℕ). Kept (record { from = r.from; to = r.to; mark = r.first; before_to = o; before_from = r.before_from })) (sym into)
    ∙ ap (λ (o : Option ℕ). Kept (record { from = r.from; to = r.to; mark = r.first; before_to = last_index (λ g. target g == x) K; before_from = o })) (sym out)

-- rows after some flows, as Kept rows; what they are now has the same first flows
all_kept : (K : List Flow) (rows : List KeptRow) (now : List Row) → firsts now ≡ firsts (map row_of_kept rows)
    → ((i : ℕ) (d : KeptRow) → i < length rows → HasLinks (K ++ take i (firsts (map row_of_kept rows))) (get_or rows i d))
    → map as_kept rows ≡ map Kept (kept_from K now)
all_kept K [] [] same links = refl
all_kept K [] (q ∷ now) same links = absurd cc
all_kept K (r ∷ rows) [] same links = absurd cc
all_kept K (r ∷ rows) (q ∷ now) same links =
    let f = (row_of_kept r).first in
    let first : q.first ≡ f = cc in
    let tail : firsts now ≡ firsts (map row_of_kept rows) = cc in
    let here = subst (λ (F : List Flow). HasLinks F r) (append-nil K) (links 0 r (omega arith)) in
    let rest = all_kept (K ++ f ∷ []) rows now tail (λ i d h. subst (λ (F : List Flow). HasLinks F (get_or rows i d)) (sym (append_assoc K (f ∷ []) (take i (firsts (map row_of_kept rows))))) (links (suc i) d (omega (arith, h)))) in
    ap (λ (x : StoreRow). x ∷ map as_kept rows) (one_kept K r here) ∙ ap (λ (xs : List StoreRow). Kept (kept_row K f) ∷ xs) rest
    ∙ ap (λ (g : Flow). Kept (kept_row K g) ∷ map Kept (kept_from (K ++ g ∷ []) now)) (sym first)

pub dropped : {A : Type 0} (n : ℕ) (xs ys : List A) → length xs ≡ n → drop n (xs ++ ys) ≡ ys
dropped {A} n xs ys e = drop_at xs ys n e

fronts : (kept recent : List KeptRow) (i n : ℕ) → n ≡ length kept + i → take n (firsts (map row_of_kept (kept ++ recent))) ≡ firsts (map row_of_kept kept) ++ take i (firsts (map row_of_kept recent))
fronts [] recent i n e = ap (λ (m : ℕ). take m (firsts (map row_of_kept recent))) (let h : n ≡ i = omega (arith, e) in h)
fronts (r ∷ kept) recent i zero e = absurd (omega (arith, e))
fronts (r ∷ kept) recent i (suc n) e = ap (λ (F : List Flow). (row_of_kept r).first ∷ F) (fronts kept recent i n (omega (arith, e)))

at_recent : (kept recent : List KeptRow) (i n : ℕ) (d : KeptRow) → n ≡ length kept + i → get_or (kept ++ recent) n d ≡ get_or recent i d
at_recent [] recent i n d e = ap (λ (m : ℕ). get_or recent m d) (let h : n ≡ i = omega (arith, e) in h)
at_recent (r ∷ kept) recent i zero d e = absurd (omega (arith, e))
at_recent (r ∷ kept) recent i (suc n) d e = at_recent kept recent i n d (omega (arith, e))

-- the rows of now that follow those of the last commit
follow_now : (find : ℕ → Option Mark) (kept recent : List KeptRow) (rows : List Row) → rows ≡ map row_of_kept (renew_from find 0 (kept ++ recent))
    → drop (length (map row_of_kept kept)) rows ≡ map row_of_kept (renew_from find (0 + length kept) recent)
follow_now find kept recent rows tied =
    let before = map row_of_kept (renew_from find 0 kept) in
    let after = map row_of_kept (renew_from find (0 + length kept) recent) in
    let long : length before ≡ length (map row_of_kept kept) = length-map (renew_from find 0 kept) row_of_kept ∙ renew_long find 0 kept ∙ sym (length-map kept row_of_kept) in
    ap (drop (length (map row_of_kept kept))) (tied ∙ ap (map row_of_kept) (renew_append find 0 kept recent) ∙ map-append row_of_kept (renew_from find 0 kept) (renew_from find (0 + length kept) recent))
    ∙ dropped (length (map row_of_kept kept)) before after long

pub kept_follow : (find : ℕ → Option Mark) (kept recent : List KeptRow) (objects : List Object) (rows : List Row) → rows ≡ map row_of_kept (renew_from find 0 (kept ++ recent)) → AreHeld (renew_from find 0 (kept ++ recent)) objects
    → map as_kept recent ≡ map Kept (kept_from (firsts (map row_of_kept kept)) (drop (length (map row_of_kept kept)) rows))
kept_follow find kept recent objects rows tied held =
    let all = kept ++ recent in
    let plainly = held_along (renew_from find 0 all) all objects (plain_renewed find 0 all) held in
    let follow = follow_now find kept recent rows tied in
    let flows : firsts (drop (length (map row_of_kept kept)) rows) ≡ firsts (map row_of_kept recent) =
    ap firsts follow ∙ same_firsts (renew_from find (0 + length kept) recent) recent (plain_renewed find (0 + length kept) recent) in
    all_kept (firsts (map row_of_kept kept)) recent (drop (length (map row_of_kept kept)) rows) flows (λ i d h.
    let n = length kept + i in
    subst (λ (F : List Flow). HasLinks F (get_or recent i d)) (fronts kept recent i n refl)
    (subst (HasLinks (take n (firsts (map row_of_kept all)))) (at_recent kept recent i n d refl) (plainly.links n d (omega (arith, h, length-append kept recent)))))

-- ---- Extend rows

fresh_one : (m : Option Mark) (r : KeptRow) → IsSingle r → fresh (row_of_kept (renew m r)) ≡ row_of_kept r
fresh_one None r single = ap (λ (m : Mark). record { first = (row_of_kept r).first; last = record { from = r.from; to = r.to; how = m.how; at = m.at; serial = m.serial } }) (sym single)
fresh_one (Some mark) r single = ap (λ (m : Mark). record { first = (row_of_kept r).first; last = record { from = r.from; to = r.to; how = m.how; at = m.at; serial = m.serial } }) (sym single)

fresh_rows : (find : ℕ → Option Mark) (i : ℕ) (recent : List KeptRow) → All IsSingle recent → map fresh (map row_of_kept (renew_from find i recent)) ≡ map row_of_kept recent
fresh_rows find i [] single = refl
fresh_rows find i (r ∷ recent) single =
    ap (λ (x : Row). x ∷ map fresh (map row_of_kept (renew_from find (suc i) recent))) (fresh_one (find i) r (single 0 r (omega arith)))
    ∙ ap (λ (xs : List Row). row_of_kept r ∷ xs) (fresh_rows find (suc i) recent (λ j d h. single (suc j) d (omega (arith, h))))

-- a row's Extend row
extend_one : (m : Option Mark) (i : ℕ) (r : KeptRow) → ((mark : Mark) → m ≡ Some mark → r.last.at.place < mark.at.place)
    → extend_of m i ≡ (if (row_of_kept r).last.at.place == (row_of_kept (renew m r)).last.at.place then [] else record { row = i; mark = mark_of (row_of_kept (renew m r)).last } ∷ [])
extend_one None i r later = ap (λ (b : Bool). if b then [] else record { row = i; mark = r.last } ∷ []) (sym (eq-eqb r.last.at.place r.last.at.place refl))
extend_one (Some mark) i r later =
    let low = later mark refl in
    ap (λ (b : Bool). if b then [] else record { row = i; mark = mark } ∷ []) (sym (ne_eqb r.last.at.place mark.at.place (λ e. absurd (omega (arith, e, low)))))

extends_lead : (find : ℕ → Option Mark) (i : ℕ) (rows : List KeptRow) → ((j n : ℕ) (mark : Mark) (d : KeptRow) → n ≡ i + j → find n ≡ Some mark → j < length rows → (get_or rows j d).last.at.place < mark.at.place)
    → extends_in find i rows ≡ extends_from i (map row_of_kept rows) (map row_of_kept (renew_from find i rows))
extends_lead find i [] later = refl
extends_lead find i (r ∷ rows) later =
    ap (λ (es : List ExtendRow). es ++ extends_in find (suc i) rows) (extend_one (find i) i r (λ mark is. later 0 i mark r (omega arith) is (omega arith)))
    ∙ ap (λ (es : List ExtendRow). (if (row_of_kept r).last.at.place == (row_of_kept (renew (find i) r)).last.at.place then [] else record { row = i; mark = mark_of (row_of_kept (renew (find i) r)).last } ∷ []) ++ es)
    (extends_lead find (suc i) rows (λ j n mark d e is h. later (suc j) n mark d (omega (arith, e)) is (omega (arith, h))))

-- the rows of the batch lead on
pub leads : (held : Held) → Follow held → ((i : ℕ) (mark : Mark) → mark_in held.placed.renewed i ≡ Some mark → IsLater (held.placed.kept ++ held.placed.recent) i mark)
    → batch_rows held.placed.recent (extends_now held.placed) ≡ rows_since (map row_of_kept held.placed.kept) held.rows
leads held follow later =
    let find = mark_in held.placed.renewed in
    let kept = held.placed.kept in
    let recent = held.placed.recent in
    let saved = map row_of_kept kept in
    let follows = follow_now find kept recent held.rows follow.tied in
    let first : map row_of_kept (kept ++ recent) ≡ saved ++ map fresh (drop (length saved) held.rows) =
    map-append row_of_kept kept recent ∙ ap (λ (xs : List Row). saved ++ xs) (sym (ap (map fresh) follows ∙ fresh_rows find (0 + length kept) recent follow.single)) in
    let extended : extends_now held.placed ≡ extends_from 0 (saved ++ map fresh (drop (length saved) held.rows)) held.rows =
    extends_lead find 0 (kept ++ recent) (λ j n mark d e is h. (later j mark (ap find (let m : j ≡ n = omega (arith, e) in m) ∙ is)).later d)
    ∙ ap (λ (Q : List Row). extends_from 0 Q (map row_of_kept (renew_from find 0 (kept ++ recent)))) first
    ∙ ap (extends_from 0 (saved ++ map fresh (drop (length saved) held.rows))) (sym follow.tied) in
    ap (λ (ks : List StoreRow). ks ++ map Extend (extends_now held.placed)) follow.kept
    ∙ ap (λ (es : List ExtendRow). map Kept (kept_from (firsts saved) (drop (length saved) held.rows)) ++ map Extend es) extended

-- ---- while rows are added and extended

pub later_added : (kept recent : List KeptRow) (row : KeptRow) (i : ℕ) (mark : Mark) → IsLater (kept ++ recent) i mark → IsLater (kept ++ (recent ++ row ∷ [])) i mark
later_added kept recent row i mark is =
    let same = append_assoc kept recent (row ∷ []) in
    subst (λ (R : List KeptRow). IsLater R i mark) same (record {
      within = omega (arith, is.within, length-append (kept ++ recent) (row ∷ []));
      later = λ d. subst (λ (r : KeptRow). r.last.at.place < mark.at.place) (sym (get_or_append_left (kept ++ recent) (row ∷ []) d i is.within)) (is.later d);
    })

-- the row that is extended ends earlier
ends_before : (m : Option Mark) (r : KeptRow) (n : ℕ) → (renew m r).last.at.place < n → ((mark : Mark) → m ≡ Some mark → r.last.at.place < mark.at.place) → r.last.at.place < n
ends_before None r n low later = low
ends_before (Some mark) r n low later = let first = later mark refl in omega (arith, low, first)

some_mark : (a b : Mark) → Some a ≡ Some b → a ≡ b
some_mark a b e = cc

pub later_extended : (find found : ℕ → Option Mark) (R : List KeptRow) (rows : List Row) (row : ℕ) (mark : Mark) (f : Flow) → rows ≡ map row_of_kept (renew_from find 0 R) → row < length rows → ComesAfter rows f → mark ≡ mark_of f
    → ((i : ℕ) (m : Mark) → find i ≡ Some m → IsLater R i m) → found row ≡ Some mark → ((i : ℕ) → i ≢ row → found i ≡ find i)
    → (i : ℕ) (m : Mark) → found i ≡ Some m → IsLater R i m
later_extended find found R rows row mark f tied within after is later here others i m given = elim (cases_eq i row) [
  | inl e ↦ (
      let S = renew_from find 0 R in
      let long : length rows ≡ length R = ap length tied ∙ length-map S row_of_kept ∙ renew_long find 0 R in
      let low : row < length R = omega (arith, within, long) in
      let one : mark ≡ m = some_mark mark m (sym here ∙ ap found (sym e) ∙ given) in
      record {
        within = omega (arith, e, low);
        later = λ d.
            let now = renew (find (0 + row)) (get_or R row d) in
            let at : get_or rows row (row_of_kept d) ≡ row_of_kept now = ap (λ (xs : List Row). get_or xs row (row_of_kept d)) tied ∙ get_or-map row_of_kept S row d (row_of_kept d) (omega (arith, low, renew_long find 0 R)) ∙ ap row_of_kept (renew_at find 0 row R d low) in
            let last = after.lasts (get_or rows row (row_of_kept d)) (Contains-get_or rows row (row_of_kept d) within) in
            let below : now.last.at.place < f.at.place = subst (λ (r : Row). r.last.at.place < f.at.place) at last in
            let zero_row : 0 + row ≡ row = omega arith in
            let first : (get_or R row d).last.at.place < f.at.place = ends_before (find (0 + row)) (get_or R row d) f.at.place below (λ n some. (later row n (ap find (sym zero_row) ∙ some)).later d) in
            let place : f.at.place ≡ m.at.place = ap (λ (x : Mark). x.at.place) (sym is ∙ one) in
            subst (λ (k : ℕ). (get_or R k d).last.at.place < m.at.place) (sym e) (omega (arith, first, place));
      }
      )
  | inr apart ↦ later i m (sym (others i apart) ∙ given)
]
