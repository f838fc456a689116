-- The payload of a batch, piece by piece, and rows that can be spelled.
use Rattle.std.proofs.Common.{◌≡◌, ◌∙◌, ℕ, ◌+◌, ◌*◌, ◌<◌, ◌≤◌, ◌^◌, List, [], ◌∷◌, ◌++◌, length, get_or, take, drop, map, Option, Some, None, refl, sym, ap, subst, arith}
use Rattle.std.specs.List.{All, flat_map}
use Rattle.std.proofs.lemmas.List.{append_assoc, length-append, get_or_default, length-take}
use Rattle.std.proofs.lemmas.List.Concat.{flat_map-append}
use Rattle.std.proofs.lemmas.List.Elements.{All-append, All-drop, All-map}
use Rattle.flow_base.specs.declared.types.Flow.{Flow}
use Rattle.reach_model.specs.declared.modes.Mode.{Mode}
use Rattle.reach_model.specs.Rows.{firsts}
use Rattle.reach_rows.specs.Kept.{row_of_kept, IsLastOf}
use Rattle.reach_rows.specs.InMemory.{HasLinks}
use Rattle.reach_rows.specs.declared.objects.Object.{Object}
use Rattle.reach_rows.specs.declared.rows.Row.{Row as KeptRow}
use Rattle.row_codec.specs.declared.rows.ExtendRow.{ExtendRow}
use Rattle.row_codec.specs.declared.rows.StoreRow.{StoreRow}
use Rattle.row_codec.specs.declared.rows.StoreRow.TheVariants.{Extend}
use Rattle.row_codec.specs.Fields.{FitsLink}
use Rattle.row_codec.specs.Payload.{header, IsPayload}
use Rattle.row_codec.specs.Rows.{row, CanBeSpelled, Fits}
use Rattle.row_codec.proofs.ManyLaws.{put_more}
use Rattle.reduced_store.specs.Held.{AreHeld}
use Rattle.reach_rows.specs.declared.rows.Mark.{Mark}
use Rattle.saved_rows.specs.Joining.{Joined, MOST, batch_rows, renew_from}
use Rattle.saved_rows.proofs.SettleLemmas.{all_kept_long}
use Rattle.reduced_store.specs.OnDisk.{since_now}
use Rattle.reduced_store.specs.Placing.{extends_now}
use Rattle.reduced_store.proofs.TakeLemmas.{spelled_extends}
use Rattle.reduced_store.proofs.HeldLemmas.{held_along, plain_renewed}
use Rattle.reduced_store.proofs.LeadLemmas.{dropped}
use Rattle.saved_rows.specs.Saved.{as_kept}

-- a link to a row before the end of a list
link_fits : (K : List Flow) (P : Flow → Type 0) (o : Option ℕ) → length K < 2 ^ 64 → IsLastOf K P o → FitsLink o
link_fits K P None few is = tt
link_fits K P (Some i) few is = omega (arith, is.within, few)

-- the Kept rows of rows with their links
each_spelled : (rows : List KeptRow) (objects : List Object) → AreHeld rows objects → length rows < 2 ^ 64 → All (λ (r : KeptRow). CanBeSpelled (as_kept r)) rows
each_spelled rows objects held few = λ i d h.
    let K = take i (firsts (map row_of_kept rows)) in
    let short : length K ≤ i = omega (arith, length-take i (firsts (map row_of_kept rows))) in
    let all : length K < 2 ^ 64 = omega (arith, short, h, few) in
    let links : HasLinks K (get_or rows i d) = held.links i d h in
    (link_fits K _ (get_or rows i d).before_to all links.before_to, link_fits K _ (get_or rows i d).before_from all links.before_from)

-- and of those since the last commit
pub recent_spelled : (find : ℕ → Option Mark) (kept recent : List KeptRow) (objects : List Object) → AreHeld (renew_from find 0 (kept ++ recent)) objects → length kept + length recent ≤ MOST
    → All (λ (r : KeptRow). CanBeSpelled (as_kept r)) recent
recent_spelled find kept recent objects held few =
    let all = kept ++ recent in
    let plainly = held_along (renew_from find 0 all) all objects (plain_renewed find 0 all) held in
    let long : length all ≡ length kept + length recent = length-append kept recent in
    let each = each_spelled all objects plainly (omega (arith, few, long)) in
    subst (All (λ (r : KeptRow). CanBeSpelled (as_kept r))) (dropped (length kept) kept recent refl) (All-drop (λ (r : KeptRow). CanBeSpelled (as_kept r)) (length kept) all each)

-- Extend rows have no link
pub extends_spelled : (es : List ExtendRow) → All CanBeSpelled (map Extend es)
extends_spelled es = All-map CanBeSpelled Extend es (λ i e h. tt)

-- the spellings of rows one by one are those of their Kept rows
pub kept_spellings : (rs : List KeptRow) → flat_map (λ r. row (as_kept r)) rs ≡ flat_map row (map as_kept rs)
kept_spellings [] = refl
kept_spellings (r ∷ rs) = ap (λ (xs : List ℕ). row (as_kept r) ++ xs) (kept_spellings rs)

extend_spellings : (es : List ExtendRow) → flat_map (λ e. row (Extend e)) es ≡ flat_map row (map Extend es)
extend_spellings [] = refl
extend_spellings (e ∷ es) = ap (λ (xs : List ℕ). row (Extend e) ++ xs) (extend_spellings es)

extends_fit : (es : List ExtendRow) → All (λ (e : ExtendRow). Fits (Extend e)) es → All Fits (map Extend es)
extends_fit es fit = All-map Fits Extend es fit

-- the values written so far and the next one
pub put_next : {A : Type 0} (f : A → List ℕ) (F : A → Type 0) (start to next : List ℕ) (xs : List A) (i : ℕ) (d : A) → i < length xs → next ≡ to ++ f (get_or xs i d) → F (get_or xs i d)
    → (to ≡ start ++ flat_map f (take i xs)) × All F (take i xs) → (next ≡ start ++ flat_map f (take (i + 1) xs)) × All F (take (i + 1) xs)
put_next f F start to next xs i d lt wrote fits = put_more f F start to next xs i (get_or xs i d) lt (get_or_default xs i d (get_or xs i d) lt) wrote fits

-- rows whose Kept rows fit, one by one
pub kept_fit : (rs : List KeptRow) → All (λ (r : KeptRow). Fits (as_kept r)) rs → All Fits (map as_kept rs)
kept_fit rs fit = All-map Fits as_kept rs fit

-- the pieces of a payload, one after the other
pub pieces : (mode : Mode) (front kept extends back : List StoreRow) (a b c d : List ℕ)
    → a ≡ [] ++ (header mode ++ flat_map row front) → All Fits front → b ≡ a ++ flat_map row kept → All Fits kept → c ≡ b ++ flat_map row extends → All Fits extends → d ≡ c ++ flat_map row back → All Fits back
    → IsPayload mode (front ++ ((kept ++ extends) ++ back)) d
pieces mode front kept extends back a b c d first fit_front second fit_kept third fit_extends fourth fit_back = record {
  fit = All-append Fits front ((kept ++ extends) ++ back) fit_front (All-append Fits (kept ++ extends) back (All-append Fits kept extends fit_kept fit_extends) fit_back);
  is = fourth ∙ ap (λ xs. xs ++ flat_map row back) (third ∙ ap (λ xs. xs ++ flat_map row extends) (second ∙ ap (λ xs. xs ++ flat_map row kept) first)) ∙ joined;
}
  where
    F : List ℕ
    F = flat_map row front

    K : List ℕ
    K = flat_map row kept

    E : List ℕ
    E = flat_map row extends

    B : List ℕ
    B = flat_map row back

    rows_are : flat_map row (front ++ ((kept ++ extends) ++ back)) ≡ F ++ ((K ++ E) ++ B)
    rows_are = flat_map-append row front ((kept ++ extends) ++ back) ∙ ap (λ xs. F ++ xs) (flat_map-append row (kept ++ extends) back ∙ ap (λ xs. xs ++ B) (flat_map-append row kept extends))

    joined : ((((header mode ++ F) ++ K) ++ E) ++ B) ≡ header mode ++ flat_map row (front ++ ((kept ++ extends) ++ back))
    joined = ap (λ xs. xs ++ B) (append_assoc (header mode ++ F) K E ∙ append_assoc (header mode) F (K ++ E)) ∙ append_assoc (header mode) (F ++ (K ++ E)) B
        ∙ ap (λ xs. header mode ++ xs) (append_assoc F (K ++ E) B) ∙ ap (λ xs. header mode ++ xs) (sym rows_are)

-- the payload that was written piece by piece
pub spelled_pieces : (mode : Mode) (front back : List StoreRow) (recent : List KeptRow) (es : List ExtendRow) (a b c d : List ℕ)
    → a ≡ [] ++ (header mode ++ flat_map row front) → All Fits front → b ≡ a ++ flat_map (λ r. row (as_kept r)) recent → All (λ (r : KeptRow). Fits (as_kept r)) recent
    → c ≡ b ++ flat_map (λ e. row (Extend e)) es → All (λ (e : ExtendRow). Fits (Extend e)) es → d ≡ c ++ flat_map row back → All Fits back
    → IsPayload mode (front ++ (batch_rows recent es ++ back)) d
spelled_pieces mode front back recent es a b c d first fit_front second fit_kept third fit_extends fourth fit_back =
    pieces mode front (map as_kept recent) (map Extend es) back a b c d first fit_front (second ∙ ap (λ (xs : List ℕ). a ++ xs) (kept_spellings recent)) (kept_fit recent fit_kept)
    (third ∙ ap (λ (xs : List ℕ). b ++ xs) (extend_spellings es)) (extends_fit es fit_extends) fourth fit_back

pub spelled_parts : (recent : List KeptRow) (es : List ExtendRow) (back : List StoreRow) (a b c d : List ℕ)
    → b ≡ a ++ flat_map (λ r. row (as_kept r)) recent → c ≡ b ++ flat_map (λ e. row (Extend e)) es → d ≡ c ++ flat_map row back
    → d ≡ a ++ (flat_map row (batch_rows recent es) ++ flat_map row back)
spelled_parts recent es back a b c d second third fourth =
    let K = flat_map row (map as_kept recent) in
    let E = flat_map row (map Extend es) in
    let B = flat_map row back in
    fourth ∙ ap (λ (xs : List ℕ). xs ++ B) (third ∙ ap (λ (xs : List ℕ). xs ++ flat_map (λ e. row (Extend e)) es) second ∙ ap (λ (xs : List ℕ). (a ++ flat_map (λ r. row (as_kept r)) recent) ++ xs) (extend_spellings es) ∙ ap (λ (xs : List ℕ). (a ++ xs) ++ E) (kept_spellings recent) ∙ append_assoc a K E)
    ∙ append_assoc a (K ++ E) B ∙ ap (λ (xs : List ℕ). a ++ (xs ++ B)) (sym (flat_map-append row (map as_kept recent) (map Extend es)))

pub batch_fit : (recent : List KeptRow) (es : List ExtendRow) → All (λ (r : KeptRow). Fits (as_kept r)) recent → All (λ (e : ExtendRow). Fits (Extend e)) es → All Fits (batch_rows recent es)
batch_fit recent es fit_kept fit_extends = All-append Fits (map as_kept recent) (map Extend es) (kept_fit recent fit_kept) (extends_fit es fit_extends)

-- how many bytes the rows since the last commit have
pub since_long : (j : Joined) → length (flat_map row (since_now j)) ≡ 46 * length j.recent + 30 * length (extends_now j)
since_long j =
    omega (
      arith,
      ap length (flat_map-append row (map as_kept j.recent) (map Extend (extends_now j))),
      length-append (flat_map row (map as_kept j.recent)) (flat_map row (map Extend (extends_now j))),
      all_kept_long j.recent,
      spelled_extends (extends_now j),
    )
