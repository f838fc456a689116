-- To close what waits before the ripe groups are released changes nothing.
use Rattle.std.proofs.Common.{◌≡◌, ◌++◌, ◌∙◌, sym, refl, ap, ℕ, zero, suc, Bool, true, false, not, List, [], ◌∷◌, length, map, filter, append_assoc, Option, None, Some}
use Rattle.std.specs.Prelude.{◌||◌, if◌then◌else◌}
use Rattle.std.specs.List.{list_any}
use Rattle.std.specs.Option.{option_to_list}
use Rattle.std.proofs.lemmas.Bool.{true≢false}
use Rattle.flow_base.specs.declared.limits.Limits.{Limits}
use Rattle.audit_lex.specs.declared.header.EventKey.{EventKey}
use Rattle.audit_record.specs.declared.types.Record.{Record}
use Rattle.record_join.specs.Keys.{is_key}
use Rattle.record_join.specs.Events.{Joining, settled, waits, least_key, is_ripe_at, only_ripe, ripe_key, without, event_of, event_at, left_at, next_event, next_left}
use Rattle.record_join.specs.History.{released, left, released_after, left_after}
use Rattle.record_join.specs.declared.event.Event.{Event}
use Rattle.record_join.proofs.HoldsAll.{ripe_waits}
use Rattle.record_join.proofs.Turns.{one_release, one_left}

among_keys : (k : EventKey) (rs : List Record) → list_any (is_key k) (map (λ r. r.key) rs) ≡ waits k rs
among_keys k [] = refl
among_keys k (r ∷ rs) = ap (λ b. is_key k r.key || b) (among_keys k rs)

keys_if : (b : Bool) (r : Record) (keys : List EventKey) (rs : List Record) → keys ≡ map (λ (r : Record). r.key) rs
    → (if b then r.key ∷ keys else keys) ≡ map (λ (r : Record). r.key) (if b then r ∷ rs else rs)
keys_if true r keys rs e = ap (λ (l : List EventKey). r.key ∷ l) e
keys_if false r keys rs e = e

-- the keys of the records that are left
keys_left : (k : EventKey) (rs : List Record) → filter (λ c. not (is_key k c)) (map (λ (r : Record). r.key) rs) ≡ map (λ (r : Record). r.key) (filter (λ (r : Record). not (is_key k r.key)) rs)
keys_left k [] = refl
keys_left k (r ∷ rs) = keys_if (not (is_key k r.key)) r _ _ (keys_left k rs)

left_closed : (s : Joining) (k : EventKey) → without (settled s) k ≡ settled (without s k)
left_closed s k = ap (λ (keys : List EventKey). record (without s k) { closed = keys }) (keys_left k s.waiting)

ripe_where : (a b c d : Bool) (k : EventKey) → a ≡ true → (if a || b || c || d then Some k else None) ≡ Some k
ripe_where true b c d k e = refl
ripe_where false b c d k e = absurd (true≢false (sym e))

only_if : (ripe : Bool) (k m : EventKey) → (if ripe then Some k else None) ≡ Some m → k ≡ m
only_if true k m e = cc e
only_if false k m e = absurd (cc e)

module _ (limits : Limits) where
  -- the key that is ripe is the least
  only_least : (s : Joining) (o : Option EventKey) (m : EventKey) → only_ripe limits s o ≡ Some m → o ≡ Some m
  only_least s None m e = absurd (cc e)
  only_least s (Some k) m e = ap Some (only_if (is_ripe_at limits s k) k m e)

  -- the group that is ripe stays ripe
  ripe_closed : (s : Joining) (k : EventKey) → ripe_key limits s ≡ Some k → ripe_key limits (settled s) ≡ Some k
  ripe_closed s k e =
      let least = only_least s (least_key s.waiting) k e in
      ap (only_ripe limits (settled s)) least
      ∙ ripe_where (list_any (is_key k) (map (λ (r : Record). r.key) s.waiting)) _ _ _ k (among_keys k s.waiting ∙ ripe_waits limits s (least_key s.waiting) refl k e)

  -- one release of what waits, and then all that is closed
  one_closed : (s : Joining) (o : Option EventKey) → ripe_key limits s ≡ o
      → released_after limits (settled s) ≡ option_to_list (next_event limits s) ++ released_after limits (settled (next_left limits s))
  one_closed s None e = sym (ap (λ (o : Option EventKey). option_to_list (event_at s o) ++ released_after limits (settled (left_at s o))) e)
  one_closed s (Some k) e =
      one_release limits (settled s)
      ∙ ap (λ (o : Option EventKey). option_to_list (event_at (settled s) o) ++ released_after limits (left_at (settled s) o)) (ripe_closed s k e)
      ∙ ap (λ (t : Joining). event_of s k ∷ released_after limits t) (left_closed s k)
      ∙ sym (ap (λ (o : Option EventKey). option_to_list (event_at s o) ++ released_after limits (settled (left_at s o))) e)

  one_left_closed : (s : Joining) (o : Option EventKey) → ripe_key limits s ≡ o → left_after limits (settled s) ≡ left_after limits (settled (next_left limits s))
  one_left_closed s None e = sym (ap (λ (o : Option EventKey). left_after limits (settled (left_at s o))) e)
  one_left_closed s (Some k) e =
      one_left limits (settled s)
      ∙ ap (λ (o : Option EventKey). left_after limits (left_at (settled s) o)) (ripe_closed s k e)
      ∙ ap (left_after limits) (left_closed s k)
      ∙ sym (ap (λ (o : Option EventKey). left_after limits (settled (left_at s o))) e)

  some_closed : (n : ℕ) (s : Joining) → released_after limits (settled s) ≡ released n limits s ++ released_after limits (settled (left n limits s))
  some_closed zero s = refl
  some_closed (suc n) s =
      one_closed s (ripe_key limits s) refl
      ∙ ap (λ (l : List Event). option_to_list (next_event limits s) ++ l) (some_closed n (next_left limits s))
      ∙ sym (append_assoc (option_to_list (next_event limits s)) (released n limits (next_left limits s)) (released_after limits (settled (left n limits (next_left limits s)))))

  some_left_closed : (n : ℕ) (s : Joining) → left_after limits (settled s) ≡ left_after limits (settled (left n limits s))
  some_left_closed zero s = refl
  some_left_closed (suc n) s = one_left_closed s (ripe_key limits s) refl ∙ some_left_closed n (next_left limits s)

  -- what is ripe is released first, closed or not, and then the others
  pub released_closed : (s : Joining) → released_after limits (settled s) ≡ released_after limits s ++ released_after limits (settled (left_after limits s))
  released_closed s = some_closed (length s.waiting) s

  pub left_when_closed : (s : Joining) → left_after limits (settled s) ≡ left_after limits (settled (left_after limits s))
  left_when_closed s = some_left_closed (length s.waiting) s
