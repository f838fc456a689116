-- A joiner that is made again of Waiting rows stands for what waited.
use Rattle.std.proofs.Common.{◌≡◌, ◌≢◌, ◌∙◌, sym, refl, ap, subst, ℕ, Bool, true, false, cond, List, [], ◌∷◌, ◌++◌, map, append_assoc, append-nil, arith, inl, inr}
use Rattle.std.specs.Prelude.{Option, Some, ◌||◌, if◌then◌else◌}
use Rattle.std.specs.List.{AllByRecursion}
use Rattle.std.specs.List.Sorted.{IsStrictlySortedBy}
use Rattle.std.specs.Map.{lookup, keys_of}
use Rattle.std.specs.declared.cmp.Ordering.TheVariants.{Less}
use Rattle.std.proofs.lemmas.Bool.{true≢false}
use Rattle.std.proofs.lemmas.Bool.Decides.{nat_tests}
use Rattle.std.proofs.lemmas.List.Elements.{filter-append}
use Rattle.flow_base.specs.declared.limits.Limits.{Limits}
use Rattle.audit_lex.specs.declared.header.EventKey.{EventKey}
use Rattle.audit_record.specs.declared.types.Record.{Record}
use Rattle.record_join.specs.Keys.{key_cmp, is_key}
use Rattle.record_join.specs.Events.{Joining, group_of, waits, is_among, enter, text_of}
use Rattle.record_join.specs.PutBack.{HeldInTurn, IsSound, fresh, closing, entered, put_back}
use Rattle.record_join.specs.StandsFor.{Joiner, StandsFor, group_at}
use Rattle.record_join.specs.declared.clock.JoinClock.{JoinClock}
use Rattle.record_join.specs.declared.group.Group.{Group as AGroup}
use Rattle.row_codec.specs.declared.rows.StoreRow.{StoreRow}
use Rattle.row_codec.specs.declared.state.StateRow.{StateRow}
use Rattle.stored.specs.Batch.{Ascends, IsKeyBefore}
use Rattle.stored.specs.Reading.{records_of, group_of_lines, clock_of}
use Rattle.stored.specs.Words.{Group, groups_of}
use Rattle.ingest.specs.LineRecords.{record_of}
use Rattle.ingest.specs.Waiting.{AreSoundWaiting, AscendByKey, HasOwnLines, Leads, waiting_by, with_group, with_groups, with_records}
use Rattle.ingest.proofs.PutBack.{could_enter, enters, ends_again, leads_through, leads_itself, leads_groups, read_waits, waits_last, with_both, with_none}

-- a law of the joiner: one that is made again by its records and ends stands for the same
abbrev pub IsMadeAgain : Type 0
IsMadeAgain = (limits : Limits) (s : Joining) (join again : Joiner) → IsSound limits s → StandsFor limits join s
    → StandsFor limits again (entered limits (fresh s.clock) (put_back join.groups)) → StandsFor limits again s

module _ (limits : Limits) where
  abbrev read_in : List (List ℕ) → List Record
  read_in lines = records_of (record_of limits.line) lines

  -- a group as one of records
  abbrev pub part_of : EventKey × Group → EventKey × AGroup
  part_of e = (e.0, record { closed = e.1.closed; records = read_in e.1.lines })

  abbrev pub parts_of : List (EventKey × Group) → List (EventKey × AGroup)
  parts_of groups = map part_of groups

  lookup_if : (b : Bool) (g : Group) (o : Option Group) (p : Option AGroup) → p ≡ group_of_lines (record_of limits.line) o
      → cond b (Some (record { closed = g.closed; records = read_in g.lines })) p ≡ group_of_lines (record_of limits.line) (cond b (Some g) o)
  lookup_if true g o p e = refl
  lookup_if false g o p e = e

  pub lookup_parts : (k : EventKey) (es : List (EventKey × Group)) → lookup (is_key k) (parts_of es) ≡ group_of_lines (record_of limits.line) (lookup (is_key k) es)
  lookup_parts k [] = refl
  lookup_parts k (e ∷ es) = lookup_if (is_key k e.0) e.1 (lookup (is_key k) es) (lookup (is_key k) (parts_of es)) (lookup_parts k es)

  -- ---- keys that ascend

  pub before_less : (a b : EventKey) → IsKeyBefore a b → key_cmp a b ≡ Less
  before_less a b (inl lt) = grind (arith, nat_tests)
  before_less a b (inr e) = let lt = e.1 in grind (arith, nat_tests)

  all_less : (k : EventKey) (es : List (EventKey × Group)) → AllByRecursion (λ e. IsKeyBefore k e.0) es → AllByRecursion (λ y. key_cmp k y ≡ Less) (keys_of (parts_of es))
  all_less k [] up = tt
  all_less k (e ∷ es) up = (before_less k e.0 up.0, all_less k es up.1)

  pub sorted : (es : List (EventKey × Group)) → Ascends (λ x y. IsKeyBefore x.0 y.0) es → IsStrictlySortedBy key_cmp (keys_of (parts_of es))
  unfolding IsStrictlySortedBy
  sorted [] up = tt
  sorted (e ∷ es) up = (all_less e.0 es up.0, sorted es up.1)

  -- ---- what enters one after the other

  entered_both : (t : Joining) (xs ys : List Record) → entered limits t (xs ++ ys) ≡ entered limits (entered limits t xs) ys
  entered_both t [] ys = refl
  entered_both t (x ∷ xs) ys = entered_both (enter limits t x) xs ys

  leads_more : (t : Joining) (r : Record) (rs : List Record) → Leads (with_records t (r ∷ [])) (with_records t (r ∷ rs))
  leads_more t r rs = record { more = rs; waiting = sym (append_assoc t.waiting (r ∷ []) rs); closed = λ k e. e; clock = refl }

  entered_records : (t w : Joining) (rs : List Record) → Leads (with_records t rs) w → IsSound limits w → entered limits t rs ≡ with_records t rs
  entered_records t w [] leads sound = sym (with_none t)
  entered_records t w (r ∷ rs) leads sound =
      let one : Joining = with_records t (r ∷ []) in
      let may = could_enter limits t w r (leads_through one (with_records t (r ∷ rs)) w (leads_more t r rs) leads) sound in
      ap (λ (u : Joining). entered limits u rs) (enters limits t r may)
      ∙ entered_records one w rs (subst (λ (u : Joining). Leads u w) (sym (with_both t (r ∷ []) rs)) leads) sound
      ∙ with_both t (r ∷ []) rs

  held_front : (seen : Option ℕ) (before xs ys : List Record) → HeldInTurn limits seen before (xs ++ ys) → HeldInTurn limits seen before xs
  held_front seen before [] ys held = tt
  held_front seen before (x ∷ xs) ys held = (held.0, held.1, held.2, held_front seen (before ++ x ∷ []) xs ys held.3)

  -- what led to something sound is sound
  sound_before : (t w : Joining) → Leads t w → IsSound limits w → IsSound limits t
  sound_before t w leads sound k =
      held_front t.clock.seen [] (group_of k t.waiting) (group_of k leads.more)
      (subst (HeldInTurn limits t.clock.seen []) (ap (group_of k) leads.waiting ∙ filter-append (λ (x : Record). is_key k x.key) t.waiting leads.more)
      (subst (λ (c : JoinClock). HeldInTurn limits c.seen [] (group_of k w.waiting)) leads.clock (sound k)))

  closed_end : (t : Joining) (k : EventKey) (rs : List Record) → rs ≢ [] → waits k t.waiting ≡ true → IsSound limits t → entered limits t (closing k rs) ≡ record t { closed = k ∷ t.closed }
  closed_end t k [] some there sound = absurd (some refl)
  closed_end t k (r ∷ rs) some there sound = ends_again limits t k r.line there sound

  leads_open : (t : Joining) (e : EventKey × Group) → Leads (with_records t (read_in e.1.lines)) (with_group limits.line t e)
  leads_open t e = record {
    more = [];
    waiting = sym (append-nil (t.waiting ++ read_in e.1.lines));
    closed = λ k is. by e.1.closed k is;
    clock = refl;
  }
    where
      by : (b : Bool) (k : EventKey) → is_among k t.closed ≡ true → is_among k (if b then e.0 ∷ t.closed else t.closed) ≡ true
      by true k is = or_last (is_key k e.0) (is_among k t.closed) is
        where
          or_last : (a b : Bool) → b ≡ true → (a || b) ≡ true
          or_last true b e = refl
          or_last false b e = e
      by false k is = is

  no_waits : (k : EventKey) (rs : List Record) → waits k rs ≡ true → rs ≢ []
  no_waits k [] there e = true≢false (sym there)
  no_waits k (r ∷ rs) there e = cc

  entered_group : (t w : Joining) (e : EventKey × Group) → HasOwnLines limits.line e → Leads (with_group limits.line t e) w → IsSound limits w
      → entered limits t (read_in e.1.lines ++ (if e.1.closed then closing e.0 (read_in e.1.lines) else [])) ≡ with_group limits.line t e
  entered_group t w e own leads sound =
      let rs = read_in e.1.lines in
      let held : Joining = with_records t rs in
      let open_leads = leads_through held (with_group limits.line t e) w (leads_open t e) leads in
      let there : waits e.0 rs ≡ true = read_waits limits e.0 e.1.lines own.some own.own in
      entered_both t rs (if e.1.closed then closing e.0 rs else [])
      ∙ ap (λ (u : Joining). entered limits u (if e.1.closed then closing e.0 rs else [])) (entered_records t w rs open_leads sound)
      ∙ by e.1.closed held (no_waits e.0 rs there) (waits_last e.0 t.waiting rs there) (sound_before held w open_leads sound)
    where
      by : (b : Bool) (held : Joining) → read_in e.1.lines ≢ [] → waits e.0 held.waiting ≡ true → IsSound limits held
          → entered limits held (if b then closing e.0 (read_in e.1.lines) else []) ≡ record held { closed = if b then e.0 ∷ held.closed else held.closed }
      by true held some there sound_held = closed_end held e.0 (read_in e.1.lines) some there sound_held
      by false held some there sound_held = refl

  pub entered_groups : (t w : Joining) (es : List (EventKey × Group)) → AllByRecursion (HasOwnLines limits.line) es → Leads (with_groups limits.line t es) w → IsSound limits w
      → entered limits t (put_back (parts_of es)) ≡ with_groups limits.line t es
  entered_groups t w [] own leads sound = refl
  entered_groups t w (e ∷ es) own leads sound =
      let one : Joining = with_group limits.line t e in
      let own_records = read_in e.1.lines ++ (if e.1.closed then closing e.0 (read_in e.1.lines) else []) in
      entered_both t own_records (put_back (parts_of es))
      ∙ ap (λ (u : Joining). entered limits u (put_back (parts_of es))) (entered_group t w e own.0 (leads_through one (with_groups limits.line one es) w (leads_groups limits.line one es) leads) sound)
      ∙ entered_groups one w es own.1 leads sound

  -- ---- the whole

  pub stands_again : IsMadeAgain → (s : Joining) (state : StateRow) (rows : List StoreRow) (join : Joiner) → AscendByKey rows → AreSoundWaiting limits state rows → clock_of state ≡ s.clock
      → IsSound limits s → ((k : EventKey) → waits k s.waiting ≡ false → is_among k s.closed ≡ false) → ((k : EventKey) → group_of_lines (record_of limits.line) (lookup (is_key k) (groups_of rows)) ≡ group_at s k)
      → StandsFor limits join (waiting_by limits state rows) → StandsFor limits join s
  stands_again law s state rows join up sound clock sound_s closed_wait each made =
      let groups = groups_of rows in
      let whole : Joining = waiting_by limits state rows in
      let parts : Joiner = record { groups = parts_of groups; text = text_of s.waiting; clock = s.clock; limits = limits } in
      let parts_stand : StandsFor limits parts s = record {
        ascend = sorted groups up;
        each = λ k. lookup_parts k groups ∙ each k;
        closed_wait = closed_wait;
        text = refl;
        clock = refl;
        limits_are = refl;
      } in
      let again : entered limits (fresh (clock_of state)) (put_back (parts_of groups)) ≡ whole = entered_groups (fresh (clock_of state)) whole groups sound.lines (leads_itself whole) sound.held in
      law limits s parts join sound_s parts_stand
      (subst (λ (c : JoinClock). StandsFor limits join (entered limits (fresh c) (put_back (parts_of groups)))) clock
      (subst (StandsFor limits join) (sym again) made))
