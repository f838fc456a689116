-- The groups of a joiner are what waits.
use Rattle.std.proofs.Common.{◌≡◌, ◌∙◌, ◌<◌, Bool, true, false, true≢false, List, [], ◌∷◌, ◌++◌, map, Some, if◌then◌else◌, Result, Ok, Err, inl, inr, refl, sym, ap}
use Rattle.std.specs.List.{AllByRecursion}
use Rattle.std.specs.List.Sorted.{IsStrictlySortedBy}
use Rattle.std.specs.Map.{lookup, keys_of}
use Rattle.audit_lex.specs.declared.header.EventKey.{EventKey}
use Rattle.flow_base.specs.declared.limits.Limits.{Limits}
use Rattle.record_join.specs.Events.{Joining}
use Rattle.record_join.specs.Keys.{is_key, key_cmp}
use Rattle.record_join.specs.StandsFor.{Joiner, StandsFor, WhereStands}
use Rattle.flow_base.specs.declared.faults.NoMemory.{NoMemory}
use Rattle.std.specs.Result.{OnOk}
use Rattle.record_join.specs.declared.group.Group.{Group}
use Rattle.std.specs.declared.cmp.Ordering.{Ordering}
use Rattle.std.specs.declared.cmp.Ordering.TheVariants.{Less, Equal, Greater}
use Rattle.std.specs.Ordering.{MatchOrdering, nat_cmp, ordering_then, is_lt}
use Rattle.std.proofs.lemmas.Cmp.{ranked}
use Rattle.stored.specs.Batch.{Ascends, AreWaiting, IsKeyBefore, lines_of_group}
use Rattle.stored.specs.Words.{Group as Lines}
use Rattle.stored.specs.Batch.{waiting_row}
use Rattle.row_codec.specs.declared.rows.StoreRow.{StoreRow}
use Rattle.std.proofs.lemmas.List.{append_assoc}
use Rattle.ingest.specs.WaitingRows.{PutsWaiting, as_lines, group_lines, waiting_row_of}

-- a group is found as its lines where it is found
found : (key : EventKey) (groups : List (EventKey × Group)) → lookup (is_key key) (as_lines groups) ≡ lines_of_group (lookup (is_key key) groups)
found key [] = refl
found key (e ∷ groups) = one (is_key key e.0) (found key groups)
  where
    one : (b : Bool) → lookup (is_key key) (as_lines groups) ≡ lines_of_group (lookup (is_key key) groups)
        → (if b then Some (group_lines e.1) else lookup (is_key key) (as_lines groups)) ≡ lines_of_group (if b then Some e.1 else lookup (is_key key) groups)
    one true rest = refl
    one false rest = rest

before : (a b : EventKey) → key_cmp a b ≡ Less → IsKeyBefore a b
before a b less = from (nat_cmp a.ms b.ms) (nat_cmp a.serial b.serial) (ranked a.ms b.ms (nat_cmp a.ms b.ms) refl) (ranked a.serial b.serial (nat_cmp a.serial b.serial) refl) less
  where
    from : (o p : Ordering) → MatchOrdering o (a.ms < b.ms) (a.ms ≡ b.ms) (b.ms < a.ms) → MatchOrdering p (a.serial < b.serial) (a.serial ≡ b.serial) (b.serial < a.serial) → ordering_then o p ≡ Less → IsKeyBefore a b
    from Less p m n is = inl m
    from Equal Less m n is = inr (m, n)
    from Equal Equal m n is = absurd (true≢false (sym (ap is_lt is)))
    from Equal Greater m n is = absurd (true≢false (sym (ap is_lt is)))
    from Greater p m n is = absurd (true≢false (sym (ap is_lt is)))

all_before : (e : EventKey × Group) (groups : List (EventKey × Group)) → AllByRecursion (λ k. key_cmp e.0 k ≡ Less) (keys_of groups) → AllByRecursion (λ (x : EventKey × Lines). IsKeyBefore e.0 x.0) (as_lines groups)
all_before e [] all = tt
all_before e (x ∷ groups) all = (before e.0 x.0 all.0, all_before e groups all.1)

ascend : (groups : List (EventKey × Group)) → IsStrictlySortedBy key_cmp (keys_of groups) → Ascends (λ x y. IsKeyBefore x.0 y.0) (as_lines groups)
unfolding IsStrictlySortedBy
ascend [] up = tt
ascend (e ∷ groups) up = (all_before e groups up.0, ascend groups up.1)

pub are_waiting : (limits : Limits) (join : Joiner) (s : Joining) → StandsFor limits join s → AreWaiting s (as_lines join.groups)
are_waiting limits join s stands = λ key. found key join.groups ∙ ap lines_of_group (stands.each key)

pub groups_ascend : (limits : Limits) (join : Joiner) (s : Joining) → StandsFor limits join s → Ascends (λ x y. IsKeyBefore x.0 y.0) (as_lines join.groups)
groups_ascend limits join s stands = ascend join.groups stands.ascend

-- one group more has its row
pub row_more : (key : EventKey) (group : Group) (rest : List (EventKey × Group)) (to next all : List StoreRow) (row : StoreRow) → next ≡ to ++ row ∷ [] → row ≡ waiting_row_of key group
    → to ++ map waiting_row (as_lines ((key, group) ∷ rest)) ≡ all → next ++ map waiting_row (as_lines rest) ≡ all
row_more key group rest to next all row wrote is so =
    ap (λ (xs : List StoreRow). xs ++ map waiting_row (as_lines rest)) (wrote ∙ ap (λ (r : StoreRow). to ++ r ∷ []) is)
    ∙ append_assoc to (waiting_row_of key group ∷ []) (map waiting_row (as_lines rest)) ∙ so

-- the rows of a joiner's groups are those of all that waits
pub waiting_put : (join : Joiner) (old new : List StoreRow) (groups : List (EventKey × Group)) (result : Result (Unit {0}) NoMemory) → groups ≡ join.groups
    → OnOk result (new ≡ old ++ map waiting_row (as_lines groups)) → OnOk result (WhereStands join (λ limits s. PutsWaiting s old new))
waiting_put join old new groups (Ok done) same put = λ limits s stands.
    (as_lines join.groups, are_waiting limits join s stands, groups_ascend limits join s stands, put ∙ ap (λ (g : List (EventKey × Group)). old ++ map waiting_row (as_lines g)) same)
waiting_put join old new groups (Err fault) same put = put
