-- What the parts of the tables stand for once a plan is done.
use Rattle.std.proofs.Common.{◌≡◌, ◌==◌, ◌∙◌, subst, sym, ap, ℕ, List, Option, Some, None, take, if◌then◌else◌}
use Rattle.acts.specs.declared.held.Held.{Held}
use Rattle.acts.specs.declared.act.Act.{Act}
use Rattle.acts.specs.Holding.{is_at, marked, unless_marked, holds, address_of}
use Rattle.fd_table.specs.Table.{Table, HoldsAs, AddressesAs, HoldsTheSame, held_at, address_at}
use Rattle.std.specs.Map.{lookup}
use Rattle.std.specs.Prelude.{nat_eq}
use Rattle.flow_base.specs.declared.types.Key.{Key}
use Rattle.entity_names.specs.Known.{Known, NamesAs}
use Rattle.flow_events.specs.declared.change.Change.{Change}
use Rattle.flow_events.specs.declared.change.Change.TheVariants.{Nothing, Set, Pair, Close, Mark, Exec, Clear, Share}
use Rattle.flow_events.specs.declared.plan.NewAddress.{NewAddress}
use Rattle.flow_events.specs.Changes.{changed}
use Rattle.flow_events.specs.Entering.{SameNames}
use Rattle.flow_events.specs.Standing.{readdressed}

-- a change does the same to descriptors that hold the same
pub changed_alike : (change : Change) (f g : ℕ → ℕ → Option Held) → ((p n : ℕ) → f p n ≡ g p n) → (p n : ℕ) → changed change f p n ≡ changed change g p n
changed_alike Nothing f g alike p n = alike p n
changed_alike (Set pid fd what) f g alike p n = ap (λ h. if is_at pid fd p n then Some what else h) (alike p n)
changed_alike (Pair pid first second act cloexec) f g alike p n = ap (λ h. changed (Pair pid first second act cloexec) (λ q m. h) p n) (alike p n)
changed_alike (Close pid fd) f g alike p n = ap (λ h. if is_at pid fd p n then None else h) (alike p n)
changed_alike (Mark pid fd cloexec) f g alike p n = ap (λ h. if is_at pid fd p n then marked cloexec h else h) (alike p n)
changed_alike (Exec pid) f g alike p n = ap (λ h. if pid == p then unless_marked h else h) (alike p n)
changed_alike (Clear pid) f g alike p n = ap (λ h. if pid == p then None else h) (alike p n)
changed_alike (Share pid parent) f g alike p n = ap (λ h. if pid == p then h else f p n) (alike parent n) ∙ ap (λ h. if pid == p then g parent n else h) (alike p n)

-- two changes in a row, and then none
pub held_after : (old mid late new : Table) (see last : Change) (before after : List Act) → HoldsAs old before
    → ((p n : ℕ) → held_at mid p n ≡ changed see (held_at old) p n) → ((p n : ℕ) → held_at late p n ≡ changed last (held_at mid) p n) → HoldsTheSame late new
    → ((p n : ℕ) → holds after p n ≡ changed last (changed see (holds before)) p n) → HoldsAs new after
held_after old mid late new see last before after stands first second same plan = record {
  each = λ p n.
      same p n
      ∙ second p n
      ∙ changed_alike last (held_at mid) (changed see (holds before)) (λ q m. first q m ∙ changed_alike see (held_at old) (holds before) stands.each q m) p n
      ∙ sym (plan p n);
}

pub readdressed_alike : (new : Option NewAddress) (f g : ℕ → Option (List ℕ)) → ((s : ℕ) → f s ≡ g s) → (s : ℕ) → readdressed new f s ≡ readdressed new g s
readdressed_alike None f g alike s = alike s
readdressed_alike (Some new) f g alike s = ap (λ a. if s == new.socket then Some new.bytes else a) (alike s)

-- no changes of addresses, and then one
pub addresses_after : (old mid late new : Table) (address : Option NewAddress) (before after : List Act) → AddressesAs old before
    → mid.addresses ≡ old.addresses → late.addresses ≡ mid.addresses → ((s : ℕ) → address_at new s ≡ readdressed address (address_at late) s)
    → ((s : ℕ) → address_of after s ≡ readdressed address (address_of before) s) → AddressesAs new after
addresses_after old mid late new address before after stands first second change plan = record {
  each = λ s.
      change s
      ∙ readdressed_alike address (address_at late) (address_of before) (λ t. ap (λ a. lookup (nat_eq t) a) (second ∙ first) ∙ stands.each t) s
      ∙ sym (plan s);
}

-- keys that are entered change no names
pub names_kept : (old new : Known) (all : List (Key × List ℕ)) → new ≡ record old { keys = new.keys; spare = new.spare } → NamesAs old all → NamesAs new all
names_kept old new all rest stands = subst (λ e. NamesAs e all) (sym rest) (record { each = λ k. stands.each k })

-- a table that stands for these names stands for those that give each key the same
pub same_kept : (table : Known) (all same : List (Key × List ℕ)) → SameNames all same → NamesAs table same → NamesAs table all
same_kept table all same alike stands = record { each = λ k. stands.each k ∙ ap (take table.most_names) (sym (alike k)) }
