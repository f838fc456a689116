-- What objects are called, by the tables.
use Rattle.std.proofs.Common.{◌≡◌, ◌+◌, ◌++◌, ◌∙◌, refl, ap, ℕ, Bool, List, [], ◌∷◌, take, if◌then◌else◌}
use Rattle.std.specs.Prelude.{nat_eq}
use Rattle.std.specs.List.{list_any}
use Rattle.std.specs.Cmp.Lexicographic.{pointwise}
use Rattle.flow_base.specs.declared.limits.Limits.{Limits}
use Rattle.flow_base.specs.declared.types.EntityId.{EntityId}
use Rattle.flow_base.specs.declared.types.Key.{Key}
use Rattle.acts.specs.Flows.{acts_of}
use Rattle.acts.specs.Keys.{all_given, names_of}
use Rattle.entity_names.specs.Known.{Known, ids_where, names_at}
use Rattle.flow_events.specs.Standing.{HasLimits}
use Rattle.name_text.specs.Addresses.{text_of}
use Rattle.record_join.specs.Events.{Joining}
use Rattle.record_join.specs.declared.event.Event.{Event}
use Rattle.ingest.specs.Events.{taken_in}
use Rattle.ingest.specs.Naming.{names_in, has_name, named_in}
use Rattle.ingest.specs.Parts.{Joined}
use Rattle.ingest.specs.StandsFor.{JoinedStandsFor}

abbrev numbered : ℕ → EntityId
numbered n = record { 0 = n }

-- tests that say the same of each key find the same
ids_same : (f g : Key → Bool) → ((key : Key) → f key ≡ g key) → (first : ℕ) (keys : List Key) → ids_where f first keys ≡ ids_where g first keys
ids_same f g same first [] = refl
ids_same f g same first (key ∷ keys) =
    ap (λ (b : Bool). (if b then numbered first ∷ [] else []) ++ ids_where f (first + 1) keys) (same key)
    ∙ ap (λ (l : List EntityId). (if g key then numbered first ∷ [] else []) ++ l) (ids_same f g same (first + 1) keys)

module _ {K : Type 0} (limits : Limits) (joined : Joined K) (s : Joining) (released : List Event) (stands : JoinedStandsFor limits joined s released) where
  -- the table has as many names of a key as the limit lets it
  pub names_so : (own : Limits) → own ≡ limits → HasLimits own joined.tables → (key : Key) → names_at joined.tables.entities key ≡ names_in limits released key
  names_so own is bounds key =
      stands.tables.names_are.each key
      ∙ ap (λ most. take most (names_of key (all_given text_of (acts_of (taken_in limits released))))) (bounds.names_are ∙ ap (λ (l : Limits). l.names) is)

  pub found_so : (own : Limits) → own ≡ limits → HasLimits own joined.tables → (entities : Known) (text : List ℕ) (ids : List EntityId) → entities ≡ joined.tables.entities
      → ids ≡ ids_where (λ key. list_any (pointwise nat_eq text) (names_at entities key)) 0 entities.keys → ids ≡ named_in limits released text
  found_so own is bounds entities text ids same found =
      found
      ∙ ap (λ (e : Known). ids_where (λ key. list_any (pointwise nat_eq text) (names_at e key)) 0 e.keys) same
      ∙ ids_same (λ key. list_any (pointwise nat_eq text) (names_at joined.tables.entities key)) (has_name limits released text)
      (λ key. ap (list_any (pointwise nat_eq text)) (names_so own is bounds key)) 0 joined.tables.entities.keys
      ∙ ap (ids_where (has_name limits released text) 0) stands.tables.objects_are
