-- What objects are called after some events.
use Rattle.std.specs.Prelude.{◌≡◌, ℕ, Bool, List, take, nat_eq, Some, slice_get}
use Rattle.std.specs.List.{list_any}
use Rattle.std.specs.Cmp.Lexicographic.{pointwise}
use Rattle.flow_base.specs.declared.limits.Limits.{Limits}
use Rattle.flow_base.specs.declared.types.EntityId.{EntityId}
use Rattle.flow_base.specs.declared.types.Key.{Key}
use Rattle.acts.specs.Flows.{acts_of}
use Rattle.acts.specs.Keys.{all_given, names_of}
use Rattle.entity_names.specs.Known.{ids_where}
use Rattle.name_text.specs.Addresses as addresses
use Rattle.name_text.specs.KeyTexts as keys
use Rattle.record_join.specs.declared.event.Event.{Event}
use Rattle.ingest.specs.Events.{taken_in, objects_in}

-- the names of a key after these events: the first distinct texts that were given to it, no more than the limit
abbrev pub names_in : Limits → List Event → Key → List (List ℕ)
names_in limits events key = take limits.names (names_of key (all_given addresses.text_of (acts_of (taken_in limits events))))

-- whether a key has exactly this name
abbrev pub has_name : Limits → List Event → List ℕ → Key → Bool
has_name limits events text key = list_any (pointwise nat_eq text) (names_in limits events key)

-- the known objects that have exactly this name, ascending
abbrev pub named_in : Limits → List Event → List ℕ → List EntityId
named_in limits events text = ids_where (has_name limits events text) 0 (objects_in limits events)

-- the object of this number is known; this is the text of its key, and these are its names
pub record IsCalled (limits : Limits) (events : List Event) (id : EntityId) (text : List ℕ) (names : List (List ℕ)) : Type 0 where
  pub key : Key
  pub known : slice_get (objects_in limits events) id.0 ≡ Some key
  pub text_is : text ≡ keys.text_of key
  pub names_are : names ≡ names_in limits events key
