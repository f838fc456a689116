-- What the words on rows make of the parts of a batch.
use Rattle.std.proofs.Common.{◌≡◌, ◌∙◌, refl, ap, ℕ, List, [], ◌∷◌, ◌++◌, map, Option, Some, None}
use Rattle.std.specs.Prelude.{◌==◌}
use Rattle.std.specs.List.{flat_map}
use Rattle.std.proofs.lemmas.Grind.{flat_map-append}
use Rattle.std.proofs.lemmas.List.{append-nil}
use Rattle.flow_base.specs.declared.types.FileId.{FileId}
use Rattle.flow_base.specs.contracts.types.FileIdPartialEq.TheImpl.{ghosts as files}
use Rattle.row_codec.specs.declared.state.StateRow.{StateRow}
use Rattle.row_codec.specs.declared.rows.StoreRow.{StoreRow}
use Rattle.row_codec.specs.declared.rows.StoreRow.TheVariants.{Entity, Kept, Extend, State}
use Rattle.store_check.specs.Store.{last_found, newer, key_in, keys, life_in, life_of}
use Rattle.stored.specs.Words.{name_in, pairs_in, address_in, address_of, born_in, born_of, group_in, groups_of, state_in, state_of}
use Rattle.stored.specs.Batch.{Batch, name_row, life_row, held_row, address_row, born_row, waiting_row, front, back, laid, said}
use Rattle.stored.proofs.Folds.{quiet, quiet_left, quiet_right, found_said, bare, bare_left, singles}

-- a word that the parts after the lives don't have
module _ {A : Type 0} (here : StoreRow → Option A) where
  pub record IsBehind : Type 0 where
    pub held : (e : _) → here (held_row e) ≡ None
    pub addresses : (e : _) → here (address_row e) ≡ None
    pub births : (e : _) → here (born_row e) ≡ None
    pub waiting : (e : _) → here (waiting_row e) ≡ None
    pub state : (s : StateRow) → here (State s) ≡ None

  pub quiet_back : (b : Batch) → IsBehind → last_found here (back b) ≡ None
  quiet_back b q =
      quiet_left here (map held_row b.held) _ (quiet here held_row q.held b.held)
      ∙ quiet_left here (map address_row b.addresses) _ (quiet here address_row q.addresses b.addresses)
      ∙ quiet_left here (map born_row b.births) _ (quiet here born_row q.births b.births)
      ∙ quiet_left here (map waiting_row b.waiting) _ (quiet here waiting_row q.waiting b.waiting)
      ∙ ap (newer None) (q.state b.state)

  pub record IsAhead : Type 0 where
    pub entities : (e : _) → here (Entity e) ≡ None
    pub kept : (e : _) → here (Kept e) ≡ None
    pub extends : (e : _) → here (Extend e) ≡ None
    pub names : (e : _) → here (name_row e) ≡ None

  pub to_lives : (b : Batch) → IsAhead → last_found here (front b) ≡ last_found here (map life_row b.lives)
  to_lives b q =
      quiet_left here (map Entity b.entities) _ (quiet here Entity q.entities b.entities)
      ∙ quiet_left here (map Kept b.kept) _ (quiet here Kept q.kept b.kept)
      ∙ quiet_left here (map Extend b.extends) _ (quiet here Extend q.extends b.extends)
      ∙ quiet_left here (map name_row b.names) _ (quiet here name_row q.names b.names)

  pub to_back : (b : Batch) → IsAhead → ((e : _) → here (life_row e) ≡ None) → last_found here (laid b) ≡ last_found here (back b)
  to_back b q lives = quiet_left here (front b) (back b) (to_lives b q ∙ quiet here life_row lives b.lives)

pub life_laid : (p : ℕ) (b : Batch) → life_of p (laid b) ≡ said (λ q. q == p) b.lives
life_laid p b =
    quiet_right (life_in p) (front b) (back b) (quiet_back (life_in p) b (record { held = λ e. refl; addresses = λ e. refl; births = λ e. refl; waiting = λ e. refl; state = λ s. refl }))
    ∙ to_lives (life_in p) b (record { entities = λ e. refl; kept = λ e. refl; extends = λ e. refl; names = λ e. refl })
    ∙ found_said (life_in p) life_row (λ q. q == p) (λ e. refl) b.lives

pub address_laid : (s : ℕ) (b : Batch) → address_of s (laid b) ≡ said (λ a. a == s) b.addresses
address_laid s b =
    to_back (address_in s) b (record { entities = λ e. refl; kept = λ e. refl; extends = λ e. refl; names = λ e. refl }) (λ e. refl)
    ∙ quiet_left (address_in s) (map held_row b.held) _ (quiet (address_in s) held_row (λ e. refl) b.held)
    ∙ quiet_right (address_in s) (map address_row b.addresses) _ (
    quiet_left (address_in s) (map born_row b.births) _ (quiet (address_in s) born_row (λ e. refl) b.births)
    ∙ quiet_left (address_in s) (map waiting_row b.waiting) _ (quiet (address_in s) waiting_row (λ e. refl) b.waiting))
    ∙ found_said (address_in s) address_row (λ a. a == s) (λ e. refl) b.addresses

pub born_laid : (f : FileId) (b : Batch) → born_of f (laid b) ≡ said (λ g. files.eq f g) b.births
born_laid f b =
    to_back (born_in f) b (record { entities = λ e. refl; kept = λ e. refl; extends = λ e. refl; names = λ e. refl }) (λ e. refl)
    ∙ quiet_left (born_in f) (map held_row b.held) _ (quiet (born_in f) held_row (λ e. refl) b.held)
    ∙ quiet_left (born_in f) (map address_row b.addresses) _ (quiet (born_in f) address_row (λ e. refl) b.addresses)
    ∙ quiet_right (born_in f) (map born_row b.births) _ (quiet_left (born_in f) (map waiting_row b.waiting) _ (quiet (born_in f) waiting_row (λ e. refl) b.waiting))
    ∙ found_said (born_in f) born_row (λ g. files.eq f g) (λ e. refl) b.births

pub state_laid : (b : Batch) → state_of (laid b) ≡ Some b.state
state_laid b =
    to_back state_in b (record { entities = λ e. refl; kept = λ e. refl; extends = λ e. refl; names = λ e. refl }) (λ e. refl)
    ∙ quiet_left state_in (map held_row b.held) _ (quiet state_in held_row (λ e. refl) b.held)
    ∙ quiet_left state_in (map address_row b.addresses) _ (quiet state_in address_row (λ e. refl) b.addresses)
    ∙ quiet_left state_in (map born_row b.births) _ (quiet state_in born_row (λ e. refl) b.births)
    ∙ quiet_left state_in (map waiting_row b.waiting) _ (quiet state_in waiting_row (λ e. refl) b.waiting)

-- ---- lists

module _ {A : Type 0} (f : StoreRow → List A) where
  -- a list that the parts from the lives on don't have
  pub record IsBare : Type 0 where
    pub held : (e : _) → f (held_row e) ≡ []
    pub addresses : (e : _) → f (address_row e) ≡ []
    pub births : (e : _) → f (born_row e) ≡ []
    pub state : (s : StateRow) → f (State s) ≡ []

  alone : (s : StateRow) → f (State s) ≡ [] → flat_map f (State s ∷ []) ≡ []
  alone s none = ap (λ (x : List A). x ++ []) none

  pub to_waiting : (b : Batch) → IsBare → flat_map f (back b) ≡ flat_map f (map waiting_row b.waiting)
  to_waiting b q =
      bare_left f (map held_row b.held) _ (bare f held_row q.held b.held)
      ∙ bare_left f (map address_row b.addresses) _ (bare f address_row q.addresses b.addresses)
      ∙ bare_left f (map born_row b.births) _ (bare f born_row q.births b.births)
      ∙ flat_map-append f (map waiting_row b.waiting) (State b.state ∷ []) ∙ ap (λ (x : List A). flat_map f (map waiting_row b.waiting) ++ x) (alone b.state (q.state b.state))
      ∙ append-nil (flat_map f (map waiting_row b.waiting))

  pub bare_right : (xs ys : List StoreRow) → flat_map f ys ≡ [] → flat_map f (xs ++ ys) ≡ flat_map f xs
  bare_right xs ys none = flat_map-append f xs ys ∙ ap (λ (x : List A). flat_map f xs ++ x) none ∙ append-nil (flat_map f xs)

pub keys_laid : (b : Batch) → keys (laid b) ≡ b.entities
keys_laid b =
    bare_right key_in (front b) (back b) (to_waiting key_in b (record { held = λ e. refl; addresses = λ e. refl; births = λ e. refl; state = λ s. refl }) ∙ bare key_in waiting_row (λ e. refl) b.waiting)
    ∙ bare_right key_in (map Entity b.entities) _ (
    bare_left key_in (map Kept b.kept) _ (bare key_in Kept (λ e. refl) b.kept)
    ∙ bare_left key_in (map Extend b.extends) _ (bare key_in Extend (λ e. refl) b.extends)
    ∙ bare_left key_in (map name_row b.names) _ (bare key_in name_row (λ e. refl) b.names)
    ∙ bare key_in life_row (λ e. refl) b.lives)
    ∙ singles key_in Entity (λ e. refl) b.entities

pub pairs_laid : (b : Batch) → pairs_in (laid b) ≡ b.names
pairs_laid b =
    bare_right name_in (front b) (back b) (to_waiting name_in b (record { held = λ e. refl; addresses = λ e. refl; births = λ e. refl; state = λ s. refl }) ∙ bare name_in waiting_row (λ e. refl) b.waiting)
    ∙ bare_left name_in (map Entity b.entities) _ (bare name_in Entity (λ e. refl) b.entities)
    ∙ bare_left name_in (map Kept b.kept) _ (bare name_in Kept (λ e. refl) b.kept)
    ∙ bare_left name_in (map Extend b.extends) _ (bare name_in Extend (λ e. refl) b.extends)
    ∙ bare_right name_in (map name_row b.names) _ (bare name_in life_row (λ e. refl) b.lives)
    ∙ singles name_in name_row (λ e. refl) b.names

pub groups_laid : (b : Batch) → groups_of (laid b) ≡ b.waiting
groups_laid b =
    bare_left group_in (front b) (back b) (
    bare_left group_in (map Entity b.entities) _ (bare group_in Entity (λ e. refl) b.entities)
    ∙ bare_left group_in (map Kept b.kept) _ (bare group_in Kept (λ e. refl) b.kept)
    ∙ bare_left group_in (map Extend b.extends) _ (bare group_in Extend (λ e. refl) b.extends)
    ∙ bare_left group_in (map name_row b.names) _ (bare group_in name_row (λ e. refl) b.names)
    ∙ bare group_in life_row (λ e. refl) b.lives)
    ∙ to_waiting group_in b (record { held = λ e. refl; addresses = λ e. refl; births = λ e. refl; state = λ s. refl })
    ∙ singles group_in waiting_row (λ e. refl) b.waiting
