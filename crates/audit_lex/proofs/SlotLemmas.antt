-- Slots that are filled one after the other.
use Rattle.std.proofs.Common.{subst, ◌⊎◌, ◌≡◌, ◌≢◌, ◌<◌, ◌≤◌, ◌+◌, ◌∙◌, sym, refl, ap, ℕ, zero, suc, List, [], ◌∷◌, ◌++◌, length, drop, Option, None, Some, get_or, set, ◌==◌, inl, inr, arith, Bool, true, false, if◌then◌else◌}
use Rattle.std.specs.Option.{option_or, option_to_list}
use Rattle.std.proofs.lemmas.Bool.{cases_eq, cases_lt, eq-eqb, eqb-true, ne_eqb, cond-true, cond-false}
use Rattle.std.proofs.lemmas.List.{length-map, map-set, nil_from_length, get_or-map, get_or-set_same, get_or-set_other}
use Rattle.audit_lex.specs.Tokens.{NameValue, value_in, token_at, token_len, tokens_of, field_of}
use Rattle.audit_lex.specs.Slots.{slot_value, held, names_of, AreFilled, AreFound}
use Rattle.audit_lex.specs.Runs.{Finding, Full, IsFullBehind}
use Rattle.audit_lex.specs.declared.fields.Rule.{Rule}
use Rattle.audit_lex.specs.Fronts.{offered_from, token_seen}
use Rattle.audit_lex.specs.declared.fronts.Token.{Token}
use Rattle.std.specs.Borrow.{Bor}
use Rattle.std.specs.Prelude.{is_some, IfSome, ⊤}
use Rattle.audit_lex.proofs.TokenLemmas.{field_at_token}
use Rattle.audit_lex.specs.declared.fields.Field.TheVariants as field
use Rattle.audit_lex.specs.declared.fields.ValueKind.TheVariants as value
use Rattle.audit_lex.specs.FieldTable.{name_of, may, rules_of, slot_rules}
use Rattle.audit_lex.specs.TablePlaces.{home}
use Rattle.audit_lex.specs.LineClass.{fault_of, fault_in, first_fault}
use Rattle.audit_lex.specs.declared.fields.Field.{Field}
use Rattle.audit_lex.specs.declared.fields.Kind.{Kind}
use Rattle.audit_lex.specs.declared.fields.Kind.TheVariants as kind
use Rattle.std.specs.Str.{bytes_eq}

-- ---- one token

or_none : {A : Type 0} (a : Option A) → option_or a None ≡ a
or_none None = refl
or_none (Some a) = refl

-- ---- what a front offers

offered_here : (here place : ℕ) (bytes : List ℕ) → place ≡ here → offered_from (Some here) bytes place ≡ slot_value bytes
offered_here here place bytes is = cond-true (here == place) (slot_value bytes) None (eq-eqb _ _ (sym is))

offered_there : (here place : ℕ) (bytes : List ℕ) → place ≢ here → offered_from (Some here) bytes place ≡ None
offered_there here place bytes isnt = cond-false (here == place) (slot_value bytes) None (ne_eqb _ _ (λ is. isnt (sym is)))

-- what these tokens have for the places of a table is what is offered
abbrev pub Offers : List Rule → List NameValue → Option ℕ → List ℕ → Type 0
Offers rules tokens here bytes = (place : ℕ) → place < length rules → value_in tokens (get_or (names_of rules) place []) ≡ offered_from here bytes place

none_filled_at : {A : Type 0} (own offered : Option A) → offered ≡ None → own ≡ option_or own offered
none_filled_at own offered is = sym (ap (option_or own) is ∙ or_none own)

-- where no place is offered anything, each slot stays as it is
pub none_filled : (rules : List Rule) (tokens : List NameValue) (bytes : List ℕ) (slots : List (Option (List ℕ)))
    → Offers rules tokens None bytes → AreFilled rules tokens slots slots
none_filled rules tokens bytes slots offers place below =
    none_filled_at (get_or slots place None) _ (offers place below)

-- where one place is offered a value, its slot alone is filled
pub one_filled : (rules : List Rule) (tokens : List NameValue) (bytes : List ℕ) (here : ℕ) (before after : List (Option (List ℕ)))
    → Offers rules tokens (Some here) bytes → here < length before
    → after ≡ set before here (option_or (get_or before here None) (slot_value bytes))
    → AreFilled rules tokens before after
one_filled rules tokens bytes here before after offers within is place below = elim (cases_eq place here) [
  | inl this ↦
      ap (λ xs. get_or xs place None) is ∙ ap (λ k. get_or (set before here (option_or (get_or before here None) (slot_value bytes))) k None) this
      ∙ get_or-set_same before here _ None within
      ∙ ap (λ k. option_or (get_or before k None) (slot_value bytes)) (sym this)
      ∙ ap (option_or (get_or before place None)) (sym (offers place below ∙ offered_here here place bytes this))
  | inr other ↦
      ap (λ xs. get_or xs place None) is ∙ get_or-set_other before here place _ None other
      ∙ none_filled_at (get_or before place None) _ (offers place below ∙ offered_there here place bytes other)
]

-- ---- one token after the other

or_assoc : {A : Type 0} (a b c : Option A) → option_or (option_or a b) c ≡ option_or a (option_or b c)
or_assoc None b c = refl
or_assoc (Some a) b c = refl

pub past_token : (rules : List Rule) (raw rest : List ℕ) (before after : List (Option (List ℕ))) → 0 < length rest → get_or rest 0 0 ≢ 32
    → AreFilled rules (option_to_list (token_at rest)) before after → Finding rules raw rest before → Finding rules raw (drop (token_len rest) rest) after
past_token rules raw rest before after some isnt filled finding place below =
    let name = get_or (names_of rules) place [] in
    ap (λ held. option_or held (field_of (drop (token_len rest) rest) name)) (filled place below)
    ∙ or_assoc (get_or before place None) _ _
    ∙ ap (option_or (get_or before place None)) (sym (field_at_token rest name some isnt)) ∙ finding place below

-- at what stands behind a front, the search goes on
pub past_front : (rules : List Rule) (raw rest behind : List ℕ) (before after : List (Option (List ℕ))) → 0 < length rest → get_or rest 0 0 ≢ 32
    → tokens_of behind ≡ tokens_of (drop (token_len rest) rest)
    → AreFilled rules (option_to_list (token_at rest)) before after → Finding rules raw rest before → Finding rules raw behind after
past_front rules raw rest behind before after some isnt same filled finding place below =
    ap (λ tokens. option_or (get_or after place None) (value_in tokens (get_or (names_of rules) place []))) same
    ∙ past_token rules raw rest before after some isnt filled finding place below

-- ---- full places

still_some : {A : Type 0} (a b : Option A) → is_some a ≡ true → is_some (option_or a b) ≡ true
still_some None b is = cc
still_some (Some a) b is = refl

some_second : {A : Type 0} (a b : Option A) → is_some b ≡ true → is_some (option_or a b) ≡ true
some_second None b is = is
some_second (Some a) b is = refl

keeps_own : {A : Type 0} (a b : Option A) → is_some a ≡ true → a ≡ option_or a b
keeps_own None b is = cc
keeps_own (Some a) b is = refl

-- a full place stays full
pub stays_full : (rules : List Rule) (tokens : List NameValue) (before after : List (Option (List ℕ))) (count : ℕ) → count ≤ length rules
    → AreFilled rules tokens before after → Full count before → Full count after
stays_full rules tokens before after count within filled full place below =
    ap is_some (filled place (omega (arith, below, within))) ∙ still_some (get_or before place None) _ (full place below)

-- the places up to one and those from there on
pub more_full : (slots : List (Option (List ℕ))) (from to : ℕ) → Full from slots
    → ((place : ℕ) → from ≤ place → place < to → is_some (get_or slots place None) ≡ true) → Full to slots
more_full slots from to full more place below = elim (cases_lt place from) [
  | inl front ↦ full place front
  | inr behind ↦ more place behind below
]

-- ---- the place of a front

none_some : (place : ℕ) → None ≡ Some place → ⊥
none_some place is = cc

-- a table has no more fields than there are slots
pub few_rules : (kind : Kind) → length (slot_rules kind) ≤ 11
few_rules kind.Syscall = omega arith
few_rules kind.Path = omega arith
few_rules kind.Cwd = omega arith
few_rules kind.Sockaddr = omega arith
few_rules kind.FdPair = omega arith
few_rules kind.Mmap = omega arith
few_rules kind.Proctitle = omega arith
few_rules kind.Eoe = omega arith

same_place : (here place : ℕ) → Some here ≡ Some place → here ≡ place
same_place here place is = cc

pub place_within : (found : Option ℕ) (here most : ℕ) → IfSome found (λ place. place < most) → found ≡ Some here → here < most
place_within None here most within is = absurd (none_some here is)
place_within (Some place) here most within is = omega (arith, within, same_place place here is)

-- a front that has a place fills its slot
pub front_fills : (kind : Kind) (tokens : List NameValue) (bytes : List ℕ) (found : Option ℕ) (here : ℕ) (slots : List (Bor (List ℕ))) (after : List (Option (List ℕ)))
    → length slots ≡ 11 → Offers (slot_rules kind) tokens found bytes → IfSome found (λ place. place < length (slot_rules kind)) → found ≡ Some here
    → after ≡ set (held slots) here (option_or (get_or (held slots) here None) (slot_value bytes))
    → AreFilled (slot_rules kind) tokens (held slots) after
front_fills kind tokens bytes found here slots after size offers within is filled =
    let below = place_within found here (length (slot_rules kind)) within is in
    one_filled (slot_rules kind) tokens bytes here (held slots) after (λ place inside. offers place inside ∙ ap (λ k. offered_from k bytes place) is)
    (omega (arith, below, few_rules kind, length-map slots (λ (slot : Bor (List ℕ)). slot_value slot.now), size)) filled

-- and one that has none leaves each as it is
pub front_leaves : (rules : List Rule) (tokens : List NameValue) (bytes : List ℕ) (found : Option ℕ) (slots : List (Option (List ℕ)))
    → Offers rules tokens found bytes → found ≡ None → AreFilled rules tokens slots slots
front_leaves rules tokens bytes found slots offers is = none_filled rules tokens bytes slots (λ place below. offers place below ∙ ap (λ k. offered_from k bytes place) is)

-- ---- a token that was read

unnamed_seen : (unnamed : Bool) (name value other : List ℕ) → bytes_eq name other ≡ false
    → value_in (option_to_list (if unnamed then None else Some (record { name = name; value = value }))) other ≡ None
unnamed_seen true name value other differs = refl
unnamed_seen false name value other differs = cond-false (bytes_eq name other) (Some value) None differs

-- one of another name says nothing of this one
pub misnamed : (token : Token) (name : List ℕ) → bytes_eq token.name.now name ≡ false → value_in (option_to_list (token_seen token)) name ≡ None
misnamed token name differs = unnamed_seen (length token.value.now == 0) token.name.now (drop 1 token.value.now) name differs

-- nor does one without a value
pub unvalued : (token : Token) (name : List ℕ) → (length token.value.now == 0) ≡ true → value_in (option_to_list (token_seen token)) name ≡ None
unvalued token name none = ap (λ seen. value_in (option_to_list seen) name)
    (cond-true (length token.value.now == 0) None (Some (record { name = token.name.now; value = drop 1 token.value.now })) none)

seen_value : (unnamed : Bool) (name value other : List ℕ) → bytes_eq name other ≡ true
    → (if unnamed then None else Some value) ≡ value_in (option_to_list (if unnamed then None else Some (record { name = name; value = value }))) other
seen_value true name value other same = refl
seen_value false name value other same = sym (cond-true (bytes_eq name other) (Some value) None same)

-- one of this name says its value
pub well_named : (token : Token) (name : List ℕ) → bytes_eq token.name.now name ≡ true → slot_value token.value.now ≡ value_in (option_to_list (token_seen token)) name
well_named token name same = seen_value (length token.value.now == 0) token.name.now (drop 1 token.value.now) name same

-- ---- the first token of a name

value_some : (bytes : List ℕ) → (length bytes == 0) ≡ false → is_some (slot_value bytes) ≡ true
value_some bytes some = ap is_some (cond-false (length bytes == 0) None (Some (drop 1 bytes)) some)

pub value_none : (bytes : List ℕ) → (length bytes == 0) ≡ true → slot_value bytes ≡ None
value_none bytes none = cond-true (length bytes == 0) None (Some (drop 1 bytes)) none

-- behind a token of another name the search goes on
pub found_later : (rest name slot behind : List ℕ) → 0 < length rest → get_or rest 0 0 ≢ 32 → slot_value slot ≡ value_in (option_to_list (token_at rest)) name
    → (length slot == 0) ≡ true → tokens_of behind ≡ tokens_of (drop (token_len rest) rest) → field_of rest name ≡ field_of behind name
found_later rest name slot behind some isnt is empty same =
    field_at_token rest name some isnt
    ∙ ap (λ own. option_or own (field_of (drop (token_len rest) rest) name)) (sym is ∙ value_none slot empty)
    ∙ ap (λ tokens. value_in tokens name) (sym same)

-- ---- faults of fields without slots

word_is_sound : (word : Field) (found : Option (List ℕ)) → fault_of (may word value.Word) found ≡ None
word_is_sound word None = refl
word_is_sound word (Some text) = refl

sound_last : (raw : List ℕ) (rules : List Rule) (last : Rule) → fault_in raw last ≡ None → first_fault raw (rules ++ last ∷ []) ≡ first_fault raw rules
sound_last raw [] last sound = ap (λ fault. option_or fault None) sound
sound_last raw (rule ∷ rules) last sound = ap (option_or (fault_in raw rule)) (sound_last raw rules last sound)

-- the first fault is one of a field with a slot
pub slots_fault : (raw : List ℕ) (kind : Kind) → first_fault raw (rules_of kind) ≡ first_fault raw (slot_rules kind)
slots_fault raw kind.Path = sound_last raw (slot_rules kind.Path) (may field.Objtype value.Word) (word_is_sound field.Objtype (field_of raw (name_of field.Objtype)))
slots_fault raw kind.Syscall = refl
slots_fault raw kind.Cwd = refl
slots_fault raw kind.Sockaddr = refl
slots_fault raw kind.FdPair = refl
slots_fault raw kind.Mmap = refl
slots_fault raw kind.Proctitle = refl
slots_fault raw kind.Eoe = refl

-- ---- the home of a field

-- the place is one of the kind's table, and the name there is this one
abbrev IsHome : Option (Kind × ℕ) → List ℕ → Type 0
IsHome None name = ⊤
IsHome (Some (k, place)) name = (place < length (slot_rules k)) × (get_or (names_of (slot_rules k)) place [] ≡ name)

each_home : (f : Field) → IsHome (home f) (name_of f)
each_home field.Arch = (omega arith, refl)
each_home field.Syscall = (omega arith, refl)
each_home field.Success = (omega arith, refl)
each_home field.Exit = (omega arith, refl)
each_home field.A0 = (omega arith, refl)
each_home field.A1 = (omega arith, refl)
each_home field.A2 = (omega arith, refl)
each_home field.A3 = (omega arith, refl)
each_home field.Ppid = (omega arith, refl)
each_home field.Pid = (omega arith, refl)
each_home field.Exe = (omega arith, refl)
each_home field.Item = (omega arith, refl)
each_home field.Name = (omega arith, refl)
each_home field.Inode = (omega arith, refl)
each_home field.Dev = (omega arith, refl)
each_home field.Nametype = (omega arith, refl)
each_home field.Objtype = tt
each_home field.Cwd = (omega arith, refl)
each_home field.Saddr = (omega arith, refl)
each_home field.Fd0 = (omega arith, refl)
each_home field.Fd1 = (omega arith, refl)
each_home field.Fd = (omega arith, refl)

-- what was found at a field's home is the value of its first token
pub found_at_home : (f : Field) (k : Kind) (place : ℕ) (raw : List ℕ) (values : List (Option (List ℕ))) → home f ≡ Some (k, place) → AreFound (slot_rules k) raw values
    → get_or values place None ≡ field_of raw (name_of f)
found_at_home f k place raw values is there_found =
    let there : IsHome (Some (k, place)) (name_of f) = subst (λ at. IsHome at (name_of f)) is (each_home f) in
    there_found place there.0 ∙ ap (field_of raw) there.1

-- a text that isn't empty has a byte
pub is_some_byte : (text : List ℕ) → (length text == 0) ≡ false → 0 < length text
is_some_byte [] some = cc
is_some_byte (byte ∷ text) some = omega arith

-- ---- one slot

slot_at : (slots : List (Bor (List ℕ))) (place : ℕ) (d : Bor (List ℕ)) → place < length slots → get_or (held slots) place None ≡ slot_value (get_or slots place d).now
slot_at [] place d below = absurd (omega arith)
slot_at (slot ∷ slots) zero d below = refl
slot_at (slot ∷ slots) (suc place) d below = slot_at slots place d (omega arith)

-- each slot, one after the other
pub slots_listed : (slots : List (Bor (List ℕ))) (e : Bor (List ℕ)) → length slots ≡ 11
    → slot_value (get_or slots 0 e).now ∷ slot_value (get_or slots 1 e).now ∷ slot_value (get_or slots 2 e).now ∷ slot_value (get_or slots 3 e).now ∷
    slot_value (get_or slots 4 e).now ∷ slot_value (get_or slots 5 e).now ∷ slot_value (get_or slots 6 e).now ∷ slot_value (get_or slots 7 e).now ∷
    slot_value (get_or slots 8 e).now ∷ slot_value (get_or slots 9 e).now ∷ slot_value (get_or slots 10 e).now ∷ [] ≡ held slots
slots_listed [] empty size = absurd (omega (arith, size))
slots_listed (a ∷ []) empty size = absurd (omega (arith, size))
slots_listed (a ∷ b ∷ []) empty size = absurd (omega (arith, size))
slots_listed (a ∷ b ∷ c ∷ []) empty size = absurd (omega (arith, size))
slots_listed (a ∷ b ∷ c ∷ d ∷ []) empty size = absurd (omega (arith, size))
slots_listed (a ∷ b ∷ c ∷ d ∷ e ∷ []) empty size = absurd (omega (arith, size))
slots_listed (a ∷ b ∷ c ∷ d ∷ e ∷ f ∷ []) empty size = absurd (omega (arith, size))
slots_listed (a ∷ b ∷ c ∷ d ∷ e ∷ f ∷ g ∷ []) empty size = absurd (omega (arith, size))
slots_listed (a ∷ b ∷ c ∷ d ∷ e ∷ f ∷ g ∷ h ∷ []) empty size = absurd (omega (arith, size))
slots_listed (a ∷ b ∷ c ∷ d ∷ e ∷ f ∷ g ∷ h ∷ i ∷ []) empty size = absurd (omega (arith, size))
slots_listed (a ∷ b ∷ c ∷ d ∷ e ∷ f ∷ g ∷ h ∷ i ∷ j ∷ []) empty size = absurd (omega (arith, size))
slots_listed (a ∷ b ∷ c ∷ d ∷ e ∷ f ∷ g ∷ h ∷ i ∷ j ∷ k ∷ []) empty size = refl
slots_listed (a ∷ b ∷ c ∷ d ∷ e ∷ f ∷ g ∷ h ∷ i ∷ j ∷ k ∷ l ∷ rest) empty size = absurd (omega (arith, size))

-- an empty slot has no value
pub is_vacant : (slots : List (Bor (List ℕ))) (place : ℕ) (d : Bor (List ℕ)) → place < length slots → (length (get_or slots place d).now == 0) ≡ true
    → get_or (held slots) place None ≡ None
is_vacant slots place d within empty = slot_at slots place d within ∙ cond-true _ None (Some (drop 1 (get_or slots place d).now)) empty

-- another has one
pub is_full : (slots : List (Bor (List ℕ))) (place : ℕ) (d : Bor (List ℕ)) → place < length slots → (length (get_or slots place d).now == 0) ≡ false
    → is_some (get_or (held slots) place None) ≡ true
is_full slots place d within some = ap is_some (slot_at slots place d within ∙ cond-false _ None (Some (drop 1 (get_or slots place d).now)) some)

-- an empty slot holds what it is offered
pub offered_empty : (slots : List (Bor (List ℕ))) (place : ℕ) (d new : Bor (List ℕ)) → place < length slots → (length (get_or slots place d).now == 0) ≡ true
    → held (set slots place new) ≡ set (held slots) place (option_or (get_or (held slots) place None) (slot_value new.now))
offered_empty slots place d new within empty =
    map-set (λ (slot : Bor (List ℕ)). slot_value slot.now) slots place new
    ∙ ap (λ own. set (held slots) place (option_or own (slot_value new.now))) (sym (is_vacant slots place d within empty))

-- the name that a table asks for at a place
pub name_at : (rules : List Rule) (place : ℕ) (d : Rule) → place < length rules → name_of (get_or rules place d).field ≡ get_or (names_of rules) place []
name_at rules place d below = sym (get_or-map (λ (rule : Rule). name_of rule.field) rules place d [] below)

pub has_value : (found : Option ℕ) (here : ℕ) (bytes : List ℕ) → IfSome found (λ place. 0 < length bytes) → found ≡ Some here → 0 < length bytes
has_value None here bytes has is = absurd (none_some here is)
has_value (Some place) here bytes has is = has

-- each table has a slot for each of its places
pub slot_within : (kind : Kind) (slots : List (Bor (List ℕ))) (place : ℕ) → length slots ≡ 11 → place < length (slot_rules kind) → place < length (held slots)
slot_within kind slots place size below = omega (arith, below, few_rules kind, length-map slots (λ (slot : Bor (List ℕ)). slot_value slot.now), size)

-- a slot that was offered a value is full
pub offered_full : (slots : List (Option (List ℕ))) (here : ℕ) (bytes : List ℕ) (after : List (Option (List ℕ))) → here < length slots → 0 < length bytes
    → after ≡ set slots here (option_or (get_or slots here None) (slot_value bytes)) → is_some (get_or after here None) ≡ true
offered_full slots here bytes after within some is =
    ap is_some (ap (λ xs. get_or xs here None) is ∙ get_or-set_same slots here _ None within)
    ∙ some_second (get_or slots here None) (slot_value bytes) (value_some bytes (ne_eqb _ _ (omega (arith, some))))

-- one full place more
pub one_more : (slots : List (Option (List ℕ))) (count : ℕ) → Full count slots → is_some (get_or slots count None) ≡ true → Full (count + 1) slots
one_more slots count full here place below = elim (cases_eq place count) [
  | inl same ↦ ap (λ n. is_some (get_or slots n None)) same ∙ here
  | inr other ↦ full place (omega (arith, below, other))
]

-- as many places at the front are full as are counted
pub full_behind : (kind : Kind) (tokens : List NameValue) (before after : List (Option (List ℕ))) (full place count : ℕ)
    → AreFilled (slot_rules kind) tokens before after → is_some (get_or after place None) ≡ true → IsFullBehind kind full place count
    → Full full before → (full < length (slot_rules kind)) ⊎ (full ≡ 0) → Full count after × ((count < length (slot_rules kind)) ⊎ (count ≡ 0))
full_behind kind tokens before after full place count filled here is whole table =
    let within : full ≤ length (slot_rules kind) = elim table [ inl low ↦ omega (arith, low) | inr none ↦ omega (arith, none) ] in
    let stays = stays_full (slot_rules kind) tokens before after full within filled whole in
    elim is [
      | inl more ↦ (
        subst (λ n. Full n after) (sym more.1) (one_more after full stays (ap (λ n. is_some (get_or after n None)) (sym more.0.0) ∙ here)),
        inl (omega (arith, more.1, more.0.1)),
      )
      | inr same ↦ (subst (λ n. Full n after) (sym same) stays, subst (λ n. (n < length (slot_rules kind)) ⊎ (n ≡ 0)) (sym same) table)
    ]

-- ---- the end of the search

-- where nothing is left, what the slots have was found
pub found_at_end : (rules : List Rule) (raw : List ℕ) (slots : List (Option (List ℕ))) → Finding rules raw [] slots → AreFound rules raw slots
found_at_end rules raw slots finding place below = sym (or_none (get_or slots place None)) ∙ finding place below

nothing_left : (rest : List ℕ) → (length rest == 0) ≡ true → rest ≡ []
nothing_left rest none = nil_from_length rest (eqb-true (length rest) 0 none)

pub found_all : (rules : List Rule) (raw rest : List ℕ) (slots : List (Option (List ℕ))) → (length rest == 0) ≡ true → Finding rules raw rest slots → AreFound rules raw slots
found_all rules raw rest slots none finding = found_at_end rules raw slots (subst (λ text. Finding rules raw text slots) (nothing_left rest none) finding)

-- a table without fields asks for nothing
pub found_none : (rules : List Rule) (raw : List ℕ) (slots : List (Option (List ℕ))) (full : ℕ) → (full < length rules) ⊎ (full ≡ 0) → length rules ≤ full + 1
    → (full + 1 ≡ length rules → ⊥) → AreFound rules raw slots
found_none rules raw slots full table few only place below = elim table [
  | inl low ↦ absurd (only (omega (arith, few, low)))
  | inr none ↦ absurd (only (omega (arith, few, none, below)))
]

-- where no field is left but the last, its value alone is asked for
module _ (rules : List Rule) (raw rest : List ℕ) (before : List (Option (List ℕ))) (here : ℕ) (last : Option (List ℕ))
    (only : here + 1 ≡ length rules) (full : Full here before) (finding : Finding rules raw rest before)
    (is : last ≡ field_of rest (get_or (names_of rules) here [])) where
  -- a place before the last
  earlier : (place : ℕ) → place < length rules → place ≢ here → get_or before place None ≡ field_of raw (get_or (names_of rules) place [])
  earlier place below other = keeps_own (get_or before place None) _ (full place (omega (arith, below, other, only))) ∙ finding place below

  found_here : option_or (get_or before here None) last ≡ field_of raw (get_or (names_of rules) here [])
  found_here = ap (option_or (get_or before here None)) is ∙ finding here (omega (arith, only))

  pub last_found : (after : List (Option (List ℕ))) → here < length before → after ≡ set before here (option_or (get_or before here None) last) → AreFound rules raw after
  last_found after within filled place below = elim (cases_eq place here) [
    | inl same ↦
        ap (λ xs. get_or xs place None) filled ∙ ap (λ n. get_or (set before here (option_or (get_or before here None) last)) n None) same
        ∙ get_or-set_same before here _ None within ∙ found_here ∙ ap (λ n. field_of raw (get_or (names_of rules) n [])) (sym same)
    | inr other ↦ ap (λ xs. get_or xs place None) filled ∙ get_or-set_other before here place _ None other ∙ earlier place below other
  ]

  pub last_missing : last ≡ None → AreFound rules raw before
  last_missing none place below = elim (cases_eq place here) [
    | inl same ↦
        ap (λ n. get_or before n None) same ∙ sym (ap (option_or (get_or before here None)) none ∙ or_none (get_or before here None))
        ∙ found_here ∙ ap (λ n. field_of raw (get_or (names_of rules) n [])) (sym same)
    | inr other ↦ earlier place below other
  ]

-- where each place is full, the rest changes nothing
pub found_full : (rules : List Rule) (raw rest : List ℕ) (slots : List (Option (List ℕ))) → Full (length rules) slots → Finding rules raw rest slots → AreFound rules raw slots
found_full rules raw rest slots full finding place below = keeps_own (get_or slots place None) _ (full place below) ∙ finding place below
