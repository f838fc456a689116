-- A minor line says nothing that changes what is known, unless its event's call opened a descriptor.
use Rattle.std.proofs.Common.{◌≡◌, ◌∙◌, sym, refl, ap, subst, ℕ, Bool, true, false, List, ◌++◌, Option, None, Some, length, drop, arith, nat_eq, nat_lt, if◌then◌else◌}
use Rattle.std.specs.Prelude.{⊤, ◌||◌, codes, is_some}
use Rattle.std.specs.List.{list_all, starts_with}
use Rattle.std.specs.Option.{option_and_then}
use Rattle.std.specs.Str.{bytes_eq}
use Rattle.std.proofs.lemmas.Slice.Eq.{starts_is}
use Rattle.std.proofs.lemmas.Bool.Decides.{Decides-eqb, Decides-ltb, nat_tests}
use Rattle.audit_lex.specs.History.{is_long}
use Rattle.audit_lex.specs.Header.{Head, head_from, head_stamped, head_typed, head_of, typed_of, raw_of}
use Rattle.audit_lex.specs.Header as header
use Rattle.audit_lex.specs.FieldTable.{kind_of, rules_of}
use Rattle.audit_lex.specs.LineClass.{Class, Used, Other, Blank, Malformed, is_blank_byte, first_fault, fields_class, kind_class, head_class, text_class, class_of}
use Rattle.audit_lex.specs.LineFields.{field_in_line}
use Rattle.audit_lex.specs.declared.header.EventKey.{EventKey}
use Rattle.audit_lex.specs.declared.faults.LineFault.{LineFault}
use Rattle.audit_lex.specs.declared.fields.Kind.{Kind}
use Rattle.audit_lex.specs.declared.fields.Kind.TheVariants as kind
use Rattle.order_calls.specs.declared.deed.Deed.{Deed}
use Rattle.order_calls.specs.declared.deed.Deed.TheVariants as deed
use Rattle.order_calls.specs.Deeds.{Event, Said, is_event, told, named}
use Rattle.order_calls.specs.Known.{Known, opened_at, held_at, is_file_at, StandsFor}
use Rattle.order_calls.specs.Lines.{Files, has_file_mode, path_deed, call_of_class, deed_of_class, deed_of, HearsIt, HearsLine, saying}
use Rattle.order_calls.specs.Minor.{is_minor}
use Rattle.order_calls.proofs.FileLemmas.{heard}

-- ---- the class of a line by its type

-- a line of this class is a used one of this kind, or malformed
abbrev pub OfKind : Kind → Class → Type 0
OfKind k (Used key of) = of ≡ k
OfKind k (Malformed fault) = ⊤
OfKind k _ = ⊥

of_fields : (k : Kind) (head : Head) (found : Option LineFault) → OfKind k (fields_class head k found)
of_fields k head None = refl
of_fields k head (Some fault) = tt

by_raw : (k : Kind) (name : List ℕ) (key : EventKey) (raw : Option (List ℕ)) → ((head : Head) → head.name ≡ name → OfKind k (kind_class head (kind_of head.name)))
    → OfKind k (head_class (head_from name key raw))
by_raw k name key None of = tt
by_raw k name key (Some raw) of = of (record { name = name; key = key; raw = raw }) refl

by_key : (k : Kind) (name : List ℕ) (parts : Option (EventKey × List ℕ)) → ((head : Head) → head.name ≡ name → OfKind k (kind_class head (kind_of head.name)))
    → OfKind k (head_class (option_and_then (head_stamped name) parts))
by_key k name None of = tt
by_key k name (Some (key, rest)) of = by_raw k name key (raw_of rest) of

by_type : (k : Kind) (line name text : List ℕ) → typed_of line ≡ Some (name, text)
    → ((head : Head) → head.name ≡ name → OfKind k (kind_class head (kind_of head.name))) → OfKind k (head_class (head_of line))
by_type k line name text is of =
    subst (λ (o : Option (List ℕ × List ℕ)). OfKind k (head_class (option_and_then head_typed o))) (sym is) (by_key k name (header.stamp_of text) of)

by_len : (k : Kind) (line : List ℕ) (long : Bool) (fault : LineFault) → OfKind k (text_class line) → OfKind k (if long then Malformed fault else text_class line)
by_len k line true fault of = tt
by_len k line false fault of = of

by_text : (k : Kind) (line : List ℕ) → list_all is_blank_byte line ≡ false → OfKind k (head_class (head_of line)) → OfKind k (class_of 65536 line)
by_text k line isnt of = by_len k line (is_long 65536 line) _
    (subst (λ (b : Bool). OfKind k (if b then Blank else head_class (head_of line))) (sym isnt) of)

by_name : (k : Kind) (name : List ℕ) → kind_of name ≡ Some k → (head : Head) → head.name ≡ name → OfKind k (kind_class head (kind_of head.name))
by_name k name of head is = subst (λ (o : Option Kind). OfKind k (kind_class head o)) (sym (ap kind_of is ∙ of)) (of_fields k head (first_fault head.raw (rules_of k)))

kind_line : (k : Kind) (line name rest : List ℕ) → list_all is_blank_byte line ≡ false → typed_of line ≡ Some (name, rest) → kind_of name ≡ Some k
    → OfKind k (class_of 65536 line)
kind_line k line name rest isnt typed of = by_text k line isnt (by_type k line name rest typed (by_name k name of))

some_if : (b : Bool) (parts : List ℕ × List ℕ) → b ≡ true → (if b then Some parts else None) ≡ Some parts
some_if true parts is = refl
some_if false parts is = absurd (cc is)

title_len : (rest : List ℕ) → nat_lt 9 (length (codes "PROCTITLE " ++ rest)) ≡ true
title_len rest = (Decides-ltb 9 (length (codes "PROCTITLE " ++ rest))).1 (omega arith)

path_len : (rest : List ℕ) → nat_lt 4 (length (codes "PATH " ++ rest)) ≡ true
path_len rest = (Decides-ltb 4 (length (codes "PATH " ++ rest))).1 (omega arith)

end_len : (rest : List ℕ) → nat_lt 3 (length (codes "EOE " ++ rest)) ≡ true
end_len rest = (Decides-ltb 3 (length (codes "EOE " ++ rest))).1 (omega arith)

cwd_len : (rest : List ℕ) → nat_lt 3 (length (codes "CWD " ++ rest)) ≡ true
cwd_len rest = (Decides-ltb 3 (length (codes "CWD " ++ rest))).1 (omega arith)

title_typed : (rest : List ℕ) → typed_of (codes "type=PROCTITLE " ++ rest) ≡ Some (codes "PROCTITLE", rest)
title_typed rest = ap (option_and_then header.typed) (some_if (nat_lt 9 (length (codes "PROCTITLE " ++ rest))) (codes "PROCTITLE", rest) (title_len rest))

path_typed : (rest : List ℕ) → typed_of (codes "type=PATH " ++ rest) ≡ Some (codes "PATH", rest)
path_typed rest = ap (option_and_then header.typed) (some_if (nat_lt 4 (length (codes "PATH " ++ rest))) (codes "PATH", rest) (path_len rest))

end_typed : (rest : List ℕ) → typed_of (codes "type=EOE " ++ rest) ≡ Some (codes "EOE", rest)
end_typed rest = ap (option_and_then header.typed) (some_if (nat_lt 3 (length (codes "EOE " ++ rest))) (codes "EOE", rest) (end_len rest))

cwd_typed : (rest : List ℕ) → typed_of (codes "type=CWD " ++ rest) ≡ Some (codes "CWD", rest)
cwd_typed rest = ap (option_and_then header.typed) (some_if (nat_lt 3 (length (codes "CWD " ++ rest))) (codes "CWD", rest) (cwd_len rest))

title_line : (line rest : List ℕ) → line ≡ codes "type=PROCTITLE " ++ rest → OfKind kind.Proctitle (class_of 65536 line)
title_line line rest is = kind_line kind.Proctitle line (codes "PROCTITLE") rest (ap (list_all is_blank_byte) is) (ap typed_of is ∙ title_typed rest) refl

path_line : (line rest : List ℕ) → line ≡ codes "type=PATH " ++ rest → OfKind kind.Path (class_of 65536 line)
path_line line rest is = kind_line kind.Path line (codes "PATH") rest (ap (list_all is_blank_byte) is) (ap typed_of is ∙ path_typed rest) refl

end_line : (line rest : List ℕ) → line ≡ codes "type=EOE " ++ rest → OfKind kind.Eoe (class_of 65536 line)
end_line line rest is = kind_line kind.Eoe line (codes "EOE") rest (ap (list_all is_blank_byte) is) (ap typed_of is ∙ end_typed rest) refl

cwd_line : (line rest : List ℕ) → line ≡ codes "type=CWD " ++ rest → OfKind kind.Cwd (class_of 65536 line)
cwd_line line rest is = kind_line kind.Cwd line (codes "CWD") rest (ap (list_all is_blank_byte) is) (ap typed_of is ∙ cwd_typed rest) refl

begins : (line front : List ℕ) → starts_with nat_eq line front ≡ true → line ≡ front ++ drop (length front) line
begins line front is = (starts_is Decides-eqb line front (starts_with nat_eq line front) refl).0 is

pub begins_path : (line : List ℕ) → starts_with nat_eq line (codes "type=PATH ") ≡ true → OfKind kind.Path (class_of 65536 line)
begins_path line is = path_line line (drop (length (codes "type=PATH ")) line) (begins line (codes "type=PATH ") is)

-- ---- what a minor line says

-- what is said is of what the event's call opened, if anything is said
abbrev OfOpen : Option Deed → Type 0
OfOpen None = ⊤
OfOpen (Some (deed.Names file)) = ⊤
OfOpen (Some deed.Ends) = ⊤
OfOpen (Some said) = ⊥

-- a line of this class is no record of a call, and says no more than that
record SaysLittle (line : List ℕ) (class : Class) : Type 0 where
  call : (files : Files) → call_of_class files line class ≡ None
  deed : OfOpen (deed_of_class line class)

says_by : (line : List ℕ) (k : Kind) → ((key : EventKey) → SaysLittle line (Used key k)) → (class : Class) → OfKind k class → SaysLittle line class
says_by line k says (Used key of) is = subst (λ (o : Kind). SaysLittle line (Used key o)) (sym is) (says key)
says_by line k says Other of = absurd of
says_by line k says Blank of = absurd of
says_by line k says (Malformed fault) of = record { call = λ files. refl; deed = tt }

names : (b file : Bool) → OfOpen (if b then Some (deed.Names file) else None)
names true file = tt
names false file = tt

of_path : (line : List ℕ) (name : Option (List ℕ)) → OfOpen (path_deed line name)
of_path line None = tt
of_path line (Some name) = names (bytes_eq name (codes "NORMAL") || bytes_eq name (codes "CREATE")) (has_file_mode line)

title_says : (line rest : List ℕ) → line ≡ codes "type=PROCTITLE " ++ rest → SaysLittle line (class_of 65536 line)
title_says line rest is = says_by line kind.Proctitle (λ key. record { call = λ files. refl; deed = tt }) (class_of 65536 line) (title_line line rest is)

path_says : (line rest : List ℕ) → line ≡ codes "type=PATH " ++ rest → SaysLittle line (class_of 65536 line)
path_says line rest is =
    says_by line kind.Path (λ key. record { call = λ files. refl; deed = of_path line (field_in_line line (codes "nametype")) }) (class_of 65536 line)
    (path_line line rest is)

end_says : (line rest : List ℕ) → line ≡ codes "type=EOE " ++ rest → SaysLittle line (class_of 65536 line)
end_says line rest is = says_by line kind.Eoe (λ key. record { call = λ files. refl; deed = tt }) (class_of 65536 line) (end_line line rest is)

cwd_says : (line rest : List ℕ) → line ≡ codes "type=CWD " ++ rest → SaysLittle line (class_of 65536 line)
cwd_says line rest is = says_by line kind.Cwd (λ key. record { call = λ files. refl; deed = tt }) (class_of 65536 line) (cwd_line line rest is)

-- the line begins in one of the four ways
by_begin : (a b c d : Bool) (line : List ℕ) → (a ≡ true → SaysLittle line (class_of 65536 line)) → (b ≡ true → SaysLittle line (class_of 65536 line))
    → (c ≡ true → SaysLittle line (class_of 65536 line)) → (d ≡ true → SaysLittle line (class_of 65536 line)) → (a || (b || (c || d))) ≡ true
    → SaysLittle line (class_of 65536 line)
by_begin true b c d line w x y z is = w refl
by_begin false true c d line w x y z is = x refl
by_begin false false true d line w x y z is = y refl
by_begin false false false d line w x y z is = z is

minor_says : (line : List ℕ) → is_minor line ≡ true → SaysLittle line (class_of 65536 line)
minor_says line minor = by_begin (starts_with nat_eq line (codes "type=PROCTITLE ")) (starts_with nat_eq line (codes "type=PATH "))
    (starts_with nat_eq line (codes "type=CWD ")) (starts_with nat_eq line (codes "type=EOE ")) line
    (λ is. title_says line (drop (length (codes "type=PROCTITLE ")) line) (begins line (codes "type=PROCTITLE ") is))
    (λ is. path_says line (drop (length (codes "type=PATH ")) line) (begins line (codes "type=PATH ") is))
    (λ is. cwd_says line (drop (length (codes "type=CWD ")) line) (begins line (codes "type=CWD ") is))
    (λ is. end_says line (drop (length (codes "type=EOE ")) line) (begins line (codes "type=EOE ") is))
    minor

none_of : (found : Option (ℕ × ℕ)) → is_some found ≡ false → found ≡ None
none_of None is = refl
none_of (Some f) is = absurd (cc is)

one_event : (a b : Event) → is_event a b ≡ true → a ≡ b
one_event (p, q) (r, s) same = grind (arith, nat_tests, same)

-- what isn't there needn't be left out
left_out : (b : Bool) (before : Option (ℕ × ℕ)) → (b ≡ true → before ≡ None) → before ≡ (if b then None else before)
left_out true before none = none refl
left_out false before none = refl

left : (known : Known) (event other : Event) → opened_at known event ≡ None → opened_at known other ≡ (if is_event event other then None else opened_at known other)
left known event other none = left_out (is_event event other) (opened_at known other)
    (λ same. ap (opened_at known) (sym (one_event event other same)) ∙ none)

little_heard : (known : Known) (event : Event) (said : Option Deed) → OfOpen said → opened_at known event ≡ None → HearsIt known known event said
little_heard known event None little none = refl
little_heard known event (Some (deed.Names file)) little none = record {
  opens = λ other. left known event other none;
  held = λ p n. ap (λ (o : Option (ℕ × ℕ)). named o (told event.0 file) p n (held_at known p n)) (sym none);
}
little_heard known event (Some deed.Ends) little none = record { opens = λ other. left known event other none; held = λ p n. refl }
little_heard known event (Some (deed.Opens pid fd)) little none = absurd little
little_heard known event (Some (deed.Closes pid fd)) little none = absurd little
little_heard known event (Some (deed.ClosesRange pid first last)) little none = absurd little
little_heard known event (Some (deed.Copies pid from to)) little none = absurd little
little_heard known event (Some (deed.Runs pid)) little none = absurd little
little_heard known event (Some (deed.Begins pid)) little none = absurd little
little_heard known event (Some (deed.Forks pid parent child)) little none = absurd little

pub minor_heard : (known : Known) (line : List ℕ) (event : Event) → is_minor line ≡ true → is_some (opened_at known event) ≡ false
    → HearsLine known known line event None
minor_heard known line event minor none = record {
  is = sym ((minor_says line minor).call (is_file_at known));
  hears = little_heard known event (deed_of line) (minor_says line minor).deed (none_of (opened_at known event) none);
}

said_stands : (known : Known) (event : Event) (said : Option Deed) (before : List Said) → HearsIt known known event said → StandsFor known before
    → StandsFor known (saying event said ++ before)
said_stands known event None before hears stands = stands
said_stands known event (Some said) before hears stands = heard known known event said before hears stands

pub minor_stands : (known : Known) (line : List ℕ) (event : Event) (before : List Said) → is_minor line ≡ true → is_some (opened_at known event) ≡ false
    → StandsFor known before → StandsFor known (saying event (deed_of line) ++ before)
minor_stands known line event before minor none stands =
    said_stands known event (deed_of line) before (little_heard known event (deed_of line) (minor_says line minor).deed (none_of (opened_at known event) none)) stands
