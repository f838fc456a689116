-- A quiet line says nothing, and nothing becomes of it.
use Rattle.std.proofs.Common.{◌≡◌, ◌∙◌, sym, refl, ap, subst, ℕ, Bool, true, false, List, ◌++◌, Option, None, Some, length, drop, arith, nat_eq, nat_lt, if◌then◌else◌}
use Rattle.std.specs.Prelude.{◌||◌, codes}
use Rattle.std.specs.List.{list_all, starts_with}
use Rattle.std.specs.Option.{option_and_then}
use Rattle.std.proofs.lemmas.Slice.Eq.{starts_is}
use Rattle.std.proofs.lemmas.Bool.Decides.{Decides-eqb, Decides-ltb}
use Rattle.audit_lex.specs.History.{is_long}
use Rattle.audit_lex.specs.Header.{Head, head_from, head_stamped, head_typed, head_of, typed_of, raw_of}
use Rattle.audit_lex.specs.Header as header
use Rattle.audit_lex.specs.FieldTable.{kind_of, rules_of}
use Rattle.audit_lex.specs.LineClass.{Class, Other, Blank, Malformed, is_blank_byte, first_fault, fields_class, kind_class, head_class, text_class}
use Rattle.audit_lex.specs.declared.header.EventKey.{EventKey}
use Rattle.audit_lex.specs.declared.faults.LineFault.{LineFault}
use Rattle.audit_lex.specs.declared.fields.Kind.TheVariants as kind
use Rattle.order_rules.specs.declared.settings.Settings.{Settings}
use Rattle.order_rules.specs.declared.under.Under.{Under}
use Rattle.order_rules.specs.Deeds.{Said, under_in}
use Rattle.order_rules.specs.Known.{Known, StandsFor}
use Rattle.order_rules.specs.Rewrites.{Ends, ends_in, rewrite_class, class_in, said_after, rewritten}
use Rattle.order_rules.specs.Quiet.{is_quiet}

-- nothing is said by a line of this class, and nothing becomes of it
record SaysNothing (line : List ℕ) (class : Class) : Type 0 where
  rewrites : (settings : Settings) (under : Option Under) (ends : Ends) → rewrite_class settings under ends line class ≡ None
  said : (before : List Said) → said_after line class before ≡ before

malformed : (line : List ℕ) (fault : LineFault) → SaysNothing line (Malformed fault)
malformed line fault = record { rewrites = λ settings under ends. refl; said = λ before. refl }

title : (line : List ℕ) (head : Head) (found : Option LineFault) → SaysNothing line (fields_class head kind.Proctitle found)
title line head None = record { rewrites = λ settings under ends. refl; said = λ before. refl }
title line head (Some fault) = malformed line fault

ending : (line : List ℕ) (head : Head) (found : Option LineFault) → SaysNothing line (fields_class head kind.Eoe found)
ending line head None = record { rewrites = λ settings under ends. refl; said = λ before. refl }
ending line head (Some fault) = malformed line fault

other : (line : List ℕ) → SaysNothing line Other
other line = record { rewrites = λ settings under ends. refl; said = λ before. refl }

by_raw : (line name : List ℕ) (key : EventKey) (raw : Option (List ℕ)) → ((head : Head) → head.name ≡ name → SaysNothing line (kind_class head (kind_of head.name)))
    → SaysNothing line (head_class (head_from name key raw))
by_raw line name key None says = malformed line _
by_raw line name key (Some raw) says = says (record { name = name; key = key; raw = raw }) refl

by_key : (line name : List ℕ) (parts : Option (EventKey × List ℕ)) → ((head : Head) → head.name ≡ name → SaysNothing line (kind_class head (kind_of head.name)))
    → SaysNothing line (head_class (option_and_then (head_stamped name) parts))
by_key line name None says = malformed line _
by_key line name (Some (key, rest)) says = by_raw line name key (raw_of rest) says

by_type : (line name text : List ℕ) → typed_of line ≡ Some (name, text)
    → ((head : Head) → head.name ≡ name → SaysNothing line (kind_class head (kind_of head.name))) → SaysNothing line (head_class (head_of line))
by_type line name text is says =
    subst (λ (o : Option (List ℕ × List ℕ)). SaysNothing line (head_class (option_and_then head_typed o))) (sym is)
    (by_key line name (header.stamp_of text) says)

by_len : (line : List ℕ) (long : Bool) (fault : LineFault) → SaysNothing line (text_class line) → SaysNothing line (if long then Malformed fault else text_class line)
by_len line true fault says = malformed line fault
by_len line false fault says = says

by_text : (line : List ℕ) → list_all is_blank_byte line ≡ false → SaysNothing line (head_class (head_of line)) → SaysNothing line (class_in line)
by_text line isnt says = by_len line (is_long 65536 line) _
    (subst (λ (b : Bool). SaysNothing line (if b then Blank else head_class (head_of line))) (sym isnt) says)

some_if : (b : Bool) (parts : List ℕ × List ℕ) → b ≡ true → (if b then Some parts else None) ≡ Some parts
some_if true parts is = refl
some_if false parts is = absurd (cc is)

title_len : (rest : List ℕ) → nat_lt 9 (length (codes "PROCTITLE " ++ rest)) ≡ true
title_len rest = (Decides-ltb 9 (length (codes "PROCTITLE " ++ rest))).1 (omega arith)

end_len : (rest : List ℕ) → nat_lt 3 (length (codes "EOE " ++ rest)) ≡ true
end_len rest = (Decides-ltb 3 (length (codes "EOE " ++ rest))).1 (omega arith)

words_len : (rest : List ℕ) → nat_lt 6 (length (codes "EXECVE " ++ rest)) ≡ true
words_len rest = (Decides-ltb 6 (length (codes "EXECVE " ++ rest))).1 (omega arith)

title_typed : (rest : List ℕ) → typed_of (codes "type=PROCTITLE " ++ rest) ≡ Some (codes "PROCTITLE", rest)
title_typed rest = ap (option_and_then header.typed) (some_if (nat_lt 9 (length (codes "PROCTITLE " ++ rest))) (codes "PROCTITLE", rest) (title_len rest))

end_typed : (rest : List ℕ) → typed_of (codes "type=EOE " ++ rest) ≡ Some (codes "EOE", rest)
end_typed rest = ap (option_and_then header.typed) (some_if (nat_lt 3 (length (codes "EOE " ++ rest))) (codes "EOE", rest) (end_len rest))

words_typed : (rest : List ℕ) → typed_of (codes "type=EXECVE " ++ rest) ≡ Some (codes "EXECVE", rest)
words_typed rest = ap (option_and_then header.typed) (some_if (nat_lt 6 (length (codes "EXECVE " ++ rest))) (codes "EXECVE", rest) (words_len rest))

title_says : (line : List ℕ) (head : Head) → head.name ≡ codes "PROCTITLE" → SaysNothing line (kind_class head (kind_of head.name))
title_says line head is = subst (λ (n : List ℕ). SaysNothing line (kind_class head (kind_of n))) (sym is)
    (title line head (first_fault head.raw (rules_of kind.Proctitle)))

end_says : (line : List ℕ) (head : Head) → head.name ≡ codes "EOE" → SaysNothing line (kind_class head (kind_of head.name))
end_says line head is = subst (λ (n : List ℕ). SaysNothing line (kind_class head (kind_of n))) (sym is)
    (ending line head (first_fault head.raw (rules_of kind.Eoe)))

words_say : (line : List ℕ) (head : Head) → head.name ≡ codes "EXECVE" → SaysNothing line (kind_class head (kind_of head.name))
words_say line head is = subst (λ (n : List ℕ). SaysNothing line (kind_class head (kind_of n))) (sym is) (other line)

title_line : (line rest : List ℕ) → line ≡ codes "type=PROCTITLE " ++ rest → SaysNothing line (class_in line)
title_line line rest is = by_text line (ap (list_all is_blank_byte) is)
    (by_type line (codes "PROCTITLE") rest (ap typed_of is ∙ title_typed rest) (title_says line))

end_of_event : (line rest : List ℕ) → line ≡ codes "type=EOE " ++ rest → SaysNothing line (class_in line)
end_of_event line rest is = by_text line (ap (list_all is_blank_byte) is)
    (by_type line (codes "EOE") rest (ap typed_of is ∙ end_typed rest) (end_says line))

words_line : (line rest : List ℕ) → line ≡ codes "type=EXECVE " ++ rest → SaysNothing line (class_in line)
words_line line rest is = by_text line (ap (list_all is_blank_byte) is)
    (by_type line (codes "EXECVE") rest (ap typed_of is ∙ words_typed rest) (words_say line))

begins : (line front : List ℕ) → starts_with nat_eq line front ≡ true → line ≡ front ++ drop (length front) line
begins line front is = (starts_is Decides-eqb line front (starts_with nat_eq line front) refl).0 is

-- the line begins in one of the three ways
by_begin : (a b c : Bool) (line : List ℕ) → (a ≡ true → SaysNothing line (class_in line)) → (b ≡ true → SaysNothing line (class_in line))
    → (c ≡ true → SaysNothing line (class_in line)) → (a || (b || c)) ≡ true → SaysNothing line (class_in line)
by_begin true b c line x y z is = x refl
by_begin false true c line x y z is = y refl
by_begin false false c line x y z is = z is

quiet_says : (line : List ℕ) → is_quiet line ≡ true → SaysNothing line (class_in line)
quiet_says line quiet = by_begin (starts_with nat_eq line (codes "type=PROCTITLE ")) (starts_with nat_eq line (codes "type=EOE "))
    (starts_with nat_eq line (codes "type=EXECVE ")) line
    (λ is. title_line line (drop (length (codes "type=PROCTITLE ")) line) (begins line (codes "type=PROCTITLE ") is))
    (λ is. end_of_event line (drop (length (codes "type=EOE ")) line) (begins line (codes "type=EOE ") is))
    (λ is. words_line line (drop (length (codes "type=EXECVE ")) line) (begins line (codes "type=EXECVE ") is))
    quiet

pub quiet_rewritten : (settings : Settings) (said : List Said) (line : List ℕ) → is_quiet line ≡ true → None ≡ rewritten settings said line
quiet_rewritten settings said line quiet = sym ((quiet_says line quiet).rewrites settings (under_in said) (ends_in said))

pub quiet_said : (known : Known) (said : List Said) (line : List ℕ) → is_quiet line ≡ true → StandsFor known said
    → StandsFor known (said_after line (class_in line) said)
quiet_said known said line quiet stands = subst (StandsFor known) (sym ((quiet_says line quiet).said said)) stands
