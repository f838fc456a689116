-- What is replaced stands after the stamp, and nothing is without a switch.
use Rattle.std.proofs.Common.{◌≡◌, ◌≤◌, ◌∙◌, ◌+◌, ◌-◌, ◌==◌, arith, sym, refl, ap, subst, ℕ, Bool, true, false, List, [], ◌∷◌, Option, None, Some, option_map, length, if◌then◌else◌}
use Rattle.std.specs.Prelude.{codes}
use Rattle.std.specs.Option.{option_and_then}
use Rattle.std.proofs.lemmas.Option.{same_Some}
use Rattle.hex.specs.Hex.{encode_upper}
use Rattle.audit_lex.specs.LineClass.{Class, Used, Other, Blank, Malformed}
use Rattle.audit_lex.specs.declared.header.EventKey.{EventKey}
use Rattle.audit_lex.specs.declared.fields.Kind.{Kind}
use Rattle.audit_lex.specs.declared.fields.Kind.TheVariants as kind
use Rattle.order_text.specs.Cut.{Parts, with_byte, first_cut}
use Rattle.order_text.specs.Stamp.{Stamp, stamp_of}
use Rattle.order_text.specs.declared.rewrite.Rewrite.{Rewrite}
use Rattle.order_rules.specs.declared.settings.Settings.{Settings}
use Rattle.order_rules.specs.declared.under.Under.{Under}
use Rattle.order_rules.specs.Deeds.{directory_in, of_event, under_in}
use Rattle.order_lines.specs.declared.own.Own.{Own}
use Rattle.order_rules.specs.declared.call.Act.{Act}
use Rattle.order_rules.specs.declared.call.Act.TheVariants as act
use Rattle.order_rules.specs.declared.call.Call.{Call}
use Rattle.order_rules.specs.Copies.{is_of, words_of, copied_with, copy_stamped, copy_line, open_as, rewrite_call}
use Rattle.order_rules.specs.Lines.{bytes_in, call_in}
use Rattle.order_rules.specs.Laws.{FitsLine}
use Rattle.order_rules.specs.Texts.{before_cut, before_byte, value_of, written_text, rewrite_from, rewrite_rest, rewrite_line}
use Rattle.order_rules.specs.Rewrites.{Ends, at_directory, at_address, at_end, address_at, owned_in, rewrite_kind, rewrite_class, ends_in, class_in, rewritten}
use Rattle.order_rules.specs.Rules.{said_until, said_of, rewrite_stamped, rewrite_of}
use Rattle.order_place.specs.Places.{node_of}

len_step : (blank : Bool) (b : ℕ) (text : List ℕ) (cut : Option Parts) (x y : List ℕ)
    → ((u v : List ℕ) → cut ≡ Some (u, v) → length u + 1 + length v ≡ length text)
    → (if blank then Some ([], text) else option_map (with_byte b) cut) ≡ Some (x, y) → length x + 1 + length y ≡ length (b ∷ text)
len_step true b text cut x y ih e =
    let first = ap (λ (p : Parts). length p.0) (same_Some _ _ e) in
    let second = ap (λ (p : Parts). length p.1) (same_Some _ _ e) in
    omega (arith, first, second)
len_step false b text None x y ih e = absurd (cc e)
len_step false b text (Some (u, v)) x y ih e =
    let first = ap (λ (p : Parts). length p.0) (same_Some _ _ e) in
    let second = ap (λ (p : Parts). length p.1) (same_Some _ _ e) in
    let less = ih u v refl in
    omega (arith, first, second, less)

cut_len : (byte : ℕ) (text x y : List ℕ) → first_cut byte text ≡ Some (x, y) → length x + 1 + length y ≡ length text
cut_len byte [] x y e = absurd (cc e)
cut_len byte (b ∷ text) x y e = len_step (b == byte) b text (first_cut byte text) x y (λ u v is. cut_len byte text u v is) e

before_len : (byte : ℕ) (text : List ℕ) (cut : Option Parts) → first_cut byte text ≡ cut → length (before_cut text cut) ≤ length text
before_len byte text None e = omega arith
before_len byte text (Some (x, y)) e = let whole = cut_len byte text x y e in omega (arith, whole)

value_len : (text : List ℕ) → length (value_of text) ≤ length text
value_len text =
    let first = before_len 32 text (first_cut 32 text) refl in
    let second = before_len 29 (before_byte 32 text) (first_cut 29 (before_byte 32 text)) refl in
    omega (arith, first, second)

tested : {A : Type 0} (b : Bool) (x y : A) → (if b then Some x else None) ≡ Some y → x ≡ y
tested true x y e = same_Some _ _ e
tested false x y e = absurd (cc e)

rest_fits : (name value : List ℕ) (s : Stamp) (cut : Option Parts) (made : Rewrite) → first_cut 61 s.rest ≡ cut
    → option_and_then (rewrite_from name value) cut ≡ Some made → made.len ≤ length s.rest
rest_fits name value s None made e is = absurd (cc is)
rest_fits name value s (Some (x, y)) made e is =
    let len : length x + 1 + length (value_of y) ≡ made.len = ap (λ (w : Rewrite). w.len) (tested _ _ _ is) in
    let whole = cut_len 61 s.rest x y e in
    let less = value_len y in
    omega (arith, len, whole, less)

pub line_fits : (name value line : List ℕ) (made : Rewrite) → rewrite_line name value line ≡ Some made → FitsLine line made
line_fits name value line made is = record {
  fits = λ s stamped. rest_fits name value s (first_cut 61 s.rest) made refl
      (sym (ap (option_and_then (rewrite_rest name value)) stamped) ∙ is);
}

directory_fits : (line : List ℕ) (path : Option (List ℕ)) (made : Rewrite) → at_directory line path ≡ Some made → FitsLine line made
directory_fits line None made is = absurd (cc is)
directory_fits line (Some path) made is = line_fits (codes "cwd") (written_text path) line made is

address_fits : (line : List ℕ) (address : Option (List ℕ)) (made : Rewrite) → at_address line address ≡ Some made → FitsLine line made
address_fits line None made is = absurd (cc is)
address_fits line (Some address) made is = line_fits (codes "saddr") (encode_upper address) line made is

end_fits : (apart : Bool) (ends : Ends) (under : Option Under) (event : EventKey) (line : List ℕ) (bytes : Option (List ℕ)) (made : Rewrite)
    → at_end apart ends under event line bytes ≡ Some made → FitsLine line made
end_fits apart ends under event line None made is = absurd (cc is)
end_fits apart ends under event line (Some bytes) made is = address_fits line (address_at apart ends under event bytes) made is

copied_fits : (fd : ℕ) (stays : Bool) (rest : List ℕ) (words : Option Parts) (made : Rewrite)
    → option_map (copied_with fd stays rest) words ≡ Some made → made.len ≤ length rest
copied_fits fd stays rest None made is = absurd (cc is)
copied_fits fd stays rest (Some words) made is =
    let len : length rest - length words.1 - 1 ≡ made.len = ap (λ (w : Rewrite). w.len) (same_Some _ _ is) in
    omega (arith, len)

copy_fits : (fd : ℕ) (stays : Bool) (line : List ℕ) (made : Rewrite) → copy_line fd stays line ≡ Some made → FitsLine line made
copy_fits fd stays line made is = record {
  fits = λ s stamped. copied_fits fd stays s.rest (words_of s.rest) made (sym (ap (option_and_then (copy_stamped fd stays)) stamped) ∙ is);
}

if_some : {A : Type 0} (b : Bool) (x : Option A) (y : A) → (if b then x else None) ≡ Some y → x ≡ Some y
if_some true x y e = e
if_some false x y e = absurd (cc e)

open_fits : (own : Own) (line : List ℕ) (pid : ℕ) (act : Act) (made : Rewrite) → open_as own line pid act ≡ Some made → FitsLine line made
open_fits own line pid (act.Opens fd stays) made is = copy_fits own.fd stays line made (if_some (is_of own pid) _ made is)
open_fits own line pid act.Nothing made is = absurd (cc is)
open_fits own line pid (act.Makes fd stays kind) made is = absurd (cc is)
open_fits own line pid (act.Closes fd) made is = absurd (cc is)
open_fits own line pid (act.ClosesRange first last) made is = absurd (cc is)
open_fits own line pid (act.Copies from to stays) made is = absurd (cc is)
open_fits own line pid (act.Begins child) made is = absurd (cc is)
open_fits own line pid act.Runs made is = absurd (cc is)
open_fits own line pid act.Ends made is = absurd (cc is)

call_fits : (on : Bool) (owned : Option Own) (line : List ℕ) (call : Option Call) (made : Rewrite) → rewrite_call on owned line call ≡ Some made
    → FitsLine line made
call_fits on None line call made is = absurd (cc is)
call_fits on (Some own) line None made is = absurd (cc is)
call_fits on (Some own) line (Some call) made is = open_fits own line call.pid call.act made (if_some on _ made is)

kind_fits : (settings : Settings) (ends : Ends) (under : Option Under) (event : EventKey) (line : List ℕ) (k : Kind) (made : Rewrite)
    → rewrite_kind settings ends under event line k ≡ Some made → FitsLine line made
kind_fits settings ends under event line kind.Syscall made is = call_fits settings.own (owned_in under) line (call_in line) made is
kind_fits settings ends under event line kind.Path made is = absurd (cc is)
kind_fits settings ends under event line kind.Cwd made is = directory_fits line (directory_in ends.held under) made (if_some settings.names _ made is)
kind_fits settings ends under event line kind.Sockaddr made is =
    end_fits settings.apart ends under event line (bytes_in line (codes "saddr")) made (if_some settings.join _ made is)
kind_fits settings ends under event line kind.FdPair made is = absurd (cc is)
kind_fits settings ends under event line kind.Mmap made is = absurd (cc is)
kind_fits settings ends under event line kind.Proctitle made is = absurd (cc is)
kind_fits settings ends under event line kind.Eoe made is = absurd (cc is)

class_fits : (settings : Settings) (under : Option Under) (ends : Ends) (line : List ℕ) (class : Class) (made : Rewrite)
    → rewrite_class settings under ends line class ≡ Some made → FitsLine line made
class_fits settings under ends line (Used key k) made is = kind_fits settings ends (of_event under key) key line k made is
class_fits settings under ends line Other made is = absurd (cc is)
class_fits settings under ends line Blank made is = absurd (cc is)
class_fits settings under ends line (Malformed fault) made is = absurd (cc is)

stamped_fits : (settings : Settings) (lines : List (List ℕ)) (line : List ℕ) (stamp : Option Stamp) (made : Rewrite)
    → rewrite_stamped settings lines line stamp ≡ Some made → FitsLine line made
stamped_fits settings lines line None made is = absurd (cc is)
stamped_fits settings lines line (Some s) made is =
    let said = said_until s (said_of (node_of s.front) lines) in
    class_fits settings (under_in said) (ends_in said) line (class_in line) made is

pub rewrite_fits : (settings : Settings) (lines : List (List ℕ)) (line : List ℕ) (made : Rewrite) → rewrite_of settings lines line ≡ Some made → FitsLine line made
rewrite_fits settings lines line made is = stamped_fits settings lines line (stamp_of line) made is

-- ---- without a switch

if_off : {A : Type 0} (b : Bool) (x : Option A) → b ≡ false → (if b then x else None) ≡ None
if_off true x e = absurd (cc e)
if_off false x e = refl

call_off : (on : Bool) (owned : Option Own) (line : List ℕ) (call : Option Call) → on ≡ false → rewrite_call on owned line call ≡ None
call_off on None line call off = refl
call_off on (Some own) line None off = refl
call_off on (Some own) line (Some call) off = if_off on _ off

kind_off : (settings : Settings) (ends : Ends) (under : Option Under) (event : EventKey) (line : List ℕ) (k : Kind)
    → settings.names ≡ false → settings.own ≡ false → settings.join ≡ false → rewrite_kind settings ends under event line k ≡ None
kind_off settings ends under event line kind.Syscall names own join = call_off settings.own (owned_in under) line (call_in line) own
kind_off settings ends under event line kind.Path names own join = refl
kind_off settings ends under event line kind.Cwd names own join = if_off settings.names _ names
kind_off settings ends under event line kind.Sockaddr names own join = if_off settings.join _ join
kind_off settings ends under event line kind.FdPair names own join = refl
kind_off settings ends under event line kind.Mmap names own join = refl
kind_off settings ends under event line kind.Proctitle names own join = refl
kind_off settings ends under event line kind.Eoe names own join = refl

class_off : (settings : Settings) (under : Option Under) (ends : Ends) (line : List ℕ) (class : Class)
    → settings.names ≡ false → settings.own ≡ false → settings.join ≡ false → rewrite_class settings under ends line class ≡ None
class_off settings under ends line (Used key k) names own join = kind_off settings ends (of_event under key) key line k names own join
class_off settings under ends line Other names own join = refl
class_off settings under ends line Blank names own join = refl
class_off settings under ends line (Malformed fault) names own join = refl

stamped_off : (settings : Settings) (lines : List (List ℕ)) (line : List ℕ) (stamp : Option Stamp)
    → settings.names ≡ false → settings.own ≡ false → settings.join ≡ false → rewrite_stamped settings lines line stamp ≡ None
stamped_off settings lines line None names own join = refl
stamped_off settings lines line (Some s) names own join =
    let said = said_until s (said_of (node_of s.front) lines) in
    class_off settings (under_in said) (ends_in said) line (class_in line) names own join

pub rewrite_off : (settings : Settings) (lines : List (List ℕ)) (line : List ℕ)
    → settings.names ≡ false → settings.own ≡ false → settings.join ≡ false → rewrite_of settings lines line ≡ None
rewrite_off settings lines line names own join = stamped_off settings lines line (stamp_of line) names own join
