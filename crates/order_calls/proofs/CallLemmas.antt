-- What the call of a line takes.
use Rattle.std.proofs.Common.{◌≡◌, ◌&&◌, ◌∙◌, arith, sym, refl, ap, ℕ, Bool, true, false, List, Option, None, Some, codes, nat_eq, if◌then◌else◌}
use Rattle.std.specs.List.{list_any}
use Rattle.std.proofs.lemmas.Bool.Decides.{nat_tests}
use Rattle.std.proofs.lemmas.Option.{same_Some}
use Rattle.audit_lex.specs.LineClass.{Class, Used, Other, Blank, Malformed, class_of}
use Rattle.audit_lex.specs.declared.fields.Kind.{Kind}
use Rattle.audit_lex.specs.declared.fields.Kind.TheVariants as kind
use Rattle.order_calls.specs.declared.call.Call.{Call}
use Rattle.order_calls.specs.declared.call.Takes.{Takes}
use Rattle.order_calls.specs.declared.call.Takes.TheVariants as takes
use Rattle.order_calls.specs.Lines.{Files, number_in, hex_in, is_native, is_done, bears, child_in, waiting, takes_from, call_from, call_of_kind, call_of_class, call_of}

-- a call that begins a process isn't one that may wait
not_waiting : (number : ℕ) → bears number ≡ true → list_any (nat_eq number) waiting ≡ false
not_waiting number is = grind (arith, nat_tests, is)

-- what has a child is one of the calls that begin processes
bears_by : (b : Bool) (rest : Bool) (answer : Option ℕ) (child : ℕ) → (if b && rest then answer else None) ≡ Some child → b ≡ true
bears_by true rest answer child is = refl
bears_by false rest answer child is = absurd (cc is)

from_by : (native waits : Bool) (files : Files) (line : List ℕ) (pid number child : ℕ) (call : Call) → (bears number ≡ true → waits ≡ false)
    → (if native && waits
    then Some (record { pid = pid; takes = takes_from files pid (number_in line (codes "ppid")) (hex_in line (codes "a0")); child = child_in line number })
    else Some (record { pid = pid; takes = takes.Nothing; child = child_in line number })) ≡ Some call
    → call.child ≡ Some child → call.takes ≡ takes.Nothing
from_by true true files line pid number child call not is has =
    let bore = bears_by (bears number) (is_native line && is_done line) (number_in line (codes "exit")) child (ap (λ (c : Call). c.child) (same_Some _ _ is) ∙ has) in
    absurd (cc (not bore))
from_by true false files line pid number child call not is has = sym (ap (λ (c : Call). c.takes) (same_Some _ _ is))
from_by false waits files line pid number child call not is has = sym (ap (λ (c : Call). c.takes) (same_Some _ _ is))

from : (files : Files) (line : List ℕ) (pid number : Option ℕ) (call : Call) (child : ℕ) → call_from files line pid number ≡ Some call
    → call.child ≡ Some child → call.takes ≡ takes.Nothing
from files line None number call child is has = absurd (cc is)
from files line (Some pid) None call child is has = absurd (cc is)
from files line (Some pid) (Some number) call child is has =
    from_by (is_native line) (list_any (nat_eq number) waiting) files line pid number child call (not_waiting number) is has

of_kind : (files : Files) (line : List ℕ) (k : Kind) (call : Call) (child : ℕ) → call_of_kind files line k ≡ Some call
    → call.child ≡ Some child → call.takes ≡ takes.Nothing
of_kind files line kind.Syscall call child is has = from files line (number_in line (codes "pid")) (number_in line (codes "syscall")) call child is has
of_kind files line kind.Path call child is has = absurd (cc is)
of_kind files line kind.Cwd call child is has = absurd (cc is)
of_kind files line kind.Sockaddr call child is has = absurd (cc is)
of_kind files line kind.FdPair call child is has = absurd (cc is)
of_kind files line kind.Mmap call child is has = absurd (cc is)
of_kind files line kind.Proctitle call child is has = absurd (cc is)
of_kind files line kind.Eoe call child is has = absurd (cc is)

of_class : (files : Files) (line : List ℕ) (class : Class) (call : Call) (child : ℕ) → call_of_class files line class ≡ Some call
    → call.child ≡ Some child → call.takes ≡ takes.Nothing
of_class files line (Used key k) call child is has = of_kind files line k call child is has
of_class files line Other call child is has = absurd (cc is)
of_class files line Blank call child is has = absurd (cc is)
of_class files line (Malformed fault) call child is has = absurd (cc is)

-- a fork takes nothing
pub forks_take_nothing : (files : Files) (line : List ℕ) (call : Call) (child : ℕ) → call_of files line ≡ Some call
    → call.child ≡ Some child → call.takes ≡ takes.Nothing
forks_take_nothing files line call child is has = of_class files line (class_of 65536 line) call child is has
