-- Facts on answers.
use Rattle.std.proofs.Common.{◌≡◌, subst, refl, Option, None, Some, false}
use Rattle.std.specs.Prelude.{Result, Ok, Err, OnOk, IfOk, IfErr, is_some}
use Rattle.flow_base.specs.declared.faults.Refused.{Refused}

pub on_ok_so : {T E : Type 0} (r : Result T E) (P Q : Type 0) → (P → Q) → OnOk r P → OnOk r Q
on_ok_so (Ok value) P Q f p = f p
on_ok_so (Err e) P Q f p = tt

pub if_err : {T E : Type 0} (r : Result T E) (e : E) (P : E → Type 0) → r ≡ Err e → IfErr r P → P e
if_err {T} {E} r e P is h = subst (λ (q : Result T E). IfErr q P) is h

pub none_where : {T : Type 0} (o : Option T) → is_some o ≡ false → o ≡ None
none_where None is = refl
none_where (Some value) is = absurd (cc is)

pub if_err_so : {T E : Type 0} (r : Result T E) (P Q : E → Type 0) → ((e : E) → P e → Q e) → IfErr r P → IfErr r Q
if_err_so (Ok value) P Q f p = tt
if_err_so (Err e) P Q f p = f e p

pub by_err : {T E : Type 0} (r : Result T E) (P : E → Type 0) → ((e : E) → P e) → IfErr r P
by_err (Ok value) P f = tt
by_err (Err e) P f = f e

abbrev pub refused : Refused → Result (Unit {0}) Refused
refused cause = Err cause

pub one_why : (a b : Refused) → refused a ≡ refused b → a ≡ b
one_why a b e = cc e

pub if_ok_so : {T E : Type 0} (r : Result T E) (P Q : T → Type 0) → ((value : T) → P value → Q value) → IfOk r P → IfOk r Q
if_ok_so (Ok value) P Q f p = f value p
if_ok_so (Err e) P Q f p = tt
