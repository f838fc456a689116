-- What a call says by what a call in it said.
use Rattle.std.proofs.Common.{◌≡◌, ◌↔◌, Result, Ok, Err}
use Rattle.std.specs.Result.{OnOk, IsErrOf, IsErrAnd}
use Rattle.flow_base.specs.declared.limits.Full.{Full}
use Rattle.batch_log.specs.declared.log.CommitFault.{CommitFault}
use Rattle.batch_log.specs.declared.log.CommitFault.TheVariants as fault

-- what leads on from what a result says if it is Ok
pub if_ok : {T E P Q : Type 0} (r : Result T E) → (P → Q) → OnOk r P → OnOk r Q
if_ok (Ok x) f p = f p
if_ok (Err e) f p = tt

-- a limit that was passed is told as it was
pub full_goes_on : {T U X : Type 0} (inner : Result T Full) (outer : Result U CommitFault) (was full : Full)
    → inner ≡ Err was → IsErrAnd outer (λ e. e ≡ fault.Full was) → IsErrOf inner full ↔ X → IsErrOf outer (fault.Full full) ↔ X
full_goes_on (Ok x) outer was full is told same = absurd (cc)
full_goes_on (Err e) (Ok y) was full is told same = absurd told
full_goes_on (Err e) (Err y) was full is told same = (λ h. same.0 (cc), λ x. let h = same.1 x in cc)
