-- The two ends of a link differ.
use Rattle.std.proofs.Common.{◌≡◌, ◌∙◌, ap, refl, false, ℕ, List}
use Rattle.flow_base.specs.declared.types.Key.{Key}
use Rattle.flow_base.specs.declared.types.Key.TheVariants.{Process, Inode, Path, Address, Made, Lost}
use Rattle.acts.specs.declared.act.Act.{Act}
use Rattle.acts.specs.declared.act.Thing.{Thing}
use Rattle.acts.specs.Keys.{thing_key}
use Rattle.acts.proofs.Things as things
use Rattle.flow_events.specs.Acting.{is_process}

same_kind : (key : Key) → is_process key ≡ things.is_process key
same_kind (Process pid life) = refl
same_kind (Inode file born) = refl
same_kind (Path path) = refl
same_kind (Address bytes) = refl
same_kind (Made act) = refl
same_kind (Lost pid life fd) = refl

-- after acts no thing is a process
pub no_process : (key : Key) (acts : List Act) (pid : ℕ) (thing : Thing) → key ≡ thing_key acts pid thing → is_process key ≡ false
no_process key acts pid thing is = same_kind key ∙ ap things.is_process is ∙ things.things_are_none acts pid thing
