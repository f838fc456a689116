-- When what rows say that waits is sound.
use Rattle.std.specs.Prelude.{◌≡◌, List, Some}
use Rattle.flow_base.specs.declared.limits.Limits.{Limits}
use Rattle.row_codec.specs.declared.rows.StoreRow.{StoreRow}
use Rattle.row_codec.specs.declared.state.StateRow.{StateRow}
use Rattle.stored.specs.Words.{state_of}
use Rattle.ingest.specs.Waiting.{AreSoundWaiting}

-- what waits by these rows is sound beside their State, if they have one
abbrev pub WaitsSoundly : Limits → List StoreRow → Type 0
WaitsSoundly limits rows = (state : StateRow) → state_of rows ≡ Some state → AreSoundWaiting limits state rows
