-- What a table's rows say with those of one more batch.
use Rattle.std.proofs.Common.{◌≡◌, ◌∙◌, sym, Option, Some, None}
use Rattle.store_check.specs.Store.{newer}
use Rattle.stored.specs.Batch.{Tells}

-- what the rows before say, and then a row or none
pub tells_now : {V W : Type 0} (read : Option V → W) (old row : Option V) (before now : W) → read old ≡ before → Tells read row before now → read (newer old row) ≡ now
tells_now read old None before now is tells = is ∙ sym tells
tells_now read old (Some v) before now is tells = tells
