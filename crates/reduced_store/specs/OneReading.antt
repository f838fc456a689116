-- That the bytes of a disk are read as a store in one way only.
use Rattle.std.specs.Prelude.{◌≡◌, ℕ, List, Option, true}
use Rattle.flow_base.specs.declared.limits.Limits.{Limits}
use Rattle.batch_log.specs.Log.{Log}
use Rattle.reduced_store.specs.Opening.{BeginsLast, IsBadAt, IsStoreRead}
use Rattle.reduced_store.specs.declared.reading.Found.{Found}

-- a store in which no two rows have one last place is bad nowhere
abbrev pub BadNowhere : Type 0
BadNowhere = (limits : Limits) (bytes : List ℕ) (read : Log × Found) (place : ℕ) → IsStoreRead limits bytes read → read.1.rows.lawful ≡ true → ¬ IsBadAt limits place bytes

-- what is bad is so at one place
abbrev pub BadAtOnePlace : Type 0
BadAtOnePlace = (limits : Limits) (bytes : List ℕ) (place other : ℕ) → IsBadAt limits place bytes → IsBadAt limits other bytes → place ≡ other

-- a store has one mode, if it has a batch
abbrev pub OneMode : Type 0
OneMode = (limits : Limits) (bytes : List ℕ) (read other : Log × Found) → IsStoreRead limits bytes read → IsStoreRead limits bytes other → read.1.mode ≡ other.1.mode

-- besides its kept rows one list of rows is found in it
abbrev pub SameOthers : Type 0
SameOthers = (limits : Limits) (bytes : List ℕ) (read other : Log × Found) → IsStoreRead limits bytes read → IsStoreRead limits bytes other → read.1.others ≡ other.1.others

-- its last batch begins at one place, if it has a batch
abbrev pub OneLast : Type 0
OneLast = (limits : Limits) (bytes : List ℕ) (last other : Option ℕ) → BeginsLast limits bytes last → BeginsLast limits bytes other → last ≡ other
