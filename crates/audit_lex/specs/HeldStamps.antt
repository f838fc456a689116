-- A stamp that is held in a few bytes.
use Rattle.std.specs.Prelude.{◌≡◌, ◌<◌, ◌≤◌, ◌^◌, ℕ, List, length, drop, Some}
use Rattle.audit_lex.specs.Header.{seconds_of, stamp_of}
use Rattle.audit_lex.specs.declared.header.EventKey.{EventKey}

-- these 32 bytes begin with a stamp of this length and this key, and up to the dot they spell these seconds
pub record HoldsStamp (bytes : List ℕ) (dot seconds len : ℕ) (key : EventKey) : Type 0 where
  pub size : length bytes ≡ 32
  pub dot_within : dot ≤ 32
  pub within : len ≤ 32
  pub below : seconds < 10 ^ 15
  pub seconds_are : seconds_of bytes ≡ Some (seconds, drop dot bytes)
  pub stamp : stamp_of bytes ≡ Some (key, drop len bytes)
