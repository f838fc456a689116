-- The texts of keys.
use Rattle.std.specs.Prelude.{ℕ, ◌-◌, List, ◌++◌, false, length, replicate, codes, decimal}
use Rattle.std.specs.Fmt.{digits}
use Rattle.flow_base.specs.declared.types.FileId.{FileId}
use Rattle.flow_base.specs.declared.types.Key.{Key}
use Rattle.flow_base.specs.declared.types.Key.TheVariants as key
use Rattle.name_text.specs.Addresses as addresses

-- a number in lower-case hex, with a leading zero if it is one digit
abbrev pub half_of : ℕ → List ℕ
half_of number = replicate (2 - length (digits 16 false number)) 48 ++ digits 16 false number

-- a file by its device, its inode and how often its number was made before
abbrev pub file_text : FileId → ℕ → List ℕ
file_text file born =
    codes "file " ++ (half_of file.device.major ++ (codes ":" ++ (half_of file.device.minor ++ (codes " " ++ (decimal file.ino ++ (codes " " ++ decimal born))))))

-- the text of a key
abbrev pub text_of : Key → List ℕ
text_of (key.Process pid life) = codes "process " ++ (decimal pid ++ (codes " " ++ decimal life))
text_of (key.Inode file born) = file_text file born
text_of (key.Path path) = codes "path " ++ path
text_of (key.Address bytes) = codes "address " ++ addresses.text_of bytes
text_of (key.Made act) = codes "made " ++ decimal act
text_of (key.Lost pid life fd) = codes "lost " ++ (decimal pid ++ (codes " " ++ (decimal life ++ (codes " " ++ decimal fd))))
