-- What a tidied path looks like.
use Rattle.std.specs.Prelude.{◌≡◌, ◌≢◌, ℕ, List, [], ◌++◌, Bool, true, replicate, codes}
use Rattle.std.specs.List.{AllByRecursion}

-- a part that names something: it has bytes, none of them a slash, and is neither `.` nor `..`
pub record IsName (part : List ℕ) : Type 0 where
  pub some : part ≢ []
  pub whole : AllByRecursion (λ byte. byte ≢ 47) part
  pub here : part ≢ codes "."
  pub up : part ≢ codes ".."

-- first `..` and then names, and no `..` in an absolute path
pub record AreTidy (absolute : Bool) (parts : List (List ℕ)) : Type 0 where
  pub ups : ℕ
  pub names : List (List ℕ)
  pub order : parts ≡ replicate ups (codes "..") ++ names
  pub named : AllByRecursion IsName names
  pub at_root : absolute ≡ true → ups ≡ 0
