-- A store in memory.
use Rattle.std.specs.Prelude.{◌≡◌, ◌↔◌, ℕ, Bool, true, ◌||◌, List, [], ◌∷◌, bytes_eq, if◌then◌else◌, Option, Some, None, is_none}
use Rattle.sn_io.specs.Outside.{count_plus_one, Found, Missing}
use Rattle.sn_io.specs.Calls.{CallsData, next_call, is_next_named}

pub record FileData : Type 0 where
  pub name : List ℕ
  pub bytes : List ℕ

pub record StoreData : Type 0 where
  pub files : List FileData
  pub calls : CallsData
  pub faults : ℕ

-- the bytes of the first file with this name
abbrev pub file_of : List FileData → List ℕ → Option (List ℕ)
file_of [] name = None
file_of (file ∷ files) name = if bytes_eq file.name name then Some file.bytes else file_of files name

-- whether a fetch of this name fails: the call was named to fail, or no file has the name
abbrev pub fails : StoreData → List ℕ → Bool
fails s name = is_next_named s.calls || is_none (file_of s.files name)

-- a fetch of this name: the call is counted, and its failure where it fails; it finds nothing exactly then
pub record Gives (s : StoreData) (name : List ℕ) (found : Found) (t : StoreData) : Type 0 where
  pub counted : t ≡ record s { calls = next_call s.calls; faults = (if fails s name then count_plus_one s.faults else s.faults) }
  pub missing : (found ≡ Missing) ↔ (fails s name ≡ true)
