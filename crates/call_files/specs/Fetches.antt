-- What a fetch of a file comes to.
use Rattle.std.specs.Prelude.{◌≡◌, ℕ, ◌≤◌, List, Vec, Option, None, IfSome, Result, Ok, Err}
use Rattle.std.specs.declared.alloc.Global.{Global}
use Rattle.sn_io.specs.Outside.{Found, File, TooLong, Missing, Rose, found_in}
use Rattle.call_files.specs.declared.files.Unread.{Unread}
use Rattle.call_files.specs.declared.files.Unread.TheVariants.{Missing as UnreadMissing, TooLong as UnreadTooLong}
use Rattle.call_files.specs.declared.files.Unread.TheVariants.{Memory as UnreadMemory}

-- what the bytes of a file, or why there are none, say was found
abbrev pub found_by : Result (Vec ℕ Global) Unread → Found
found_by (Ok bytes) = File bytes.items
found_by (Err UnreadMissing) = Missing
found_by (Err UnreadTooLong) = TooLong
found_by (Err UnreadMemory) = Missing

-- how one file was found, from one store to the next
pub record Fetches {S : Type 0} (files : S → Option (List ℕ → Option (List ℕ))) (sure : S → Type 0) (faults : S → ℕ) (gave : S → List ℕ → Found → S → Type 0) (old : S) (name : List ℕ) (limit : ℕ) (found : Found) (new : S) : Type 0 where
  pub given : gave old name found new
  pub told : IfSome (files old) (λ held. (found ≡ Missing → ⊥) → found ≡ found_in (held name) limit)
  pub lacking : sure old → IfSome (files old) (λ held. found ≡ Missing → held name ≡ None)
  pub rose : found ≡ Missing → Rose (faults old) (faults new)
  pub later : faults old ≤ faults new
  pub same_files : files new ≡ files old
  pub stays_sure : sure old → sure new
