-- What is said of accesses, and when it is true.
use Rattle.std.specs.Prelude.{◌≡◌, ℕ, suc, ◌+◌, ◌≤◌, Bool, true, false, ◌&&◌, ◌||◌, not, if◌then◌else◌, ◌==◌, nat_lt, List, length, take, slice_get}
use Rattle.std.specs.Prelude.{Some, is_some}
use Rattle.sn_base.specs.Blocks.{bytes_of}
use Rattle.rv_core.specs.Core.{block_of}
use Rattle.access_check.specs.declared.access.Access.{Access}
use Rattle.access_check.specs.declared.verdict.Cause.{Cause}
use Rattle.access_check.specs.declared.verdict.Cause.TheVariants.{Value, Unreserved}
use Rattle.access_check.specs.declared.verdict.Refusal.{Refusal}
use Rattle.access_check.specs.declared.verdict.Verdict.{Verdict}
use Rattle.access_check.specs.declared.verdict.Verdict.TheVariants.{Legal, Refused}
use Rattle.access_check.specs.Accesses.{seen_by, written_by, is_lr, is_sc, is_done}
use Rattle.access_check.specs.Legal.{MemoryState, AreLegal, IsFirstRefused, memory_after_all, value_in, writes_to}

-- whether x wrote one of the bytes that a is about
abbrev pub writes_into : Access → Access → Bool
writes_into a x =
    is_some (written_by x.operation) && nat_lt x.address (a.address + bytes_of a.width)
    && nat_lt a.address (x.address + bytes_of x.width)

-- whether core n has no reservation of block b after x, whatever it had before: x is an LR of another block or an SC of
-- that core, or another core's write of the block
abbrev pub ends_reservation : ℕ → ℕ → Access → Bool
ends_reservation n b x =
    if n == x.core then is_sc x.operation || (is_lr x.operation && not (b == block_of x.address)) else writes_to x b

-- q is the place, counted from 1, of the last access that a test holds of, and 0 where it holds of none
pub record IsLast (test : Access → Bool) (accesses : List Access) (q : ℕ) : Type 0 where
  pub within : q ≤ length accesses
  pub holds : (k : ℕ) (x : Access) → suc k ≡ q → slice_get accesses k ≡ Some x → test x ≡ true
  pub none : (k : ℕ) (x : Access) → q ≤ k → slice_get accesses k ≡ Some x → test x ≡ false

-- why an access is refused after others that leave this memory: it read another value than memory has, where one of its
-- bytes was last written by access `since`; or its core has no reservation, which access `since` was the last to end
abbrev pub IsCause : MemoryState → List Access → Access → Cause → Type 0
IsCause m before a (Value width expected since) =
    (is_some (seen_by a.operation) ≡ true) × (width ≡ a.width) × (expected ≡ value_in (m.blocks (block_of a.address)).content a)
    × IsLast (writes_into a) before since
IsCause m before a (Unreserved since) =
    (is_done a.operation ≡ true) × IsLast (ends_reservation a.core (block_of a.address)) before since

-- the refusal names the first access that isn't legal, and why it isn't
pub record IsRefusal (m : MemoryState) (accesses : List Access) (refusal : Refusal) : Type 0 where
  pub before : ℕ
  pub place : refusal.place ≡ before + 1
  pub first : IsFirstRefused m accesses before
  pub cause : (a : Access) → slice_get accesses before ≡ Some a →
      IsCause (memory_after_all m (take before accesses)) (take before accesses) a refusal.cause

-- the verdict is that on these accesses to this memory
abbrev pub IsVerdict : MemoryState → List Access → Verdict → Type 0
IsVerdict m accesses Legal = AreLegal m accesses
IsVerdict m accesses (Refused refusal) = IsRefusal m accesses refusal
