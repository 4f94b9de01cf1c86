-- What the rows note on the home's side: those of a cache nothing, those of a home what is of their own block.
use Rattle.std.proofs.Common.{◌≡◌, ◌≢◌, ℕ, ◌%◌, Bool, true, false, List, refl, sym, ap, ◌∙◌, arith}
use Rattle.std.specs.Prelude.{nat_eq, ◌&&◌, if◌then◌else◌, Option, Some, None}
use Rattle.std.proofs.lemmas.Bool.Decides.{nat_tests}
use Rattle.sn_base.specs.declared.log.Old.{Old}
use Rattle.sn_base.specs.declared.log.Old.TheVariants.{NotOwned, Owned, WasHome, WasCache}
use Rattle.log_buffer.specs.Log.{LogEntry, is_of_side, log_with_note, entries_from}
use Rattle.log_buffer.proofs.Laws.{logged_to-noted_other, logged_to-from}
use Rattle.sn_model.specs.declared.home.Kind.{Kind}
use Rattle.sn_model.specs.declared.home.Kind.TheVariants.{Read, Take, Move, Upgrade, Put}
use Rattle.sn_model.specs.declared.rows.HomeRow.{HomeRow}
use Rattle.sn_model.specs.declared.rows.HomeRow.TheVariants as row
use Rattle.sn_model.specs.Caches.{Miss}
use Rattle.sn_model.specs.CacheRows.{Logged, reply_when_complete, reply_that_waits, reply_or_wait_by, reply_or_wait}
use Rattle.sn_model.specs.Homes.{Holder, Itself, OfCache, Transaction}
use Rattle.sn_model.specs.HomeRows.{LoggedEntry, noted_owner, unblock_of, unblock, home_reply}
use Rattle.sn_fabric.specs.Logs.{IsOwnLog}

and_false : (p q : Bool) → q ≡ false → (p && q) ≡ false
and_false true q e = e
and_false false q e = refl

module _ (nodes n : ℕ) where
  -- a note of the cache's side, of nothing and of a content
  pub nothing-own : (log : List LogEntry) (i b : ℕ) → IsOwnLog nodes n log → IsOwnLog nodes n (log_with_note log i b NotOwned)
  nothing-own log i b own c other = logged_to-noted_other log i b NotOwned true c refl ∙ own c other

  pub content-own : (log : List LogEntry) (i b : ℕ) (content : List ℕ) → IsOwnLog nodes n log →
      IsOwnLog nodes n (log_with_note log i b (Owned content))
  content-own log i b content own c other = logged_to-noted_other log i b (Owned content) true c refl ∙ own c other

  -- a note of a block of the node's home
  apart : (b c : ℕ) → b % nodes ≡ n → c % nodes ≢ n → nat_eq b c ≡ false
  apart b c here other = by_test (nat_eq b c) refl
    where
      by_test : (t : Bool) → nat_eq b c ≡ t → t ≡ false
      by_test false e = refl
      by_test true e = let q : b ≡ c = grind (arith, nat_tests) in absurd (other (ap (λ (k : ℕ). k % nodes) (sym q) ∙ here))

  home-own : (log : List LogEntry) (i b : ℕ) (old : Old) → b % nodes ≡ n → IsOwnLog nodes n log → IsOwnLog nodes n (log_with_note log i b old)
  home-own log i b old here own c other =
      logged_to-noted_other log i b old true c (and_false (is_of_side true old) (nat_eq b c) (apart b c here other)) ∙ own c other

  pub from-own : (log : List LogEntry) (k : ℕ) → IsOwnLog nodes n log → IsOwnLog nodes n (entries_from k log)
  from-own log k own c other = let l = logged_to-from log k true c in let z = own c other in omega arith

  -- the rows of a home
  module _ (at : LoggedEntry) (block : ℕ) (here : block % nodes ≡ n) (own : IsOwnLog nodes n at.log) where
    owner-own : (fixed : ℕ) (holder : Holder) → IsOwnLog nodes n (noted_owner at.log fixed block holder)
    owner-own fixed (Itself content) = own
    owner-own fixed (OfCache owner) = home-own at.log fixed block (WasCache owner) here own

    kind-own : (fixed r : ℕ) (kind : Kind) → IsOwnLog nodes n (unblock_of at block fixed kind r).log
    kind-own fixed r Move = owner-own fixed at.entry.holder
    kind-own fixed r Read = own
    kind-own fixed r Take = own
    kind-own fixed r Upgrade = own
    kind-own fixed r Put = own

    unblock-own : (fixed : ℕ) (open_one : Option Transaction) → IsOwnLog nodes n (unblock at block fixed open_one).after.log
    unblock-own fixed None = own
    unblock-own fixed (Some transaction) = kind-own fixed transaction.requester transaction.kind

    pub row-own : (now tag r : ℕ) (taken : HomeRow) → IsOwnLog nodes n (home_reply at block now tag r taken).after.log
    row-own now tag r (row.ReadAtHome content) = own
    row-own now tag r (row.ReadAtOwner owner) = own
    row-own now tag r (row.Take content) = home-own at.log now block (WasHome content) here own
    row-own now tag r (row.MoveOwnership owner) = own
    row-own now tag r row.Upgrade = own
    row-own now tag r (row.Unblock fixed) = unblock-own fixed at.entry.transaction
    row-own now tag r row.PutBegins = own
    row-own now tag r row.PutIsStale = own
    row-own now tag r (row.PutData content) = home-own at.log tag block (WasCache r) here own
    row-own now tag r (row.GrantExclusive content) = home-own at.log now block (WasHome content) here own

-- a miss that completes notes nothing
completed_or_waiting_by-log : (at : Logged) (home : ℕ) (miss : Miss) (fixed : Option ℕ) →
    (reply_or_wait_by at home miss fixed).after.log ≡ at.log
completed_or_waiting_by-log at home miss None = refl
completed_or_waiting_by-log at home miss (Some fixed) = by_test (nat_eq miss.acks miss.due)
  where
    by_test : (t : Bool) → (if t then reply_when_complete at home miss fixed else reply_that_waits at miss).after.log ≡ at.log
    by_test true = refl
    by_test false = refl

pub completed_or_waiting-log : (at : Logged) (home : ℕ) (o : Option Miss) → (reply_or_wait at home o).after.log ≡ at.log
completed_or_waiting-log at home None = refl
completed_or_waiting-log at home (Some miss) = completed_or_waiting_by-log at home miss miss.fixed
