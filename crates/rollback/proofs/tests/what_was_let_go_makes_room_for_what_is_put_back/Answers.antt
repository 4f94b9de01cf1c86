use Rattle.std.proofs.Common.{◌≡◌, ◌≢◌, ℕ, Bool, true, false, List, [], refl, sym, subst, arith}
use Rattle.std.specs.Prelude.{nat_eq, if◌then◌else◌}
use Rattle.std.proofs.lemmas.Bool.Decides.{nat_tests}
use Rattle.sn_base.specs.declared.block.Block.{Block}
use Rattle.sn_base.specs.declared.log.Old.TheVariants.{NotOwned, Owned}
use Rattle.log_buffer.specs.Log.{log_with_note}
use Rattle.rollback.specs.Unwound.{LogEntry, Old, content_unwound}
use Rattle.rollback.proofs.tests.what_was_let_go_makes_room_for_what_is_put_back.Goals as goal

-- the log, and what the cache holds before
abbrev noted : Block → Block → List LogEntry
noted o p = log_with_note (log_with_note (log_with_note [] 0 2 (Owned o)) 0 1 NotOwned) 0 3 (Owned p)

abbrev held : Block → Block → ℕ → Old
held q r b = if nat_eq b 1 then Owned q else (if nat_eq b 2 then Owned r else NotOwned)

-- nothing is left but of two blocks
left : (o p q r : Block) (b : ℕ) → b ≢ 2 → b ≢ 3 → content_unwound (noted o p) false 0 (held q r) b ≡ NotOwned
left o p q r b m n = by_test (nat_eq b 1) refl
  where
    by_test : (t : Bool) → nat_eq b 1 ≡ t → content_unwound (noted o p) false 0 (held q r) b ≡ NotOwned
    by_test true e =
        let s : b ≡ 1 = grind (arith, nat_tests) in
        subst (λ (k : ℕ). content_unwound (noted o p) false 0 (held q r) k ≡ NotOwned) (sym s) refl
    by_test false e =
        let first : nat_eq 2 b ≡ false = grind (arith, nat_tests) in
        let second : nat_eq 1 b ≡ false = grind (arith, nat_tests) in
        let third : nat_eq 3 b ≡ false = grind (arith, nat_tests) in
        let other : nat_eq b 2 ≡ false = grind (arith, nat_tests) in
        rw (first, second, third, e, other) refl

pub unwind-requires-clause-fits : goal.unwind-requires-clause-fits
unwind-requires-clause-fits g c = (
  2,
  3,
  λ b m n.
      rw (c.note-3.ensures, c.note-2.ensures, c.note.ensures, c.in_ok-log.ensures, c.new-w.ensures, c.new-x.ensures, c.new-z.ensures)
      (left c.zero.result c.zero-2.result c.zero-3.result c.zero-4.result b m n),
)
