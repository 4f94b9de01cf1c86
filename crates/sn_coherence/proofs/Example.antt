-- The short runs can run, and end as said: by computing.
use Rattle.std.proofs.Common.{◌≡◌, ℕ, ◌≤◌, Bool, true, false, List, [], ◌∷◌, ◌++◌, refl, arith}
use Rattle.std.specs.Prelude.{nat_le}
use Rattle.std.proofs.lemmas.Bool.Decides.{nat_tests}
use Rattle.sn_coherence.specs.Block.{Block}
use Rattle.sn_coherence.specs.Invariant.{count}
use Rattle.sn_coherence.specs.Events.{Event, Lists, after}
use Rattle.sn_coherence.specs.Records.{Records, no_records, records_after_event}
use Rattle.sn_coherence.specs.Runs.{CanRun, block_after, records_after}
use Rattle.sn_coherence.specs.Example.{example_start, written_and_read, hand_over, handed_over, lose_and_recover, events_with_recovery, EndsHandedOver}
use Rattle.sn_coherence.specs.Example.{EndsRecovered}

infixr 10 ◌⨾◌
-- the proof that an event can happen, and that the others can
◌⨾◌ : {A B : Type 0} → A → B → A × B
a ⨾ b = (a, b)

run_append : (N : ℕ) (b : Block) (r : Records) (es fs : List Event) → CanRun N b r es →
    CanRun N (block_after N b es) (records_after N b r es) fs → CanRun N b r (es ++ fs)
run_append N b r [] fs c d = d
run_append N b r (e ∷ es) fs c d = (c.0, run_append N (after N b e) (records_after_event N b r e) es fs c.1 d)

-- nobody is listed
none_listed : (f : ℕ → Bool) → f 0 ≡ false → f 1 ≡ false → Lists 2 f (λ k. 0) 0
unfolding count
none_listed f e g = record { passes = λ k l. absurd (omega arith); apart = λ k l m n e. absurd (omega arith); all = grind arith }

-- an order of numbers, by computing
low : {x y : ℕ} → nat_le x y ≡ true → x ≤ y
low {x} {y} e = grind (arith, nat_tests)

written_and_read_runs : CanRun 2 example_start (no_records (5 ∷ [])) written_and_read
written_and_read_runs =
    ((low refl, refl, λ e. grind arith), refl) ⨾
    (((refl, low refl), refl), refl, none_listed _ refl refl) ⨾
    (refl, low refl) ⨾
    (refl, low refl) ⨾
    ((low refl, refl, λ e. grind arith), refl) ⨾
    ((low refl, refl, λ e. grind arith), refl) ⨾
    (((refl, low refl), refl), refl) ⨾
    (refl, low refl) ⨾
    (refl, low refl) ⨾
    (refl, low refl) ⨾
    ((low refl, refl, λ e. grind arith), λ e. grind arith) ⨾
    tt

pub handed_over_runs : CanRun 2 example_start (no_records (5 ∷ [])) handed_over
handed_over_runs = run_append 2 example_start (no_records (5 ∷ [])) written_and_read hand_over written_and_read_runs (
    (low refl, low refl) ⨾
    ((low refl, refl, λ e. grind arith), refl) ⨾
    (((refl, low refl), refl), (refl, λ e. grind arith), none_listed _ refl refl) ⨾
    (refl, low refl) ⨾
    (low refl, low refl) ⨾
    (refl, low refl) ⨾
    (refl, low refl) ⨾
    ((low refl, refl, λ e. grind arith), refl) ⨾
    tt
    )

pub recovered_runs : CanRun 2 example_start (no_records (5 ∷ [])) events_with_recovery
recovered_runs = run_append 2 example_start (no_records (5 ∷ [])) written_and_read lose_and_recover written_and_read_runs (
    (low refl, low refl) ⨾
    (low refl, low refl) ⨾
    ((low refl, refl, λ e. grind arith), refl) ⨾
    (((refl, low refl), refl), (refl, λ e. grind arith), none_listed _ refl refl) ⨾
    (refl, low refl) ⨾
    tt ⨾
    (low refl, record { of_now = low refl; of_miss = λ e. low refl; of_put = λ e. absurd (e refl); of_home = λ e g. low refl }) ⨾
    (low refl, record { of_now = low refl; of_miss = λ e. absurd (e refl); of_put = λ e. absurd (e refl); of_home = λ e g. grind arith }) ⨾
    (refl, low refl) ⨾
    (refl, low refl) ⨾
    (λ n l. grind (arith, nat_tests)) ⨾
    tt ⨾
    tt
    )

pub handed_over_ends : EndsHandedOver (block_after 2 example_start handed_over)
handed_over_ends = record {
  line = (refl, refl);
  owner = (refl, refl);
  first = (refl, refl, refl, refl);
  second = (refl, refl, refl, refl, refl);
  third = (refl, refl, refl, refl, refl);
}

pub recovered_ends : EndsRecovered (block_after 2 example_start events_with_recovery)
recovered_ends = record { point = refl; line = (refl, refl, refl); owner = (refl, refl) }
