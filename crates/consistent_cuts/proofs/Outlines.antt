-- What each event but an instruction does to the outline of the machine: so the sorted list is kept.
use Rattle.std.proofs.Common.{◌≡◌, ℕ, suc, ◌<◌, ◌≤◌, Bool, true, false, List, ◌++◌, length, drop, arith, refl, sym, ap, ◌∙◌, subst, nat_lt}
use Rattle.std.proofs.Common.{cond}
use Rattle.std.proofs.lemmas.Bool.Decides.{nat_tests}
use Rattle.sn_base.specs.Image.{ImageData}
use Rattle.rv_core.specs.Core.{bare, is_reserved}
use Rattle.sn_model.specs.Fabric.{node_at}
use Rattle.sn_model.specs.Machine.{State, processor_at}
use Rattle.sn_model.specs.Instructions.{taken_by}
use Rattle.sn_model.specs.MachineEvents.{checkpoint_of}
use Rattle.sn_coherence.specs.Records.{Records, rolls_back}
use Rattle.sn_consistency.specs.Entries.{Entry, Places}
use Rattle.sn_consistency.specs.Sorted.{at_cut, entries_below_cut}
use Rattle.sn_consistency.specs.Outline.{Outline, Keeps, IsSameOutline, outline_after_edge, lost_to, outline_after_news, given_to, outline_after_validation, outline_after_recovery, others_reach}
use Rattle.sn_consistency.proofs.Outline.{same_keeps, edged_keeps, lost_keeps, learned_keeps, given_keeps, validated_keeps, recovered_keeps}
use Rattle.sn_consistency.proofs.Others.{exchanged_keeps, others_keep}
use Rattle.consistent_cuts.specs.Outlines.{outline_of, interval_of}
use Rattle.consistent_cuts.proofs.Clocks.{IsSameClocks}

-- two outlines that are the same where it counts: register checkpoints count while they are kept
pub record IsSameKept (m p : Outline) : Type 0 where
  pub point : m.point ≡ p.point
  pub interval : (n : ℕ) → m.interval n ≡ p.interval n
  pub known : (n : ℕ) → m.known n ≡ p.known n
  pub core : (n : ℕ) → m.core n ≡ p.core n
  pub reserved : (n b : ℕ) → m.reserved n b ≡ p.reserved n b
  pub checkpoint : (n k : ℕ) → m.known n ≤ k → k ≤ m.interval n → p.checkpoint n k ≡ m.checkpoint n k
  pub given : (n : ℕ) → m.given n ≡ p.given n
  pub waiting : (n : ℕ) → m.waiting n ≡ p.waiting n
  pub list : (x : ℕ) → m.list x ≡ p.list x
  pub content : (b j : ℕ) → m.content b j ≡ p.content b j
  pub value : (b : ℕ) → m.value b ≡ p.value b
  pub last_write : (b : ℕ) → m.last_write b ≡ p.last_write b
  pub last_access : (b n : ℕ) → m.last_access b n ≡ p.last_access b n

pub same_kept : (image : ImageData) (N : ℕ) (F : Places) (m p : Outline) → IsSameKept m p → Keeps image N F m → Keeps image N F p
same_kept image N F m p s t =
    same_keeps image N F (record m { checkpoint = p.checkpoint }) p same (exchanged_keeps image N F m t p.checkpoint s.checkpoint)
  where
    same : IsSameOutline (record m { checkpoint = p.checkpoint }) p
    same = record {
      point = s.point;
      interval = s.interval;
      known = s.known;
      core = s.core;
      reserved = s.reserved;
      checkpoint = λ n k. refl;
      given = s.given;
      waiting = s.waiting;
      list = s.list;
      content = s.content;
      value = s.value;
      last_write = s.last_write;
      last_access = s.last_access;
    }

-- the records of each block say the same of its contents and accesses
pub record IsSameHistory (r q : ℕ → Records) : Type 0 where
  pub content : (b j : ℕ) → (r b).below j ≡ (q b).below j
  pub value : (b : ℕ) → (r b).value ≡ (q b).value
  pub last_write : (b : ℕ) → (r b).last_write ≡ (q b).last_write
  pub last_access : (b n : ℕ) → (r b).last_access n ≡ (q b).last_access n

pub same_history : (r : ℕ → Records) → IsSameHistory r r
same_history r = record { content = λ b j. refl; value = λ b. refl; last_write = λ b. refl; last_access = λ b n. refl }

-- what a node is asked to have as before: but for its core's reservation
pub record IsSameRest (s t : State) : Type 0 where
  pub core : (n : ℕ) → bare (processor_at s n).core ≡ bare (processor_at t n).core
  pub given : (n : ℕ) → (processor_at s n).given ≡ (processor_at t n).given
  pub taken : (n : ℕ) → taken_by s n ≡ taken_by t n

module _ (image : ImageData) (N : ℕ) (F : Places) (s t : State) (r q : ℕ → Records) (list : ℕ → List Entry) (kept : Keeps image N F (outline_of s r list)) (history : IsSameHistory r q) where
  same_waiting : (n : ℕ) → IsSameRest s t → drop (taken_by s n) (processor_at s n).given ≡ drop (taken_by t n) (processor_at t n).given
  same_waiting n rest = let a = rest.taken n in let b = rest.given n in grind arith

  -- an event that leaves the clocks, where reservations may be lost
  module _ (clocks : IsSameClocks s.fabric t.fabric) (rest : IsSameRest s t) where
    pub less_keeps : ((n b : ℕ) → is_reserved (processor_at t n).core.reservation b ≡ true →
        is_reserved (processor_at s n).core.reservation b ≡ true) →
        ((n k : ℕ) → (node_at s.fabric n).known ≤ k → k ≤ interval_of s.fabric n →
        checkpoint_of (processor_at t n) (node_at t.fabric n).known k ≡ checkpoint_of (processor_at s n) (node_at s.fabric n).known k) →
        Keeps image N F (outline_of t q list)
    less_keeps reserved checkpoint =
        same_kept image N F (lost_to (outline_of s r list) (outline_of t q list).reserved) (outline_of t q list) same
        (lost_keeps image N F (outline_of s r list) kept (outline_of t q list).reserved reserved)
      where
        interval : (n : ℕ) → interval_of s.fabric n ≡ interval_of t.fabric n
        interval n = let a = clocks.count in let b = clocks.now n in let c = clocks.point in grind arith

        same : IsSameKept (lost_to (outline_of s r list) (outline_of t q list).reserved) (outline_of t q list)
        same = record {
          point = sym clocks.point;
          interval = interval;
          known = λ n. sym (clocks.known n);
          core = rest.core;
          reserved = λ n b. refl;
          checkpoint = checkpoint;
          given = rest.given;
          waiting = λ n. same_waiting n rest;
          list = λ x. refl;
          content = history.content;
          value = history.value;
          last_write = history.last_write;
          last_access = history.last_access;
        }

  -- an edge of node e
  module _ (e : ℕ) (rest : IsSameRest s t) where
    pub edge_keeps : t.fabric.point ≡ s.fabric.point → ((n : ℕ) → interval_of t.fabric n ≡ (outline_after_edge (outline_of s r list) e).interval n) →
        ((n : ℕ) → (node_at t.fabric n).known ≡ (node_at s.fabric n).known) →
        ((n b : ℕ) → (outline_after_edge (outline_of s r list) e).reserved n b ≡ is_reserved (processor_at t n).core.reservation b) →
        ((n k : ℕ) → (node_at s.fabric n).known ≤ k → k ≤ interval_of t.fabric n →
        checkpoint_of (processor_at t n) (node_at t.fabric n).known k ≡ (outline_after_edge (outline_of s r list) e).checkpoint n k) →
        Keeps image N F (outline_of t q list)
    edge_keeps point interval known reserved checkpoint =
        same_kept image N F (outline_after_edge (outline_of s r list) e) (outline_of t q list) same (edged_keeps image N F (outline_of s r list) kept e)
      where
        same : IsSameKept (outline_after_edge (outline_of s r list) e) (outline_of t q list)
        same = record {
          point = sym point;
          interval = λ n. sym (interval n);
          known = λ n. sym (known n);
          core = rest.core;
          reserved = reserved;
          checkpoint = λ n k l u. checkpoint n k l (let i = interval n in omega (arith, i, u));
          given = rest.given;
          waiting = λ n. same_waiting n rest;
          list = λ x. refl;
          content = history.content;
          value = history.value;
          last_write = history.last_write;
          last_access = history.last_access;
        }

  -- node e hears of recovery point k
  module _ (e k : ℕ) (rest : IsSameRest s t) where
    pub news_keeps : k ≤ s.fabric.point → t.fabric.point ≡ s.fabric.point → ((n : ℕ) → interval_of t.fabric n ≡ interval_of s.fabric n) →
        ((n : ℕ) → (node_at t.fabric n).known ≡ (outline_after_news (outline_of s r list) e k).known n) →
        ((n b : ℕ) → is_reserved (processor_at s n).core.reservation b ≡ is_reserved (processor_at t n).core.reservation b) →
        ((n j : ℕ) → (node_at t.fabric n).known ≤ j → j ≤ interval_of s.fabric n →
        checkpoint_of (processor_at t n) (node_at t.fabric n).known j ≡ checkpoint_of (processor_at s n) (node_at s.fabric n).known j) →
        Keeps image N F (outline_of t q list)
    news_keeps low point interval known reserved checkpoint =
        same_kept image N F (outline_after_news (outline_of s r list) e k) (outline_of t q list) same
        (learned_keeps image N F (outline_of s r list) kept e k low)
      where
        same : IsSameKept (outline_after_news (outline_of s r list) e k) (outline_of t q list)
        same = record {
          point = sym point;
          interval = λ n. sym (interval n);
          known = λ n. sym (known n);
          core = rest.core;
          reserved = reserved;
          checkpoint = λ n j l u. checkpoint n j (let i = known n in omega (arith, i, l)) u;
          given = rest.given;
          waiting = λ n. same_waiting n rest;
          list = λ x. refl;
          content = history.content;
          value = history.value;
          last_write = history.last_write;
          last_access = history.last_access;
        }

  -- a byte of input is given to node e
  module _ (e byte : ℕ) where
    pub input_keeps : IsSameClocks s.fabric t.fabric → ((n : ℕ) → bare (processor_at s n).core ≡ bare (processor_at t n).core) →
        ((n b : ℕ) → is_reserved (processor_at s n).core.reservation b ≡ is_reserved (processor_at t n).core.reservation b) →
        ((n k : ℕ) → checkpoint_of (processor_at t n) (node_at t.fabric n).known k
        ≡ checkpoint_of (processor_at s n) (node_at s.fabric n).known k) →
        ((n : ℕ) → (processor_at t n).given ≡ (given_to (outline_of s r list) e byte).given n) →
        ((n : ℕ) → drop (taken_by t n) (processor_at t n).given ≡ (given_to (outline_of s r list) e byte).waiting n) →
        Keeps image N F (outline_of t q list)
    input_keeps clocks core reserved checkpoint given waiting =
        same_kept image N F (given_to (outline_of s r list) e byte) (outline_of t q list) same
        (given_keeps image N F (outline_of s r list) kept e byte)
      where
        interval : (n : ℕ) → interval_of s.fabric n ≡ interval_of t.fabric n
        interval n = let a = clocks.count in let b = clocks.now n in let c = clocks.point in grind arith

        same : IsSameKept (given_to (outline_of s r list) e byte) (outline_of t q list)
        same = record {
          point = sym clocks.point;
          interval = interval;
          known = λ n. sym (clocks.known n);
          core = core;
          reserved = reserved;
          checkpoint = λ n k l u. checkpoint n k;
          given = λ n. sym (given n);
          waiting = λ n. sym (waiting n);
          list = λ x. refl;
          content = history.content;
          value = history.value;
          last_write = history.last_write;
          last_access = history.last_access;
        }

  -- what no node has: the core of the start, at each checkpoint
  abbrev pub IsNobodys : State → Type 0
  IsNobodys u = (n k : ℕ) → N ≤ n → ((node_at u.fabric n).known ≡ 0) × (checkpoint_of (processor_at u n) 0 k ≡ F.core n)

  -- the point rises by one
  module _ (rest : IsSameRest s t) (count : length s.fabric.nodes ≡ N) (nobody : IsNobodys t) where
    pub validation_keeps : length t.fabric.nodes ≡ N → t.fabric.point ≡ suc s.fabric.point →
        ((n : ℕ) → n < N → suc s.fabric.point ≤ (node_at s.fabric n).now) →
        ((n : ℕ) → n < N → (node_at t.fabric n).now ≡ (node_at s.fabric n).now) →
        ((n : ℕ) → n < N → (node_at t.fabric n).known ≡ (node_at s.fabric n).known) →
        ((n b : ℕ) → is_reserved (processor_at s n).core.reservation b ≡ is_reserved (processor_at t n).core.reservation b) →
        ((n k : ℕ) → n < N → checkpoint_of (processor_at t n) (node_at t.fabric n).known k
        ≡ checkpoint_of (processor_at s n) (node_at s.fabric n).known k) →
        Keeps image N F (outline_of t q list)
    validation_keeps same_count point reached now known reserved checkpoint =
        same_kept image N F (outline_after_validation others) (outline_of t q list) same
        (validated_keeps image N F others (others_keep image N F (outline_of s r list) kept (suc s.fabric.point)) high)
      where
        others : Outline
        others = others_reach N F (outline_of s r list) (suc s.fabric.point)

        high : (n : ℕ) → suc s.fabric.point ≤ others.interval n
        high n = let a = reached n in grind (arith, nat_tests)

        interval : (n : ℕ) → others.interval n ≡ interval_of t.fabric n
        interval n = let a = now n in let b = reached n in grind (arith, nat_tests)

        known_same : (n : ℕ) → others.known n ≡ (node_at t.fabric n).known
        known_same n = let a = known n in let b : N ≤ n → (node_at t.fabric n).known ≡ 0 = λ l. (nobody n 0 l).0 in grind (arith, nat_tests)

        kept_same : (n k : ℕ) (node : Bool) → nat_lt n N ≡ node →
            checkpoint_of (processor_at t n) (node_at t.fabric n).known k
            ≡ cond node (checkpoint_of (processor_at s n) (node_at s.fabric n).known k) (F.core n)
        kept_same n k true e = checkpoint n k (grind (arith, nat_tests))
        kept_same n k false e =
            let l : N ≤ n = grind (arith, nat_tests) in
            ap (λ j. checkpoint_of (processor_at t n) j k) (nobody n k l).0 ∙ (nobody n k l).1

        same : IsSameKept (outline_after_validation others) (outline_of t q list)
        same = record {
          point = sym point;
          interval = interval;
          known = known_same;
          core = rest.core;
          reserved = reserved;
          checkpoint = λ n k l u. kept_same n k (nat_lt n N) refl;
          given = rest.given;
          waiting = λ n. same_waiting n rest;
          list = λ x. refl;
          content = history.content;
          value = history.value;
          last_write = history.last_write;
          last_access = history.last_access;
        }

-- a recovery to the point
module _ (image : ImageData) (N : ℕ) (F : Places) (s t : State) (r : ℕ → Records) (list : ℕ → List Entry) (kept : Keeps image N F (outline_of s r list)) (nobody : IsNobodys image N F s t r r list kept (same_history r) t) where
  abbrev back : ℕ → Records
  back b = rolls_back (r b) N s.fabric.point

  pub recovery_keeps : length s.fabric.nodes ≡ N → length t.fabric.nodes ≡ N → t.fabric.point ≡ s.fabric.point →
      ((n : ℕ) → n < N → (node_at t.fabric n).now ≡ s.fabric.point) → ((n : ℕ) → n < N → (node_at t.fabric n).known ≡ s.fabric.point) →
      ((n : ℕ) → bare (processor_at t n).core ≡ (outline_of s r list).checkpoint n s.fabric.point) →
      ((n b : ℕ) → is_reserved (processor_at t n).core.reservation b ≡ false) →
      ((n : ℕ) → n < N → checkpoint_of (processor_at t n) (node_at t.fabric n).known s.fabric.point
      ≡ checkpoint_of (processor_at s n) (node_at s.fabric n).known s.fabric.point) →
      ((n : ℕ) → (processor_at s n).given ≡ (processor_at t n).given) →
      ((n : ℕ) → (processor_at s n).given ≡ (at_cut image F list s.fabric.point).taken n ++ drop (taken_by t n) (processor_at t n).given) →
      Keeps image N F (outline_of t back (entries_below_cut list s.fabric.point))
  recovery_keeps count same_count point now known core reserved checkpoint given left =
      same_kept image N F others (outline_of t back (entries_below_cut list s.fabric.point)) same
      (others_keep image N F gone (recovered_keeps image N F (outline_of s r list) kept waiting left) 0)
    where
      waiting : ℕ → List ℕ
      waiting n = drop (taken_by t n) (processor_at t n).given

      gone : Outline
      gone = outline_after_recovery (outline_of s r list) waiting

      others : Outline
      others = others_reach N F gone 0

      interval : (n : ℕ) → others.interval n ≡ interval_of t.fabric n
      interval n = let a = now n in grind (arith, nat_tests)

      known_same : (n : ℕ) → others.known n ≡ (node_at t.fabric n).known
      known_same n = let a = known n in let b : N ≤ n → (node_at t.fabric n).known ≡ 0 = λ l. (nobody n 0 l).0 in grind (arith, nat_tests)

      kept_same : (n k : ℕ) (node : Bool) → nat_lt n N ≡ node → others.known n ≤ k → k ≤ others.interval n →
          checkpoint_of (processor_at t n) (node_at t.fabric n).known k
          ≡ cond node (checkpoint_of (processor_at s n) (node_at s.fabric n).known k) (F.core n)
      kept_same n k true e l u =
          let i : k ≡ s.fabric.point = grind (arith, nat_tests) in
          subst (λ j. checkpoint_of (processor_at t n) (node_at t.fabric n).known j
          ≡ checkpoint_of (processor_at s n) (node_at s.fabric n).known j) (sym i) (checkpoint n (grind (arith, nat_tests)))
      kept_same n k false e l u =
          let h : N ≤ n = grind (arith, nat_tests) in
          ap (λ j. checkpoint_of (processor_at t n) j k) (nobody n k h).0 ∙ (nobody n k h).1

      same : IsSameKept others (outline_of t back (entries_below_cut list s.fabric.point))
      same = record {
        point = sym point;
        interval = interval;
        known = known_same;
        core = λ n. sym (core n);
        reserved = λ n b. sym (reserved n b);
        checkpoint = λ n k l u. kept_same n k (nat_lt n N) refl l u;
        given = given;
        waiting = λ n. refl;
        list = λ x. refl;
        content = λ b j. refl;
        value = λ b. refl;
        last_write = λ b. refl;
        last_access = λ b n. refl;
      }
