-- What a machine shows of its recovery point is the flat machine after the committed trace.
use Rattle.std.proofs.Common.{◌≡◌, ◌⊎◌, inl, inr, Bool, not, ◌&&◌, zero, suc, ℕ, ◌+◌, ◌-◌, ◌*◌, ◌/◌, ◌%◌, ◌<◌, ◌≤◌, true, false, List}
use Rattle.std.proofs.Common.{length, get_or, drop, Some, refl, sym, ap, ◌∙◌, subst, arith}
use Rattle.std.specs.Prelude.{slice_get}
use Rattle.std.proofs.lemmas.Bool.{cases_lt}
use Rattle.sn_base.specs.Image.{ImageData}
use Rattle.sn_base.specs.declared.config.Config.{Config}
use Rattle.rv_core.specs.declared.state.CoreState.{CoreState}
use Rattle.byteorder.specs.Endian.{little_number}
use Rattle.sn_base.specs.Blocks.{ram_start, ram_size}
use Rattle.rv_core.specs.Core.{bare, block_of, is_running}
use Rattle.rv_core.specs.Flat.{FlatState, core_at as flat_core, word_at}
use Rattle.rv_core.specs.Execution.{end_of}
use Rattle.reg_ckpt.specs.Checkpoints.{HasCheckpoint, core_at}
use Rattle.sn_model.specs.Machine.{Processor, processor_at}
use Rattle.sn_consistency.specs.Words.{block_word, block_in as sorted_block_in}
use Rattle.sn_consistency.proofs.BlockLaws.{word_block}
use Rattle.sn_model.specs.Caches.{block_count}
use Rattle.sn_model.specs.Cuts.{names_at, transaction_before}
use Rattle.sn_model.specs.Fabric.{Fabric, node_at, home_of}
use Rattle.sn_model.specs.Homes.{Holder, Itself, OfCache}
use Rattle.sn_model.specs.RecoveryPoint.{HasOneHolderWith, block_in}
use Rattle.consistent_cuts.proofs.Finished.{home_finished}
use Rattle.sn_machine.specs.declared.processor.Processor.{Processor as ProcessorUnit}
use Rattle.sn_machine.specs.declared.hardware.Hardware.{Hardware}
use Rattle.sn_machine.specs.Invariant.{IsMachine}
use Rattle.sn_machine.specs.Looks.{have_ended}
use Rattle.sn_machine.specs.Machine.{MachineData, flat_of}
use Rattle.sn_machine.specs.Parts.{state_of, unit_at}
use Rattle.sn_machine.proofs.Invariant.{consistent, sound}
use Rattle.sn_machine.proofs.Parts.{processor-at, is_here, unit-read}

injected : (a b : CoreState) → Some a ≡ Some b → a ≡ b
injected a b e = cc

module _ (image : ImageData) (config : Config) (h : Hardware) (applied spare : ℕ) (m : IsMachine image config h applied spare) where
  pub here : (n : ℕ) → n < config.nodes → n < length h.fabric.fabric.nodes
  here n l = let e = m.nodes in omega (arith, e, l)

  -- it keeps the register checkpoint at the recovery point
  pub core-kept : (n place point : ℕ) (x : ProcessorUnit) → n < config.nodes → place ≡ n → x ≡ get_or h.processors.items place x →
      point ≡ h.fabric.fabric.point → HasCheckpoint x.checkpoints point
  core-kept n place point x l i r at =
      let lh = here n l in
      let e = unit-read h n place x m.whole lh i r in
      let s = sound image config h applied spare m in
      let known : (node_at h.fabric.fabric n).known ≤ h.fabric.fabric.point = (s.times n lh).known in
      let reached : h.fabric.fabric.point ≤ (node_at h.fabric.fabric n).now = (s.times n lh).reached in
      let count : (node_at h.fabric.fabric n).known + length (processor_at (state_of h) n).checkpoints ≡ (node_at h.fabric.fabric n).now + 1 =
      s.shape.checkpoints n lh in
      let cores : length (processor_at (state_of h) n).checkpoints ≡ length (unit_at h.processors.items n).checkpoints.cores =
      ap (λ (q : Processor). length q.checkpoints) (processor-at h n (is_here h n m.whole lh)) in
      let first = m.whole.known n (is_here h n m.whole lh) in
      rw (e, at) (record { from = omega (arith, first, known); below = omega (arith, first, reached, count, cores) })

  pub core-shown : (n place : ℕ) (x : ProcessorUnit) (core : CoreState) → n < config.nodes → place ≡ n → x ≡ get_or h.processors.items place x →
      core_at x.checkpoints h.fabric.fabric.point ≡ Some core →
      core ≡ bare (flat_core (end_of image config.nodes h.history.committed) n)
  core-shown n place x core l i r at =
      let lh = here n l in
      let e = unit-read h n place x m.whole lh i r in
      let keeps = (consistent image config h applied spare m).cut.cores n lh in
      let p = processor-at h n (is_here h n m.whole lh) in
      let first = m.whole.known n (is_here h n m.whole lh) in
      let a : slice_get (unit_at h.processors.items n).checkpoints.cores (h.fabric.fabric.point - (node_at h.fabric.fabric n).known)
      ≡ Some (bare (flat_core (end_of image config.nodes h.history.committed) n)) =
      ap (λ (q : Processor). slice_get q.checkpoints (h.fabric.fabric.point - (node_at h.fabric.fabric n).known)) (sym p) ∙ keeps.same in
      let b : slice_get (unit_at h.processors.items n).checkpoints.cores
      (h.fabric.fabric.point - (unit_at h.processors.items n).checkpoints.first) ≡ Some core = (rw e at at) in
      injected core _ (sym b ∙ ap (λ k. slice_get (unit_at h.processors.items n).checkpoints.cores (h.fabric.fabric.point - k)) first ∙ a)

-- a word of memory

pub contents : (s : Fabric) (b k : ℕ) (x y : List ℕ) (holder : Holder) → HasOneHolderWith s b k x holder → HasOneHolderWith s b k y holder →
    x ≡ y
contents s b k x y (Itself named) p q = sym p.0 ∙ q.0
contents s b k x y (OfCache owner) p q = let a = p.1 in let c = q.1 in cc

word_of : (memory : List ℕ) (address place : ℕ) (content : List ℕ) → place ≡ (address - ram_start) % 64 → address % 4 ≡ 0 →
    ram_start ≤ address → content ≡ block_in memory (block_of address) →
    little_number 4 (drop place content) ≡ word_at memory address
unfolding sorted_block_in block_word
word_of memory address place content i aligned low is =
    let e : (address - ram_start) % 64 / 4 * 4 ≡ (address - ram_start) % 64 = omega (arith, aligned, low) in
    sym (word_block memory address ∙ rw (e, is, i) refl)

module _ (image : ImageData) (config : Config) (h : Hardware) (applied spare : ℕ) (m : IsMachine image config h applied spare) where
  -- no transaction of a block that was begun before the recovery point is open
  pub settled : (block point : ℕ) → block < block_count → point ≡ h.fabric.fabric.point →
      transaction_before (home_of h.fabric.fabric block).transaction point ≡ false
  settled block point inside p =
      let keeps = (sound image config h applied spare m).keeps in
      rw p
      (home_finished (home_of h.fabric.fabric block).transaction h.fabric.fabric.point
      (keeps.1.blocks block inside).clocks.begun_point)

  pub word-settled : (address block point : ℕ) → ram_start ≤ address → address < ram_start + ram_size → block ≡ block_of address →
      point ≡ h.fabric.fabric.point → transaction_before (home_of h.fabric.fabric block).transaction point ≡ false
  word-settled address block point low high b p = settled block point (omega (arith, low, high, b)) p

  pub word-shown : (address place block point value : ℕ) (content : List ℕ) → ram_start ≤ address → address < ram_start + ram_size →
      address % 4 ≡ 0 → place ≡ (address - ram_start) % 64 → block ≡ block_of address → point ≡ h.fabric.fabric.point →
      HasOneHolderWith h.fabric.fabric block point content (names_at h.fabric.fabric block point) →
      value ≡ little_number 4 (drop place content) → value ≡ word_at (end_of image config.nodes h.history.committed).memory address
  word-shown address place block point value content low high aligned i b p held is =
      let inside : block_of address < block_count = omega (arith, low, high) in
      let blocks = (consistent image config h applied spare m).cut.blocks (block_of address) inside in
      let same = contents h.fabric.fabric (block_of address) h.fabric.fabric.point content
      (block_in (end_of image config.nodes h.history.committed).memory (block_of address))
      (names_at h.fabric.fabric (block_of address) h.fabric.fabric.point) (rw (b, p) at held) blocks in
      is ∙ word_of (end_of image config.nodes h.history.committed).memory address place content i aligned low same

-- one core that runs

ended_step : (flat : FlatState) (k n : ℕ) → n < suc k → is_running (flat_core flat n).end ≡ true → (n < k → have_ended k flat ≡ false) →
    have_ended (suc k) flat ≡ false
ended_step flat k n l is below = go (cases_lt n k)
  where
    last : (b : Bool) → is_running (flat_core flat k).end ≡ true → b && not (is_running (flat_core flat k).end) ≡ false
    last true q = rw q refl
    last false q = refl

    go : ((n < k) ⊎ (k ≤ n)) → have_ended (suc k) flat ≡ false
    go (inl h) = rw (below h) refl
    go (inr h) =
        let e : n ≡ k = omega (arith, l, h) in last (have_ended k flat) (subst (λ j. is_running (flat_core flat j).end ≡ true) e is)

not_ended : (flat : FlatState) (nodes n : ℕ) → n < nodes → is_running (flat_core flat n).end ≡ true → have_ended nodes flat ≡ false
not_ended flat zero n l is = absurd (omega (arith, l))
not_ended flat (suc k) n l is = ended_step flat k n l is (λ h. not_ended flat k n h is)

pub one-runs : (m view : MachineData) (number node : ℕ) (core : CoreState) (running : Bool) → view ≡ m → node ≡ number →
    core ≡ bare (flat_core (flat_of view) node) → running ≡ is_running core.end → running ≡ true → number < m.config.nodes →
    have_ended m.config.nodes (flat_of m) ≡ false
one-runs m view number node core running v i is e runs l =
    not_ended (flat_of m) m.config.nodes number l
    (ap (λ (d : MachineData). is_running (flat_core (flat_of d) number).end) (sym v)
    ∙ ap (λ k. is_running (flat_core (flat_of view) k).end) (sym i) ∙ ap (λ (c : CoreState). is_running c.end) (sym is) ∙ sym e ∙ runs)
