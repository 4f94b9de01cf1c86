-- What the parts of a machine that goes on from a recovery point stand for.
use Rattle.std.proofs.Common.{◌≡◌, ℕ, zero, suc, ◌<◌, Bool, false, List, [], ◌∷◌, ◌++◌, length, map}
use Rattle.std.proofs.Common.{refl, sym, ap, ◌∙◌, subst, arith, add-one}
use Rattle.std.specs.Prelude.{replicate, slice_index_or, None}
use Rattle.std.specs.List.{All, range_with_len}
use Rattle.std.proofs.lemmas.List.{length_push, map-append}
use Rattle.std.proofs.lemmas.List.Elements.{All-nil, All-push, All-get_or}
use Rattle.std.proofs.lemmas.List.FromFn.{fill_by_all, get_or-map-range_with_len, length-map-range_with_len, map-range_with_len_more}
use Rattle.sn_base.specs.Image.{ImageData}
use Rattle.rv_core.specs.Flat.{FlatState}
use Rattle.rv_core.specs.Execution.{out_of}
use Rattle.sn_model.specs.Caches.{no_line, block_count}
use Rattle.sn_model.specs.Fabric.{Node, node_at, no_entry}
use Rattle.sn_model.specs.Machine.{Processor}
use Rattle.sn_model.specs.PointEvents.{restored_line}
use Rattle.sn_model.specs.RecoveryPoint.{block_in}
use Rattle.sn_saved.specs.Resumed.{each_below, content_owned, lines_owned, node_resumed, home_resumed, homes_resumed, net_resumed}
use Rattle.sn_saved.specs.Resumed.{fabric_resumed, processor_resumed, flat_resumed, resumed}
use Rattle.sn_saved.specs.Saved.{Saved, owner_in}
use Rattle.validation.specs.Ready.{Reports}
use Rattle.sn_fabric.specs.Fabric.{FabricData}
use Rattle.consistent_cuts.proofs.KeptResumed.{count_resumed, node_resumed_is}
use Rattle.sn_machine.specs.declared.processor.Processor.{Processor as ProcessorUnit}
use Rattle.sn_machine.specs.declared.hardware.Hardware.{Hardware}
use Rattle.sn_machine.specs.Parts.{processor_as, retirement_as, held_as, unit_at, no_unit}
use Rattle.sn_machine.specs.Resumed.{HasContents, unit_resumed, units_resumed, IsResumed}

-- the processors

module _ (flat : FlatState) (given : List (ℕ × ℕ)) (point : ℕ) where
  units-shown : (n : ℕ) → map processor_as (units_resumed n flat given point) ≡ each_below n (processor_resumed flat given)
  units-shown zero = refl
  units-shown (suc n) =
      map-append processor_as (units_resumed n flat given point) (unit_resumed flat given point n ∷ [])
      ∙ (ap (λ (xs : List Processor). xs ++ processor_resumed flat given n ∷ []) (units-shown n)
      ∙ (sym (map-range_with_len_more (processor_resumed flat given) 0 n n (omega arith))
      ∙ ap (λ (k : ℕ). map (processor_resumed flat given) (range_with_len 0 k)) (add-one n)))

  units-count : (n : ℕ) → length (units_resumed n flat given point) ≡ n
  units-count zero = refl
  units-count (suc n) =
      let a = length_push (units_resumed n flat given point) (unit_resumed flat given point n) in let b = units-count n in omega (arith, a, b)

  units-first : (n : ℕ) → All (λ (x : ProcessorUnit). x.checkpoints.first ≡ point) (units_resumed n flat given point)
  units-first zero = All-nil (λ (x : ProcessorUnit). x.checkpoints.first ≡ point)
  units-first (suc n) =
      All-push (λ (x : ProcessorUnit). x.checkpoints.first ≡ point) (units_resumed n flat given point) (unit_resumed flat given point n)
      (units-first n) refl

-- the same contents make the same fabric

same_below : {A : Type 0} (n : ℕ) (f g : ℕ → A) (d : A) → ((k : ℕ) → k < n → f k ≡ g k) → each_below n f ≡ each_below n g
same_below n f g d each =
    fill_by_all g (each_below n f) n d (length-map-range_with_len f 0 n)
    (λ k l. get_or-map-range_with_len f 0 n k k d l (omega arith) ∙ each k l)

module _ (f g : ℕ → List ℕ) (same : (block : ℕ) → block < block_count → f block ≡ g block) (owners : List (ℕ × ℕ)) where
  same_lines : (node : ℕ) → lines_owned owners f node ≡ lines_owned owners g node
  unfolding lines_owned
  same_lines node =
      same_below block_count (λ block. restored_line (content_owned (owner_in owners block) node (f block)))
      (λ block. restored_line (content_owned (owner_in owners block) node (g block))) no_line
      (λ block l. ap (λ (content : List ℕ). restored_line (content_owned (owner_in owners block) node content)) (same block l))

  same_homes : homes_resumed owners f ≡ homes_resumed owners g
  unfolding homes_resumed
  same_homes =
      same_below block_count (home_resumed owners f) (home_resumed owners g) no_entry
      (λ block l. ap (λ (content : List ℕ). home_resumed owners (λ b. content) block) (same block l))

  same_nodes : (nodes point : ℕ) → each_below nodes (node_resumed owners f point) ≡ each_below nodes (node_resumed owners g point)
  same_nodes nodes point = ap (λ (at : ℕ → Node). each_below nodes at) (λ i node. record {
    now = point;
    known = point;
    cache = record { lines = same_lines node i; miss = None; put = None };
    log = [];
  })

  pub same-fabric : (nodes point next : ℕ) (dead : List Bool) →
      fabric_resumed nodes owners f point next dead ≡ fabric_resumed nodes owners g point next dead
  same-fabric nodes point next dead = λ i. record {
    nodes = same_nodes nodes point i;
    homes = same_homes i;
    net = net_resumed dead next;
    point = point;
  }

-- the parts together

module _ (h : Hardware) (image : ImageData) (saved : Saved) (flat : FlatState) (contents : List (List ℕ)) (ends : flat ≡ flat_resumed image saved) where
  abbrev nodes : ℕ
  nodes = saved.config.nodes

  abbrev point : ℕ
  point = saved.marks.point

  abbrev content : ℕ → List ℕ
  content block = slice_index_or contents block []

  abbrev fabric_given : FabricData
  fabric_given = record {
    config = saved.config;
    fabric = fabric_resumed nodes saved.owners content point saved.marks.next_id saved.marks.dead;
    sent = [];
  }

  fabric_is : HasContents flat.memory contents → h.fabric ≡ fabric_given → h.fabric.fabric ≡ (resumed image saved).fabric
  fabric_is has e =
      ap (λ (f : FabricData). f.fabric) e
      ∙ same-fabric content (block_in (flat_resumed image saved).memory)
      (λ block l. has.blocks block l ∙ ap (λ (f : FlatState). block_in f.memory block) ends) saved.owners nodes point saved.marks.next_id
      saved.marks.dead

  processors_are : h.processors.items ≡ units_resumed nodes flat saved.given point →
      map processor_as h.processors.items ≡ (resumed image saved).processors
  processors_are e =
      ap (map processor_as) e
      ∙ (units-shown flat saved.given point nodes ∙ ap (λ (f : FlatState). each_below nodes (processor_resumed f saved.given)) ends)

  known_is : h.fabric ≡ fabric_given → h.processors.items ≡ units_resumed nodes flat saved.given point → (n : ℕ) →
      n < length h.processors.items → (unit_at h.processors.items n).checkpoints.first ≡ (node_at h.fabric.fabric n).known
  known_is fabric e n l =
      let inside : n < length (units_resumed nodes flat saved.given point) =
      subst (λ (xs : List ProcessorUnit). n < length xs) e l in
      let below : n < nodes = subst (λ k. n < k) (units-count flat saved.given point nodes) inside in
      ap (λ (xs : List ProcessorUnit). (unit_at xs n).checkpoints.first) e
      ∙ (All-get_or (λ (x : ProcessorUnit). x.checkpoints.first ≡ point) (units_resumed nodes flat saved.given point) n no_unit inside
      (units-first flat saved.given point nodes)
      ∙ sym (ap (λ (f : FabricData). (node_at f.fabric n).known) fabric
      ∙ ap (λ (x : Node). x.known) (node_resumed_is nodes point saved.marks.next_id saved.owners content saved.marks.dead n below)))

  pub parts-resumed : HasContents flat.memory contents → h.fabric ≡ fabric_given →
      h.processors.items ≡ units_resumed nodes flat saved.given point →
      h.controller ≡ record { point = point; reported = replicate nodes point } →
      h.history ≡ record { pending = []; committed = saved.committed; room = 0 } → h.output.held ≡ [] →
      h.output.released ≡ out_of image nodes saved.committed → h.is_carried ≡ false → IsResumed h image saved
  parts-resumed has fabric processors controller history held released is = record {
    state = λ i. record {
      fabric = fabric_is has fabric i;
      processors = processors_are processors i;
      reported = (controller i).reported;
      pending = map retirement_as (history i).pending;
      committed = (history i).committed;
      held = map held_as (held i);
      released = released i;
    };
    sent = rw is refl;
    sizes = ap (λ (f : FabricData). f.config) fabric;
    whole = record {
      count =
          ap length processors
          ∙ (units-count flat saved.given point nodes
          ∙ sym (ap (λ (f : FabricData). length f.fabric.nodes) fabric
          ∙ count_resumed nodes point saved.marks.next_id saved.owners content saved.marks.dead));
      known = known_is fabric processors;
      point = ap (λ (r : Reports). r.point) controller ∙ sym (ap (λ (f : FabricData). f.fabric.point) fabric);
    };
  }
