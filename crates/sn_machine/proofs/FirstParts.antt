-- The parts at a program's start, and the room that they take.
use Rattle.std.proofs.Common.{◌≡◌, ◌≢◌, ℕ, zero, suc, ◌+◌, ◌<◌, ◌≤◌, false, List, [], ◌∷◌, ◌++◌, length, map, get_or, set, replicate, refl}
use Rattle.std.proofs.Common.{sym, ap, ◌∙◌, arith, length-set, ⊎_elim}
use Rattle.std.specs.List.{All}
use Rattle.std.proofs.lemmas.List.{length_push, map-append, map-set, set-get_or, get_or_read, length-replicate, get_or-set_same}
use Rattle.std.proofs.lemmas.List.{get_or-set_other}
use Rattle.std.proofs.lemmas.List.Elements.{All-nil, All-push, All-get_or}
use Rattle.std.proofs.lemmas.Bool.{cases_eq}
use Rattle.sn_base.specs.Image.{ImageData}
use Rattle.sn_base.specs.declared.config.Config.{Config}
use Rattle.consistent_cuts.proofs.Recovery.{replicated}
use Rattle.sn_model.specs.Fabric.{Node, first_fabric, first_node}
use Rattle.sn_model.specs.Machine.{Processor, first_processor, first_processors}
use Rattle.sn_machine.specs.Input.{InputData}
use Rattle.sn_machine.specs.declared.processor.Processor.{Processor as ProcessorUnit}
use Rattle.sn_machine.specs.declared.hardware.Hardware.{Hardware}
use Rattle.sn_machine.specs.Parts.{processor_as, unit_at, no_unit}
use Rattle.sn_machine.specs.Start.{first_unit, units_below, IsFirst, AreRoomier, IsRoomier}

-- the start

units-shown : (n entry : ℕ) → map processor_as (units_below n entry) ≡ first_processors n entry
units-shown zero entry = refl
units-shown (suc n) entry = rw (map-append) (ap (λ ps. ps ++ first_processor n entry ∷ []) (units-shown n entry))

units-count : (n entry : ℕ) → length (units_below n entry) ≡ n
units-count zero entry = refl
units-count (suc n) entry =
    let l = length_push (units_below n entry) (first_unit entry n) in let h = units-count n entry in omega (arith, l, h)

units-first : (n entry : ℕ) → All (λ (x : ProcessorUnit). x.checkpoints.first ≡ 0) (units_below n entry)
units-first zero entry = All-nil (λ (x : ProcessorUnit). x.checkpoints.first ≡ 0)
units-first (suc n) entry =
    All-push (λ (x : ProcessorUnit). x.checkpoints.first ≡ 0) (units_below n entry) (first_unit entry n) (units-first n entry) refl

pub first-parts : (h : Hardware) (image : ImageData) (config : Config) →
    h.fabric ≡ record { config = config; fabric = first_fabric image config.nodes; sent = [] } →
    h.processors.items ≡ units_below config.nodes image.entry →
    h.controller ≡ record { point = 0; reported = replicate config.nodes 0 } →
    h.history ≡ record { pending = []; committed = []; room = 0 } → h.output ≡ record { held = []; released = []; room = 0 } →
    h.is_carried ≡ false → IsFirst h image config
first-parts h image config fabric processors controller history output is = record {
  state = rw (fabric, processors, controller, history, output, units-shown) refl;
  sent = rw is refl;
  sizes = rw fabric refl;
  whole = record {
    count = rw (fabric, processors) (units-count config.nodes image.entry ∙ sym (length-replicate config.nodes first_node));
    known =
        rw (fabric, processors)
        (λ n l. All-get_or (λ (x : ProcessorUnit). x.checkpoints.first ≡ 0) (units_below config.nodes image.entry) n no_unit l
        (units-first config.nodes image.entry) ∙ ap (λ (x : Node). x.known) (sym (replicated config.nodes n first_node)));
    point = rw (fabric, controller) refl;
  };
}

-- more room

pub roomier-same : (xs : List ProcessorUnit) → AreRoomier xs xs
roomier-same xs = record { shown = refl; count = refl; firsts = λ n l. refl; rooms = λ n l. omega arith }

module _ (old mid : List ProcessorUnit) (k : ℕ) (x : ProcessorUnit) (input : InputData) (l : k < length mid) (r : x ≡ get_or mid k x) (given : input.given ≡ x.input.given) where
  is : x ≡ unit_at mid k
  is = get_or_read mid k x l r no_unit

  shown : map processor_as (set mid k (record x { input = input })) ≡ map processor_as mid
  shown =
      map-set processor_as mid k (record x { input = input })
      ∙ rw (given) (same (processor_as x) (ap processor_as is ∙ sym (at_map processor_as mid k no_unit l)))
    where
      at_map : (f : ProcessorUnit → Processor) (xs : List ProcessorUnit) (n : ℕ) (d : ProcessorUnit) → n < length xs → get_or (map f xs) n (f d) ≡ f (get_or xs n d)
      at_map f [] n d h = absurd (omega arith)
      at_map f (y ∷ ys) zero d h = refl
      at_map f (y ∷ ys) (suc n) d h = at_map f ys n d (omega arith)

      same : (p : Processor) → p ≡ get_or (map processor_as mid) k (processor_as no_unit) →
          set (map processor_as mid) k p ≡ map processor_as mid
      same p e = rw e (set-get_or (map processor_as mid) k (processor_as no_unit))

  each : (P : ℕ → ProcessorUnit → Type 0) → P k (record x { input = input }) → ((m : ℕ) → m ≢ k → P m (unit_at mid m)) → (m : ℕ) →
      P m (unit_at (set mid k (record x { input = input })) m)
  each P here there m =
      ⊎_elim (λ (e : m ≡ k). rw e (rw (get_or-set_same mid k (record x { input = input }) no_unit l) here))
      (λ ne. rw (get_or-set_other mid k m (record x { input = input }) no_unit ne) (there m ne)) (cases_eq m k)

  pub roomier-one : AreRoomier old mid → x.input.room ≤ input.room → AreRoomier old (set mid k (record x { input = input }))
  roomier-one a more = record {
    shown = shown ∙ a.shown;
    count = length-set mid k (record x { input = input }) ∙ a.count;
    firsts =
        λ n h. each (λ m y. m < length old → y.checkpoints.first ≡ (unit_at old m).checkpoints.first)
        (λ hm. ap (λ (y : ProcessorUnit). y.checkpoints.first) is ∙ a.firsts k hm) (λ m ne hm. a.firsts m hm) n h;
    rooms =
        λ n h. each (λ m y. m < length old → (unit_at old m).input.room ≤ y.input.room)
        (λ hm. let e = ap (λ (y : ProcessorUnit). y.input.room) is in let b = a.rooms k hm in omega (arith, e, b, more))
        (λ m ne hm. a.rooms m hm) n h;
  }

  pub done-one : (bytes : ℕ) → bytes ≤ input.room → ((n : ℕ) → n < k → bytes ≤ (unit_at mid n).input.room) → (n : ℕ) → n < k + 1 →
      bytes ≤ (unit_at (set mid k (record x { input = input })) n).input.room
  done-one bytes here done n h = each (λ m y. m < k + 1 → bytes ≤ y.input.room) (λ hm. here) (λ m ne hm. done m (omega (arith, hm, ne))) n h

-- the parts with more room
pub roomier-parts : (h g : Hardware) (events : ℕ) → g.fabric ≡ h.fabric → g.controller ≡ h.controller → g.is_carried ≡ h.is_carried →
    g.history.pending ≡ h.history.pending → g.history.committed ≡ h.history.committed → h.history.room ≤ g.history.room →
    g.output.held ≡ h.output.held → g.output.released ≡ h.output.released → h.output.room ≤ g.output.room →
    AreRoomier h.processors.items g.processors.items → IsRoomier h g
roomier-parts h g events fabric controller carried pending committed records held released bytes rooms = record {
  state = rw (fabric, controller, pending, committed, held, released, rooms.shown) refl;
  sent = rw (fabric, carried) refl;
  sizes = rw fabric refl;
  whole = λ w. record {
    count = rw fabric (rooms.count ∙ w.count);
    known =
        rw fabric (λ n l. let lower : n < length h.processors.items = (let e = rooms.count in omega (arith, e, l)) in
        rooms.firsts n lower ∙ w.known n lower);
    point = rw (fabric, controller) w.point;
  };
  room = λ k room. record {
    records = let a = room.records in omega (arith, a, records);
    bytes = let a = room.bytes in omega (arith, a, bytes);
    given =
        λ n l. let lower : n < length h.processors.items = (let e = rooms.count in omega (arith, e, l)) in let a = room.given n lower in
        let b = rooms.rooms n lower in omega (arith, a, b);
  };
}
