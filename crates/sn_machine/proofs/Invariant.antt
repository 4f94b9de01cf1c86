-- What holds of a machine's parts is enough for each event, and each event keeps it.
use Rattle.std.proofs.Common.{◌≡◌, ℕ, suc, ◌+◌, ◌-◌, ◌<◌, ◌≤◌, ◌^◌, Bool, true, false, cond, List, [], ◌∷◌, ◌++◌, length, Option, Some}
use Rattle.std.proofs.Common.{None, refl, sym, ap, ◌∙◌, subst, arith, length-append}
use Rattle.std.specs.Prelude.{nat_le, flat_map, max}
use Rattle.std.specs.List.{All}
use Rattle.std.proofs.lemmas.Bool.Decides.{nat_tests}
use Rattle.std.proofs.lemmas.List.Elements.{All-nil, All-cons, All-map}
use Rattle.sn_base.specs.Config.{config_fits}
use Rattle.sn_base.specs.Image.{ImageData}
use Rattle.sn_base.specs.declared.config.Config.{Config}
use Rattle.sn_base.specs.declared.event.Answer.{Answer}
use Rattle.sn_base.specs.declared.event.Event.{Event}
use Rattle.sn_model.specs.Fabric.{Fabric}
use Rattle.sn_model.specs.Machine.{State, Retirement, HeldByte}
use Rattle.sn_model.specs.MachineEvents.{unready_node}
use Rattle.sn_model.specs.Instructions.{held_in}
use Rattle.sn_model.specs.Refusals.{is_refusal}
use Rattle.sn_model.specs.Step.{step_of, state_after}
use Rattle.sn_model.specs.Trace.{TraceEntry}
use Rattle.sn_model.proofs.Refusals.{refusal-changes_nothing}
use Rattle.sn_coherence.specs.Invariant.{Clocks}
use Rattle.sn_coherence.specs.Records.{Records}
use Rattle.sn_consistency.specs.Entries.{Entry}
use Rattle.consistent_cuts.specs.Coherent.{FabricInvariant, IsInTime, NothingUnfinished}
use Rattle.consistent_cuts.specs.View.{GhostState, block_seen}
use Rattle.consistent_cuts.specs.Counts.{CountsTo}
use Rattle.consistent_cuts.proofs.Numbers.{far_from_the_end}
use Rattle.sn_saved.specs.Saved.{Saved, IsAccepted, most_applied}
use Rattle.consistent_cuts.specs.Headline.{IsConsistent, IsStepOfRun}
use Rattle.consistent_cuts.specs.Origins.{Origin, Start, Resumed, state_at, applied_at, retirements_from}
use Rattle.consistent_cuts.specs.RunInvariant.{RunInvariant, Holds}
use Rattle.consistent_cuts.specs.Lists.{retirement_of, held_of, not_validated}
use Rattle.consistent_cuts.specs.Runs.{EventFits, AllFit}
use Rattle.consistent_cuts.proofs.EachEvent.{all_reported}
use Rattle.consistent_cuts.proofs.FabricRuns.{reached_counts}
use Rattle.consistent_cuts.proofs.Half.{half}
use Rattle.consistent_cuts.proofs.Run.{from_holds, from_consistent, from_next}
use Rattle.sn_machine.specs.declared.hardware.Hardware.{Hardware}
use Rattle.sn_machine.specs.Invariant.{IsMachine}
use Rattle.sn_machine.specs.Machine.{MachineData, IsApplied, HasRunFrom, IsConsistentAfter, IsConsistentWithItsRun}
use Rattle.sn_machine.specs.Parts.{state_of, sent_of, IsWhole, HasRoom, Does}
use Rattle.sn_machine.specs.Sound.{IsSound}
use Rattle.sn_machine.specs.Resumed.{IsResumed}
use Rattle.sn_machine.specs.Start.{IsFirst, IsRoomier}

-- what waits is of no interval below the point

late_cons : (point : ℕ) (e : TraceEntry) (es : List TraceEntry) → All (λ (x : TraceEntry). point ≤ x.interval) es → (b : Bool) →
    nat_le point e.interval ≡ b → All (λ (x : TraceEntry). point ≤ x.interval) (cond b (e ∷ es) es)
late_cons point e es h true is =
    let l : point ≤ e.interval = grind (arith, nat_tests, is) in All-cons (λ (x : TraceEntry). point ≤ x.interval) e es l h
late_cons point e es h false is = h

late : (point : ℕ) (trace : List TraceEntry) → All (λ (x : TraceEntry). point ≤ x.interval) (not_validated point trace)
late point [] = All-nil (λ (x : TraceEntry). point ≤ x.interval)
late point (e ∷ trace) = late_cons point e (not_validated point trace) (late point trace) (nat_le point e.interval) refl

held_one : (point interval : ℕ) (out : Option ℕ) (rest : List HeldByte) → point ≤ interval →
    All (λ (b : HeldByte). point ≤ b.interval) rest → All (λ (b : HeldByte). point ≤ b.interval) (held_in interval out ++ rest)
held_one point interval None rest l h = h
held_one point interval (Some byte) rest l h =
    All-cons (λ (b : HeldByte). point ≤ b.interval) (record { interval = interval; byte = byte }) rest l h

held_late : (point : ℕ) (es : List TraceEntry) → All (λ (x : TraceEntry). point ≤ x.interval) es →
    All (λ (b : HeldByte). point ≤ b.interval) (flat_map held_of es)
held_late point [] h = All-nil (λ (b : HeldByte). point ≤ b.interval)
held_late point (e ∷ es) h =
    held_one point e.interval e.out (flat_map held_of es) (h 0 e (omega arith)) (held_late point es (λ k d l. h (suc k) d (omega arith)))

-- the numbers

pub some_nodes : (config : Config) → config_fits config ≡ true → 1 ≤ config.nodes
some_nodes config fits = grind (arith, nat_tests)

pub few_nodes : (config : Config) → config_fits config ≡ true → config.nodes ≤ 16
few_nodes config fits = grind (arith, nat_tests)

far : (next : ℕ) → next < 9223372036854775808 → next ≤ 2 ^ 63
far next h = omega (arith, h)

in_time : (s : Fabric) (t : GhostState) → FabricInvariant s t → (n : ℕ) → n < length s.nodes → IsInTime s n
in_time s t k n l =
    let clocks : Clocks (length s.nodes) (block_seen s t 0) = (k.blocks 0 (omega arith)).clocks in
    record { known = clocks.known_point n l; reached = clocks.point_now n l; few = clocks.now_known n l }

module _ (image : ImageData) (s : State) (r : ℕ → Records) (list : ℕ → List Entry) (trace : List TraceEntry) (j : RunInvariant image s r list trace) where
  -- where every node has reported, nothing before the next checkpoint is unfinished
  finished : (config : Config) → unready_node s ≡ None → NothingUnfinished s.fabric (s.fabric.point + 1)
  finished config e = half.finished s.fabric r j.fabric (all_reported half image config s trace r list j e)

  joined_sound : (config : Config) (applied : ℕ) → CountsTo applied s.fabric → applied ≤ 4000000000 → IsSound s
  joined_sound config applied c few = record {
    numbers = far s.fabric.net.next_id (far_from_the_end s.fabric applied c few);
    nows = λ n l. let a = c.nows n l in omega (arith, a, few);
    keeps = (j.fabric.0, j.fabric.1);
    shape = j.shape;
    times = in_time s.fabric j.fabric.0 j.fabric.1;
    pending =
        rw j.traced.pending (All-map (λ (x : Retirement). s.fabric.point ≤ x.interval) retirement_of (not_validated s.fabric.point trace)
        (late s.fabric.point trace));
    held = rw j.traced.held (held_late s.fabric.point (not_validated s.fabric.point trace) (late s.fabric.point trace));
    finished = finished config;
  }

-- a machine as its view shows it
abbrev pub data_of : ImageData → Config → Hardware → ℕ → ℕ → MachineData
data_of image config h applied spare =
    record { image = image; config = config; state = state_of h; sent = sent_of h; applied = applied; spare = spare }

-- whatever events led to a machine

pub consistent-after : (m : MachineData) (origin : Origin) (events : List Event) → HasRunFrom m origin events →
    IsConsistentAfter m origin events
consistent-after m origin events led =
    subst (λ (s : State). IsConsistent m.image m.config.nodes s (retirements_from m.image m.config origin events)) (sym led.state)
    (from_consistent m.image m.config origin events led.may led.run)

pub all_fit-last : (nodes : ℕ) (events : List Event) (event : Event) → AllFit nodes events → EventFits nodes event →
    AllFit nodes (events ++ event ∷ [])
all_fit-last nodes [] event fits fit = (fit, tt)
all_fit-last nodes (first ∷ events) event fits fit = (fits.0, all_fit-last nodes events event fits.1 fit)

pub state_after-last : (image : ImageData) (config : Config) (s : State) (events : List Event) (event : Event) →
    state_after image config s (events ++ event ∷ []) ≡ (step_of image config (state_after image config s events) event).state
state_after-last image config s [] event = refl
state_after-last image config s (first ∷ events) event = state_after-last image config (step_of image config s first).state events event

-- one that is applied leads on
pub leads_on : (m next : MachineData) (event : Event) (said : Answer) (origin : Origin) (events : List Event) →
    IsApplied m next event said → EventFits m.config.nodes event → HasRunFrom m origin events →
    HasRunFrom next origin (events ++ event ∷ [])
leads_on m next event said origin events is fits led =
    subst (λ (d : MachineData). HasRunFrom d origin (events ++ event ∷ [])) (sym is.left)
    (record {
      may = led.may;
      run = record { fits = led.run.fits; events_fit = all_fit-last m.config.nodes events event led.run.events_fit fits };
      state =
          ap (λ (s : State). (step_of m.image m.config s event).state) led.state
          ∙ sym (state_after-last m.image m.config (state_at m.image m.config origin) events event);
      count = let a = length-append events (event ∷ []) in let b = led.count in omega (arith, a, b);
    })

-- a machine

machine-by : (image : ImageData) (config : Config) (h : Hardware) (applied spare : ℕ) (origin : Origin) (events : List Event) →
    h.fabric.config ≡ config → IsWhole h → HasRoom spare h → applied + spare ≤ 4000000000 →
    HasRunFrom (data_of image config h applied spare) origin events → IsMachine image config h applied spare
machine-by image config h applied spare origin events sizes whole room life led = record {
  sizes = sizes;
  nodes = (consistent-after (data_of image config h applied spare) origin events led).count;
  whole = whole;
  room = room;
  life = life;
  origin = origin;
  may = led.may;
  events = events;
  run = led.run;
  state = led.state;
  count = led.count;
}

module _ (image : ImageData) (config : Config) (h : Hardware) (applied spare : ℕ) (m : IsMachine image config h applied spare) where
  pub has_run : HasRunFrom (data_of image config h applied spare) m.origin m.events
  has_run = record { may = m.may; run = m.run; state = m.state; count = m.count }

  pub consistent : IsConsistent image config.nodes (state_of h) (retirements_from image config m.origin m.events)
  consistent = consistent-after (data_of image config h applied spare) m.origin m.events has_run

  pub consistent-with_its_run : IsConsistentWithItsRun (data_of image config h applied spare)
  consistent-with_its_run = record {
    origin = m.origin;
    events = m.events;
    led = has_run;
    consistent = consistent-after (data_of image config h applied spare);
  }

  pub step-of-run : (event : Event) → EventFits config.nodes event →
      IsStepOfRun image config (state_of h) event (step_of image config (state_of h) event)
  step-of-run event fits =
      subst (λ (s : State). IsStepOfRun image config s event (step_of image config s event)) (sym m.state)
      (from_next image config m.origin m.events m.may m.run event fits)

  pub holds : Holds image config.nodes (state_of h) (retirements_from image config m.origin m.events)
  holds =
      subst (λ (s : State). Holds image config.nodes s (retirements_from image config m.origin m.events)) (sym m.state)
      (from_holds image config m.origin m.events m.may m.run)

  counts : CountsTo applied h.fabric.fabric
  counts =
      subst (λ n. CountsTo n h.fabric.fabric) m.count
      (subst (λ (s : State). CountsTo (applied_at m.origin + length m.events) s.fabric) (sym m.state)
      (reached_counts image config m.origin m.events m.may m.run))

  pub sound : IsSound (state_of h)
  sound = go holds
    where
      go : Holds image config.nodes (state_of h) (retirements_from image config m.origin m.events) → IsSound (state_of h)
      go (count, (r, list, j)) =
          joined_sound image (state_of h) r list (retirements_from image config m.origin m.events) j config applied counts
          (let a = m.life in omega (arith, a))

-- the start
pub starts : (image : ImageData) (config : Config) (h : Hardware) → config_fits config ≡ true → IsFirst h image config →
    IsMachine image config h 0 0
starts image config h fits first =
    machine-by image config h 0 0 Start [] first.sizes first.whole
    (record { records = omega arith; bytes = omega arith; given = λ n l. omega arith }) (omega arith)
    (record { may = tt; run = record { fits = fits; events_fit = tt }; state = first.state; count = omega arith })

-- where a saved machine goes on
module _ (image : ImageData) (saved : Saved) (h : Hardware) (accepted : IsAccepted image saved) (is : IsResumed h image saved) where
  pub goes_on-run : HasRunFrom (data_of image saved.config h saved.marks.applied 0) (Resumed saved) []
  goes_on-run = record {
    may = (refl, accepted);
    run = record { fits = accepted.form.fits; events_fit = tt };
    state = is.state;
    count = omega arith;
  }

  few_applied : saved.marks.applied ≤ most_applied
  few_applied = let n = accepted.form.numbers in grind (arith, nat_tests, n)

  pub goes_on : IsMachine image saved.config h saved.marks.applied 0
  goes_on =
      machine-by image saved.config h saved.marks.applied 0 (Resumed saved) [] is.sizes is.whole
      (record { records = omega arith; bytes = omega arith; given = λ n l. omega arith })
      (let few = few_applied in omega (arith, few)) goes_on-run

-- more room
pub reserves : (image : ImageData) (config : Config) (h g : Hardware) (applied spare events : ℕ) → IsMachine image config h applied spare →
    IsRoomier h g → HasRoom events g → applied + events ≤ 4000000000 → IsMachine image config g applied (max spare events)
reserves image config h g applied spare events m roomier room few =
    machine-by image config g applied (max spare events) m.origin m.events (roomier.sizes ∙ m.sizes) (roomier.whole m.whole)
    (record {
      records = let a = (roomier.room spare m.room).records in let b = room.records in omega (arith, a, b);
      bytes = let a = (roomier.room spare m.room).bytes in let b = room.bytes in omega (arith, a, b);
      given = λ n l. let a = (roomier.room spare m.room).given n l in let b = room.given n l in omega (arith, a, b);
    })
    (let a = m.life in omega (arith, a, few))
    (record { may = m.may; run = m.run; state = roomier.state ∙ m.state; count = m.count })

pub keeps_room : (image : ImageData) (config : Config) (h g : Hardware) (applied spare : ℕ) → IsMachine image config h applied spare →
    IsRoomier h g → IsMachine image config g applied spare
keeps_room image config h g applied spare m roomier =
    machine-by image config g applied spare m.origin m.events (roomier.sizes ∙ m.sizes) (roomier.whole m.whole) (roomier.room spare m.room) m.life
    (record { may = m.may; run = m.run; state = roomier.state ∙ m.state; count = m.count })

-- an event

module _ (image : ImageData) (config : Config) (h g : Hardware) (applied spare : ℕ) (event : Event) (said : Answer) (does : Does h g said (step_of image config (state_of h) event)) where
  pub is-applied : IsApplied (data_of image config h applied spare) (data_of image config g (applied + 1) (spare - 1)) event said
  is-applied = record { answer = does.says; left = rw (does.state, does.sent) refl }

  pub refused-same : is_refusal said ≡ true → state_of g ≡ state_of h
  refused-same is = does.state ∙ (refusal-changes_nothing image config (state_of h) event).unchanged (ap is_refusal (sym does.says) ∙ is)

  -- through the view
  pub leads : (d : MachineData) → data_of image config h applied spare ≡ d → EventFits config.nodes event → (origin : Origin)
      (events : List Event) → HasRunFrom d origin events →
      HasRunFrom (data_of image config g (applied + 1) (spare - 1)) origin (events ++ event ∷ [])
  leads d view fits origin events led =
      leads_on (data_of image config h applied spare) (data_of image config g (applied + 1) (spare - 1)) event said origin events
      is-applied fits (subst (λ (x : MachineData). HasRunFrom x origin events) (sym view) led)

  pub applies : (m : IsMachine image config h applied spare) → 1 ≤ spare → EventFits config.nodes event →
      IsMachine image config g (applied + 1) (spare - 1)
  applies m some fits =
      machine-by image config g (applied + 1) (spare - 1) m.origin (m.events ++ event ∷ []) (does.sizes ∙ m.sizes) does.whole
      (does.room (spare - 1) (let e : spare - 1 + 1 ≡ spare = omega (arith, some) in rw e m.room))
      (let a = m.life in omega (arith, a, some))
      (leads (data_of image config h applied spare) refl fits m.origin m.events (has_run image config h applied spare m))
