-- Each event of the machine is one event of its fabric at most, which can happen there; so a run is one of the fabric.
use Rattle.std.proofs.Common.{◌≡◌, ℕ, suc, ◌+◌, ◌<◌, ◌≤◌, Bool, true, false, List, [], ◌∷◌, ◌++◌, length, Option, Some, None, arith, refl}
use Rattle.std.proofs.Common.{sym, ap, ◌∙◌, subst, nat_lt, length-append}
use Rattle.std.proofs.lemmas.Bool.Decides.{nat_tests}
use Rattle.sn_base.specs.Config.{config_fits}
use Rattle.sn_base.specs.Image.{ImageData}
use Rattle.sn_base.specs.declared.block.Write.{Write}
use Rattle.sn_base.specs.declared.config.Config.{Config}
use Rattle.sn_base.specs.declared.event.Event.{Event}
use Rattle.sn_base.specs.declared.event.Event.TheVariants as event
use Rattle.rv_core.specs.declared.step.Want.{Want}
use Rattle.rv_core.specs.declared.step.Want.TheVariants.{Nothing, Load, Store, Amo, Lr, Sc, Input}
use Rattle.rv_core.specs.Core.{block_of}
use Rattle.rv_core.specs.Step.{want_of}
use Rattle.rv_core.specs.Wanted.{WriteFits}
use Rattle.rv_core.proofs.CoreLaws.{write_fits}
use Rattle.sn_model.specs.declared.cache.Need.TheVariants as need
use Rattle.sn_model.specs.Access.{fabric_with_write}
use Rattle.sn_model.specs.Caches.{block_count}
use Rattle.sn_model.specs.Fabric.{Fabric}
use Rattle.sn_model.specs.FabricEvents.{FabricEvent, moved_by}
use Rattle.sn_model.specs.FabricEvents as fabric
use Rattle.sn_model.specs.Machine.{State, processor_at}
use Rattle.sn_model.specs.Instructions.{found_at, step_of_retirement, step_of_instruction, written_by}
use Rattle.sn_model.specs.MachineEvents.{validates, unready_node}
use Rattle.sn_model.specs.Step.{step_of, state_after}
use Rattle.sn_model.specs.Trace.{TraceEntry, trace_after_event}
use Rattle.sn_coherence.specs.Records.{Records}
use Rattle.sn_consistency.specs.Entries.{Entry}
use Rattle.fabric_bounds.specs.Events.{MayBe, CanUse}
use Rattle.fabric_bounds.specs.Runs.{IsFabricRun, fabric_after}
use Rattle.fabric_bounds.specs.Start.{first_ghost}
use Rattle.fabric_bounds.proofs.KeptStart.{start-kept}
use Rattle.fabric_bounds.specs.Bounds.{HasLogRoom, IsServedRun, KeepsBounds}
use Rattle.fabric_bounds.specs.Counts.{CountsTo}
use Rattle.fabric_bounds.proofs.Runs.{start_bounded, run_keeps_bounds}
use Rattle.fabric_bounds.proofs.Numbers.{start_counts, run_counts}
use Rattle.consistent_cuts.specs.Accesses.{CanServe, CanServeWant, CanRetire, write_of}
use Rattle.consistent_cuts.specs.RunInvariant.{RunInvariant, Holds}
use Rattle.consistent_cuts.specs.OfFabric.{GoesBy}
use Rattle.consistent_cuts.specs.Runs.{EventFits, AllFit}
use Rattle.consistent_cuts.proofs.EachEvent.{all_reported}
use Rattle.consistent_cuts.proofs.Half.{half}
use Rattle.fabric_bounds.specs.Resumed.{resumed}
use Rattle.consistent_cuts.specs.Headline.{IsRun as HeadRun}
use Rattle.consistent_cuts.specs.Origins.{Origin, Start, Resumed, MayBegin, state_at, entries_at, applied_at, reached_from}
use Rattle.fabric_bounds.proofs.Resumed.{resumed_bounded, resumed_counts}
use Rattle.consistent_cuts.proofs.Run.{step_holds, origin_holds}
use Rattle.consistent_cuts.proofs.SteppedCases.{stepped_cases}

-- no event, and one
pub stays : (config : Config) (s : Fabric) → GoesBy config s s 1
stays config s = record { events = []; few = omega arith; served = tt; after = refl }

pub goes : (config : Config) (s : Fabric) (e : FabricEvent) → MayBe s e → HasLogRoom config s e →
    GoesBy config s (moved_by config s e).fabric 1
goes config s e may room = record { events = e ∷ []; few = omega arith; served = ((may, room), tt); after = refl }

-- one after the other
served_then : (config : Config) (s : Fabric) (xs ys : List FabricEvent) → IsServedRun config s xs →
    IsServedRun config (fabric_after config s xs) ys → IsServedRun config s (xs ++ ys)
served_then config s [] ys a b = b
served_then config s (x ∷ xs) ys a b = (a.0, served_then config (moved_by config s x).fabric xs ys a.1 b)

after_then : (config : Config) (s : Fabric) (xs ys : List FabricEvent) →
    fabric_after config s (xs ++ ys) ≡ fabric_after config (fabric_after config s xs) ys
after_then config s [] ys = refl
after_then config s (x ∷ xs) ys = after_then config (moved_by config s x).fabric xs ys

pub goes_then : (config : Config) (s t u : Fabric) (m n k : ℕ) → GoesBy config s t m → GoesBy config t u n → m + n ≤ k → GoesBy config s u k
goes_then config s t u m n k a b l = record {
  events = a.events ++ b.events;
  few = let x = a.few in let y = b.few in let z = length-append a.events b.events in omega (arith, x, y, z, l);
  served = served_then config s a.events b.events a.served (subst (λ f. IsServedRun config f b.events) (sym a.after) b.served);
  after = after_then config s a.events b.events ∙ ap (λ f. fabric_after config f b.events) a.after ∙ b.after;
}

-- a served run is a run
pub served_run : (config : Config) (s : Fabric) (es : List FabricEvent) → IsServedRun config s es → IsFabricRun config s es
served_run config s [] r = tt
served_run config s (e ∷ es) r = (r.0.0, served_run config (moved_by config s e).fabric es r.1)

module _ (image : ImageData) (config : Config) (s : State) (r : ℕ → Records) (list : ℕ → List Entry) (trace : List TraceEntry) (j : RunInvariant image s r list trace) where
  abbrev N : ℕ
  N = length s.fabric.nodes

  abbrev Goes : Fabric → Type 0
  Goes t = GoesBy config s.fabric t 1

  -- what an instruction writes
  module _ (n : ℕ) where
    writes : (a : ℕ) (w : Write) → w.address ≡ a → CanServe config s.fabric n (block_of a) need.Write → Goes (fabric_with_write s.fabric n w)
    unfolding moved_by
    writes a w e can =
        goes config s.fabric (fabric.Write n w)
        (record { line = subst (λ b. CanUse s.fabric n (block_of b)) (sym e) can.line; writable = rw e can.serving }) (rw e can.room)

    writes_wanting : (w : Want) (done : Bool) (write : Option Write) → WriteFits w done write → CanServeWant w done config s n →
        Goes (written_by s.fabric n write)
    writes_wanting w done None fits can = stays config s.fabric
    writes_wanting Nothing done (Some x) fits can = absurd (let h = fits.0 in cc)
    writes_wanting Input done (Some x) fits can = absurd (let h = fits.0 in cc)
    writes_wanting (Load a) done (Some x) fits can = absurd (let h = fits.0 in cc)
    writes_wanting (Lr a) done (Some x) fits can = absurd (let h = fits.0 in cc)
    writes_wanting (Store a) done (Some x) fits can = writes a x fits.1 can
    writes_wanting (Amo a) done (Some x) fits can = writes a x fits.1 can
    writes_wanting (Sc a) true (Some x) fits can = writes a x fits.1 can
    writes_wanting (Sc a) false (Some x) fits can = absurd (let h = fits.0 in cc)

    retired_goes : CanRetire image config s n → Goes (step_of_retirement image s n).state.fabric
    retired_goes can = writes_wanting (want_of image (processor_at s n).core) (found_at image s n).sc_done (write_of image s n)
        (write_fits image (processor_at s n).core (found_at image s n).seen (found_at image s n).sc_done
        (found_at image s n).read) can.served

    stepped_goes : n < N → Goes (step_of_instruction image config s n).state.fabric
    unfolding moved_by
    stepped_goes l = stepped_cases image config s n l (λ x. Goes x.state.fabric) retired_goes
        (λ block access low leaves. goes config s.fabric (fabric.Access n block access) (l, low) tt) (λ a leaves. stays config s.fabric)

  is_node : (n : ℕ) → nat_lt n N ≡ true → n < N
  is_node n e = grind (arith, nat_tests)

  validating : (unready : Option ℕ) → unready_node s ≡ unready → Goes (validates s unready).state.fabric
  unfolding moved_by
  validating (Some n) e = stays config s.fabric
  validating None e =
      goes config s.fabric (fabric.Advance (s.fabric.point + 1))
      (refl, half.finished s.fabric r j.fabric (all_reported half image config s trace r list j e)) tt

  pub event_goes : (e : Event) → EventFits N e → Goes (step_of image config s e).state.fabric
  unfolding step_of moved_by
  event_goes (event.Step n) fits = stepped_goes n (is_node n fits.numbers)
  event_goes (event.Evict n block) fits =
      let low : block < block_count = grind (arith, nat_tests, fits.block) in
      goes config s.fabric (fabric.Evict n block) (is_node n fits.numbers, low) tt
  event_goes (event.Edge n) fits = goes config s.fabric (fabric.Edge n) (is_node n fits.numbers) tt
  event_goes (event.Hop id) fits = goes config s.fabric (fabric.Hop id) tt tt
  event_goes (event.Deliver id) fits = goes config s.fabric (fabric.Deliver id) tt tt
  event_goes (event.Lose id) fits = goes config s.fabric (fabric.Lose id) tt tt
  event_goes (event.Kill switch) fits = goes config s.fabric (fabric.Kill switch) tt tt
  event_goes (event.Report n) fits = goes config s.fabric (fabric.Report n) (is_node n fits.numbers) tt
  event_goes event.Validate fits = validating (unready_node s) refl
  event_goes event.Recover fits = goes config s.fabric (fabric.Recover s.fabric.point) refl tt
  event_goes (event.Input n byte) fits = stays config s.fabric

pub run_goes : (image : ImageData) (config : Config) (nodes : ℕ) (s : State) (trace : List TraceEntry) (events : List Event) →
    Holds image nodes s trace → AllFit nodes events →
    GoesBy config s.fabric (state_after image config s events).fabric (length events)
run_goes image config nodes s trace [] h fits = record { events = []; few = omega arith; served = tt; after = refl }
run_goes image config nodes s trace (e ∷ events) h fits =
    goes_then config s.fabric (step_of image config s e).state.fabric
    (state_after image config (step_of image config s e).state events).fabric 1 (length events) (suc (length events))
    (first h fits.0) (run_goes image config nodes (step_of image config s e).state
    (trace_after_event image s e (step_of image config s e).answer trace) events (step_holds image config nodes s trace e h fits.0) fits.1)
    (omega arith)
  where
    first : Holds image nodes s trace → EventFits nodes e → GoesBy config s.fabric (step_of image config s e).state.fabric 1
    first (count, (r, list, j)) fit = event_goes image config s r list trace j e (subst (λ n. EventFits n e) (sym count) fit)

-- what bounds there are where a run may begin

pub origin_bounded : (image : ImageData) (config : Config) (origin : Origin) → MayBegin image config origin → config_fits config ≡ true →
    KeepsBounds config (state_at image config origin).fabric
origin_bounded image config Start may fits = (
  first_ghost,
  start-kept image config.nodes (grind (arith, nat_tests)) (grind (arith, nat_tests)),
  start_bounded image config config.nodes,
)
origin_bounded image config (Resumed saved) may fits =
    subst (λ (c : Config). KeepsBounds c (resumed image saved).fabric) may.0 (resumed_bounded image saved may.1)

pub origin_counts : (image : ImageData) (config : Config) (origin : Origin) → MayBegin image config origin →
    CountsTo (applied_at origin) (state_at image config origin).fabric
origin_counts image config Start may = start_counts image config.nodes
origin_counts image config (Resumed saved) may = resumed_counts image saved may.1

-- of a fitting configuration, from where a run may begin
module _ (image : ImageData) (config : Config) (origin : Origin) (events : List Event) (may : MayBegin image config origin) (run : HeadRun config events) where
  abbrev first : Fabric
  first = (state_at image config origin).fabric

  pub reached_goes : GoesBy config first (reached_from image config origin events).fabric (length events)
  reached_goes =
      run_goes image config config.nodes (state_at image config origin) (entries_at image origin) events
      (origin_holds image config origin may run.fits) run.events_fit

  pub reached_bounded : KeepsBounds config (reached_from image config origin events).fabric
  reached_bounded =
      subst (KeepsBounds config) reached_goes.after
      (run_keeps_bounds config first reached_goes.events (origin_bounded image config origin may run.fits) reached_goes.served)

  more : (s : Fabric) (m n : ℕ) → m ≤ n → CountsTo m s → CountsTo n s
  more s m n l c = record {
    numbers = let a = c.numbers in omega (arith, a, l);
    nows = λ k h. let a = c.nows k h in omega (arith, a, l);
    point = let a = c.point in omega (arith, a, l);
  }

  pub reached_counts : CountsTo (applied_at origin + length events) (reached_from image config origin events).fabric
  reached_counts =
      let bounded = origin_bounded image config origin may run.fits in
      more (reached_from image config origin events).fabric (applied_at origin + length reached_goes.events)
      (applied_at origin + length events) (let l = reached_goes.few in omega (arith, l))
      (subst (CountsTo (applied_at origin + length reached_goes.events)) reached_goes.after
      (run_counts config (applied_at origin) first reached_goes.events (bounded.0, bounded.1) (origin_counts image config origin may)
      (served_run config first reached_goes.events reached_goes.served)))
