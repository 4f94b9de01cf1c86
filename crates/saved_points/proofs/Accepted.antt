-- What is saved of a machine after a run, part by part.
use Rattle.std.proofs.Common.{◌≡◌, ℕ, ◌%◌, ◌<◌, ◌≤◌, true, not, List, [], length, refl, sym, ap, subst, ◌∙◌, arith, None}
use Rattle.std.specs.Prelude.{is_some}
use Rattle.std.proofs.Math.Nat.{le_refl, le_trans}
use Rattle.std.proofs.lemmas.List.FromFn.{get_or-map-range_with_len}
use Rattle.sn_base.specs.Image.{ImageData}
use Rattle.sn_base.specs.declared.config.Config.{Config}
use Rattle.sn_base.specs.declared.event.Answer.TheVariants.{Recovered}
use Rattle.sn_base.specs.declared.event.Event.{Event}
use Rattle.sn_base.specs.declared.event.Event.TheVariants.{Recover}
use Rattle.route_plan.specs.Routes.{first_cut_off}
use Rattle.rv_core.specs.Execution.{end_of, in_of}
use Rattle.sn_model.specs.Caches.{block_count, takes_frame, frames_taken}
use Rattle.sn_model.specs.Cuts.{names_at}
use Rattle.sn_model.specs.Fabric.{node_at}
use Rattle.sn_model.specs.Homes.{OfCache}
use Rattle.sn_model.specs.Machine.{State, Processor, processor_at, first_processor}
use Rattle.sn_model.specs.MachineEvents.{restores}
use Rattle.sn_model.specs.PointEvents.{living_switches, recovers, undone_count}
use Rattle.sn_model.specs.RecoveryPoint.{HasOneHolderWith, block_in}
use Rattle.sn_model.specs.Step.{step_of}
use Rattle.sn_saved.specs.Resumed.{processor_resumed, flat_resumed, resumed}
use Rattle.sn_saved.specs.Saved.{Saved, IsInForm, IsAccepted, living_in, owners_at, owned_in, given_to, begins_with, first_full, first_unread, most_saved}
use Rattle.fabric_bounds.specs.Bounds.{KeepsBounds, cache_at}
use Rattle.fabric_bounds.proofs.Cuts.{cut_fits, takes_held}
use Rattle.consistent_cuts.specs.Headline.{IsRun, IsConsistent, IsUntouched}
use Rattle.consistent_cuts.specs.Origins.{Origin, MayBegin, reached_from, retirements_from}
use Rattle.consistent_cuts.proofs.FabricRuns.{reached_bounded}
use Rattle.consistent_cuts.proofs.Resumption.{recovery_resumes}
use Rattle.consistent_cuts.proofs.Run.{from_holds, from_consistent, from_next}
use Rattle.consistent_cuts.proofs.SavedForm.{few_records, few_bytes, saved_form}
use Rattle.saved_points.specs.Points.{saved_after, MayBeSaved}
use Rattle.saved_points.proofs.Given.{none_finds, begins_more}
use Rattle.saved_points.proofs.Sets.{few_owned, none_full}

module _ (image : ImageData) (config : Config) (origin : Origin) (events : List Event) (may : MayBegin image config origin) (run : IsRun config events) where
  abbrev s : State
  s = reached_from image config origin events

  abbrev point : ℕ
  point = s.fabric.point

  abbrev saved : Saved
  saved = saved_after image config origin events

  consistent : IsConsistent image config.nodes s (retirements_from image config origin events)
  consistent = from_consistent image config origin events may run

  bounded : KeepsBounds config s.fabric
  bounded = reached_bounded image config origin events may run

  -- the same switches live
  pub same_cut_off : first_cut_off (living_in saved) ≡ first_cut_off (living_switches s.fabric)
  same_cut_off = ap (λ n. first_cut_off (record { nodes = n; dead = s.fabric.net.dead })) (sym consistent.count)

  -- what a cache owns at the recovery point is held there, and has a frame of the cache that a recovery leaves, which fits

  there : (node : ℕ) → node < config.nodes → node < length s.fabric.nodes
  there node l = subst (λ n. node < n) (sym consistent.count) l

  owned_takes : (node : ℕ) → node < config.nodes → (b : ℕ) → b < block_count → names_at s.fabric b point ≡ OfCache node →
      takes_frame (cache_at (node_at s.fabric node) point) b ≡ true
  owned_takes node l b low e =
      let one =
      subst (HasOneHolderWith s.fabric b point (block_in (end_of image config.nodes s.committed).memory b)) e (consistent.cut.blocks b low) in
      takes_held s.fabric bounded.0 node b point bounded.1 (there node l) low ∙ ap is_some one.1

  few_in_set : (node block : ℕ) → node < config.nodes →
      owned_in (owners_at s.fabric point) config.sets node (block % config.sets) ≤ config.ways
  unfolding owners_at frames_taken
  few_in_set node block l =
      le_trans
      (few_owned (λ b. names_at s.fabric b point) (cache_at (node_at s.fabric node) point) config.sets node (block % config.sets)
      (owned_takes node l) block_count (le_refl block_count))
      (cut_fits config s.fabric bounded.0 bounded.1 bounded.2 node point (there node l) (le_refl point) block)

  none_too_many : IsInForm saved → first_full saved ≡ None
  none_too_many form = none_full config [] saved.owners 0 form.blocks few_in_set

  module _ (joined : first_cut_off (living_switches s.fabric) ≡ None) where
    -- a recovery goes on with what is saved as given, and leaves to each node what it was given

    recovers_now : (step_of image config s Recover).answer
        ≡ Recovered (record { to = point; undone = undone_count s.fabric point; dropped = length s.fabric.net.flights })
    unfolding step_of
    recovers_now = ap (λ o. (restores s (recovers s.fabric point o)).answer) joined

    untouched : IsUntouched s (step_of image config s Recover).state
    untouched =
        ((from_next image config origin events may run Recover (record { numbers = refl; block = refl })).restored _ recovers_now).1

    resumes : (step_of image config s Recover).state ≡ resumed image saved
    resumes =
        recovery_resumes image config s (retirements_from image config origin events) saved.marks.applied
        (from_holds image config origin events may run) joined

    given_is : (n : ℕ) → n < config.nodes → given_to saved.given n ≡ (processor_at s n).given
    given_is n l =
        ap (λ (p : Processor). p.given)
        (sym (get_or-map-range_with_len (processor_resumed (flat_resumed image saved) saved.given) 0 config.nodes n n (first_processor 0 0) l
        (omega arith)))
        ∙ ap (λ (t : State). (processor_at t n).given) (sym resumes) ∙ untouched.given n

    given_first : (n : ℕ) → n < config.nodes → begins_with (given_to saved.given n) (in_of n s.committed) ≡ true
    given_first n l =
        let first = consistent.input n l in
        ap (λ xs. begins_with xs (in_of n s.committed)) (given_is n l ∙ first.is) ∙ begins_more (in_of n s.committed) first.more

    none_unread : first_unread saved ≡ None
    none_unread =
        none_finds (λ node. not (begins_with (given_to saved.given node) (in_of node s.committed))) 0 config.nodes
        (λ n l. ap not (given_first n (omega (arith, l))))

    accepted_by : IsInForm saved → IsAccepted image saved
    accepted_by form = record {
      form = form;
      joined = same_cut_off ∙ joined;
      sets = none_too_many form;
      execution = consistent.execution;
      read = none_unread;
    }

  pub saved_accepted : MayBeSaved saved → first_cut_off (living_switches s.fabric) ≡ None → IsAccepted image saved
  saved_accepted few joined = accepted_by joined (saved_form image config origin events may run few.events few.bytes few.records)

  pub few_saved : saved.marks.applied ≤ most_saved → MayBeSaved saved
  few_saved few = record {
    events = omega (arith, few);
    bytes = let bytes = few_bytes image config origin events may run in omega (arith, bytes, few);
    records = let records = few_records image config origin events may run in omega (arith, records, few);
  }
