-- A recovery sends nothing.
use Rattle.std.proofs.Common.{◌≡◌, ℕ, ◌+◌, Bool, true, false, Option, Some, None, refl, sym, ap, ◌∙◌, true≢false, arith}
use Rattle.sn_base.specs.Image.{ImageData}
use Rattle.sn_base.specs.declared.config.Config.{Config}
use Rattle.sn_base.specs.declared.event.Event.{Event}
use Rattle.sn_base.specs.declared.event.Event.TheVariants as event
use Rattle.sn_base.specs.declared.event.Undo.{Undo}
use Rattle.sn_base.specs.declared.event.Answer.{Answer}
use Rattle.sn_base.specs.declared.event.Answer.TheVariants as answer
use Rattle.route_plan.specs.Routes.{first_cut_off}
use Rattle.sn_model.specs.declared.cache.Need.{Need}
use Rattle.sn_model.specs.Access.{step_of_access, misses}
use Rattle.sn_model.specs.Fabric.{Fabric}
use Rattle.sn_model.specs.Net.{flight_of}
use Rattle.sn_model.specs.NodeEvents.{step_of_edge, step_of_report}
use Rattle.sn_model.specs.NetEvents.{step_of_kill}
use Rattle.sn_model.specs.PointEvents.{step_of_advance, recovers, living_switches}
use Rattle.sn_model.specs.Machine.{State}
use Rattle.sn_model.specs.Instructions.{MachineStep, step_of_instruction}
use Rattle.sn_model.specs.MachineEvents.{validates, unready_node, restores}
use Rattle.sn_model.specs.Step.{step_of}
use Rattle.sn_model.proofs.EachStep.{each_step}
use Rattle.due_events.proofs.EachEvent.{ordinary_evicted, ordinary_flight, ordinary_hops, ordinary_loses}
use Rattle.due_events.proofs.SteppedCases.{is_point_answer}
use Rattle.script_replay.specs.Played.{IsAlone}

-- whether an answer is a recovery's
abbrev goes_back : Answer → Bool
goes_back (answer.Recovered undo) = true
goes_back _ = false

abbrev GoesOn : MachineStep → Type 0
GoesOn step = goes_back step.answer ≡ false

never_back : (a : Answer) → is_point_answer a ≡ false → goes_back a ≡ false
never_back (answer.Recovered undo) e = e
never_back _ e = refl

never : (said : Answer) (undo : Undo) → goes_back said ≡ false → said ≡ answer.Recovered undo → ⊥
never said undo on is = true≢false (sym (ap goes_back is) ∙ on)

-- an instruction

misses_on : (config : Config) (s : Fabric) (n block : ℕ) (access : Need) → goes_back (misses config s n block access).answer ≡ false
misses_on config s n block access = grind arith

accessed_on : (config : Config) (s : Fabric) (n block : ℕ) (access : Need) → goes_back (step_of_access config s n block access).answer ≡ false
accessed_on config s n block access = grind (arith, misses_on config s n block access)

stepped_on : (image : ImageData) (config : Config) (s : State) (n : ℕ) → GoesOn (step_of_instruction image config s n)
stepped_on image config s n = each_step image config s n GoesOn refl (accessed_on config s.fabric n) refl refl refl

-- the other events

edged_on : (s : Fabric) (n : ℕ) → goes_back (step_of_edge s n).answer ≡ false
edged_on s n = grind arith

reported_on : (s : Fabric) (n : ℕ) → goes_back (step_of_report s n).answer ≡ false
reported_on s n = grind arith

killed_on : (s : Fabric) (switch : ℕ) → goes_back (step_of_kill s switch).answer ≡ false
killed_on s switch = grind arith

advanced_on : (s : Fabric) (k : ℕ) → goes_back (step_of_advance s k).answer ≡ false
advanced_on s k = grind arith

validates_on : (s : State) (node : Option ℕ) → GoesOn (validates s node)
validates_on s None = advanced_on s.fabric (s.fabric.point + 1)
validates_on s (Some node) = refl

restores_alone : (s : State) (pair : Option (ℕ × ℕ)) →
    IsAlone (restores s (recovers s.fabric s.fabric.point pair)).answer (restores s (recovers s.fabric s.fabric.point pair)).sent
restores_alone s None = λ undo is. refl
restores_alone s (Some pair) = λ undo is. refl

pub recovery_is_alone : (image : ImageData) (config : Config) (s : State) (e : Event) →
    IsAlone (step_of image config s e).answer (step_of image config s e).sent
unfolding step_of
recovery_is_alone image config s (event.Step n) = λ undo is. absurd (never _ undo (stepped_on image config s n) is)
recovery_is_alone image config s (event.Evict n block) =
    λ undo is. absurd (never _ undo (never_back _ (ordinary_evicted s.fabric n block)) is)
recovery_is_alone image config s (event.Edge n) = λ undo is. absurd (never _ undo (edged_on s.fabric n) is)
recovery_is_alone image config s (event.Hop id) =
    λ undo is. absurd (never _ undo (never_back _ (ordinary_hops s.fabric (flight_of s.fabric.net.flights id))) is)
recovery_is_alone image config s (event.Deliver id) =
    λ undo is. absurd (never _ undo (never_back _ (ordinary_flight config s.fabric (flight_of s.fabric.net.flights id))) is)
recovery_is_alone image config s (event.Lose id) =
    λ undo is. absurd (never _ undo (never_back _ (ordinary_loses s.fabric (flight_of s.fabric.net.flights id))) is)
recovery_is_alone image config s (event.Kill switch) = λ undo is. absurd (never _ undo (killed_on s.fabric switch) is)
recovery_is_alone image config s (event.Report n) = λ undo is. absurd (never _ undo (reported_on s.fabric n) is)
recovery_is_alone image config s event.Validate = λ undo is. absurd (never _ undo (validates_on s (unready_node s)) is)
recovery_is_alone image config s event.Recover = restores_alone s (first_cut_off (living_switches s.fabric))
recovery_is_alone image config s (event.Input n byte) = λ undo is. absurd (never _ undo refl is)
