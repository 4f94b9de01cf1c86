-- The counting program is never over, and without a dead switch no recovery finds nodes cut off: an event is always due, so there are
-- exactly as many as asked, and each fits.
use Rattle.std.proofs.Common.{◌≡◌, Bool, true, false, not, ◌&&◌, ◌||◌, if◌then◌else◌, is_some, zero, suc, ℕ, ◌+◌, ◌%◌, ◌<◌, List, length}
use Rattle.std.proofs.Common.{Option, Some, None, refl, sym, ap, ◌∙◌, subst, arith}
use Rattle.std.proofs.lemmas.Nat.{mod_below}
use Rattle.sn_base.specs.declared.event.Event.{Event}
use Rattle.sn_base.specs.declared.event.Event.TheVariants as event
use Rattle.sn_base.specs.declared.event.Answer.{Answer}
use Rattle.sn_base.specs.declared.event.Answer.TheVariants as answer
use Rattle.rv_core.specs.declared.step.Record.{Record}
use Rattle.rv_core.specs.Execution.{end_of}
use Rattle.rand_pcg.specs.Lcg.{Lcg}
use Rattle.rand_pcg.specs.Pcg.{pcg32}
use Rattle.route_plan.specs.Routes.{first_cut_off}
use Rattle.route_plan.proofs.Whole.{whole}
use Rattle.sn_model.specs.Fabric.{no_switches}
use Rattle.sn_model.specs.PointEvents.{living_switches}
use Rattle.sn_model.specs.Machine.{State, start_of}
use Rattle.sn_model.specs.Step.{step_of}
use Rattle.consistent_cuts.specs.Runs.{EventFits, AllFit}
use Rattle.consistent_cuts.proofs.NodesStay.{step_count}
use Rattle.sn_machine.specs.Looks.{have_ended}
use Rattle.due_events.specs.Numbers.{Numbers, first_numbers, numbers_with_event, with_retired, with_edge, with_report, with_answer, numbers_after}
use Rattle.due_events.specs.Due.{is_over, next_due, due_of}
use Rattle.due_events.specs.Runs.{then_others}
use Rattle.counting_program.specs.Program.{counting_image}
use Rattle.counting_program.proofs.Counting.{none_ends}
use Rattle.generated_runs.specs.Generated.{generated_config, generated_rules, generator_of, generated_events, still_due}
use Rattle.generated_runs.proofs.DeadStays.{is_cut, dead_stays}
use Rattle.generated_runs.proofs.DueEvents.{IsGood, due_good}

-- a machine of the program without a dead switch, and numbers of a driver that knows of no nodes that are cut off
pub record IsRunning (s : State) (x : Numbers) : Type 0 where
  pub count : length s.fabric.nodes ≡ 4
  pub dead : s.fabric.net.dead ≡ no_switches
  pub joined : x.cut_off ≡ None

pub runs_first : IsRunning (start_of counting_image 4) first_numbers
runs_first = record { count = refl; dead = refl; joined = refl }

and_not : (b c : Bool) → c ≡ true → b && not c ≡ false
and_not true c e = rw e refl
and_not false c e = refl

not_ended : (k : ℕ) (records : List Record) → have_ended (suc k) (end_of counting_image (suc k) records) ≡ false
not_ended k records = and_not (have_ended k (end_of counting_image (suc k) records)) _ (none_ends (suc k) k records (omega arith))

not_over : (s : State) → is_over counting_image generated_config s ≡ false
not_over s = not_ended 3 s.committed

unless : (b c : Bool) (o : Option Event) → b ≡ false → c ≡ false → (if b || c then None else o) ≡ o
unless b c o e f = rw (e, f) refl

-- an event is due
is_due : (s : State) (x : Numbers) (worker pick : ℕ) → IsRunning s x →
    due_of generated_rules counting_image generated_config s x worker pick
    ≡ Some (next_due generated_rules counting_image generated_config s x worker pick)
unfolding due_of
is_due s x worker pick r = unless _ _ _ (not_over s) (ap is_some r.joined)

-- what a turn leaves of the pair of nodes that are cut off

retired_keeps : (x : Numbers) (e : Event) → (with_retired x e).cut_off ≡ x.cut_off
retired_keeps x (event.Step n) = refl
retired_keeps x _ = refl

edge_keeps : (x : Numbers) (e : Event) → (with_edge x e).cut_off ≡ x.cut_off
edge_keeps x (event.Edge n) = refl
edge_keeps x _ = refl

report_keeps : (x : Numbers) (e : Event) (k : ℕ) → (with_report x e k).cut_off ≡ x.cut_off
report_keeps x (event.Report n) k = refl
report_keeps x _ k = refl

answer_keeps : (x : Numbers) (e : Event) (a : Answer) → is_cut a ≡ false → (with_answer x e a).cut_off ≡ x.cut_off
answer_keeps x e answer.Retired h = retired_keeps x e
answer_keeps x e (answer.Edged k) h = edge_keeps x e
answer_keeps x e (answer.Reported k) h = report_keeps x e k
answer_keeps x e (answer.CutOff a b) h = absurd cc
answer_keeps x e _ h = refl

-- all nodes of a machine without a dead switch are joined
all_joined : (s : State) (x : Numbers) → IsRunning s x → first_cut_off (living_switches s.fabric) ≡ None
all_joined s x r = whole (living_switches s.fabric) (record { some = omega (arith, r.count); few = omega (arith, r.count) }) r.dead

-- and it leaves the machine so
module _ (s : State) (x : Numbers) (worker pick : ℕ) (e : Event) (r : IsRunning s x) (below : worker < 4) (due : due_of generated_rules counting_image generated_config s x worker pick ≡ Some e) where
  good : IsGood 4 e
  good = due_good generated_rules counting_image generated_config s x worker pick e below refl due

  runs_on : IsRunning (step_of counting_image generated_config s e).state
      (numbers_after x e (step_of counting_image generated_config s e).answer)
  runs_on =
      let stays = dead_stays counting_image generated_config s e good.spares (all_joined s x r) in
      record {
        count = step_count counting_image generated_config s e ∙ r.count;
        dead = stays.0 ∙ r.dead;
        joined = answer_keeps (numbers_with_event x e) e (step_of counting_image generated_config s e).answer stays.1 ∙ r.joined;
      }

-- so many events of which each fits
pub record AreWhole (size : ℕ) (events : List Event) : Type 0 where
  pub count : length events ≡ size
  pub fit : AllFit 4 events

more : (size : ℕ) (o : Option Event) (e : Event) (others : Event → List Event) → o ≡ Some e → EventFits 4 e → AreWhole size (others e) →
    AreWhole (suc size) (then_others o others)
more size o e others is fits rest =
    subst (λ (t : Option Event). AreWhole (suc size) (then_others t others)) (sym is)
    (record { count = ap suc rest.count; fit = (fits, rest.fit) })

due_whole : (left number : ℕ) (g : Lcg) (s : State) (x : Numbers) → IsRunning s x →
    AreWhole left (still_due counting_image generated_config s x left number g)
due_whole zero number g s x r = record { count = refl; fit = tt }
due_whole (suc left) number g s x r =
    let pick = (pcg32 g).0 in
    let event = next_due generated_rules counting_image generated_config s x (number % 4) pick in
    let due = is_due s x (number % 4) pick r in
    more left _ event _ due (good s x (number % 4) pick event r (mod_below number 4 (omega arith)) due).fits
    (due_whole left (number + 1) (pcg32 g).1 _ _ (runs_on s x (number % 4) pick event r (mod_below number 4 (omega arith)) due))

pub all_whole : (size : ℕ) → AreWhole size (generated_events size)
all_whole size = due_whole size 0 (generator_of size) (start_of counting_image 4) first_numbers runs_first
