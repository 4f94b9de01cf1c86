-- What a validation comes to.
use Rattle.std.proofs.Common.{◌≡◌, ◌≢◌, ℕ, ◌+◌, Bool, true, false, ◌++◌, length, Option, Some, None, refl, sym, ap, ◌∙◌, arith}
use Rattle.std.proofs.Common.{if◌then◌else◌}
use Rattle.std.specs.Prelude.{Result, Ok, IfOk}
use Rattle.sn_base.specs.declared.event.Answer.{Answer}
use Rattle.sn_base.specs.declared.event.Answer.TheVariants.{Validated, NetFull}
use Rattle.validation.specs.declared.NotReady.{NotReady as Behind}
use Rattle.validation.specs.Ready.{Reports, least_behind, next_or_behind, next_point_of}
use Rattle.interval_list.specs.WaitingList.{entries_below, waiting_from}
use Rattle.sn_model.specs.Fabric.{Fabric, step_refused}
use Rattle.sn_model.specs.MachineEvents.{commits, step_of_validation, unready_node}
use Rattle.sn_model.specs.Net.{sending, is_full}
use Rattle.sn_model.specs.PointEvents.{step_of_advance, advances}
use Rattle.sn_fabric.specs.Fabric.{IsAfter}
use Rattle.consistent_cuts.proofs.Clocks.{same_clocks}
use Rattle.sn_machine.specs.declared.hardware.Hardware.{Hardware}
use Rattle.sn_machine.specs.Sound.{IsSound}
use Rattle.sn_machine.specs.Parts.{state_of, IsWhole, Does}
use Rattle.sn_machine.proofs.Parts.{HasSameRest, carried-does}
use Rattle.sn_machine.proofs.Lists.{pending-later, records-next, held-later, bytes-next}

-- what the controller finds

next_ready : (r : Reports) (o : Option ℕ) (k : ℕ) → Ok k ≡ next_or_behind r o → (o ≡ None) × (k ≡ r.point + 1)
next_ready r None k e = (refl, cc)
next_ready r (Some n) k e = absurd cc

unready : (h : Hardware) → IsWhole h → least_behind h.controller.point h.controller.reported ≡ unready_node (state_of h)
unready h w = ap (λ (p : ℕ). least_behind p h.controller.reported) w.point

pub check-ready : (h : Hardware) (k : ℕ) → IsWhole h → Ok k ≡ next_point_of h.controller →
    (unready_node (state_of h) ≡ None) × (k ≡ h.fabric.fabric.point + 1)
check-ready h k w e =
    let found = next_ready h.controller (least_behind h.controller.point h.controller.reported) k e in
    (sym (unready h w) ∙ found.0, found.1 ∙ ap (λ (p : ℕ). p + 1) w.point)

-- what an advance of the controller leaves, where all are ready
pub controller-next : (h : Hardware) (r : Result ℕ Behind) (after : Reports) → IsWhole h → unready_node (state_of h) ≡ None →
    r ≡ next_point_of h.controller → IfOk r (λ k. after ≡ record h.controller { point = k }) →
    after ≡ record h.controller { point = h.controller.point + 1 }
controller-next h r after w ready is moved =
    let e : r ≡ Ok (h.controller.point + 1) = is ∙ ap (next_or_behind h.controller) (unready h w ∙ ready) in
    rw e at moved

module _ (h g : Hardware) (k : ℕ) (w : IsWhole h) (next : k ≡ h.fabric.fabric.point + 1) where
  abbrev s : Fabric
  s = h.fabric.fabric

  -- a network that is too full
  pub commit-refused : (answer : Answer) → ((j : ℕ) → answer ≢ Validated j) → IsAfter h.fabric g.fabric answer (step_of_advance s k) →
      HasSameRest h g → g.is_carried ≡ true →
      Does h g answer (commits (state_of h) (step_of_advance s k))
  commit-refused answer not after same is = go (is_full s (length s.nodes)) after
    where
      go : (full : Bool) → IsAfter h.fabric g.fabric answer
          (if full then step_refused s NetFull else sending (record s { point = k }) 0 0 (advances k 0 s.nodes) (Validated k)) →
          Does h g answer (commits (state_of h)
          (if full then step_refused s NetFull else sending (record s { point = k }) 0 0 (advances k 0 s.nodes) (Validated k)))
      go true a = carried-does h g answer (step_refused s NetFull) w a (same_clocks s) same is
      go false a = absurd (not k a.answer)

  -- the interval before the point is committed
  pub commit-done : (answer : Answer) (j : ℕ) → answer ≡ Validated j → IsSound (state_of h) →
      IsAfter h.fabric g.fabric answer (step_of_advance s k) → g.processors.items ≡ h.processors.items →
      g.controller ≡ record h.controller { point = h.controller.point + 1 } →
      g.history ≡ record h.history {
        pending = waiting_from k h.history.pending;
        committed = h.history.committed ++ entries_below k h.history.pending;
      } →
      g.output ≡ record h.output { held = waiting_from k h.output.held; released = h.output.released ++ entries_below k h.output.held } →
      g.is_carried ≡ true →
      Does h g answer (commits (state_of h) (step_of_advance s k))
  commit-done answer j said sound after processors controller history output is = go (is_full s (length s.nodes)) after
    where
      go : (full : Bool) → IsAfter h.fabric g.fabric answer
          (if full then step_refused s NetFull else sending (record s { point = k }) 0 0 (advances k 0 s.nodes) (Validated k)) →
          Does h g answer (commits (state_of h)
          (if full then step_refused s NetFull else sending (record s { point = k }) 0 0 (advances k 0 s.nodes) (Validated k)))
      go true a = absurd (let e = sym said ∙ a.answer in cc)
      go false a = record {
        state =
            rw (
              a.left,
              processors,
              controller,
              history,
              output,
              next,
              pending-later s.point h.history.pending sound.pending,
              records-next s.point h.history.pending sound.pending,
              held-later s.point h.output.held sound.held,
              bytes-next s.point h.output.held sound.held,
            ) refl;
        says = a.answer;
        sent = rw (is, a.left) refl;
        sizes = rw a.left refl;
        whole = record {
          count = rw (processors, a.left) w.count;
          known = rw (processors, a.left) w.known;
          point = rw (controller, a.left, next) (ap (λ (p : ℕ). p + 1) w.point);
        };
        room = λ events room. record {
          records = rw history (let x = room.records in omega (arith, x));
          bytes = rw output (let x = room.bytes in omega (arith, x));
          given = rw processors (λ n l. let x = room.given n l in omega (arith, x));
        };
      }

-- where all nodes are ready, a validation is just this
pub commits-all : (h g : Hardware) (answer : Answer) (k : ℕ) → unready_node (state_of h) ≡ None → k ≡ h.fabric.fabric.point + 1 →
    Does h g answer (commits (state_of h) (step_of_advance h.fabric.fabric k)) → Does h g answer (step_of_validation (state_of h))
commits-all h g answer k ready next done = rw ready (rw next at done)
