-- The definitions' recovery leaves just the parts.
use Rattle.std.proofs.Common.{◌≡◌, ℕ, ◌%◌, ◌<◌, ◌≤◌, Bool, true, false, cond, List, length, Option, Some, None}
use Rattle.std.proofs.Common.{refl, sym, ap, ◌∙◌, subst, arith}
use Rattle.std.specs.Prelude.{nat_eq}
use Rattle.std.specs.Option.{option_or}
use Rattle.std.proofs.lemmas.Bool.{eqb-true, eqb-false}
use Rattle.std.proofs.lemmas.Option.{none-some}
use Rattle.std.proofs.lemmas.List.{length-map}
use Rattle.sn_base.specs.declared.event.Event.TheVariants.{Recover}
use Rattle.sn_base.specs.declared.event.Answer.{Answer}
use Rattle.sn_base.specs.declared.event.Answer.TheVariants.{Recovered}
use Rattle.sn_base.specs.declared.event.Undo.{Undo}
use Rattle.route_plan.specs.Routes.{first_cut_off}
use Rattle.home_directory.specs.Home.{owner_of}
use Rattle.sn_model.specs.declared.cache.LineState.{LineState}
use Rattle.sn_model.specs.declared.cache.LineState.TheVariants.{Absent, Modified}
use Rattle.sn_model.specs.Caches.{Line, block_count, line_of}
use Rattle.sn_model.specs.Cuts.{names_at, owned_content}
use Rattle.sn_model.specs.Fabric.{Fabric, node_at, home_of}
use Rattle.sn_model.specs.Homes.{Holder, Itself, OfCache}
use Rattle.sn_model.specs.Instructions.{MachineStep}
use Rattle.sn_model.specs.Machine.{State, processor_at}
use Rattle.sn_model.specs.MachineEvents.{restores}
use Rattle.sn_model.specs.PointEvents.{recovers, fabric_restored_to, restored_node, living_switches}
use Rattle.sn_model.specs.RecoveryPoint.{IsCut, IsOwned, IsRestored, block_in}
use Rattle.sn_model.specs.Step.{step_of}
use Rattle.fabric_coherence.proofs.Recovery.{restored_home_at}
use Rattle.consistent_cuts.specs.Headline.{IsStepOfRun}
use Rattle.sn_machine.specs.Machine.{MachineData, next_of, flat_of}
use Rattle.rolling_recovery.specs.declared.answers.FinishFault.TheVariants as fault
use Rattle.rolling_recovery.specs.Parts.{keeper, keeper_at_cut}
use Rattle.rolling_recovery.specs.Rolling.{RollingData, has_part, core_in_part, block_in_part, first_not_noted, cut_off_by, fault_by, finish_fault}
use Rattle.rolling_recovery.specs.Recovered.{home_owns, owned_by, IsMadeOfParts}
use Rattle.rolling_recovery.proofs.Calls.{Follows}
use Rattle.rolling_recovery.proofs.Parted.{all-noted, keeper-there, with-keeper}

-- a recovery that isn't cut off is done

pub record Goes (s : State) (next : MachineStep) : Type 0 where
  pub undo : Undo
  pub answer : next.answer ≡ Recovered undo
  pub fabric : next.state.fabric ≡ fabric_restored_to s.fabric s.fabric.point

goes_by : (s : State) (o : Option (ℕ × ℕ)) → cut_off_by (restores s (recovers s.fabric s.fabric.point o)).answer ≡ None →
    Goes s (restores s (recovers s.fabric s.fabric.point o))
goes_by s None e = record { undo = _; answer = refl; fabric = refl }
goes_by s (Some pair) e = absurd (none-some (fault.CutOff pair.0 pair.1) (sym e))

pub goes : (m : MachineData) → cut_off_by (next_of m Recover).answer ≡ None → Goes m.state (next_of m Recover)
unfolding step_of
goes m e = goes_by m.state (first_cut_off (living_switches m.state.fabric)) e

-- what isn't in the way of a finish

pub noted-by : (o : Option ℕ) (answer : Answer) → fault_by o answer ≡ None → (o ≡ None) × (cut_off_by answer ≡ None)
noted-by None answer e = (refl, e)
noted-by (Some n) answer e = absurd (none-some (fault.NotDone n) (sym e))

-- what a node owns afterwards

owned_line : (line : Line) (state : LineState) → line.state ≡ state → owned_content line line.state ≡ owned_content line state
owned_line line state e = ap (owned_content line) e

owned_as : (s after : Fabric) (n block : ℕ) (content : List ℕ) (holder : Holder) → length after.nodes ≡ length s.nodes →
    n < length after.nodes → IsOwned after block content holder →
    option_or (owned_content (line_of (node_at after n).cache block) (line_of (node_at after n).cache block).state) (home_owns after n block holder)
    ≡ cond (nat_eq (keeper s block (owner_of holder)) n) (Some content) None
owned_as s after n block content (Itself named) count l h =
    ap (λ o. option_or o (home_owns after n block (Itself named))) (owned_line (line_of (node_at after n).cache block) Absent (h.1 n l))
    ∙ ap (λ c. cond (nat_eq (block % length after.nodes) n) (Some c) None) h.0
    ∙ ap (λ k. cond (nat_eq (block % k) n) (Some content) None) count
owned_as s after n block content (OfCache owner) count l h = by_test (nat_eq owner n) refl
  where
    by_test : (b : Bool) → nat_eq owner n ≡ b →
        option_or (owned_content (line_of (node_at after n).cache block) (line_of (node_at after n).cache block).state) None
        ≡ cond b (Some content) None
    by_test true e =
        let same : owner ≡ n = eqb-true owner n e in
        let line : line_of (node_at after n).cache block ≡ record { state = Modified; content = content } =
        subst (λ i. line_of (node_at after i).cache block ≡ record { state = Modified; content = content }) same h.1 in
        ap (λ (x : Line). option_or (owned_content x x.state) None) line
    by_test false e =
        ap (λ o. option_or o None) (owned_line (line_of (node_at after n).cache block) Absent (h.2 n l (λ i. eqb-false owner n e (sym i))))

-- the homes name whom they named at the cut
pub holder-stays : (s : Fabric) (k block : ℕ) → block < length s.homes → (home_of (fabric_restored_to s k) block).holder ≡ names_at s block k
unfolding fabric_restored_to
holder-stays s k block l = ap (λ entry. entry.holder) (restored_home_at s k block l)

pub count-stays : (s : Fabric) (k : ℕ) → length (fabric_restored_to s k).nodes ≡ length s.nodes
unfolding fabric_restored_to
count-stays s k = length-map s.nodes (restored_node k)

module _ (r : RollingData) (count : length r.machine.state.fabric.nodes ≡ r.machine.config.nodes) (some : 1 ≤ r.machine.config.nodes) (few : r.machine.config.nodes ≤ 16)
    (homes : length r.machine.state.fabric.homes ≡ block_count) (cut : IsCut r.machine.state r.machine.state.fabric.point (flat_of r.machine))
    (run : IsStepOfRun r.machine.image r.machine.config r.machine.state Recover (next_of r.machine Recover))
    (follows : Follows r.machine.config.nodes r) (clear : finish_fault r ≡ None) where
  abbrev s : Fabric
  s = r.machine.state.fabric

  abbrev after : State
  after = (next_of r.machine Recover).state

  went : Goes r.machine.state (next_of r.machine Recover)
  went = goes r.machine (noted-by (first_not_noted r) (next_of r.machine Recover).answer clear).1

  back : IsRestored after (flat_of r.machine)
  back = (run.restored went.undo went.answer).0

  nodes : length after.fabric.nodes ≡ length s.nodes
  nodes = ap (λ (f : Fabric). length f.nodes) went.fabric ∙ count-stays s s.point

  has : (n : ℕ) → n < r.machine.config.nodes → has_part r n ≡ true
  has n l = follows.noted n
      (all-noted r (noted-by (first_not_noted r) (next_of r.machine Recover).answer clear).0 (let e = follows.notes in omega (arith, e, few)) n l)

  low : (n : ℕ) → n < r.machine.config.nodes → n < length after.fabric.nodes
  low n l = let a = nodes in omega (arith, a, count, l)

  holder : (block : ℕ) → block < block_count → (home_of after.fabric block).holder ≡ names_at s block s.point
  holder block l = ap (λ (f : Fabric). (home_of f block).holder) went.fabric
      ∙ holder-stays s s.point block (omega (arith, homes, l))

  core : (n : ℕ) → n < r.machine.config.nodes → core_in_part r n ≡ Some (processor_at after n).core
  core n l = let h = has n l in rw h (ap (λ c. Some c) (sym (back.registers n (low n l))))

  owned : (n block : ℕ) → n < r.machine.config.nodes → block < block_count → owned_by after.fabric n block ≡ block_in_part r n block
  owned n block l inside =
      let h = has n l in
      let e = holder block inside in
      rw h (owned_as s after.fabric n block (block_in (flat_of r.machine).memory block) (home_of after.fabric block).holder nodes (low n l)
      (back.blocks block inside)
      ∙ ap (λ x. cond (nat_eq (keeper s block (owner_of x)) n) (Some (block_in (flat_of r.machine).memory block)) None) e)

  pub made-of-parts : IsMadeOfParts r after
  made-of-parts = record {
    blocks = λ block l.
        let there : keeper_at_cut r.machine block < r.machine.config.nodes =
        (let a = keeper-there r.machine block l (omega (arith, count, some)) cut in omega (arith, a, count)) in
        (keeper_at_cut r.machine block, there, with-keeper r block (has (keeper_at_cut r.machine block) there));
    cores = core;
    owned = owned;
  }
