-- What a step of a node comes to: a retirement, an access of the fabric alone, or nothing.
use Rattle.std.proofs.Common.{◌≡◌, ℕ, ◌<◌, Bool, true, false, not, ◌&&◌, nat_lt, nat_le, if◌then◌else◌, List, length, Option, Some, None}
use Rattle.std.proofs.Common.{refl, sym, subst, arith, true≢false}
use Rattle.std.proofs.lemmas.Bool.Decides.{nat_tests}
use Rattle.sn_base.specs.Image.{ImageData}
use Rattle.sn_base.specs.declared.config.Config.{Config}
use Rattle.sn_base.specs.declared.event.Event.TheVariants.{Step}
use Rattle.sn_base.specs.declared.event.Answer.{Answer}
use Rattle.sn_base.specs.declared.event.Answer.TheVariants.{Validated, Recovered, Retired, Waits, NeedsEvict, LogFull, NetFull, Ended}
use Rattle.sn_base.specs.declared.event.Answer.TheVariants.{NoInput}
use Rattle.rv_core.specs.declared.step.Want.{Want}
use Rattle.rv_core.specs.declared.step.Want.TheVariants as want
use Rattle.rv_core.specs.Core.{block_of, is_reserved, is_running}
use Rattle.rv_core.specs.Step.{want_of}
use Rattle.rv_core.specs.Wanted.{IsAddress, IsInside}
use Rattle.rv_core.proofs.CoreLaws.{want_inside}
use Rattle.sn_model.specs.declared.cache.Need.{Need}
use Rattle.sn_model.specs.declared.cache.Need.TheVariants as need
use Rattle.sn_model.specs.Access.{step_of_access, step_of_miss, has_miss, serves, lacks_room}
use Rattle.sn_model.specs.Caches.{block_count, line_of, is_present, puts_on, frames_taken}
use Rattle.sn_model.specs.Fabric.{Fabric, node_at, line_of_node}
use Rattle.sn_model.specs.Fabric as fabric
use Rattle.sn_model.specs.Net.{is_full}
use Rattle.sn_model.specs.Machine.{State, processor_at}
use Rattle.sn_model.specs.Instructions.{MachineStep, found_by, machine_step_refused, machine_step_of, step_of_retirement, step_of_instruction, step_wanting, accessing, is_retired}
use Rattle.sn_model.specs.Instructions.{takes_input, next_byte, taken_by}
use Rattle.sn_model.specs.Trace.{TraceEntry, trace_after_event}
use Rattle.consistent_cuts.specs.Accesses.{CanServe, CanServeWant, CanRetire}

-- a choice by a test
by_test : {A : Type 0} (P : A → Type 0) (test : Bool) (a b : A) → (test ≡ true → P a) → (test ≡ false → P b) → P (if test then a else b)
by_test P true a b f g = f refl
by_test P false a b f g = g refl

-- an access is served only by a line that can

module _ (config : Config) (s : Fabric) (n b : ℕ) (l : n < length s.nodes) (low : b < block_count) (need : Need) where
  served : (a p c d e f : Bool) → has_miss (node_at s n).cache.miss ≡ a → puts_on (node_at s n).cache.put b ≡ p →
      serves need (line_of_node s n b).state ≡ c → lacks_room config (node_at s n) b need ≡ d →
      is_retired (if a then fabric.step_refused s Waits else if p then fabric.step_refused s Waits
      else if c then (if d then fabric.step_refused s LogFull else fabric.step_with_answer s Retired) else if e then fabric.step_refused s NeedsEvict
      else if f then fabric.step_refused s NetFull else step_of_miss s n b need).answer ≡ true →
      CanServe config s n b need
  served true p c d e f h i j k is = cc
  served false true c d e f h i j k is = cc
  served false false true true e f h i j k is = cc
  served false false true false e f h i j k is =
      record { line = record { node = l; block = low; no_miss = h; no_put = i }; serving = j; room = k }
  served false false false d true f h i j k is = cc
  served false false false d false true h i j k is = cc
  served false false false d false false h i j k is = cc

  pub served_by_line : is_retired (step_of_access config s n b need).answer ≡ true → CanServe config s n b need
  served_by_line is =
      served (has_miss (node_at s n).cache.miss) (puts_on (node_at s n).cache.put b) (serves need (line_of (node_at s n).cache b).state)
      (lacks_room config (node_at s n) b need)
      (not (is_present (line_of (node_at s n).cache b).state) && nat_le config.ways (frames_taken (node_at s n).cache config.sets b))
      (is_full s 1) refl refl refl refl is

-- an answer that moves the point or goes back to it
abbrev pub is_point_answer : Answer → Bool
is_point_answer (Validated k) = true
is_point_answer (Recovered undo) = true
is_point_answer _ = false

-- no answer of an access or a refusal of a step takes a retirement away, and none but Retired adds one
abbrev pub LeavesTrace : ImageData → State → ℕ → Answer → Type 0
LeavesTrace image s n answer = (is_point_answer answer ≡ false) × ((trace : List TraceEntry) → trace_after_event image s (Step n) answer trace ≡ trace)

access_leaves : (image : ImageData) (s : State) (n b : ℕ) (access : Need) (a p c d e f : Bool) →
    is_retired (if a then fabric.step_refused s.fabric Waits else if p then fabric.step_refused s.fabric Waits
    else if c then (if d then fabric.step_refused s.fabric LogFull else fabric.step_with_answer s.fabric Retired)
    else if e then fabric.step_refused s.fabric NeedsEvict else if f then fabric.step_refused s.fabric NetFull else step_of_miss s.fabric n b access).answer
    ≡ false →
    LeavesTrace image s n (if a then fabric.step_refused s.fabric Waits else if p then fabric.step_refused s.fabric Waits
    else if c then (if d then fabric.step_refused s.fabric LogFull else fabric.step_with_answer s.fabric Retired)
    else if e then fabric.step_refused s.fabric NeedsEvict else if f then fabric.step_refused s.fabric NetFull else step_of_miss s.fabric n b access).answer
access_leaves image s n b access true p c d e f is = (refl, λ trace. refl)
access_leaves image s n b access false true c d e f is = (refl, λ trace. refl)
access_leaves image s n b access false false true true e f is = (refl, λ trace. refl)
access_leaves image s n b access false false true false e f is = absurd (true≢false is)
access_leaves image s n b access false false false d true f is = (refl, λ trace. refl)
access_leaves image s n b access false false false d false true is = (refl, λ trace. refl)
access_leaves image s n b access false false false d false false is = (refl, λ trace. refl)

accessed_leaves : (image : ImageData) (config : Config) (s : State) (n b : ℕ) (access : Need) →
    is_retired (step_of_access config s.fabric n b access).answer ≡ false → LeavesTrace image s n (step_of_access config s.fabric n b access).answer
accessed_leaves image config s n b access is =
    access_leaves image s n b access (has_miss (node_at s.fabric n).cache.miss) (puts_on (node_at s.fabric n).cache.put b)
    (serves access (line_of (node_at s.fabric n).cache b).state) (lacks_room config (node_at s.fabric n) b access)
    (not (is_present (line_of (node_at s.fabric n).cache b).state)
    && nat_le config.ways (frames_taken (node_at s.fabric n).cache config.sets b)) (is_full s.fabric 1) is

-- whatever holds of a retirement that can be, of an access of the fabric alone, and of a refusal holds of a step

module _ (image : ImageData) (config : Config) (s : State) (n : ℕ) (l : n < length s.fabric.nodes) (P : MachineStep → Type 0)
    (retires : CanRetire image config s n → P (step_of_retirement image s n))
    (goes_on : (block : ℕ) (access : Need) → block < block_count → LeavesTrace image s n (step_of_access config s.fabric n block access).answer →
    P (machine_step_of s (step_of_access config s.fabric n block access)))
    (stays : (answer : Answer) → LeavesTrace image s n answer → P (machine_step_refused s answer)) where
  block_low : (address : ℕ) → IsAddress address → block_of address < block_count
  block_low address inside = omega (arith, inside.0, inside.1)

  accessing_cases : (address : ℕ) (access : Need) → IsAddress address →
      (CanServe config s.fabric n (block_of address) access → P (step_of_retirement image s n)) → P (accessing image config s n address access)
  accessing_cases address access inside done =
      by_test P (is_retired (step_of_access config s.fabric n (block_of address) access).answer) (step_of_retirement image s n)
      (machine_step_of s (step_of_access config s.fabric n (block_of address) access))
      (λ is. done (served_by_line config s.fabric n (block_of address) l (block_low address inside) access is))
      (λ is. goes_on (block_of address) access (block_low address inside) (accessed_leaves image config s n (block_of address) access is))

  module _ (running : is_running (processor_at s n).core.end ≡ true) (no_miss : has_miss (node_at s.fabric n).cache.miss ≡ false) where
    retires_wanting : (w : Want) → want_of image (processor_at s n).core ≡ w → CanServeWant w (found_by s n w).sc_done config s n →
        P (step_of_retirement image s n)
    retires_wanting w e served =
        retires (record {
          node = l;
          running = running;
          no_miss = no_miss;
          served = subst (λ w. CanServeWant w (found_by s n w).sc_done config s n) (sym e) served;
        })

    input_cases : (byte : Option ℕ) → next_byte s n ≡ byte → want_of image (processor_at s n).core ≡ want.Input →
        P (takes_input image s n byte)
    input_cases None is e = stays NoInput (refl, λ trace. refl)
    input_cases (Some byte) is e = retires_wanting want.Input e (given (nat_lt (taken_by s n) (length (processor_at s n).given)) refl is)
      where
        given : (test : Bool) → nat_lt (taken_by s n) (length (processor_at s n).given) ≡ test → next_byte s n ≡ Some byte →
            taken_by s n < length (processor_at s n).given
        given true t is = grind (arith, nat_tests)
        given false t is = absurd (grind (arith, nat_tests))

    wanting_cases : (w : Want) → want_of image (processor_at s n).core ≡ w → IsInside w → P (step_wanting image config s n w)
    wanting_cases want.Input e inside = input_cases (next_byte s n) refl e
    wanting_cases want.Nothing e inside = retires_wanting want.Nothing e tt
    wanting_cases (want.Load address) e inside = accessing_cases address need.Read inside (retires_wanting (want.Load address) e)
    wanting_cases (want.Lr address) e inside = accessing_cases address need.Read inside (retires_wanting (want.Lr address) e)
    wanting_cases (want.Store address) e inside = accessing_cases address need.Write inside (retires_wanting (want.Store address) e)
    wanting_cases (want.Amo address) e inside = accessing_cases address need.Write inside (retires_wanting (want.Amo address) e)
    wanting_cases (want.Sc address) e inside =
        by_test P (is_reserved (processor_at s n).core.reservation (block_of address)) (accessing image config s n address need.Write)
        (step_of_retirement image s n)
        (λ q. accessing_cases address need.Write inside
        (λ served. retires_wanting (want.Sc address) e
        (subst (λ (done : Bool). CanServeWant (want.Sc address) done config s n) (sym q) served)))
        (λ q. retires_wanting (want.Sc address) e (subst (λ (done : Bool). CanServeWant (want.Sc address) done config s n) (sym q) tt))

  pub stepped_cases : P (step_of_instruction image config s n)
  stepped_cases =
      by_test P (not (is_running (processor_at s n).core.end)) (machine_step_refused s Ended) _ (λ q. stays Ended (refl, λ trace. refl))
      (λ q. by_test P (has_miss (node_at s.fabric n).cache.miss) (machine_step_refused s Waits)
      (step_wanting image config s n (want_of image (processor_at s n).core)) (λ m. stays Waits (refl, λ trace. refl))
      (λ m. wanting_cases (grind arith) m (want_of image (processor_at s n).core) refl (want_inside image (processor_at s n).core)))
