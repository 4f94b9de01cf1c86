-- What an event but a recovery makes of each node, of the network and of the numbers.
use Rattle.std.proofs.Common.{◌≡◌, ◌∙◌, ℕ, ◌+◌, ◌<◌, ◌≤◌, Bool, true, false, cond, List, length, refl, sym, subst, arith, ◌==◌}
use Rattle.std.proofs.Common.{if◌then◌else◌, Option, None}
use Rattle.std.proofs.lemmas.Bool.Decides.{nat_tests}
use Rattle.std.specs.Prelude.{slice_index_or, slice_set}
use Rattle.sn_base.specs.declared.config.Config.{Config}
use Rattle.sn_base.specs.declared.event.Answer.{Answer}
use Rattle.sn_model.specs.declared.cache.Out.{Out}
use Rattle.sn_model.specs.declared.net.News.{News}
use Rattle.sn_model.specs.Caches.{Cache}
use Rattle.sn_model.specs.Fabric.{Fabric, Node, FabricStep, node_at, first_node, step_with_answer}
use Rattle.sn_model.specs.Net.{net_limit, routes_of, sending}
use Rattle.sn_model.proofs.Taken.{TakesFewer, taken-fewer}
use Rattle.fabric_bounds.specs.Bounds.{CacheFits}
use Rattle.fabric_bounds.specs.Counts.{SendsFew, most_sent}
use Rattle.fabric_bounds.proofs.Lists.{read_set, flights-posted, next-posted, length-sent}

pub record NodeSteps (config : Config) (old new : Node) : Type 0 where
  pub log : length old.log ≤ config.log → length new.log ≤ config.log
  pub frames : CacheFits config old.cache → CacheFits config new.cache
  pub now : new.now ≤ old.now + 1

pub record IsStep (config : Config) (s : Fabric) (x : FabricStep) : Type 0 where
  pub nodes : (n : ℕ) → n < length s.nodes → NodeSteps config (node_at s n) (node_at x.fabric n)
  pub net : length s.net.flights ≤ net_limit → length x.fabric.net.flights ≤ net_limit
  pub sends : SendsFew s x
  pub point : x.fabric.point ≤ s.point + 1

-- a cache that takes fewer frames fits
pub fewer_fits : (config : Config) (c d : Cache) → TakesFewer c d → CacheFits config d → CacheFits config c
fewer_fits config c d h f y = omega (arith, taken-fewer c d config.sets y h, f y)

pub node_stays : (config : Config) (node : Node) → NodeSteps config node node
node_stays config node = record { log = λ h. h; frames = λ h. h; now = omega arith }

equal : (m n : ℕ) → (m == n) ≡ true → n ≡ m
equal m n e = grind (arith, nat_tests)

-- one node changes
pub one_steps : (config : Config) (s : Fabric) (n : ℕ) (v : Node) → n < length s.nodes → NodeSteps config (node_at s n) v → (m : ℕ) →
    m < length s.nodes → NodeSteps config (node_at s m) (slice_index_or (slice_set s.nodes n v) m first_node)
one_steps config s n v l h m k =
    subst (λ x. NodeSteps config (node_at s m) x) (sym (read_set s.nodes n m v first_node l)) (either (m == n) refl)
  where
    either : (c : Bool) → (m == n) ≡ c → NodeSteps config (node_at s m) (cond c v (node_at s m))
    either true e = subst (λ i. NodeSteps config (node_at s i) v) (equal m n e) h
    either false e = node_stays config (node_at s m)

-- an event that sends nothing
pub quiet_step : (config : Config) (s after : Fabric) (answer : Answer) (told : Option News) →
    ((n : ℕ) → n < length s.nodes → NodeSteps config (node_at s n) (node_at after n)) →
    length after.net.flights ≤ length s.net.flights → after.net.next_id ≡ s.net.next_id → after.point ≤ s.point + 1 →
    IsStep config s (record (step_with_answer after answer) { told = told })
quiet_step config s after answer told nodes fewer next point = record {
  nodes = nodes;
  net = λ h. omega arith;
  sends = record { few = omega arith; numbers = next ∙ none s.net.next_id };
  point = point;
}
  where
    none : (k : ℕ) → k ≡ k + 0
    none k = omega arith

-- an event that sends these messages
pub sending_step : (config : Config) (s after : Fabric) (from block : ℕ) (outs : List Out) (answer : Answer) (told : Option News) →
    ((n : ℕ) → n < length s.nodes → NodeSteps config (node_at s n) (node_at after n)) →
    (length s.net.flights ≤ net_limit → length after.net.flights + length outs ≤ net_limit) → after.net.next_id ≡ s.net.next_id →
    length outs ≤ most_sent → after.point ≤ s.point + 1 →
    IsStep config s (record (sending after from block outs answer) { told = told })
sending_step config s after from block outs answer told nodes room next few point = record {
  nodes = nodes;
  net = λ h. omega (arith, room h, flights-posted outs (routes_of after) after.net from (node_at after from).now block);
  sends = record {
    few = omega (arith, length-sent outs (routes_of after) after.net from (node_at after from).now block);
    numbers =
        omega (
          arith,
          next,
          next-posted outs (routes_of after) after.net from (node_at after from).now block,
          length-sent outs (routes_of after) after.net from (node_at after from).now block,
        );
  };
  point = point;
}

-- an event that changes nothing
pub same_step : (config : Config) (s : Fabric) (answer : Answer) → IsStep config s (step_with_answer s answer)
same_step config s answer = quiet_step config s s answer None (λ n l. node_stays config (node_at s n)) (omega arith) refl (omega arith)

-- a test of the fabric
pub by_test : (config : Config) (s : Fabric) (test : Bool) (a b : FabricStep) → (test ≡ true → IsStep config s a) →
    (test ≡ false → IsStep config s b) → IsStep config s (if test then a else b)
by_test config s true a b first second = first refl
by_test config s false a b first second = second refl
