-- What a delivery comes to, by what was foreseen.
use Rattle.std.proofs.Common.{◌≡◌, ℕ, ◌+◌, ◌≤◌, Bool, true, false, not, length, get_or, Option, Some, None, refl, sym, ap, ◌∙◌, arith}
use Rattle.std.specs.Prelude.{nat_lt, if◌then◌else◌, []}
use Rattle.std.proofs.lemmas.Bool.Decides.{nat_tests}
use Rattle.sn_base.specs.declared.config.Config.{Config}
use Rattle.sn_base.specs.declared.event.Answer.{Answer}
use Rattle.sn_base.specs.declared.event.Answer.TheVariants.{Delivered, Held, LogFull, NetFull, NotArrived}
use Rattle.sn_msg.specs.declared.Message.{Message}
use Rattle.sn_model.specs.Fabric.{Fabric, Flight, Node, FabricStep, node_at, step_refused}
use Rattle.sn_model.specs.Net.{flight_of, is_there}
use Rattle.sn_model.specs.NetEvents.{Outcome, Busy, AtCache, AtHome, Noted, outcome_of, delivers, delivers_flight, step_of_delivery}
use Rattle.sn_fabric.specs.declared.node.NodeUnit.{NodeUnit}
use Rattle.sn_fabric.specs.Deliveries.{HasCome}
use Rattle.sn_fabric.specs.Fabric.{FabricData, IsAfter}
use Rattle.sn_fabric.specs.Parts.{Parts, fabric_as, AreParts}
use Rattle.sn_fabric.proofs.Come.{come-held}
use Rattle.sn_fabric.proofs.Given.{node-read}

-- whether the message is held, by the clock that was read
module _ (config : Config) (p : Parts) (a : AreParts config p) (m : Message) (h : HasCome (fabric_as p) m) (place : ℕ) (x : NodeUnit) (ep : place ≡ m.to) (ex : x ≡ get_or p.units place x) where
  now_is : (node_at (fabric_as p) m.to).now ≡ x.clock.interval
  now_is = ap (λ (y : Node). y.now) (node-read config p a m h place x ep ex)

  test_is : nat_lt (node_at (fabric_as p) m.to).now m.tag ≡ nat_lt x.clock.interval m.tag
  test_is = ap (λ (i : ℕ). nat_lt i m.tag) now_is

  pub held : nat_lt x.clock.interval m.tag ≡ true → step_of_delivery config (fabric_as p) m.id ≡ step_refused (fabric_as p) Held
  held e = come-held config (fabric_as p) m h (test_is ∙ e)

  pub not-held : nat_lt x.clock.interval m.tag ≡ false → m.tag ≤ (node_at (fabric_as p) m.to).now
  not-held e = let k : nat_lt (node_at (fabric_as p) m.to).now m.tag ≡ false = test_is ∙ e in grind (arith, nat_tests, k)

-- what isn't delivered stays where it is

abbrev Stays : Fabric → FabricStep → Type 0
Stays s x = (x.answer ≡ Delivered → ⊥) → x ≡ step_refused s x.answer

room_stays : (s : Fabric) (over full : Bool) (done : FabricStep) → done.answer ≡ Delivered →
    Stays s (if over then step_refused s LogFull else if full then step_refused s NetFull else done)
room_stays s true full done d h = refl
room_stays s false true done d h = refl
room_stays s false false done d h = absurd (h d)

outcome_stays : (config : Config) (s : Fabric) (m : Message) (o : Outcome) → Stays s (delivers config s m o)
outcome_stays config s m Busy h = refl
outcome_stays config s m (AtCache reply) h =
    room_stays s (nat_lt config.log (length reply.after.log)) (nat_lt 1025 (length s.net.flights + length reply.sends)) _ refl h
outcome_stays config s m (AtHome reply) h =
    room_stays s (nat_lt config.log (length reply.after.log)) (nat_lt 1025 (length s.net.flights + length reply.sends)) _ refl h
outcome_stays config s m (Noted fabric told) h = absurd (h refl)

test_stays : (s : Fabric) (there held : Bool) (rest : FabricStep) → Stays s rest →
    Stays s (if not there then step_refused s NotArrived else if held then step_refused s Held else rest)
test_stays s false held rest k h = refl
test_stays s true true rest k h = refl
test_stays s true false rest k h = k h

flight_stays : (config : Config) (s : Fabric) (o : Option Flight) → Stays s (delivers_flight config s o)
flight_stays config s None h = refl
flight_stays config s (Some f) h =
    test_stays s (is_there f) (nat_lt (node_at s f.message.to).now f.message.tag)
    (delivers config s f.message (outcome_of s f.message f.message.body))
    (outcome_stays config s f.message (outcome_of s f.message f.message.body)) h

undelivered : (config : Config) (s : Fabric) (id : ℕ) → Stays s (step_of_delivery config s id)
undelivered config s id h = flight_stays config s (flight_of s.net.flights id) h

-- so it is refused with the answer that was foreseen
pub refused : (config : Config) (s : Fabric) (id : ℕ) (said : Answer) → said ≡ (step_of_delivery config s id).answer →
    (said ≡ Delivered → ⊥) → step_of_delivery config s id ≡ step_refused s said
refused config s id said es ne = undelivered config s id (λ k. ne (es ∙ k)) ∙ ap (step_refused s) (sym es)

module _ (d e : FabricData) (id : ℕ) (said : Answer) (is : step_of_delivery d.config d.fabric id ≡ step_refused d.fabric said) where
  pub refused-after : e ≡ record d { sent = [] } → IsAfter d e said (step_of_delivery d.config d.fabric id)
  refused-after ee = record {
    answer = sym (ap (λ (m : FabricStep). m.answer) is);
    left = ee ∙ ap (λ (m : FabricStep). record d { fabric = m.fabric; sent = m.sent }) (sym is);
  }

  pub refused-tells : None ≡ (step_of_delivery d.config d.fabric id).told
  refused-tells = sym (ap (λ (m : FabricStep). m.told) is)
