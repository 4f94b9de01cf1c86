-- What the delivery of a message comes to, by its plan.
use Rattle.std.proofs.Common.{◌≡◌, ℕ, ◌<◌, ◌≤◌, false, length, Option, Some, None, refl, sym, ap, ◌∙◌, subst, arith}
use Rattle.std.specs.Prelude.{nat_lt, map, IsSome}
use Rattle.std.specs.Option.{option_map}
use Rattle.std.proofs.lemmas.Bool.Decides.{nat_tests}
use Rattle.sn_base.specs.declared.config.Config.{Config}
use Rattle.sn_base.specs.declared.event.Answer.TheVariants.{Delivered}
use Rattle.sn_msg.specs.declared.Message.{Message}
use Rattle.switch_net.specs.declared.flight.Flight.{Flight as Carried}
use Rattle.switch_net.specs.Net.{find_flight}
use Rattle.home_directory.proofs.Verdicts.{idle_step}
use Rattle.sn_model.specs.declared.rows.CacheRow.{CacheRow}
use Rattle.sn_model.specs.declared.rows.HomeMessage.{HomeMessage}
use Rattle.sn_model.specs.declared.rows.HomeRow.{HomeRow}
use Rattle.sn_model.specs.declared.rows.Receiver.{Receiver}
use Rattle.sn_model.specs.declared.rows.Receiver.TheVariants as receiver
use Rattle.sn_model.specs.HomeRows.{home_row, is_request}
use Rattle.sn_model.specs.Fabric.{Fabric, Flight, FabricStep, node_at, home_of}
use Rattle.sn_model.specs.Net.{flight_of}
use Rattle.sn_model.specs.NetEvents.{AtHome, outcome_by, delivers, step_of_delivery}
use Rattle.fabric_bounds.specs.Steps.{after_cache, after_home}
use Rattle.sn_fabric.specs.declared.plans.Plan.{Plan}
use Rattle.sn_fabric.specs.declared.plans.Plan.TheVariants as plan
use Rattle.sn_fabric.specs.Deliveries.{HasCome}
use Rattle.sn_fabric.specs.Nets.{flight_as}
use Rattle.sn_fabric.specs.Parts.{Parts, fabric_as, AreParts}
use Rattle.sn_fabric.specs.Plans.{IsComeAs, HasComeAs, IsTaken, HasRoomFor, HasCacheRow, HasHomeRow, cache_reply_at, home_reply_at}
use Rattle.sn_fabric.specs.Plans.{IsPlan, answer_of}
use Rattle.sn_fabric.proofs.Come.{come-reached}
use Rattle.sn_fabric.proofs.Given.{inside, to-there}
use Rattle.sn_fabric.proofs.Looks.{room-for, fits-then, asked-done}
use Rattle.sn_fabric.proofs.Nets.{found-as}

-- by who takes it, and then by its row

not_held : (s : Fabric) (m : Message) → m.tag ≤ (node_at s m.to).now → nat_lt (node_at s m.to).now m.tag ≡ false
not_held s m l = grind (arith, nat_tests, l)

module _ (config : Config) (s : Fabric) (m : Message) (h : HasCome s m) where
  pub taken-step : (who : Receiver) → IsTaken s m who → step_of_delivery config s m.id ≡ delivers config s m (outcome_by s m who)
  taken-step who t =
      come-reached config s m h (not_held s m t.reached) ∙ ap (λ (x : Receiver). delivers config s m (outcome_by s m x)) t.receiver

  pub cache-done : (taken : CacheRow) → HasCacheRow config s taken m →
      step_of_delivery config s m.id ≡ after_cache s m (cache_reply_at s m taken)
  cache-done taken g =
      taken-step (receiver.Cache taken) g.here
      ∙ fits-then config s (cache_reply_at s m taken).after.log (cache_reply_at s m taken).sends
      (after_cache s m (cache_reply_at s m taken)) g.room

  pub home-done : (taken : HomeRow) → HasHomeRow config s taken m → step_of_delivery config s m.id ≡ after_home s m (home_reply_at s m taken)
  home-done taken g =
      taken-step (receiver.Home g.asked) g.here
      ∙ ap (delivers config s m)
      (idle_step (is_request g.asked) (home_of s m.block).transaction (home_reply_at s m (home_row (home_of s m.block) m.from g.asked)) g.idle)
      ∙ ap (λ (x : HomeRow). delivers config s m (AtHome (home_reply_at s m x))) (sym g.row)
      ∙ fits-then config s (home_reply_at s m taken).after.log (home_reply_at s m taken).sends
      (after_home s m (home_reply_at s m taken)) g.room

  -- what is delivered finds the room

  pub cache-planned : (taken : CacheRow) → IsTaken s m (receiver.Cache taken) → (step_of_delivery config s m.id).answer ≡ Delivered →
      HasCacheRow config s taken m
  cache-planned taken t d = record {
    here = t;
    room =
        room-for config s (cache_reply_at s m taken).after.log (cache_reply_at s m taken).sends (after_cache s m (cache_reply_at s m taken))
        (sym (ap (λ (y : FabricStep). y.answer) (taken-step (receiver.Cache taken) t)) ∙ d);
  }

  pub home-planned : (asked : HomeMessage) (taken : HomeRow) → IsTaken s m (receiver.Home asked) →
      taken ≡ home_row (home_of s m.block) m.from asked → (step_of_delivery config s m.id).answer ≡ Delivered →
      HasHomeRow config s taken m
  home-planned asked taken t e d =
      let q = asked-done config s m (is_request asked) (home_of s m.block).transaction
      (home_reply_at s m (home_row (home_of s m.block) m.from asked))
      (sym (ap (λ (y : FabricStep). y.answer) (taken-step (receiver.Home asked) t)) ∙ d) in
      record {
        asked = asked;
        here = t;
        idle = q.0;
        row = e;
        room = subst (λ (x : HomeRow). HasRoomFor config s (home_reply_at s m x).after.log (home_reply_at s m x).sends) (sym e) q.1;
      }

-- the answer of a plan is the delivery's

come_answer : (config : Config) (s : Fabric) (id : ℕ) (m : Message) (Is : Message → Type 0) → IsComeAs s id m Is →
    (step_of_delivery config s m.id).answer ≡ Delivered → Delivered ≡ (step_of_delivery config s id).answer
come_answer config s id m Is k d = sym d ∙ ap (λ (i : ℕ). (step_of_delivery config s i).answer) k.number

pub planned-answer : (config : Config) (s : Fabric) (id : ℕ) (x : Plan) → IsPlan config s id x →
    answer_of x ≡ (step_of_delivery config s id).answer
planned-answer config s id (plan.Refuses answer) h = sym (ap (λ (y : FabricStep). y.answer) h)
planned-answer config s id (plan.AtCache taken) h =
    come_answer config s id h.0 (HasCacheRow config s taken) h.1
    (ap (λ (y : FabricStep). y.answer) (cache-done config s h.0 h.1.come taken h.1.is))
planned-answer config s id (plan.AtHome taken) h =
    come_answer config s id h.0 (HasHomeRow config s taken) h.1
    (ap (λ (y : FabricStep). y.answer) (home-done config s h.0 h.1.come taken h.1.is))
planned-answer config s id (plan.Reports k) h =
    come_answer config s id h.0 (λ m. IsTaken s m (receiver.Controller k)) h.1
    (ap (λ (y : FabricStep). y.answer) (taken-step config s h.0 h.1.come (receiver.Controller k) h.1.is))
planned-answer config s id (plan.Tells k) h =
    come_answer config s id h.0 (λ m. IsTaken s m (receiver.Clock k)) h.1
    (ap (λ (y : FabricStep). y.answer) (taken-step config s h.0 h.1.come (receiver.Clock k) h.1.is))

-- the message of a plan is the one that leaves the network

some_step : (o : Option Carried) (f : Flight) → option_map flight_as o ≡ Some f → IsSome o
some_step None f h = absurd (cc)
some_step (Some g) f h = refl

same_step : (o : Option Carried) (f : Flight) (m : Message) → option_map flight_as o ≡ Some f →
    option_map (λ (g : Carried). g.message) o ≡ Some m → f.message ≡ m
same_step None f m h e = absurd (cc)
same_step (Some g) f m h e =
    let k : flight_as g ≡ f = cc in
    let l : g.message ≡ m = cc in
    sym (ap (λ (x : Flight). x.message) k) ∙ l

module _ (p : Parts) (id : ℕ) (Is : Message → Type 0) (h : HasComeAs (fabric_as p) id Is) where
  found_here : option_map flight_as (find_flight p.net.flights id) ≡ Some (record { message = h.0; place = h.1.come.place })
  found_here =
      sym (found-as p.net.flights id) ∙ ap (flight_of (map flight_as p.net.flights)) (sym h.1.number) ∙ h.1.come.found

  pub planned-there : IsSome (find_flight p.net.flights id)
  planned-there = some_step (find_flight p.net.flights id) (record { message = h.0; place = h.1.come.place }) found_here

  pub planned-is : (m : Message) → option_map (λ (g : Carried). g.message) (find_flight p.net.flights id) ≡ Some m →
      IsComeAs (fabric_as p) id m Is
  planned-is m e =
      subst (λ (n : Message). IsComeAs (fabric_as p) id n Is)
      (same_step (find_flight p.net.flights id) (record { message = h.0; place = h.1.come.place }) m found_here e) h.1

  module _ (config : Config) (a : AreParts config p) (m : Message) (em : option_map (λ (g : Carried). g.message) (find_flight p.net.flights id) ≡ Some m) where
    pub planned-inside : m.to < length p.units
    planned-inside = inside config p a m (planned-is m em).come

    pub planned-to : m.to < p.net.routes.nodes
    planned-to = to-there config p a m (planned-is m em).come
