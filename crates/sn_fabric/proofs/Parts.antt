-- What the parts say of the fabric that they stand for, and how they change.
use Rattle.std.proofs.Common.{◌≡◌, ℕ, zero, suc, ◌<◌, ◌≤◌, List, [], ◌∷◌, length, get_or, set, refl, sym, ap, ◌∙◌, subst, arith, length-set}
use Rattle.std.proofs.Common.{⊎_elim}
use Rattle.std.specs.Prelude.{map}
use Rattle.std.proofs.lemmas.List.{length-map, map-set, get_or-set_same, get_or-set_other, get_or_read}
use Rattle.std.proofs.lemmas.Bool.{cases_eq}
use Rattle.sn_base.specs.declared.config.Config.{Config}
use Rattle.sn_base.specs.declared.event.Answer.{Answer}
use Rattle.switch_net.specs.Net.{NetData}
use Rattle.sn_model.specs.declared.net.Sent.{Sent}
use Rattle.sn_model.specs.declared.net.News.{News}
use Rattle.std.specs.Prelude.{Option}
use Rattle.sn_model.specs.Fabric.{Fabric, Node, FabricStep, first_node, node_at, with_node}
use Rattle.sn_model.specs.Net.{routes_of}
use Rattle.sn_model.specs.FabricEvents.{FabricEvent, moved_by}
use Rattle.fabric_bounds.specs.Events.{MayBe}
use Rattle.fabric_bounds.specs.Bounds.{HasLogRoom, KeepsBounds}
use Rattle.fabric_bounds.proofs.Numbers.{event_sends}
use Rattle.fabric_bounds.proofs.Runs.{each_keeps_bounds}
use Rattle.sn_fabric.specs.declared.node.NodeUnit.{NodeUnit}
use Rattle.sn_fabric.specs.Fabric.{FabricData, IsAfter}
use Rattle.sn_fabric.specs.Logs.{AreOwnLogs}
use Rattle.sn_fabric.proofs.LogEvents.{each-keeps-logs}
use Rattle.sn_fabric.specs.Parts.{node_as, Parts, fabric_as, unit_at, no_unit, IsUnit, AreWhole, AreParts}

at_map : {A B : Type 0} (f : A → B) (xs : List A) (n : ℕ) (d : A) (e : B) → n < length xs → get_or (map f xs) n e ≡ f (get_or xs n d)
at_map f [] n d e l = absurd (omega arith)
at_map f (x ∷ xs) zero d e l = refl
at_map f (x ∷ xs) (suc n) d e l = at_map f xs n d e (omega arith)

pub node-at : (p : Parts) (n : ℕ) → n < length p.units → node_at (fabric_as p) n ≡ node_as (unit_at p.units n)
node-at p n l = at_map node_as p.units n no_unit first_node l

pub count-nodes : (p : Parts) → length (fabric_as p).nodes ≡ length p.units
count-nodes p = length-map p.units node_as

pub routes-as : (config : Config) (p : Parts) → AreWhole config p → routes_of (fabric_as p) ≡ p.net.routes
routes-as config p w = ap (λ (k : ℕ). record p.net.routes { nodes = k }) (count-nodes p ∙ w.count ∙ sym w.count_routes)

pub fabric-unit : (p : Parts) (n : ℕ) (x : NodeUnit) → fabric_as (record p { units = set p.units n x }) ≡ with_node (fabric_as p) n (node_as x)
fabric-unit p n x = ap (λ (nodes : List Node). record (fabric_as p) { nodes = nodes }) (map-set node_as p.units n x)

pub whole-unit : (config : Config) (p : Parts) (n : ℕ) (x : NodeUnit) → AreWhole config p → n < length p.units → IsUnit config n x →
    AreWhole config (record p { units = set p.units n x })
whole-unit config p n x w l i = record {
  fits = w.fits;
  count = length-set p.units n x ∙ w.count;
  count_homes = w.count_homes;
  count_routes = w.count_routes;
  units = λ m h.
      ⊎_elim
      (λ (e : m ≡ n). rw e (rw (get_or-set_same p.units n x no_unit l) i))
      (λ ne. rw (get_or-set_other p.units n m x no_unit ne) (w.units m h))
      (cases_eq m n);
  homes = w.homes;
}

pub whole-net : (config : Config) (p : Parts) (net : NetData) → AreWhole config p → net.routes.nodes ≡ p.net.routes.nodes →
    AreWhole config (record p { net = net })
whole-net config p net w e =
    record {
      fits = w.fits;
      count = w.count;
      count_homes = w.count_homes;
      count_routes = e ∙ w.count_routes;
      units = w.units;
      homes = w.homes;
    }

-- parts of these sizes, with what was sent, as a value
abbrev pub data_of : Config → Parts → List Sent → FabricData
data_of config p sent = record { config = config; fabric = fabric_as p; sent = sent }

-- parts come to what an event comes to
pub record Comes (config : Config) (p q : Parts) (sends : List Sent) (said : Answer) (moved : FabricStep) : Type 0 where
  pub parts : AreParts config q
  pub fabric : fabric_as q ≡ moved.fabric
  pub sent : sends ≡ moved.sent
  pub answer : said ≡ moved.answer
  pub few : length sends ≤ 17

-- whole parts that stand for what an event comes to are parts as they may be
pub comes : (config : Config) (p q : Parts) (sends : List Sent) (said : Answer) (event : FabricEvent) (moved : FabricStep) → AreParts config p →
    MayBe (fabric_as p) event → HasLogRoom config (fabric_as p) event →
    moved_by config (fabric_as p) event ≡ moved → AreWhole config q → fabric_as q ≡ moved.fabric → sends ≡ moved.sent →
    said ≡ moved.answer → Comes config p q sends said moved
comes config p q sends said event moved k m r e w f s a = record {
  parts = record {
    whole = w;
    keeps = subst (KeepsBounds config) (ap (λ (x : FabricStep). x.fabric) e ∙ sym f) (each_keeps_bounds config (fabric_as p) event k.keeps m r);
    logs =
        subst AreOwnLogs (ap (λ (x : FabricStep). x.fabric) e ∙ sym f) (each-keeps-logs config (fabric_as p) k.keeps.0 event k.keeps.1 m k.logs);
  };
  fabric = f;
  sent = s;
  answer = a;
  few =
      subst (λ (xs : List Sent). length xs ≤ 17) (ap (λ (x : FabricStep). x.sent) e ∙ sym s)
      (event_sends config (fabric_as p) k.keeps.0 event k.keeps.1 m).few;
}

-- so they are kept, where the list of what was sent has its room
pub kept : {config : Config} {p q : Parts} {sends : List Sent} {said : Answer} {moved : FabricStep} {room : ℕ} →
    Comes config p q sends said moved → 17 ≤ room → AreParts config q × (17 ≤ room) × (length sends ≤ 17)
kept c l = (c.parts, l, c.few)

pub after-comes : (config : Config) (p q : Parts) (before sends : List Sent) (said : Answer) (moved : FabricStep) →
    Comes config p q sends said moved →
    IsAfter (data_of config p before) (data_of config q sends) said moved
after-comes config p q before sends said moved c = record {
  answer = c.answer;
  left =
      ap (λ (s : Fabric). record { config = config; fabric = s; sent = sends }) c.fabric
      ∙ ap (λ (xs : List Sent). record { config = config; fabric = moved.fabric; sent = xs }) c.sent;
}

-- the same where what the event comes to is known whole
pub comes-as : (config : Config) (p q : Parts) (sends : List Sent) (said : Answer) (told : Option News) (event : FabricEvent)
    (moved : FabricStep) → AreParts config p → MayBe (fabric_as p) event → HasLogRoom config (fabric_as p) event →
    moved_by config (fabric_as p) event ≡ moved → AreWhole config q →
    moved ≡ record { fabric = fabric_as q; answer = said; sent = sends; told = told } → Comes config p q sends said moved
comes-as config p q sends said told event moved k m r e w h =
    comes config p q sends said event moved k m r e w (sym (ap (λ (x : FabricStep). x.fabric) h)) (sym (ap (λ (x : FabricStep). x.sent) h))
    (sym (ap (λ (x : FabricStep). x.answer) h))

-- read through the view
pub after-view : (config : Config) (p q : Parts) (before sends : List Sent) (said : Answer) (f : Fabric → FabricStep) (d : FabricData) →
    data_of config p before ≡ d → Comes config p q sends said (f (fabric_as p)) →
    IsAfter d (data_of config q sends) said (f d.fabric)
after-view config p q before sends said f d v c =
    subst (λ (x : FabricData). IsAfter x (data_of config q sends) said (f x.fabric)) v
    (after-comes config p q before sends said (f (fabric_as p)) c)

-- a unit that was read
pub unit-read : (p : Parts) (n place : ℕ) (x : NodeUnit) → n < length (fabric_as p).nodes → place ≡ n → x ≡ get_or p.units place x →
    x ≡ unit_at p.units n
unit-read p n place x l e r =
    let h : n < length p.units = subst (λ (k : ℕ). n < k) (count-nodes p) l in
    get_or_read p.units n x h (subst (λ (k : ℕ). x ≡ get_or p.units k x) e r) no_unit

-- the same where the sizes are read through it too
pub after-whole : (config : Config) (p q : Parts) (before sends : List Sent) (said : Answer) (f : FabricData → FabricStep) (d : FabricData) →
    data_of config p before ≡ d → Comes config p q sends said (f (data_of config p before)) →
    IsAfter d (data_of config q sends) said (f d)
after-whole config p q before sends said f d v c =
    subst (λ (x : FabricData). IsAfter x (data_of config q sends) said (f x)) v
    (after-comes config p q before sends said (f (data_of config p before)) c)

-- a node that changes but for its place
pub unit-comes : (config : Config) (p : Parts) (n : ℕ) (y : NodeUnit) (said : Answer) (told : Option News) (event : FabricEvent)
    (moved : FabricStep) → AreParts config p → MayBe (fabric_as p) event → HasLogRoom config (fabric_as p) event →
    moved_by config (fabric_as p) event ≡ moved → n < length p.units → IsUnit config n y →
    moved ≡ record { fabric = with_node (fabric_as p) n (node_as y); answer = said; sent = []; told = told } →
    Comes config p (record p { units = set p.units n y }) [] said moved
unit-comes config p n y said told event moved k m r e l i h =
    comes-as config p (record p { units = set p.units n y }) [] said told event moved k m r e (whole-unit config p n y k.whole l i)
    (h ∙ ap (λ (s : Fabric). record { fabric = s; answer = said; sent = []; told = told }) (sym (fabric-unit p n y)))
