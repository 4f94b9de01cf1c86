-- What a recovery comes to, by what the parts say.
use Rattle.std.proofs.Common.{◌≡◌, ◌≢◌, ℕ, suc, ◌+◌, ◌%◌, ◌<◌, ◌≤◌, ◌^◌, true, false, List, [], ◌∷◌, length, get_or, map, refl, sym, ap}
use Rattle.std.proofs.Common.{◌∙◌, subst, arith}
use Rattle.std.specs.Prelude.{Option, Some, None, Result, Ok, Err, IfSome}
use Rattle.std.specs.List.{sum_by}
use Rattle.std.proofs.Math.Nat.{mod-lt}
use Rattle.std.proofs.lemmas.Bool.Decides.{nat_tests}
use Rattle.std.proofs.lemmas.Grind.{common_steps}
use Rattle.std.proofs.lemmas.List.{length-map, get_or-map}
use Rattle.std.proofs.lemmas.List.FromFn.{fill_by_all}
use Rattle.std.proofs.lemmas.List.Sums.{sum_by-cons}
use Rattle.sn_base.specs.Config.{config_fits}
use Rattle.sn_base.specs.declared.config.Config.{Config}
use Rattle.sn_base.specs.declared.event.Answer.TheVariants.{Recovered}
use Rattle.log_buffer.specs.Log.{LogEntry, entries_from, old_at}
use Rattle.log_buffer.proofs.Laws.{old_at-above}
use Rattle.rollback.specs.Unwound.{content_unwound}
use Rattle.route_plan.specs.Routes.{first_cut_off}
use Rattle.switch_net.specs.Net.{NetData, living_now}
use Rattle.sn_model.specs.declared.net.Sent.{Sent}
use Rattle.sn_model.specs.Caches.{block_count, FitsSets}
use Rattle.sn_model.specs.Homes.{HomeEntry}
use Rattle.sn_model.specs.Fabric as model
use Rattle.sn_model.specs.Fabric.{Fabric, Node, node_at, home_of, no_entry, step_with_answer}
use Rattle.sn_model.specs.FabricEvents.{moved_by, Recover}
use Rattle.sn_model.specs.PointEvents.{restored_node, log_of_home, restored_homes, fabric_restored_to, undone_count, living_switches, recovers, step_of_recovery}
use Rattle.home_directory.specs.Home.{HomeData, entry_of, places_of}
use Rattle.home_directory.specs.Restored.{begun_restore, had, is_here, Stays}
use Rattle.home_directory.proofs.Restored.{length-cleared, restored-is}
use Rattle.fabric_bounds.specs.Bounds.{CacheFits, cache_at}
use Rattle.fabric_bounds.proofs.Cuts.{cut_fits}
use Rattle.sn_fabric.specs.declared.node.NodeUnit.{NodeUnit}
use Rattle.sn_fabric.specs.Nets.{net_as}
use Rattle.sn_fabric.specs.Parts.{node_as, Parts, fabric_as, unit_at, no_unit, home_at, entry_at, homes_as, IsUnit, IsHomeOf, AreWhole}
use Rattle.sn_fabric.specs.Parts.{AreParts}
use Rattle.sn_fabric.specs.Recovery.{CanRestore, restored_unit, IsRestoredHome, AreRestoredHomes, undone_of}
use Rattle.sn_fabric.proofs.FirstParts.{few-nodes}
use Rattle.sn_fabric.proofs.Parts.{node-at, count-nodes, Comes, comes-as}
use Rattle.sn_fabric.proofs.Entries.{entry-as}

-- the nodes

nodes-restored : (k : ℕ) (units : List NodeUnit) → map node_as (map (restored_unit k) units) ≡ map (restored_node k) (map node_as units)
nodes-restored k [] = refl
nodes-restored k (x ∷ units) = ap (λ (nodes : List Node). restored_node k (node_as x) ∷ nodes) (nodes-restored k units)

abbrev undone_in : ℕ → Node → ℕ
undone_in k node = length (entries_from k node.log)

undone-as : (k : ℕ) (units : List NodeUnit) → sum_by (undone_of k) units ≡ sum_by (undone_in k) (map node_as units)
undone-as k [] = refl
undone-as k (x ∷ units) =
    sum_by-cons (undone_of k) x units ∙ ap (λ (n : ℕ). undone_of k x + n) (undone-as k units)
    ∙ sym (sum_by-cons (undone_in k) (node_as x) (map node_as units))

-- the homes

length-restored : (s : Fabric) (k start : ℕ) (homes : List HomeEntry) → length (restored_homes s k start homes) ≡ length homes
length-restored s k start [] = refl
length-restored s k start (entry ∷ homes) = ap suc (length-restored s k (start + 1) homes)

module _ (config : Config) (p : Parts) (k : ℕ) (after : List HomeData) (a : AreParts config p) (count : length after ≡ length p.homes) (are : AreRestoredHomes p.units k p.homes after) where
  some : 0 < config.nodes
  some = (few-nodes config a.whole.fits).some

  nodes_are : length (fabric_as p).nodes ≡ config.nodes
  nodes_are = count-nodes p ∙ a.whole.count

  blocks_are : length (homes_as p.homes) ≡ block_count
  blocks_are = a.keeps.1.shape.homes

  module _ (b : ℕ) (low : b < block_count) where
    abbrev n : ℕ
    n = b % config.nodes

    here : n < config.nodes
    here = mod-lt b some

    is : IsHomeOf config n (home_at p.homes n)
    is = a.whole.homes n here

    restored-home : IsRestoredHome (unit_at p.units n).log.entries k (home_at p.homes n) (home_at after n)
    restored-home = are n (subst (λ (j : ℕ). n < j) (sym a.whole.count_homes) here)

    log-is : (unit_at p.units n).log.entries ≡ log_of_home (fabric_as p) b
    log-is =
        sym (ap (λ (j : ℕ). (node_at (fabric_as p) (b % j)).log) nodes_are
        ∙ ap (λ (x : Node). x.log) (node-at p n (subst (λ (j : ℕ). n < j) (sym a.whole.count) here)))

    home-is : home_of (fabric_as p) b ≡ entry_of (home_at p.homes n) b
    home-is = entry-as p.homes b low ∙ ap (λ (j : ℕ). entry_of (home_at p.homes (b % j)) b) a.whole.count_homes

    own : b % (home_at p.homes n).nodes ≡ (home_at p.homes n).node
    own = ap (λ (j : ℕ). b % j) is.nodes ∙ sym is.node

    pub entry-restored : get_or (restored_homes (fabric_as p) k 0 (homes_as p.homes)) b no_entry ≡ entry_at after b
    entry-restored =
        sym (restored-is (fabric_as p) (home_at p.homes n) (begun_restore (home_at p.homes n)) (home_at after n) k b refl
        (λ j. restored-home.held j ∙ ap (λ (log : List LogEntry). content_unwound log true k (had (begun_restore (home_at p.homes n))) j) log-is)
        restored-home.stays own home-is (subst (λ (j : ℕ). b < j) (sym blocks_are) low))
        ∙ sym (ap (λ (j : ℕ). entry_of (home_at after (b % j)) b) (count ∙ a.whole.count_homes))

  pub homes-restored : homes_as after ≡ restored_homes (fabric_as p) k 0 (homes_as p.homes)
  unfolding homes_as
  homes-restored =
      sym (fill_by_all (entry_at after) (restored_homes (fabric_as p) k 0 (homes_as p.homes)) block_count no_entry
      (length-restored (fabric_as p) k 0 (homes_as p.homes) ∙ blocks_are) entry-restored)

-- the parts are whole

unit-restored : (config : Config) (k n : ℕ) (x : NodeUnit) → IsUnit config n x → IsUnit config n (restored_unit k x)
unit-restored config k n x i = record { node = i.node; nodes = i.nodes; sets = i.sets; ways = i.ways; limit = i.limit }

home-restored : (config : Config) (n : ℕ) (before after : HomeData) → IsHomeOf config n before → Stays (begun_restore before) after →
    IsHomeOf config n after
home-restored config n before after i h =
    let places : places_of before.node before.nodes
    ≡ places_of after.node after.nodes = ap (λ (j : ℕ). places_of j before.nodes) (sym h.node)
    ∙ ap (λ (j : ℕ). places_of after.node j) (sym h.nodes) in
    record {
      node = h.node ∙ i.node;
      nodes = h.nodes ∙ i.nodes;
      whole = record {
        inside = subst (λ (j : ℕ). j < after.nodes) (sym h.node) (subst (λ (j : ℕ). before.node < j) (sym h.nodes) i.whole.inside);
        few = subst (λ (j : ℕ). j ≤ 16) (sym h.nodes) i.whole.few;
        filled = h.count ∙ length-cleared before.entries ∙ i.whole.filled ∙ places;
      };
    }

abbrev restored_parts : Parts → ℕ → List HomeData → NetData → Parts
restored_parts p k after net = record { units = map (restored_unit k) p.units; homes = after; net = net; point = p.point }

whole-restored : (config : Config) (p : Parts) (k : ℕ) (after : List HomeData) (net : NetData) → AreWhole config p →
    length after ≡ length p.homes → AreRestoredHomes p.units k p.homes after →
    net.routes.nodes ≡ p.net.routes.nodes → AreWhole config (restored_parts p k after net)
whole-restored config p k after net w count are routes = record {
  fits = w.fits;
  count = length-map p.units (restored_unit k) ∙ w.count;
  count_homes = count ∙ w.count_homes;
  count_routes = routes ∙ w.count_routes;
  units =
      λ n l. subst (IsUnit config n)
      (sym (get_or-map (restored_unit k) p.units n no_unit no_unit (subst (λ (j : ℕ). n < j) (sym w.count) l)))
      (unit-restored config k n (unit_at p.units n) (w.units n l));
  homes =
      λ n l. home-restored config n (home_at p.homes n) (home_at after n) (w.homes n l)
      (are n (subst (λ (j : ℕ). n < j) (sym w.count_homes) l)).stays;
}

-- the network

net-restored : (p : Parts) (net : NetData) → net ≡ record p.net { routes = living_now p.net; flights = [] } →
    net_as net ≡ record (net_as p.net) { flights = []; planned = p.net.dead }
net-restored p net e = ap net_as e

-- the switches that live

pub living-are : (config : Config) (p : Parts) → AreWhole config p → living_switches (fabric_as p) ≡ living_now p.net
living-are config p w = ap (λ (j : ℕ). record p.net.routes { nodes = j; dead = p.net.dead }) (count-nodes p ∙ w.count ∙ sym w.count_routes)

recover_is_moved : (config : Config) (s : Fabric) (k : ℕ) → moved_by config s (Recover k) ≡ step_of_recovery s k
unfolding moved_by
recover_is_moved config s k = refl

fabric-restored : (config : Config) (p : Parts) (k : ℕ) (after : List HomeData) (net : NetData) → AreParts config p →
    length after ≡ length p.homes → AreRestoredHomes p.units k p.homes after →
    net ≡ record p.net { routes = living_now p.net; flights = [] } → fabric_restored_to (fabric_as p) k ≡ fabric_as (restored_parts p k after net)
unfolding fabric_restored_to
fabric-restored config p k after net a count are e =
    sym (
    ap (λ (nodes : List Node). record { nodes = nodes; homes = homes_as after; net = net_as net; point = p.point })
    (nodes-restored k p.units)
    ∙ ap (λ (homes : List HomeEntry).
    record { nodes = map (restored_node k) (map node_as p.units); homes = homes; net = net_as net; point = p.point })
    (homes-restored config p k after a count are)
    ∙ ap (λ (x : model.Net).
    record {
      nodes = map (restored_node k) (map node_as p.units);
      homes = restored_homes (fabric_as p) k 0 (homes_as p.homes);
      net = x;
      point = p.point;
    }) (net-restored p net e)
    )

pub recovery-comes : (config : Config) (p : Parts) (k : ℕ) (after : List HomeData) (net : NetData) (count_undone dropped : ℕ)
    (sends : List Sent) → AreParts config p → k ≡ (fabric_as p).point →
    first_cut_off (living_switches (fabric_as p)) ≡ None → length after ≡ length p.homes → AreRestoredHomes p.units k p.homes after →
    net ≡ record p.net { routes = living_now p.net; flights = [] } → count_undone ≡ sum_by (undone_of k) p.units →
    dropped ≡ length p.net.flights → sends ≡ [] →
    Comes config p (restored_parts p k after net) sends (Recovered (record { to = k; undone = count_undone; dropped = dropped }))
    (step_of_recovery (fabric_as p) k)
recovery-comes config p k after net count_undone dropped sends a point joined count are en eu ed es =
    rw es
    (comes-as config p (restored_parts p k after net) [] (Recovered (record { to = k; undone = count_undone; dropped = dropped })) None
    (Recover k) (step_of_recovery (fabric_as p) k) a point tt
    (recover_is_moved config (fabric_as p) k)
    (whole-restored config p k after net a.whole count are (ap (λ (x : NetData). x.routes.nodes) en))
    (ap (recovers (fabric_as p) k) joined
    ∙ ap (λ (s : Fabric). step_with_answer s
    (Recovered (record { to = k; undone = undone_count (fabric_as p) k; dropped = length (net_as p.net).flights })))
    (fabric-restored config p k after net a count are en)
    ∙ ap (λ (j : ℕ). step_with_answer (fabric_as (restored_parts p k after net))
    (Recovered (record { to = k; undone = j; dropped = length (net_as p.net).flights }))) (sym (eu ∙ undone-as k p.units))
    ∙ ap (λ (j : ℕ). step_with_answer (fabric_as (restored_parts p k after net))
    (Recovered (record { to = k; undone = count_undone; dropped = j }))) (length-map p.net.flights _ ∙ sym ed)))

-- what isn't refused joins all nodes

joined_by : {X : Type 0} (o : Option X) (dropped : ℕ) → IfSome o (λ (q : X). ◌≡◌ {A = Result ℕ X} (Ok dropped) (Err q)) → o ≡ None
joined_by None dropped h = refl
joined_by (Some q) dropped h = absurd (cc)

pub joined-then : (config : Config) (p : Parts) → AreWhole config p → (dropped : ℕ) →
    IfSome (first_cut_off (living_now p.net)) (λ (q : ℕ × ℕ). ◌≡◌ {A = Result ℕ (ℕ × ℕ)} (Ok dropped) (Err q)) →
    first_cut_off (living_switches (fabric_as p)) ≡ None
joined-then config p w dropped h =
    ap (λ (k : ℕ). first_cut_off (record { nodes = k; dead = p.net.dead })) (count-nodes p ∙ w.count ∙ sym w.count_routes)
    ∙ joined_by (first_cut_off (living_now p.net)) dropped h

-- each node can be put back to the recovery point

small_log : (config : Config) → config_fits config ≡ true → config.log < 2 ^ 16
small_log config h = grind (arith, common_steps, nat_tests, h)

pub small-logs : (config : Config) (p : Parts) → AreParts config p → (n : ℕ) → n < length p.units →
    length (unit_at p.units n).log.entries < 2 ^ 16
small-logs config p a n l =
    let few : length (unit_at p.units n).log.entries ≤ config.log = subst (λ (x : Node). length x.log ≤ config.log) (node-at p n l)
    (a.keeps.2.logs n (subst (λ (j : ℕ). n < j) (sym (count-nodes p)) l)) in
    let small : config.log < 2 ^ 16 = small_log config a.whole.fits in
    omega arith

pub can-restore : (config : Config) (p : Parts) (k : ℕ) → AreParts config p → k ≡ (fabric_as p).point → (n : ℕ) → n < length p.units →
    CanRestore k (unit_at p.units n) (home_at p.homes n)
can-restore config p k a point n l =
    let h : n < config.nodes = subst (λ (j : ℕ). n < j) a.whole.count l in
    let m : n < length (fabric_as p).nodes = subst (λ (j : ℕ). n < j) (sym (count-nodes p)) l in
    let e : node_at (fabric_as p) n ≡ node_as (unit_at p.units n) = node-at p n l in
    let unit = a.whole.units n h in
    let home = a.whole.homes n h in
    let nodes : length (fabric_as p).nodes ≡ config.nodes = count-nodes p ∙ a.whole.count in
    let fits : CacheFits config (cache_at (node_at (fabric_as p) n) k) = cut_fits config (fabric_as p) a.keeps.0 a.keeps.1 a.keeps.2 n k m
    (subst (λ (j : ℕ). (fabric_as p).point ≤ j) (sym point) (omega arith)) in
    let there : FitsSets (cache_at (node_as (unit_at p.units n)) k) config.sets config.ways = subst
    (λ (x : Node). CacheFits config (cache_at x k)) e fits in
    record {
      frames = subst (λ (j : ℕ). FitsSets (cache_at (node_as (unit_at p.units n)) k) j (unit_at p.units n).cache.ways) (sym unit.sets)
          (subst (λ (j : ℕ). FitsSets (cache_at (node_as (unit_at p.units n)) k) config.sets j) (sym unit.ways) there);
      own = λ b other.
          let ne : b % length (fabric_as p).nodes ≢ n = apart b n (length (fabric_as p).nodes) (home_at p.homes n)
          (home.nodes ∙ sym nodes) home.node other in
          ap (λ (x : Node). old_at x.log true b k) (sym e)
          ∙ old_at-above (node_at (fabric_as p) n).log true b k (let z = a.logs n m b ne in omega arith);
      lines = subst (λ (x : Node). length x.cache.lines ≡ block_count) e (a.keeps.1.shape.lines n m);
      few = small-logs config p a n l;
    }
  where
    apart : (b n nodes : ℕ) (home : HomeData) → home.nodes ≡ nodes → home.node ≡ n → is_here home b ≡ false → b % nodes ≢ n
    apart b n nodes home e f other q =
        let r : b % home.nodes ≡ home.node = ap (λ (j : ℕ). b % j) e ∙ q ∙ sym f in
        grind (arith, nat_tests)
