-- What the parts of a fabric that goes on from a recovery point stand for.
use Rattle.std.proofs.Common.{◌≡◌, ℕ, zero, suc, ◌%◌, ◌<◌, ◌≤◌, Bool, true, List, [], ◌∷◌, ◌++◌, length, get_or, map, refl, sym, ap, ◌∙◌, subst, arith}
use Rattle.std.proofs.Common.{add-one}
use Rattle.std.specs.Prelude.{nat_eq, None}
use Rattle.std.specs.List.{range_with_len}
use Rattle.std.proofs.Math.Nat.{mod-lt}
use Rattle.std.proofs.lemmas.Bool.Decides.{nat_tests}
use Rattle.std.proofs.lemmas.List.{ext_get_or, map-append}
use Rattle.std.proofs.lemmas.List.FromFn.{get_or-map-range_with_len, length-map-range_with_len, map-range_with_len_more}
use Rattle.sn_base.specs.Config.{config_fits}
use Rattle.sn_base.specs.declared.config.Config.{Config}
use Rattle.log_buffer.specs.Log.{logged_to}
use Rattle.home_directory.specs.Home.{HomeData, entry_of, places_of}
use Rattle.home_directory.specs.Restored.{is_here}
use Rattle.sn_model.specs.Caches.{block_count}
use Rattle.sn_model.specs.Fabric.{Fabric, Node, no_entry}
use Rattle.sn_saved.specs.Resumed.{each_below, node_resumed, home_resumed, homes_resumed, net_resumed, fabric_resumed}
use Rattle.sn_saved.specs.Saved.{AreInside, full_from}
use Rattle.switch_net.specs.Net.{without_messages}
use Rattle.fabric_bounds.specs.Bounds.{KeepsBounds}
use Rattle.fabric_bounds.proofs.Resumed.{going_on_bounded}
use Rattle.fabric_bounds.proofs.KeptResumed.{length-homes_resumed, home_resumed_is, count_resumed, node_resumed_is}
use Rattle.sn_fabric.specs.declared.node.NodeUnit.{NodeUnit}
use Rattle.sn_fabric.specs.Logs.{AreOwnLogs}
use Rattle.sn_fabric.specs.Parts.{node_as, Parts, fabric_as, unit_at, home_at, no_unit, homes_as, entry_at, IsUnit, IsHomeOf, AreWhole, AreParts}
use Rattle.sn_fabric.specs.Resumed.{content_in, unit_resumed, units_resumed, AreHomesResumed}
use Rattle.sn_fabric.proofs.FirstParts.{upto, length-upto, at-upto, few-nodes}

module _ (config : Config) (contents : List (List ℕ)) (owners : List (ℕ × ℕ)) (point : ℕ) where
  units-upto : (n : ℕ) → units_resumed n config contents owners point ≡ upto (unit_resumed config contents owners point) n
  unfolding upto
  units-upto zero = refl
  units-upto (suc n) = ap (λ (xs : List NodeUnit). xs ++ unit_resumed config contents owners point n ∷ []) (units-upto n)

  nodes-resumed : (n : ℕ) → map node_as (units_resumed n config contents owners point) ≡ each_below n (node_resumed owners (content_in contents) point)
  nodes-resumed zero = refl
  nodes-resumed (suc n) =
      map-append node_as (units_resumed n config contents owners point) (unit_resumed config contents owners point n ∷ [])
      ∙ (ap (λ (xs : List Node). xs ++ node_resumed owners (content_in contents) point n ∷ []) (nodes-resumed n)
      ∙ (sym (map-range_with_len_more (node_resumed owners (content_in contents) point) 0 n n (omega arith))
      ∙ ap (λ k. map (node_resumed owners (content_in contents) point) (range_with_len 0 k)) (add-one n)))

module _ (nodes : ℕ) (contents : List (List ℕ)) (owners : List (ℕ × ℕ)) (homes : List HomeData) (some : 1 ≤ nodes) (are : AreHomesResumed nodes contents owners homes) where
  entry-resumed : (b : ℕ) → b < block_count → entry_at homes b ≡ home_resumed owners (content_in contents) b
  entry-resumed b l =
      let m : b % nodes < nodes = mod-lt b some in
      let w = are.1 (b % nodes) m in
      let here : is_here (home_at homes (b % nodes)) b ≡ true =
      subst (λ k. nat_eq (b % k) (home_at homes (b % nodes)).node ≡ true) (sym w.nodes)
      (subst (λ k. nat_eq (b % nodes) k ≡ true) (sym w.node) (grind (arith, nat_tests))) in
      ap (λ k. entry_of (home_at homes (b % k)) b) are.0 ∙ w.entries b l here

  homes-resumed : homes_as homes ≡ homes_resumed owners (content_in contents)
  unfolding homes_as
  homes-resumed =
      ext_get_or no_entry (map (entry_at homes) (range_with_len 0 block_count)) (homes_resumed owners (content_in contents))
      (length-map-range_with_len (entry_at homes) 0 block_count ∙ sym (length-homes_resumed owners (content_in contents)))
      (λ b h. let l : b < block_count = subst (λ c. b < c) (length-map-range_with_len (entry_at homes) 0 block_count) h in
      get_or-map-range_with_len (entry_at homes) 0 block_count b b no_entry l (omega arith)
      ∙ (entry-resumed b l ∙ sym (home_resumed_is owners (content_in contents) b l)))

module _ (config : Config) (contents : List (List ℕ)) (owners : List (ℕ × ℕ)) (point next : ℕ) (dead : List Bool) (homes : List HomeData)
    (sizes : config_fits config ≡ true) (are : AreHomesResumed config.nodes contents owners homes) where
  abbrev pub parts : Parts
  parts = record {
    units = units_resumed config.nodes config contents owners point;
    homes = homes;
    net = without_messages config.nodes dead next;
    point = point;
  }

  abbrev f : Fabric
  f = fabric_resumed config.nodes owners (content_in contents) point next dead

  some : 1 ≤ config.nodes
  some = (few-nodes config sizes).some

  pub parts-stand : fabric_as parts ≡ f
  parts-stand = λ i. record {
    nodes = nodes-resumed config contents owners point config.nodes i;
    homes = homes-resumed config.nodes contents owners homes some are i;
    net = net_resumed dead next;
    point = point;
  }

  unit-is : (n : ℕ) → n < config.nodes → unit_at parts.units n ≡ unit_resumed config contents owners point n
  unit-is n l =
      ap (λ (xs : List NodeUnit). get_or xs n no_unit) (units-upto config contents owners point config.nodes)
      ∙ at-upto (unit_resumed config contents owners point) config.nodes n no_unit l

  home-is : (n : ℕ) → n < config.nodes → IsHomeOf config n (home_at homes n)
  home-is n l = let w = are.1 n l in let few = (few-nodes config sizes).few in record {
    node = w.node;
    nodes = w.nodes;
    whole = record {
      inside = let a = w.node in let b = w.nodes in omega (arith, a, b, l);
      few = let b = w.nodes in omega (arith, b, few);
      filled =
          subst (λ k. length (home_at homes n).entries ≡ places_of k (home_at homes n).nodes) (sym w.node)
          (subst (λ k. length (home_at homes n).entries ≡ places_of n k) (sym w.nodes) w.filled);
    };
  }

  whole-resumed : AreWhole config parts
  whole-resumed = record {
    fits = sizes;
    count =
        ap (λ (xs : List NodeUnit). length xs) (units-upto config contents owners point config.nodes)
        ∙ length-upto (unit_resumed config contents owners point) config.nodes;
    count_homes = are.0;
    count_routes = refl;
    units =
        λ n l. subst (IsUnit config n) (sym (unit-is n l)) (record { node = refl; nodes = refl; sets = refl; ways = refl; limit = refl });
    homes = home-is;
  }

  logs-resumed : AreOwnLogs f
  logs-resumed n l block other =
      ap (λ (x : Node). logged_to x.log true block)
      (node_resumed_is config.nodes point next owners (content_in contents) dead n
      (subst (λ c. n < c) (count_resumed config.nodes point next owners (content_in contents) dead) l))

  pub parts-resumed : AreInside config.nodes owners → full_from config [] 0 owners ≡ None → AreParts config parts
  parts-resumed inside sets = record {
    whole = whole-resumed;
    keeps =
        subst (KeepsBounds config) (sym parts-stand)
        (going_on_bounded config owners (content_in contents) point next dead sizes inside sets);
    logs = subst AreOwnLogs (sym parts-stand) logs-resumed;
  }
