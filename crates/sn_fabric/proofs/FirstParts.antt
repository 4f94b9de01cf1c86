-- What the parts at the start stand for.
use Rattle.std.proofs.Common.{◌≡◌, ℕ, zero, suc, ◌+◌, ◌*◌, ◌/◌, ◌%◌, ◌<◌, ◌≤◌, true, false, List, [], ◌∷◌, ◌++◌, length, get_or}
use Rattle.std.proofs.Common.{replicate, refl, sym, ap, ◌∙◌, subst, arith, ⊎_elim}
use Rattle.std.specs.Prelude.{map}
use Rattle.std.specs.List.{range_with_len}
use Rattle.std.proofs.Math.Nat.{mod-lt, div-add-mod}
use Rattle.std.proofs.lemmas.Bool.Decides.{nat_tests}
use Rattle.std.proofs.lemmas.Grind.{common_steps}
use Rattle.std.proofs.lemmas.List.{length_push, get_or_append_left, get_or_push, map-append}
use Rattle.std.proofs.lemmas.List.FromFn.{fill_by_all}
use Rattle.std.proofs.lemmas.Bool.{cases_lt}
use Rattle.sn_base.specs.Config.{config_fits}
use Rattle.sn_base.specs.Image.{ImageData}
use Rattle.sn_base.specs.declared.config.Config.{Config}
use Rattle.switch_net.specs.Net.{NetData}
use Rattle.home_directory.specs.Home.{HomeData, places_of, entries_below, first_of}
use Rattle.home_directory.proofs.LeastBegun.{place_inside}
use Rattle.sn_model.specs.Caches.{block_count}
use Rattle.sn_model.specs.Homes.{HomeEntry}
use Rattle.sn_model.specs.Fabric as model
use Rattle.sn_model.specs.Fabric.{Node, first_home, first_homes, first_node, first_fabric, no_entry}
use Rattle.fabric_bounds.specs.Start.{first_ghost}
use Rattle.fabric_bounds.proofs.KeptStart.{start-kept}
use Rattle.fabric_bounds.proofs.Recovery.{replicated}
use Rattle.log_buffer.specs.Log.{logged_to}
use Rattle.sn_fabric.specs.Logs.{AreOwnLogs}
use Rattle.fabric_bounds.specs.Bounds.{KeepsBounds}
use Rattle.fabric_bounds.proofs.Runs.{start_bounded}
use Rattle.sn_fabric.specs.declared.node.NodeUnit.{NodeUnit}
use Rattle.sn_fabric.specs.Parts.{node_as, Parts, fabric_as, unit_at, home_at, no_unit, no_home, homes_as, entry_at, IsUnit, IsHomeOf}
use Rattle.sn_fabric.specs.Parts.{AreWhole, AreParts}
use Rattle.sn_fabric.specs.Start.{first_unit, units_below, homes_below}

-- a list that is built from its beginning
unfoldable pub upto : {A : Type 0} → (ℕ → A) → ℕ → List A
upto f zero = []
upto f (suc n) = upto f n ++ f n ∷ []

pub length-upto : {A : Type 0} (f : ℕ → A) (n : ℕ) → length (upto f n) ≡ n
unfolding upto
length-upto f zero = refl
length-upto f (suc n) =
    let l : length (upto f n ++ f n ∷ []) ≡ length (upto f n) + 1 = length_push (upto f n) (f n) in
    let h : length (upto f n) ≡ n = length-upto f n in omega arith

pub at-upto : {A : Type 0} (f : ℕ → A) (n i : ℕ) (d : A) → i < n → get_or (upto f n) i d ≡ f i
unfolding upto
at-upto f zero i d l = absurd (omega arith)
at-upto f (suc n) i d l =
    let m : length (upto f n) ≡ n = length-upto f n in
    ⊎_elim
    (λ (h : i < n). get_or_append_left (upto f n) (f n ∷ []) d i (omega arith) ∙ at-upto f n i d h)
    (λ (h : n ≤ i). let e : n ≡ i = omega arith in get_or_push (upto f n) (f n) d i (m ∙ e) ∙ ap f e)
    (cases_lt i n)

units-upto : (n : ℕ) (config : Config) → units_below n config ≡ upto (first_unit config) n
unfolding upto
units-upto zero config = refl
units-upto (suc n) config = ap (λ (xs : List NodeUnit). xs ++ first_unit config n ∷ []) (units-upto n config)

homes-upto : (n : ℕ) (image : ImageData) (nodes : ℕ) → homes_below n image nodes ≡ upto (λ k. first_of image k nodes) n
unfolding upto
homes-upto zero image nodes = refl
homes-upto (suc n) image nodes = ap (λ (xs : List HomeData). xs ++ first_of image n nodes ∷ []) (homes-upto n image nodes)

entries-upto : (n : ℕ) (image : ImageData) (node nodes : ℕ) →
    entries_below n image node nodes ≡ upto (λ k. first_home image (node + nodes * k)) n
unfolding upto
entries-upto zero image node nodes = refl
entries-upto (suc n) image node nodes =
    ap (λ (xs : List HomeEntry). xs ++ first_home image (node + nodes * n) ∷ []) (entries-upto n image node nodes)

blocks-upto : (n : ℕ) (image : ImageData) → model.homes_below n image ≡ upto (first_home image) n
unfolding upto
blocks-upto zero image = refl
blocks-upto (suc n) image = ap (λ (xs : List HomeEntry). xs ++ first_home image n ∷ []) (blocks-upto n image)

replicate_last : {A : Type 0} (n : ℕ) (y : A) → replicate n y ++ y ∷ [] ≡ y ∷ replicate n y
replicate_last zero y = refl
replicate_last (suc n) y = ap (λ xs. y ∷ xs) (replicate_last n y)

nodes-start : (n : ℕ) (config : Config) → map node_as (units_below n config) ≡ replicate n first_node
nodes-start zero config = refl
nodes-start (suc n) config =
    map-append node_as (units_below n config) (first_unit config n ∷ [])
    ∙ ap (λ (xs : List Node). xs ++ first_node ∷ []) (nodes-start n config)
    ∙ replicate_last n first_node

unit-start : (n i : ℕ) (config : Config) → i < n → unit_at (units_below n config) i ≡ first_unit config i
unit-start n i config l = ap (λ (xs : List NodeUnit). get_or xs i no_unit) (units-upto n config) ∙ at-upto (first_unit config) n i no_unit l

home-start : (n i : ℕ) (image : ImageData) → i < n → home_at (homes_below n image n) i ≡ first_of image i n
home-start n i image l =
    ap (λ (xs : List HomeData). get_or xs i no_home) (homes-upto n image n) ∙ at-upto (λ k. first_of image k n) n i no_home l

count-homes : (n : ℕ) (image : ImageData) → length (homes_below n image n) ≡ n
count-homes n image = ap (λ (xs : List HomeData). length xs) (homes-upto n image n) ∙ length-upto (λ k. first_of image k n) n

pub count-entries : (n : ℕ) (image : ImageData) (node nodes : ℕ) → length (entries_below n image node nodes) ≡ n
count-entries n image node nodes =
    ap (λ (xs : List HomeEntry). length xs) (entries-upto n image node nodes) ∙ length-upto (λ k. first_home image (node + nodes * k)) n

entry-start : (n b : ℕ) (image : ImageData) → 0 < n → b < block_count → first_home image b ≡ entry_at (homes_below n image n) b
entry-start n b image l h =
    let m : b % n < n = mod-lt b l in
    let e : b % n + n * (b / n) ≡ b = omega (arith, div-add-mod b n) in
    sym (
    ap (λ (k : ℕ). get_or (home_at (homes_below n image n) (b % k)).entries (b / (home_at (homes_below n image n) (b % k)).nodes) no_entry)
    (count-homes n image)
    ∙ ap (λ (x : HomeData). get_or x.entries (b / x.nodes) no_entry) (home-start n (b % n) image m)
    ∙ ap (λ (xs : List HomeEntry). get_or xs (b / n) no_entry) (entries-upto (places_of (b % n) n) image (b % n) n)
    ∙ at-upto (λ k. first_home image (b % n + n * k)) (places_of (b % n) n) (b / n) no_entry (place_inside b n l h)
    ∙ ap (first_home image) e
    )

all-start : (n : ℕ) (image : ImageData) (count : ℕ) → count ≤ block_count → 0 < n →
    model.homes_below count image ≡ map (entry_at (homes_below n image n)) (range_with_len 0 count)
all-start n image count c l =
    blocks-upto count image
    ∙ fill_by_all (entry_at (homes_below n image n)) (upto (first_home image) count) count no_entry (length-upto (first_home image) count)
    (λ b h. at-upto (first_home image) count b no_entry h ∙ entry-start n b image l (omega arith))

pub homes-start : (n : ℕ) (image : ImageData) → 0 < n → homes_as (homes_below n image n) ≡ first_homes image
unfolding homes_as first_homes
homes-start n image l = sym (all-start n image block_count (omega arith) l)

-- the parts at the start
abbrev pub first_parts : Config → ImageData → NetData → Parts
first_parts config image net =
    record { units = units_below config.nodes config; homes = homes_below config.nodes image config.nodes; net = net; point = 0 }

pub record HasFewNodes (config : Config) : Type 0 where
  pub some : 1 ≤ config.nodes
  pub few : config.nodes ≤ 16

pub few-nodes : (config : Config) → config_fits config ≡ true → HasFewNodes config
few-nodes config h = record { some = grind (arith, common_steps, nat_tests, h); few = grind (arith, common_steps, nat_tests, h) }

whole-start : (config : Config) (image : ImageData) (net : NetData) → config_fits config ≡ true → net.routes.nodes ≡ config.nodes →
    AreWhole config (first_parts config image net)
whole-start config image net f r = record {
  fits = f;
  count = ap (λ (xs : List NodeUnit). length xs) (units-upto config.nodes config) ∙ length-upto (first_unit config) config.nodes;
  count_homes = count-homes config.nodes image;
  count_routes = r;
  units =
      λ n l. subst (IsUnit config n) (sym (unit-start config.nodes n config l))
      (record { node = refl; nodes = refl; sets = refl; ways = refl; limit = refl });
  homes = λ n l. subst (IsHomeOf config n) (sym (home-start config.nodes n image l)) (record {
    node = refl;
    nodes = refl;
    whole = record { inside = l; few = (few-nodes config f).few; filled = count-entries (places_of n config.nodes) image n config.nodes };
  });
}

-- the network at the start
abbrev pub first_net : Config → NetData
first_net config =
    record { routes = record { nodes = config.nodes; dead = replicate 32 false }; dead = replicate 32 false; next = 1; flights = [] }

pub fabric-start : (config : Config) (image : ImageData) → config_fits config ≡ true →
    fabric_as (first_parts config image (first_net config)) ≡ first_fabric image config.nodes
fabric-start config image f =
    ap (λ (nodes : List Node). record (fabric_as (first_parts config image (first_net config))) { nodes = nodes })
    (nodes-start config.nodes config)
    ∙ ap (λ (homes : List HomeEntry). record (first_fabric image config.nodes) { homes = homes })
    (homes-start config.nodes image (few-nodes config f).some)

logs-start : (image : ImageData) (nodes : ℕ) → AreOwnLogs (first_fabric image nodes)
logs-start image nodes n l block other = ap (λ (x : Node). logged_to x.log true block) (replicated nodes n first_node)

pub parts-start : (config : Config) (image : ImageData) → config_fits config ≡ true →
    AreParts config (first_parts config image (first_net config))
parts-start config image f = record {
  whole = whole-start config image (first_net config) f refl;
  keeps =
      subst (KeepsBounds config) (sym (fabric-start config image f)) (
        first_ghost,
        start-kept image config.nodes (few-nodes config f).some (few-nodes config f).few,
        start_bounded image config config.nodes,
      );
  logs = subst AreOwnLogs (sym (fabric-start config image f)) (logs-start image config.nodes);
}
