-- The homes after the entry of a block changed in its home.
use Rattle.std.proofs.Common.{◌≡◌, ◌≢◌, ℕ, ◌+◌, ◌*◌, ◌/◌, ◌%◌, ◌<◌, List, length, get_or, set, sym, ap, ◌∙◌, subst, length-set, ⊎_elim}
use Rattle.std.proofs.Math.Nat.{mod-lt, div-add-mod}
use Rattle.std.proofs.lemmas.Bool.{cases_eq}
use Rattle.std.proofs.lemmas.List.{get_or-set_same, get_or-set_other}
use Rattle.std.proofs.lemmas.List.FromFn.{fill_by_all}
use Rattle.sn_base.specs.declared.config.Config.{Config}
use Rattle.home_directory.specs.Home.{HomeData, places_of, entry_of, with_entry}
use Rattle.home_directory.proofs.LeastBegun.{place_inside}
use Rattle.sn_model.specs.Caches.{block_count}
use Rattle.sn_model.specs.Homes.{HomeEntry}
use Rattle.sn_model.specs.Fabric.{no_entry}
use Rattle.sn_fabric.specs.Parts.{Parts, home_at, no_home, homes_as, entry_at, IsHomeOf, AreWhole}
use Rattle.sn_fabric.proofs.FirstParts.{few-nodes}
use Rattle.sn_fabric.proofs.Entries.{entry-as, length-homes}

-- two blocks of one home have two places
other_place : (b c n : ℕ) → b ≢ c → b % n ≡ c % n → b / n ≢ c / n
other_place b c n ne e =
    λ (same : b / n ≡ c / n). ne
    (sym (div-add-mod b n) ∙ ap (λ (k : ℕ). n * k + b % n) same ∙ ap (λ (r : ℕ). n * (c / n) + r) e ∙ div-add-mod c n)

module _ (config : Config) (p : Parts) (w : AreWhole config p) (block n : ℕ) (entry : HomeEntry) (l : block < block_count) (e : n ≡ block % config.nodes) where
  low : n < config.nodes
  low = subst (λ (k : ℕ). k < config.nodes) (sym e) (mod-lt block (few-nodes config w.fits).some)

  inside : n < length p.homes
  inside = subst (λ (k : ℕ). n < k) (sym w.count_homes) low

  is : IsHomeOf config n (home_at p.homes n)
  is = w.homes n low

  abbrev after : HomeData
  after = with_entry (home_at p.homes n) block entry

  abbrev homes : List HomeData
  homes = set p.homes n after

  count : length homes ≡ config.nodes
  count = length-set p.homes n after ∙ w.count_homes

  at_other : (m : ℕ) → m ≢ n → home_at homes m ≡ home_at p.homes m
  at_other m ne = get_or-set_other p.homes n m after no_home ne

  at_same : home_at homes n ≡ after
  at_same = get_or-set_same p.homes n after no_home inside

  entry_in : (hs : List HomeData) (b : ℕ) → length hs ≡ config.nodes → entry_at hs b ≡ entry_of (home_at hs (b % config.nodes)) b
  entry_in hs b c = ap (λ (k : ℕ). entry_of (home_at hs (b % k)) b) c

  place_low : block / (home_at p.homes n).nodes < length (home_at p.homes n).entries
  place_low =
      let f : length (home_at p.homes n).entries ≡ places_of (block % config.nodes) config.nodes =
      is.whole.filled ∙ ap (λ (k : ℕ). places_of k (home_at p.homes n).nodes) (is.node ∙ e)
      ∙ ap (λ (k : ℕ). places_of (block % config.nodes) k) is.nodes in
      subst (λ (k : ℕ). block / k < length (home_at p.homes n).entries) (sym is.nodes)
      (subst (λ (k : ℕ). block / config.nodes < k) (sym f) (place_inside block config.nodes (few-nodes config w.fits).some l))

  here : entry_at homes block ≡ entry
  here =
      entry_in homes block count
      ∙ ap (λ (k : ℕ). entry_of (home_at homes k) block) (sym e)
      ∙ ap (λ (h : HomeData). entry_of h block) at_same
      ∙ get_or-set_same (home_at p.homes n).entries (block / (home_at p.homes n).nodes) entry no_entry place_low

  same_home : (b : ℕ) → b ≢ block → b % config.nodes ≡ n → entry_at homes b ≡ entry_at p.homes b
  same_home b ne h =
      let d : b / (home_at p.homes n).nodes ≢ block / (home_at p.homes n).nodes =
      subst (λ (k : ℕ). b / k ≢ block / k) (sym is.nodes) (other_place b block config.nodes ne (h ∙ e)) in
      entry_in homes b count
      ∙ ap (λ (k : ℕ). entry_of (home_at homes k) b) h
      ∙ ap (λ (x : HomeData). entry_of x b) at_same
      ∙ get_or-set_other (home_at p.homes n).entries (block / (home_at p.homes n).nodes) (b / (home_at p.homes n).nodes) entry no_entry d
      ∙ sym (ap (λ (k : ℕ). entry_of (home_at p.homes k) b) h)
      ∙ sym (entry_in p.homes b w.count_homes)

  other_home : (b : ℕ) → b % config.nodes ≢ n → entry_at homes b ≡ entry_at p.homes b
  other_home b ne =
      entry_in homes b count ∙ ap (λ (x : HomeData). entry_of x b) (at_other (b % config.nodes) ne) ∙ sym (entry_in p.homes b w.count_homes)

  there : (b : ℕ) → b ≢ block → entry_at homes b ≡ entry_at p.homes b
  there b ne = ⊎_elim (λ (h : b % config.nodes ≡ n). same_home b ne h) (λ no. other_home b no) (cases_eq (b % config.nodes) n)

  each : (b : ℕ) → b < block_count → get_or (set (homes_as p.homes) block entry) b no_entry ≡ entry_at homes b
  each b h = ⊎_elim
      (λ (same : b ≡ block).
      ap (λ (k : ℕ). get_or (set (homes_as p.homes) block entry) k no_entry) same
      ∙ get_or-set_same (homes_as p.homes) block entry no_entry (subst (λ (k : ℕ). block < k) (sym (length-homes p.homes)) l)
      ∙ sym (ap (entry_at homes) same ∙ here))
      (λ ne. get_or-set_other (homes_as p.homes) block b entry no_entry ne ∙ entry-as p.homes b h ∙ sym (there b ne))
      (cases_eq b block)

  -- the entries are those with that of the block changed
  pub homes-set : homes_as homes ≡ set (homes_as p.homes) block entry
  unfolding homes_as
  homes-set =
      sym (fill_by_all (entry_at homes) (set (homes_as p.homes) block entry) block_count no_entry
      (length-set (homes_as p.homes) block entry ∙ length-homes p.homes) each)

  same_after : IsHomeOf config n after
  same_after = record {
    node = is.node;
    nodes = is.nodes;
    whole =
        record {
          inside = is.whole.inside;
          few = is.whole.few;
          filled = length-set (home_at p.homes n).entries (block / (home_at p.homes n).nodes) entry ∙ is.whole.filled;
        };
  }

  -- and the parts are whole
  pub whole-home : AreWhole config (record p { homes = homes })
  whole-home = record {
    fits = w.fits;
    count = w.count;
    count_homes = count;
    count_routes = w.count_routes;
    units = w.units;
    homes = λ m h.
        ⊎_elim
        (λ (same : m ≡ n). rw same (subst (IsHomeOf config n) (sym at_same) same_after))
        (λ ne. subst (IsHomeOf config m) (sym (at_other m ne)) (w.homes m h))
        (cases_eq m n);
  }
