-- A cache gets back, one after another, the blocks that its node owns at a recovery point.
use Rattle.std.proofs.Common.{◌≡◌, inl, ℕ, zero, suc, ◌+◌, ◌%◌, ◌<◌, ◌≤◌, Bool, true, false, cond, List, [], ◌∷◌, ◌++◌, length, take, get_or}
use Rattle.std.proofs.Common.{refl, sym, ap, ◌∙◌, subst, arith, add-one, Option, Some, None}
use Rattle.std.specs.Prelude.{nat_eq, nat_le, ◌||◌}
use Rattle.std.proofs.lemmas.Bool.Decides.{nat_tests}
use Rattle.std.proofs.lemmas.List.{ext_get_or}
use Rattle.sn_base.specs.declared.config.Config.{Config}
use Rattle.sn_base.specs.declared.log.Old.{Old}
use Rattle.sn_base.specs.declared.log.Old.TheVariants.{Owned}
use Rattle.rollback.specs.Unwound.{contents_with_old}
use Rattle.sn_model.specs.Caches.{Line, Cache, no_line, line_of, is_present, empty_cache, block_count, FitsSets}
use Rattle.sn_model.specs.Cuts.{owned_content}
use Rattle.sn_model.specs.PointEvents.{restored_line}
use Rattle.sn_saved.specs.Resumed.{content_owned, lines_owned, cache_resumed}
use Rattle.sn_saved.specs.Saved.{AreAscending, owner_in, owned_in, full_from}
use Rattle.mosi_cache.specs.Controller.{CacheData}
use Rattle.mosi_cache.specs.PartsFit.{fits-part, fits-within, holding-at}
use Rattle.mosi_cache.specs.Restored.{begun_line, held_of, old_of, line_holding, cache_holding, HeldFits, HasOnlyModified, StaysAsItIs}
use Rattle.fabric_bounds.proofs.KeptResumed.{length-lines_owned, line_resumed}
use Rattle.fabric_bounds.proofs.KeptStart.{length-empty_lines}
use Rattle.fabric_bounds.proofs.Recovery.{no_line_at}
use Rattle.fabric_bounds.proofs.Resumed.{listed_fits}
use Rattle.sn_fabric.specs.Resumed.{content_in, held_with, HasRoomFor}

-- owners in order of their blocks

above_least : (owners : List (ℕ × ℕ)) (least k : ℕ) (d : ℕ × ℕ) → AreAscending least owners → k < length owners → least ≤ (get_or owners k d).0
above_least [] least k d h l = absurd (omega (arith, l))
above_least (o ∷ owners) least zero d h l = h.0
above_least (o ∷ owners) least (suc k) d h l =
    let a = h.0 in let b = above_least owners (o.0 + 1) k d h.1 (omega (arith, l)) in omega (arith, a, b)

-- the block of an owner is none of those before it
not_before : (owners : List (ℕ × ℕ)) (least k : ℕ) (d : ℕ × ℕ) → AreAscending least owners → k < length owners →
    owner_in (take k owners) (get_or owners k d).0 ≡ None
not_before [] least k d h l = absurd (omega (arith, l))
not_before (o ∷ owners) least zero d h l = refl
not_before (o ∷ owners) least (suc k) d h l =
    let a = above_least owners (o.0 + 1) k d h.1 (omega (arith, l)) in
    let other : nat_eq o.0 (get_or owners k d).0 ≡ false = grind (arith, nat_tests) in
    rw other (not_before owners (o.0 + 1) k d h.1 (omega (arith, l)))

next_step : (p q : Bool) (o x : ℕ) (r : Option ℕ) → (p ≡ true → q ≡ true → ⊥) →
    cond p (Some o) (cond q (Some x) r) ≡ cond q (Some x) (cond p (Some o) r)
next_step true true o x r h = absurd (h refl refl)
next_step true false o x r h = refl
next_step false q o x r h = refl

-- the owner of a block among one more of them
owner_next : (owners : List (ℕ × ℕ)) (least k b : ℕ) (d : ℕ × ℕ) → AreAscending least owners → k < length owners →
    owner_in (take (suc k) owners) b ≡ cond (nat_eq (get_or owners k d).0 b) (Some (get_or owners k d).1) (owner_in (take k owners) b)
owner_next [] least k b d h l = absurd (omega (arith, l))
owner_next (o ∷ owners) least zero b d h l = refl
owner_next (o ∷ owners) least (suc k) b d h l =
    let a = above_least owners (o.0 + 1) k d h.1 (omega (arith, l)) in
    ap (λ r. cond (nat_eq o.0 b) (Some o.1) r) (owner_next owners (o.0 + 1) k b d h.1 (omega (arith, l)))
    ∙ next_step (nat_eq o.0 b) (nat_eq (get_or owners k d).0 b) o.1 (get_or owners k d).1 (owner_in (take k owners) b)
    (λ p q. let i : o.0 ≡ b = grind (arith, nat_tests) in let j : (get_or owners k d).0 ≡ b = grind (arith, nat_tests) in omega (arith, a, i, j))

pub owner_more : (owners : List (ℕ × ℕ)) (k b : ℕ) (d : ℕ × ℕ) → AreAscending 0 owners → k < length owners →
    owner_in (take (k + 1) owners) b ≡ cond (nat_eq (get_or owners k d).0 b) (Some (get_or owners k d).1) (owner_in (take k owners) b)
owner_more owners k b d h l = ap (λ n. owner_in (take n owners) b) (add-one k) ∙ owner_next owners 0 k b d h l

module _ (contents : List (List ℕ)) (owners : List (ℕ × ℕ)) (node k : ℕ) (d : ℕ × ℕ) (order : AreAscending 0 owners) (l : k < length owners) where
  abbrev o : ℕ × ℕ
  o = get_or owners k d

  abbrev before : ℕ → Old
  before = held_with contents (take k owners) node

  abbrev after : ℕ → Old
  after = held_with contents (take (k + 1) owners) node

  after_is : (b : ℕ) → after b ≡ old_of (content_owned (cond (nat_eq o.0 b) (Some o.1) (owner_in (take k owners) b)) node (content_in contents b))
  after_is b = ap (λ r. old_of (content_owned r node (content_in contents b))) (owner_more owners k b d order l)

  -- an owner that is this node
  pub put_here : nat_eq o.1 node ≡ true → (held : ℕ → Old) → ((b : ℕ) → held b ≡ before b) → (b : ℕ) →
      contents_with_old false held o.0 (Owned (content_in contents o.0)) b ≡ after b
  put_here mine held same b = go (nat_eq o.0 b) refl ∙ sym (after_is b)
    where
      go : (q : Bool) → nat_eq o.0 b ≡ q → cond q (Owned (content_in contents o.0)) (held b)
          ≡ old_of (content_owned (cond q (Some o.1) (owner_in (take k owners) b)) node (content_in contents b))
      go true e =
          let i : o.0 ≡ b = grind (arith, nat_tests) in
          ap (λ x. Owned (content_in contents x)) i ∙ sym (ap (λ q. old_of (cond q (Some (content_in contents b)) None)) mine)
      go false e = same b

  -- or another
  pub put_elsewhere : nat_eq o.1 node ≡ false → (held : ℕ → Old) → ((b : ℕ) → held b ≡ before b) → (b : ℕ) → held b ≡ after b
  put_elsewhere other held same b = go (nat_eq o.0 b) refl ∙ sym (after_is b)
    where
      go : (q : Bool) → nat_eq o.0 b ≡ q → held b
          ≡ old_of (content_owned (cond q (Some o.1) (owner_in (take k owners) b)) node (content_in contents b))
      go false e = same b
      go true e =
          let i : o.0 ≡ b = grind (arith, nat_tests) in
          same b
          ∙ (ap (λ r. old_of (content_owned r node (content_in contents b))) (subst (λ x. owner_in (take k owners) x ≡ None) i (not_before owners 0 k d order l))
          ∙ sym (ap (λ q. old_of (cond q (Some (content_in contents b)) None)) other))

  -- there is room for it
  pub has_room : (first c : CacheData) → nat_eq o.1 node ≡ true → HasRoomFor first node contents owners →
      ((map : ℕ → Old) → HeldFits first map → HeldFits c map) → ((b : ℕ) → held_of c b ≡ before b) →
      HeldFits c (contents_with_old false (held_of c) o.0 (Owned (content_in contents o.0)))
  has_room first c mine room wider same =
      fits-part c (contents_with_old false (held_of c) o.0 (Owned (content_in contents o.0))) after (wider after (room (k + 1)))
      (λ b. inl (put_here mine (held_of c) same b))

-- at first nothing is held
pub nothing_held : (first : CacheData) (contents : List (List ℕ)) (owners : List (ℕ × ℕ)) (node : ℕ) → first.cache ≡ empty_cache → (b : ℕ) →
    held_of first b ≡ held_with contents (take 0 owners) node b
nothing_held first contents owners node empty b =
    ap (λ (c : Cache). old_of (owned_content (line_of c b) (line_of c b).state)) empty
    ∙ ap (λ (x : Line). old_of (owned_content x x.state)) (no_line_at b)

-- what is held at last

same_old : (a b : Option (List ℕ)) → old_of a ≡ old_of b → a ≡ b
same_old None None e = refl
same_old None (Some y) e = absurd (cc)
same_old (Some x) None e = absurd (cc)
same_old (Some x) (Some y) e = cc

module _ (first c : CacheData) (contents : List (List ℕ)) (owners : List (ℕ × ℕ)) (node : ℕ) (empty : first.cache ≡ empty_cache)
    (stays : StaysAsItIs first c) (held : (b : ℕ) → held_of c b ≡ held_with contents owners node b) where
  nothing_first : HasOnlyModified first.cache
  nothing_first =
      subst HasOnlyModified (sym empty) (λ b. ap begun_line (no_line_at b) ∙ sym (no_line_at b))

  line_is : (b : ℕ) → line_of c.cache b ≡ restored_line (content_owned (owner_in owners b) node (content_in contents b))
  line_is b =
      sym (stays.begun nothing_first b)
      ∙ ap restored_line (same_old (owned_content (line_of c.cache b) (line_of c.cache b).state)
      (content_owned (owner_in owners b) node (content_in contents b)) (held b))

  count : length c.cache.lines ≡ block_count
  count = stays.blocks ∙ (ap (λ x. length x.lines) empty ∙ length-empty_lines)

  lines_same : c.cache.lines ≡ lines_owned owners (content_in contents) node
  lines_same =
      ext_get_or no_line c.cache.lines (lines_owned owners (content_in contents) node) (count ∙ sym (length-lines_owned owners (content_in contents) node))
      (λ b l. line_is b ∙ sym (line_resumed owners (content_in contents) node b (subst (λ n. b < n) count l)))

  cache_same : c.cache ≡ cache_resumed owners (content_in contents) node
  cache_same = λ i. record {
    lines = lines_same i;
    miss = (stays.miss ∙ ap (λ x. x.miss) empty) i;
    put = (stays.put ∙ ap (λ x. x.put) empty) i;
  }

  pub given_back : c ≡ record first { cache = cache_resumed owners (content_in contents) node }
  given_back = λ i. record { node = stays.node i; nodes = stays.nodes i; sets = stays.sets i; ways = stays.ways i; cache = cache_same i }

-- at first there is room for each of them

prefix : (config : Config) (before : List (ℕ × ℕ)) (place k : ℕ) (owners : List (ℕ × ℕ)) → full_from config before place owners ≡ None →
    full_from config before place (take k owners) ≡ None
prefix config before place zero owners e = refl
prefix config before place (suc k) [] e = e
prefix config before place (suc k) (o ∷ owners) e =
    go (nat_le config.ways (owned_in before config.sets o.1 (o.0 % config.sets))) e
    (λ f. prefix config (before ++ o ∷ []) (place + 1) k owners f)
  where
    go : (q : Bool) → cond q (Some place) (full_from config (before ++ o ∷ []) (place + 1) owners) ≡ None →
        (full_from config (before ++ o ∷ []) (place + 1) owners ≡ None → full_from config (before ++ o ∷ []) (place + 1) (take k owners) ≡ None) →
        cond q (Some place) (full_from config (before ++ o ∷ []) (place + 1) (take k owners)) ≡ None
    go true f later = absurd (cc)
    go false f later = later f

holding_none : (r : Option (List ℕ)) → line_holding no_line (old_of r) ≡ restored_line r
holding_none None = refl
holding_none (Some content) = refl

module _ (config : Config) (contents : List (List ℕ)) (owners : List (ℕ × ℕ)) (node : ℕ) (e : full_from config [] 0 owners ≡ None) where
  abbrev held : ℕ → ℕ → Old
  held k = held_with contents (take k owners) node

  line_there : (k b : ℕ) → b < block_count →
      line_of (cache_holding empty_cache (held k)) b ≡ line_of (cache_resumed (take k owners) (content_in contents) node) b
  line_there k b l =
      holding-at empty_cache.lines (held k) b l ∙ ap (λ x. line_holding x (held k b)) (no_line_at b)
      ∙ holding_none (content_owned (owner_in (take k owners) b) node (content_in contents b))
      ∙ sym (line_resumed (take k owners) (content_in contents) node b l)

  fits_first : (k : ℕ) → FitsSets (cache_holding empty_cache (held k)) config.sets config.ways
  fits_first k =
      fits-within (cache_holding empty_cache (held k)) (cache_resumed (take k owners) (content_in contents) node) config.sets config.ways
      (λ b l t. sym (ap (λ (x : Line). is_present x.state || false) (line_there k b l)) ∙ t)
      (listed_fits config (take k owners) (content_in contents) node (prefix config [] 0 k owners e))

  pub room_for : (first : CacheData) → first.cache ≡ empty_cache → first.sets ≡ config.sets → first.ways ≡ config.ways →
      HasRoomFor first node contents owners
  room_for first empty sets ways k =
      subst (λ (c : Cache). FitsSets (cache_holding c (held k)) first.sets first.ways) (sym empty)
      (subst (λ s. FitsSets (cache_holding empty_cache (held k)) s first.ways) (sym sets)
      (subst (λ w. FitsSets (cache_holding empty_cache (held k)) config.sets w) (sym ways) (fits_first k)))
