-- The lines of a save file, kind by kind: the next of them and those that are left.
use Rattle.std.proofs.Common.{◌≡◌, ℕ, zero, suc, ◌+◌, ◌-◌, ◌*◌, ◌<◌, ◌≤◌, Bool, true, false, cond, List, [], ◌∷◌, ◌++◌, take, drop, length, map, get_or}
use Rattle.std.proofs.Common.{⊎_elim, refl, sym, ap, subst, ◌∙◌, arith, append-nil, append_assoc}
use Rattle.std.specs.Prelude.{if◌then◌else◌, flat_map}
use Rattle.std.specs.List.{All, filter, range_with_len}
use Rattle.std.proofs.lemmas.Bool.{cases_eq}
use Rattle.std.proofs.lemmas.Bool.Decides.{nat_tests}
use Rattle.std.proofs.lemmas.List.{drop_more, drop_all, take_all}
use Rattle.std.proofs.lemmas.List.Concat.{flat_map-append}
use Rattle.std.proofs.lemmas.List.Elements.{All-nil, All-append, All-map, All-more}
use Rattle.sn_base.specs.Config.{config_fits}
use Rattle.sn_base.specs.declared.config.Config.{Config}
use Rattle.home_directory.specs.Home.{owner_of}
use Rattle.route_plan.specs.Distances.{is_dead}
use Rattle.rv_core.specs.declared.step.Record.{Record}
use Rattle.sn_model.specs.declared.home.Owner.{Owner}
use Rattle.sn_model.specs.declared.home.Owner.TheVariants.{Home, Cache}
use Rattle.sn_model.specs.Caches.{block_count}
use Rattle.sn_model.specs.Cuts.{names_at}
use Rattle.sn_model.specs.Fabric.{Fabric}
use Rattle.sn_model.specs.Homes.{Holder, Itself, OfCache}
use Rattle.sn_model.specs.Machine.{Processor, first_processor, processor_at}
use Rattle.sn_saved.specs.Saved.{owner_named, owners_at, given_from}
use Rattle.sn_machine.specs.Machine.{MachineData}
use Rattle.save_text.specs.Text.{dead_line, dead_switches, owner_line, given_line, record_line}
use Rattle.sn_resume.specs.Saving.{switch_lines}

-- the numbers from one on, below a bound
range_more : (n bound : ℕ) → n < bound → range_with_len n (bound - n) ≡ n ∷ range_with_len (n + 1) (bound - (n + 1))
range_more n bound l =
    let e : bound - n ≡ suc (bound - (n + 1)) = omega (arith, l) in
    ap (range_with_len n) e

range_all : (bound : ℕ) → range_with_len 0 (bound - 0) ≡ range_with_len 0 bound
range_all bound =
    let e : bound - 0 ≡ bound = omega arith in
    ap (range_with_len 0) e

range_none : (n bound : ℕ) → bound ≤ n → range_with_len n (bound - n) ≡ []
range_none n bound l =
    let e : bound - n ≡ 0 = omega (arith, l) in
    ap (range_with_len n) e

pub few_nodes : (config : Config) → config_fits config ≡ true → config.nodes ≤ 16
few_nodes config fits = grind (arith, nat_tests)

-- switches
module _ (dead : List Bool) where
  abbrev pub switches_from : ℕ → List ℕ
  switches_from n = flat_map dead_line (filter (is_dead dead) (range_with_len n (32 - n)))

  pub switches_all : switches_from 0 ≡ flat_map dead_line (dead_switches dead)
  switches_all = ap (λ xs. flat_map dead_line (filter (is_dead dead) xs)) (range_all 32)

  switches_with : (s : ℕ) (q : Bool) (later : List ℕ) →
      flat_map dead_line (cond q (s ∷ later) later) ≡ (if q then dead_line s else []) ++ flat_map dead_line later
  switches_with s true later = refl
  switches_with s false later = refl

  pub switches_next : (n : ℕ) → n < 32 → switches_from n ≡ switch_lines dead n ++ switches_from (n + 1)
  switches_next n l =
      ap (λ xs. flat_map dead_line (filter (is_dead dead) xs)) (range_more n 32 l)
      ∙ switches_with n (is_dead dead n) (filter (is_dead dead) (range_with_len (n + 1) (32 - (n + 1))))

  none_dead : (n k : ℕ) → ((s : ℕ) → n ≤ s → is_dead dead s ≡ false) → filter (is_dead dead) (range_with_len n k) ≡ []
  none_dead n zero h = refl
  none_dead n (suc k) h =
      ap (λ q. cond q (n ∷ filter (is_dead dead) (range_with_len (n + 1) k)) (filter (is_dead dead) (range_with_len (n + 1) k))) (h n (omega arith))
      ∙ none_dead (n + 1) k (λ s l. h s (omega (arith, l)))

  pub switches_none : (n : ℕ) → ((s : ℕ) → n ≤ s → is_dead dead s ≡ false) → switches_from n ≡ []
  switches_none n h = ap (flat_map dead_line) (none_dead n (32 - n) h)

  pub lines_dead : (s : ℕ) → is_dead dead s ≡ true → dead_line s ≡ switch_lines dead s
  lines_dead s e = ap (λ q. if q then dead_line s else []) (sym e)

  pub lines_living : (s : ℕ) → is_dead dead s ≡ false → [] ≡ switch_lines dead s
  lines_living s e = ap (λ q. if q then dead_line s else []) (sym e)

-- owners
pub owner_line_is : (block node : ℕ) (h : Holder) → owner_of h ≡ Cache node → owner_line (block, node) ≡ flat_map owner_line (owner_named block h)
owner_line_is block node (Itself content) e = absurd cc
owner_line_is block node (OfCache other) e =
    let same : other ≡ node = cc in
    sym (append-nil (owner_line (block, other)) ∙ ap (λ n. owner_line (block, n)) same)

pub no_owner_line : (block : ℕ) (h : Holder) → owner_of h ≡ Home → [] ≡ flat_map owner_line (owner_named block h)
no_owner_line block (Itself content) e = refl
no_owner_line block (OfCache other) e = absurd cc

module _ (f : Fabric) where
  abbrev pub named_in : ℕ → List (ℕ × ℕ)
  named_in block = owner_named block (names_at f block f.point)

  abbrev pub owners_from : ℕ → List ℕ
  owners_from n = flat_map owner_line (flat_map (λ b. owner_named b (names_at f b f.point)) (range_with_len n (block_count - n)))

  pub owners_all : owners_from 0 ≡ flat_map owner_line (owners_at f f.point)
  unfolding owners_at
  owners_all = ap (λ xs. flat_map owner_line (flat_map (λ b. owner_named b (names_at f b f.point)) xs)) (range_all block_count)

  pub owners_next : (n : ℕ) → n < block_count → owners_from n ≡ flat_map owner_line (named_in n) ++ owners_from (n + 1)
  owners_next n l =
      ap (λ xs. flat_map owner_line (flat_map (λ b. owner_named b (names_at f b f.point)) xs)) (range_more n block_count l)
      ∙ flat_map-append owner_line (named_in n)
      (flat_map (λ b. owner_named b (names_at f b f.point)) (range_with_len (n + 1) (block_count - (n + 1))))

  pub owners_none : (n : ℕ) → block_count ≤ n → owners_from n ≡ []
  owners_none n l = ap (λ xs. flat_map owner_line (flat_map (λ b. owner_named b (names_at f b f.point)) xs)) (range_none n block_count l)

-- a list from a place on, of which each has its lines
module _ {A : Type 0} (f : A → List ℕ) (xs : List A) (i : ℕ) where
  pub lines_next : (x : A) → i < length xs → x ≡ get_or xs i x → flat_map f (drop i xs) ≡ f x ++ flat_map f (drop (i + 1) xs)
  lines_next x l is = ap (flat_map f) (drop_more xs i x l ∙ ap (λ y. y ∷ drop (i + 1) xs) (sym is))

  pub lines_none : length xs ≤ i → flat_map f (drop i xs) ≡ []
  lines_none l = ap (flat_map f) (drop_all i xs l)

-- the bytes of a node from a place on
module _ (node : ℕ) (bytes : List ℕ) (i : ℕ) where
  abbrev pub bytes_from : List ℕ
  bytes_from = flat_map given_line (map (λ byte. (node, byte)) (drop i bytes))

  pub bytes_next : (d : ℕ) → i < length bytes →
      bytes_from ≡ given_line (node, get_or bytes i d) ++ flat_map given_line (map (λ byte. (node, byte)) (drop (i + 1) bytes))
  bytes_next d l = ap (λ xs. flat_map given_line (map (λ (b : ℕ). (node, b)) xs)) (drop_more bytes i d l)

  pub bytes_none : length bytes ≤ i → bytes_from ≡ []
  bytes_none l = ap (λ xs. flat_map given_line (map (λ (b : ℕ). (node, b)) xs)) (drop_all i bytes l)

-- and of the nodes from one on
module _ (ps : List Processor) where
  abbrev pub given_lines : ℕ → List ℕ
  given_lines n = flat_map given_line (given_from n (drop n ps))

  pub given_next : (n : ℕ) → n < length ps →
      given_lines n ≡ flat_map given_line (map (λ byte. (n, byte)) (get_or ps n (first_processor 0 0)).given) ++ given_lines (n + 1)
  given_next n l =
      ap (λ xs. flat_map given_line (given_from n xs)) (drop_more ps n (first_processor 0 0) l)
      ∙ flat_map-append given_line (map (λ (byte : ℕ). (n, byte)) (get_or ps n (first_processor 0 0)).given) (given_from (n + 1) (drop (n + 1) ps))

  pub given_none : (n : ℕ) → length ps ≤ n → given_lines n ≡ []
  given_none n l = ap (λ xs. flat_map given_line (given_from n xs)) (drop_all n ps l)

-- what a machine shows of a node
module _ (m v : MachineData) (n k : ℕ) (bytes : List ℕ) (shown : v ≡ m) (node : k ≡ n) (given : bytes ≡ (processor_at v.state k).given) where
  pub given_is : bytes ≡ (get_or m.state.processors n (first_processor 0 0)).given
  given_is =
      given ∙ ap (λ (x : MachineData). (processor_at x.state k).given) shown ∙ ap (λ (j : ℕ). (processor_at m.state j).given) node

  pub bytes_text : flat_map given_line (map (λ byte. (k, byte)) bytes)
      ≡ flat_map given_line (map (λ byte. (n, byte)) (get_or m.state.processors n (first_processor 0 0)).given)
  bytes_text =
      ap (λ (j : ℕ). flat_map given_line (map (λ (byte : ℕ). (j, byte)) bytes)) node
      ∙ ap (λ (xs : List ℕ). flat_map given_line (map (λ (byte : ℕ). (n, byte)) xs)) given_is

-- bytes that are numbers of their type
pub given_numbers : (ps : List Processor) (n : ℕ) →
    ((i : ℕ) → i < length ps → All (λ byte. byte < 256) (get_or ps i (first_processor 0 0)).given) → All (λ byte. byte.1 < 256) (given_from n ps)
given_numbers [] n h = All-nil (λ (byte : ℕ × ℕ). byte.1 < 256)
given_numbers (p ∷ ps) n h =
    All-append (λ (byte : ℕ × ℕ). byte.1 < 256) (map (λ (byte : ℕ). (n, byte)) p.given) (given_from (n + 1) ps)
    (All-map (λ (byte : ℕ × ℕ). byte.1 < 256) (λ (byte : ℕ). (n, byte)) p.given (h 0 (omega arith)))
    (given_numbers ps (n + 1) (λ i l. h (suc i) (omega (arith, l))))

-- what holds of each item so far
pub all_more : {A : Type 0} (P : A → Type 0) (xs : List A) (i : ℕ) (x : A) → i < length xs → x ≡ get_or xs i x → All P (take i xs) → P x →
    All P (take (i + 1) xs)
all_more P xs i x l is h p = All-more P xs i x l h (subst P is p)

pub all_done : {A : Type 0} (P : A → Type 0) (xs : List A) (i : ℕ) → length xs ≤ i → All P (take i xs) → All P xs
all_done P xs i l h = subst (All P) (take_all i xs l) h

-- a number more of those below which it holds
pub below_more : (P : ℕ → Type 0) (n : ℕ) → ((i : ℕ) → i < n → P i) → P n → (i : ℕ) → i < n + 1 → P i
below_more P n h p i l = ⊎_elim
    (λ (e : i ≡ n). subst P (sym e) p)
    (λ (e : i ≡ n → ⊥). h i (omega (arith, l, e)))
    (cases_eq i n)
