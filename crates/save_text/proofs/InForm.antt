-- Whatever a text says is in form.
use Rattle.std.proofs.Common.{◌≡◌, ℕ, zero, suc, ◌+◌, ◌*◌, ◌<◌, ◌≤◌, Bool, true, false, ◌&&◌, List, [], ◌∷◌, ◌++◌}
use Rattle.std.proofs.Common.{length, get_or, set, refl, sym, ap, ◌∙◌, subst, arith, Option, Some, None}
use Rattle.std.specs.Prelude.{nat_eq, nat_le, nat_lt, min, codes, bytes_eq, replicate, if◌then◌else◌, Result, Ok, Err}
use Rattle.std.specs.List.{All, slice_split}
use Rattle.std.proofs.lemmas.Bool.Decides.{nat_tests}
use Rattle.std.proofs.lemmas.List.{get_or-set_other, length-set, length_push}
use Rattle.std.proofs.lemmas.List.Elements.{All-nil, All-push}
use Rattle.text_lines.specs.Lines.{is_line_feed}
use Rattle.sn_base.specs.Config.{config_fits}
use Rattle.sn_base.specs.Image.{ImageData}
use Rattle.sn_base.specs.declared.config.Config.{Config}
use Rattle.rv_core.specs.declared.step.Record.{Record}
use Rattle.route_plan.specs.Distances.{is_dead}
use Rattle.sn_model.specs.Caches.{block_count}
use Rattle.sn_model.specs.Fabric.{no_switches}
use Rattle.sn_saved.specs.declared.marks.Marks.{Marks}
use Rattle.sn_saved.specs.Saved.{Saved, IsInForm, IsAccepted, AreAscending, AreInOrder, AreInside, marks_fit, most_saved}
use Rattle.sn_text.specs.declared.cause.Fault.{Fault}
use Rattle.sn_text.specs.declared.cause.Fault.TheVariants.{NotOfForm, NotThere}
use Rattle.sn_text.specs.Digits.{number_of}
use Rattle.sn_text.specs.Script.{switch_by, switch_in, parts_at_blank, byte_of, begins, after}
use Rattle.sn_text.specs.Trace.{record_of}
use Rattle.save_text.specs.declared.cause.SaveCause.{SaveCause}
use Rattle.save_text.specs.declared.cause.SaveCause.TheVariants.{BadLine}
use Rattle.save_text.specs.declared.part.Part.{Part}
use Rattle.save_text.specs.declared.part.Part.TheVariants.{Top, Head, Config as Sizes, Marks as Numbers, Dead, Owners, Given, Committed, End}
use Rattle.save_text.specs.Judged.{IsGood}
use Rattle.save_text.specs.Parts.{rank_of}
use Rattle.save_text.specs.Reading.{Reading, top, head_read, config_read, marks_read, least_of, may_add, dead_read, owner_read, given_read, record_read}
use Rattle.save_text.specs.Reading.{is_of, body_read, read_after, next_read, numbered, line_read, is_ended, closed, lines_read, said_by}
use Rattle.save_text.specs.Words.{config_by, config_of, four_numbers, marks_by, marks_of, three_numbers, owner_by, owner_of, two_numbers}
use Rattle.save_text.specs.Words.{given_by, given_in, given_of}

-- what a line's words say is there

below_by : (nodes : ℕ) (at : ℕ → ℕ) (o : Option ℕ) (k : ℕ) → ((n : ℕ) → n < nodes → at n < 2 * nodes) → switch_by nodes at o ≡ Ok k → k < 2 * nodes
below_by nodes at None k h e = absurd (cc)
below_by nodes at (Some n) k h e = go (nat_lt n nodes) refl e
  where
    go : (q : Bool) → nat_lt n nodes ≡ q → (if q then Ok (at n) else Err NotThere) ≡ Ok k → k < 2 * nodes
    go true t f = let l : n < nodes = grind (arith, nat_tests) in let i : at n ≡ k = cc in subst (λ j. j < 2 * nodes) i (h n l)
    go false t f = absurd (cc)

switch_there : (nodes : ℕ) (text : List ℕ) (k : ℕ) → switch_in nodes text ≡ Ok k → k < 2 * nodes
switch_there nodes [] k e = absurd (cc)
switch_there nodes (letter ∷ text) k e = go (nat_eq letter 97) (nat_eq letter 98) e
  where
    go : (a b : Bool) → (if a then switch_by nodes (λ node. 2 * node) (number_of text) else if b then
        switch_by nodes (λ node. 2 * node + 1) (number_of text) else Err NotOfForm) ≡ Ok k → k < 2 * nodes
    go true b f = below_by nodes (λ node. 2 * node) (number_of text) k (λ n l. omega (arith, l)) f
    go false true f = below_by nodes (λ node. 2 * node + 1) (number_of text) k (λ n l. omega (arith, l)) f
    go false false f = absurd (cc)

owner_by_there : (nodes : ℕ) (o : Option (ℕ × ℕ)) (owner : ℕ × ℕ) → owner_by nodes o ≡ Ok owner → (owner.0 < block_count) × (owner.1 < nodes)
owner_by_there nodes None owner e = absurd (cc)
owner_by_there nodes (Some (block, node)) owner e = go (nat_lt block block_count && nat_lt node nodes) refl e
  where
    go : (q : Bool) → (nat_lt block block_count && nat_lt node nodes) ≡ q → (if q then Ok (block, node) else Err NotThere) ≡ Ok owner →
        (owner.0 < block_count) × (owner.1 < nodes)
    go true t f =
        let i : (block, node) ≡ owner = cc in
        subst (λ (o : ℕ × ℕ). (o.0 < block_count) × (o.1 < nodes)) i (grind (arith, nat_tests), grind (arith, nat_tests))
    go false t f = absurd (cc)

owner_there : (nodes : ℕ) (text : List ℕ) (owner : ℕ × ℕ) → owner_of nodes text ≡ Ok owner → (owner.0 < block_count) × (owner.1 < nodes)
unfolding owner_of
owner_there nodes text owner e = owner_by_there nodes (two_numbers text) owner e

given_by_there : (nodes : ℕ) (n b : Option ℕ) (byte : ℕ × ℕ) → given_by nodes n b ≡ Ok byte → byte.0 < nodes
given_by_there nodes None b byte e = absurd (cc)
given_by_there nodes (Some n) None byte e = absurd (cc)
given_by_there nodes (Some n) (Some b) byte e = go (nat_lt n nodes) refl e
  where
    go : (q : Bool) → nat_lt n nodes ≡ q → (if q then Ok (n, b) else Err NotThere) ≡ Ok byte → byte.0 < nodes
    go true t f = let i : (n, b) ≡ byte = cc in subst (λ (o : ℕ × ℕ). o.0 < nodes) i (grind (arith, nat_tests))
    go false t f = absurd (cc)

given_in_there : (nodes : ℕ) (o : Option (List ℕ × List ℕ)) (byte : ℕ × ℕ) → given_in nodes o ≡ Ok byte → byte.0 < nodes
given_in_there nodes None byte e = absurd (cc)
given_in_there nodes (Some words) byte e = given_by_there nodes (number_of words.0) (byte_of words.1) byte e

given_there : (nodes : ℕ) (text : List ℕ) (byte : ℕ × ℕ) → given_of nodes text ≡ Ok byte → byte.0 < nodes
unfolding given_of
given_there nodes text byte e = given_in_there nodes (parts_at_blank text) byte e

config_by_fits : (o : Option (ℕ × (ℕ × (ℕ × ℕ)))) (c : Config) → config_by o ≡ Ok c → config_fits c ≡ true
config_by_fits None c e = absurd (cc)
config_by_fits (Some (nodes, (sets, (ways, log)))) c e = go (config_fits d) refl e
  where
    d : Config
    d = record { nodes = nodes; sets = sets; ways = ways; log = log }

    go : (q : Bool) → config_fits d ≡ q → (if q then Ok d else Err NotThere) ≡ Ok c → config_fits c ≡ true
    go true t f = let i : d ≡ c = cc in subst (λ (x : Config). config_fits x ≡ true) i t
    go false t f = absurd (cc)

config_said : (line : List ℕ) (c : Config) → config_of line ≡ Ok c → config_fits c ≡ true
unfolding config_of
config_said line c e = go (begins (codes "config ") line) e
  where
    go : (q : Bool) → (if q then config_by (four_numbers (after (codes "config ") line)) else Err NotOfForm) ≡ Ok c → config_fits c ≡ true
    go true f = config_by_fits (four_numbers (after (codes "config ") line)) c f
    go false f = absurd (cc)

marks_by_fit : (o : Option (ℕ × (ℕ × ℕ))) (m : Marks) → marks_by o ≡ Ok m → (marks_fit m ≡ true) × (m.dead ≡ no_switches)
marks_by_fit None m e = absurd (cc)
marks_by_fit (Some (point, (next_id, applied))) m e = go (marks_fit d) refl e
  where
    d : Marks
    d = record { point = point; next_id = next_id; applied = applied; dead = no_switches }

    go : (q : Bool) → marks_fit d ≡ q → (if q then Ok d else Err NotThere) ≡ Ok m → (marks_fit m ≡ true) × (m.dead ≡ no_switches)
    go true t f = let i : d ≡ m = cc in subst (λ (x : Marks). (marks_fit x ≡ true) × (x.dead ≡ no_switches)) i (t, refl)
    go false t f = absurd (cc)

marks_said : (line : List ℕ) (m : Marks) → marks_of line ≡ Ok m → (marks_fit m ≡ true) × (m.dead ≡ no_switches)
unfolding marks_of
marks_said line m e = go (begins (codes "marks ") line) e
  where
    go : (q : Bool) → (if q then marks_by (three_numbers (after (codes "marks ") line)) else Err NotOfForm) ≡ Ok m →
        (marks_fit m ≡ true) × (m.dead ≡ no_switches)
    go true f = marks_by_fit (three_numbers (after (codes "marks ") line)) m f
    go false f = absurd (cc)

-- lists in order, with one more

ascending_push : (least : ℕ) (xs : List (ℕ × ℕ)) (x : ℕ × ℕ) (bound : ℕ) → AreAscending least xs → All (λ o. o.0 < bound) xs → bound ≤ x.0 →
    least ≤ x.0 → AreAscending least (xs ++ x ∷ [])
ascending_push least [] x bound a b h l = (l, tt)
ascending_push least (y ∷ xs) x bound a b h l =
    let first : y.0 < bound = b 0 y (omega arith) in (
      a.0,
      ascending_push (y.0 + 1) xs x bound a.1 (λ k d m. b (suc k) d (omega (arith, m))) h (omega (arith, first, h)),
    )

ordered_push : (least : ℕ) (xs : List (ℕ × ℕ)) (x : ℕ × ℕ) (bound : ℕ) → AreInOrder least xs → All (λ o. o.0 ≤ bound) xs → bound ≤ x.0 →
    least ≤ x.0 → AreInOrder least (xs ++ x ∷ [])
ordered_push least [] x bound a b h l = (l, tt)
ordered_push least (y ∷ xs) x bound a b h l =
    let first : y.0 ≤ bound = b 0 y (omega arith) in (
      a.0,
      ordered_push y.0 xs x bound a.1 (λ k d m. b (suc k) d (omega (arith, m))) h (omega (arith, first, h)),
    )

all_weaker : {A : Type 0} (P Q : A → Type 0) (xs : List A) → ((x : A) → P x → Q x) → All P xs → All Q xs
all_weaker P Q xs h a = λ k d l. h (get_or xs k d) (a k d l)

none_set : (n i : ℕ) → get_or (replicate n false) i false ≡ false
none_set zero i = refl
none_set (suc n) zero = refl
none_set (suc n) (suc i) = none_set n i

-- what holds of what was read so far

record Stands (s : Reading) : Type 0 where
  fits : 2 ≤ rank_of s.part → config_fits s.saved.config ≡ true
  numbers : 3 ≤ rank_of s.part → marks_fit s.saved.marks ≡ true
  alive : rank_of s.part ≤ 3 → s.saved.marks.dead ≡ no_switches
  no_owner : rank_of s.part ≤ 4 → s.saved.owners ≡ []
  no_byte : rank_of s.part ≤ 5 → s.saved.given ≡ []
  no_record : rank_of s.part ≤ 6 → s.saved.committed ≡ []
  marks : length s.saved.marks.dead ≡ 32
  switches : (k : ℕ) → 2 * s.saved.config.nodes ≤ k → is_dead s.saved.marks.dead k ≡ false
  owners : AreAscending 0 s.saved.owners
  below : rank_of s.part ≡ 5 → All (λ o. o.0 < s.least) s.saved.owners
  blocks : AreInside s.saved.config.nodes s.saved.owners
  given : AreInOrder 0 s.saved.given
  upto : rank_of s.part ≡ 6 → All (λ b. b.0 ≤ s.least) s.saved.given
  nodes : All (λ byte. byte.0 < s.saved.config.nodes) s.saved.given
  few_given : (length s.saved.given ≤ most_saved) × (length s.saved.given ≤ s.saved.marks.applied)
  few_records : (length s.saved.committed ≤ most_saved) × (length s.saved.committed ≤ s.saved.marks.applied)
  untouched : s.saved.marks.applied ≡ 0 → ((k : ℕ) → is_dead s.saved.marks.dead k ≡ false) × (s.saved.owners ≡ [])
  unmoved : s.saved.marks.point ≡ 0 → s.saved.committed ≡ []

top_stands : Stands top
top_stands = record {
  fits = λ l. absurd (omega (arith, l));
  numbers = λ l. absurd (omega (arith, l));
  alive = λ l. refl;
  no_owner = λ l. refl;
  no_byte = λ l. refl;
  no_record = λ l. refl;
  marks = refl;
  switches = λ k l. none_set 32 k;
  owners = tt;
  below = λ e. absurd (omega (arith, e));
  blocks = All-nil _;
  given = tt;
  upto = λ e. absurd (omega (arith, e));
  nodes = All-nil _;
  few_given = (omega arith, omega arith);
  few_records = (omega arith, omega arith);
  untouched = λ e. ((λ k. none_set 32 k), refl);
  unmoved = λ e. refl;
}

head_stands : (s t : Reading) (line : List ℕ) → s.part ≡ Top → Stands s → head_read s line ≡ Ok t → Stands t
head_stands s t line p h e = go (bytes_eq line (codes "safetynet-save 1")) e
  where
    go : (q : Bool) → (if q then Ok (record s { part = Head }) else Err NotOfForm) ≡ Ok t → Stands t
    go false f = absurd (cc)
    go true f =
        let i : record s { part = Head } ≡ t = cc in
        let low : rank_of s.part ≡ 0 = ap rank_of p in
        subst Stands i (record {
          fits = λ l. absurd (omega (arith, l));
          numbers = λ l. absurd (omega (arith, l));
          alive = λ l. h.alive (omega (arith, low));
          no_owner = λ l. h.no_owner (omega (arith, low));
          no_byte = λ l. h.no_byte (omega (arith, low));
          no_record = λ l. h.no_record (omega (arith, low));
          marks = h.marks;
          switches = h.switches;
          owners = h.owners;
          below = λ g. absurd (omega (arith, g));
          blocks = h.blocks;
          given = h.given;
          upto = λ g. absurd (omega (arith, g));
          nodes = h.nodes;
          few_given = h.few_given;
          few_records = h.few_records;
          untouched = h.untouched;
          unmoved = h.unmoved;
        })

config_stands : (s t : Reading) (r : Result Config Fault) → s.part ≡ Head → Stands s → ((c : Config) → r ≡ Ok c → config_fits c ≡ true) →
    config_read s r ≡ Ok t → Stands t
config_stands s t (Err fault) p h fit e = absurd (cc)
config_stands s t (Ok c) p h fit e =
    let i : record s { saved = record s.saved { config = c }; part = Sizes } ≡ t = cc in
    let low : rank_of s.part ≡ 1 = ap rank_of p in
    let alive = h.alive (omega (arith, low)) in
    let no_owner = h.no_owner (omega (arith, low)) in
    let no_byte = h.no_byte (omega (arith, low)) in
    subst Stands i (record {
      fits = λ l. fit c refl;
      numbers = λ l. absurd (omega (arith, l));
      alive = λ l. alive;
      no_owner = λ l. no_owner;
      no_byte = λ l. no_byte;
      no_record = λ l. h.no_record (omega (arith, low));
      marks = h.marks;
      switches = λ k l. ap (λ d. is_dead d k) alive ∙ none_set 32 k;
      owners = h.owners;
      below = λ g. absurd (omega (arith, g));
      blocks = subst (AreInside c.nodes) (sym no_owner) (All-nil _);
      given = h.given;
      upto = λ g. absurd (omega (arith, g));
      nodes = subst (All (λ byte. byte.0 < c.nodes)) (sym no_byte) (All-nil _);
      few_given = h.few_given;
      few_records = h.few_records;
      untouched = h.untouched;
      unmoved = h.unmoved;
    })

marks_stand : (s t : Reading) (r : Result Marks Fault) → s.part ≡ Sizes → Stands s →
    ((m : Marks) → r ≡ Ok m → (marks_fit m ≡ true) × (m.dead ≡ no_switches)) → marks_read s r ≡ Ok t → Stands t
marks_stand s t (Err fault) p h fit e = absurd (cc)
marks_stand s t (Ok m) p h fit e =
    let i : record s { saved = record s.saved { marks = m }; part = Numbers } ≡ t = cc in
    let low : rank_of s.part ≡ 2 = ap rank_of p in
    let alive = (fit m refl).1 in
    let no_owner = h.no_owner (omega (arith, low)) in
    let no_byte = ap length (h.no_byte (omega (arith, low))) in
    let no_record = h.no_record (omega (arith, low)) in
    let none = ap length no_record in
    subst Stands i (record {
      fits = λ l. h.fits (omega (arith, low));
      numbers = λ l. (fit m refl).0;
      alive = λ l. alive;
      no_owner = λ l. no_owner;
      no_byte = λ l. h.no_byte (omega (arith, low));
      no_record = λ l. no_record;
      marks = ap length alive;
      switches = λ k l. ap (λ d. is_dead d k) alive ∙ none_set 32 k;
      owners = h.owners;
      below = λ g. absurd (omega (arith, g));
      blocks = h.blocks;
      given = h.given;
      upto = λ g. absurd (omega (arith, g));
      nodes = h.nodes;
      few_given = (omega (arith, no_byte), omega (arith, no_byte));
      few_records = (omega (arith, none), omega (arith, none));
      untouched = λ g. ((λ k. ap (λ d. is_dead d k) alive ∙ none_set 32 k), no_owner);
      unmoved = λ g. no_record;
    })

-- a dead switch more
dead_other : (dead : List Bool) (switch k : ℕ) → (k ≡ switch → ⊥) → is_dead (set dead switch true) k ≡ is_dead dead k
dead_other dead switch k h = get_or-set_other dead switch k true false h

dead_stands : (s t : Reading) (r : Result ℕ Fault) → 3 ≤ rank_of s.part → rank_of s.part ≤ 4 → Stands s →
    ((k : ℕ) → r ≡ Ok k → k < 2 * s.saved.config.nodes) → dead_read s r ≡ Ok t → Stands t
dead_stands s t (Err fault) low high h there e = absurd (cc)
dead_stands s t (Ok switch) low high h there e = go (nat_lt 0 s.saved.marks.applied && nat_le (least_of s Dead) switch) refl e
  where
    new : Reading
    new = record {
      saved = record s.saved { marks = record s.saved.marks { dead = set s.saved.marks.dead switch true } };
      part = Dead;
      least = switch + 1;
    }

    stands : 0 < s.saved.marks.applied → Stands new
    stands some = record {
      fits = λ l. h.fits (omega (arith, low));
      numbers = λ l. h.numbers low;
      alive = λ l. absurd (omega (arith, l));
      no_owner = λ l. h.no_owner high;
      no_byte = λ l. h.no_byte (omega (arith, high));
      no_record = λ l. h.no_record (omega (arith, high));
      marks = length-set s.saved.marks.dead switch true ∙ h.marks;
      switches =
          λ k l. dead_other s.saved.marks.dead switch k (λ i. let m = there switch refl in absurd (omega (arith, l, i, m))) ∙ h.switches k l;
      owners = h.owners;
      below = λ g. absurd (omega (arith, g));
      blocks = h.blocks;
      given = h.given;
      upto = λ g. absurd (omega (arith, g));
      nodes = h.nodes;
      few_given = h.few_given;
      few_records = h.few_records;
      untouched = λ g. absurd (omega (arith, g, some));
      unmoved = h.unmoved;
    }

    go : (q : Bool) → (nat_lt 0 s.saved.marks.applied && nat_le (least_of s Dead) switch) ≡ q → (if q then Ok new else Err NotThere) ≡ Ok t →
        Stands t
    go false g f = absurd (cc)
    go true g f = let i : new ≡ t = cc in subst Stands i (stands (grind (arith, nat_tests)))

-- an owner more
owner_stands : (s t : Reading) (r : Result (ℕ × ℕ) Fault) → 3 ≤ rank_of s.part → rank_of s.part ≤ 5 → Stands s →
    ((o : ℕ × ℕ) → r ≡ Ok o → (o.0 < block_count) × (o.1 < s.saved.config.nodes)) → owner_read s r ≡ Ok t → Stands t
owner_stands s t (Err fault) low high h there e = absurd (cc)
owner_stands s t (Ok owner) low high h there e = go (nat_lt 0 s.saved.marks.applied && nat_le (least_of s Owners) owner.0) refl e
  where
    new : Reading
    new = record { saved = record s.saved { owners = s.saved.owners ++ owner ∷ [] }; part = Owners; least = owner.0 + 1 }

    -- all blocks before it are below the least that may follow
    under : All (λ o. o.0 < least_of s Owners) s.saved.owners
    under = by_rank (nat_eq (rank_of s.part) 5) refl
      where
        by_rank : (q : Bool) → nat_eq (rank_of s.part) 5 ≡ q → All (λ o. o.0 < (if q then s.least else 0)) s.saved.owners
        by_rank true g = h.below (grind (arith, nat_tests))
        by_rank false g =
            let l : rank_of s.part ≤ 4 = grind (arith, nat_tests) in
            subst (All (λ o. o.0 < 0)) (sym (h.no_owner l)) (All-nil _)

    stands : 0 < s.saved.marks.applied → least_of s Owners ≤ owner.0 → Stands new
    stands some order = record {
      fits = λ l. h.fits (omega (arith, low));
      numbers = λ l. h.numbers low;
      alive = λ l. absurd (omega (arith, l));
      no_owner = λ l. absurd (omega (arith, l));
      no_byte = λ l. h.no_byte high;
      no_record = λ l. h.no_record (omega (arith, high));
      marks = h.marks;
      switches = h.switches;
      owners = ascending_push 0 s.saved.owners owner (least_of s Owners) h.owners under order (omega arith);
      below = λ g. All-push (λ o. o.0 < owner.0 + 1) s.saved.owners owner
          (all_weaker (λ o. o.0 < least_of s Owners) (λ o. o.0 < owner.0 + 1) s.saved.owners (λ o l. omega (arith, l, order)) under)
          (omega arith);
      blocks = All-push (λ o. (o.0 < block_count) × (o.1 < s.saved.config.nodes)) s.saved.owners owner h.blocks (there owner refl);
      given = h.given;
      upto = λ g. absurd (omega (arith, g));
      nodes = h.nodes;
      few_given = h.few_given;
      few_records = h.few_records;
      untouched = λ g. absurd (omega (arith, g, some));
      unmoved = h.unmoved;
    }

    go : (q : Bool) → (nat_lt 0 s.saved.marks.applied && nat_le (least_of s Owners) owner.0) ≡ q → (if q then Ok new else Err NotThere) ≡ Ok t →
        Stands t
    go false g f = absurd (cc)
    go true g f = let i : new ≡ t = cc in subst Stands i (stands (grind (arith, nat_tests)) (grind (arith, nat_tests)))

one_longer : {A : Type 0} (xs : List A) (x : A) (limit : ℕ) → length xs < limit → length (xs ++ x ∷ []) ≤ limit
one_longer xs x limit l = let c = length_push xs x in omega (arith, c, l)

-- a byte more
given_stands : (s t : Reading) (r : Result (ℕ × ℕ) Fault) → 3 ≤ rank_of s.part → rank_of s.part ≤ 6 → Stands s →
    ((b : ℕ × ℕ) → r ≡ Ok b → b.0 < s.saved.config.nodes) → given_read s r ≡ Ok t → Stands t
given_stands s t (Err fault) low high h there e = absurd (cc)
given_stands s t (Ok byte) low high h there e = go (nat_le (least_of s Given) byte.0 && may_add s (length s.saved.given)) refl e
  where
    new : Reading
    new = record { saved = record s.saved { given = s.saved.given ++ byte ∷ [] }; part = Given; least = byte.0 }

    under : least_of s Given ≤ byte.0 → All (λ o. o.0 ≤ byte.0) s.saved.given
    under = by_rank (nat_eq (rank_of s.part) 6) refl
      where
        by_rank : (q : Bool) → nat_eq (rank_of s.part) 6 ≡ q → (if q then s.least else 0) ≤ byte.0 → All (λ o. o.0 ≤ byte.0) s.saved.given
        by_rank true g l =
            all_weaker (λ o. o.0 ≤ s.least) (λ o. o.0 ≤ byte.0) s.saved.given (λ o m. omega (arith, l, m)) (h.upto (grind (arith, nat_tests)))
        by_rank false g l =
            let m : rank_of s.part ≤ 5 = grind (arith, nat_tests) in
            subst (All (λ o. o.0 ≤ byte.0)) (sym (h.no_byte m)) (All-nil _)

    stands : least_of s Given ≤ byte.0 → length s.saved.given < min most_saved s.saved.marks.applied → Stands new
    stands order room = record {
      fits = λ l. h.fits (omega (arith, low));
      numbers = λ l. h.numbers low;
      alive = λ l. absurd (omega (arith, l));
      no_owner = λ l. absurd (omega (arith, l));
      no_byte = λ l. absurd (omega (arith, l));
      no_record = λ l. h.no_record high;
      marks = h.marks;
      switches = h.switches;
      owners = h.owners;
      below = λ g. absurd (omega (arith, g));
      blocks = h.blocks;
      given = ordered_push 0 s.saved.given byte byte.0 h.given (under order) (omega arith) (omega arith);
      upto = λ g. All-push (λ o. o.0 ≤ byte.0) s.saved.given byte (under order) (omega arith);
      nodes = All-push (λ o. o.0 < s.saved.config.nodes) s.saved.given byte h.nodes (there byte refl);
      few_given = (one_longer s.saved.given byte most_saved (omega (arith, room)), one_longer s.saved.given byte s.saved.marks.applied (omega (arith, room)));
      few_records = h.few_records;
      untouched = h.untouched;
      unmoved = h.unmoved;
    }

    go : (q : Bool) → (nat_le (least_of s Given) byte.0 && may_add s (length s.saved.given)) ≡ q → (if q then Ok new else Err NotThere) ≡ Ok t →
        Stands t
    go false g f = absurd (cc)
    go true g f = let i : new ≡ t = cc in subst Stands i (stands (grind (arith, nat_tests)) (grind (arith, nat_tests)))

-- a record more
record_stands : (s t : Reading) (r : Result Record Fault) → 3 ≤ rank_of s.part → Stands s → record_read s r ≡ Ok t → Stands t
record_stands s t (Err fault) low h e = absurd (cc)
record_stands s t (Ok taken) low h e = go (nat_lt 0 s.saved.marks.point && may_add s (length s.saved.committed)) refl e
  where
    new : Reading
    new = record { saved = record s.saved { committed = s.saved.committed ++ taken ∷ [] }; part = Committed; least = 0 }

    stands : 0 < s.saved.marks.point → length s.saved.committed < min most_saved s.saved.marks.applied → Stands new
    stands moved room = record {
      fits = λ l. h.fits (omega (arith, low));
      numbers = λ l. h.numbers low;
      alive = λ l. absurd (omega (arith, l));
      no_owner = λ l. absurd (omega (arith, l));
      no_byte = λ l. absurd (omega (arith, l));
      no_record = λ l. absurd (omega (arith, l));
      marks = h.marks;
      switches = h.switches;
      owners = h.owners;
      below = λ g. absurd (omega (arith, g));
      blocks = h.blocks;
      given = h.given;
      upto = λ g. absurd (omega (arith, g));
      nodes = h.nodes;
      few_given = h.few_given;
      few_records = (one_longer s.saved.committed taken most_saved (omega (arith, room)), one_longer s.saved.committed taken s.saved.marks.applied (omega (arith, room)));
      untouched = h.untouched;
      unmoved = λ g. absurd (omega (arith, g, moved));
    }

    go : (q : Bool) → (nat_lt 0 s.saved.marks.point && may_add s (length s.saved.committed)) ≡ q → (if q then Ok new else Err NotThere) ≡ Ok t →
        Stands t
    go false g f = absurd (cc)
    go true g f = let i : new ≡ t = cc in subst Stands i (stands (grind (arith, nat_tests)) (grind (arith, nat_tests)))

-- the end
end_stands : (s : Reading) → 3 ≤ rank_of s.part → Stands s → Stands (record s { part = End })
end_stands s low h = record {
  fits = λ l. h.fits (omega (arith, low));
  numbers = λ l. h.numbers low;
  alive = λ l. absurd (omega (arith, l));
  no_owner = λ l. absurd (omega (arith, l));
  no_byte = λ l. absurd (omega (arith, l));
  no_record = λ l. absurd (omega (arith, l));
  marks = h.marks;
  switches = h.switches;
  owners = h.owners;
  below = λ g. absurd (omega (arith, g));
  blocks = h.blocks;
  given = h.given;
  upto = λ g. absurd (omega (arith, g));
  nodes = h.nodes;
  few_given = h.few_given;
  few_records = h.few_records;
  untouched = h.untouched;
  unmoved = h.unmoved;
}

both : (a : Bool) (m n : ℕ) → (a && nat_le m n) ≡ true → m ≤ n
both a m n e = grind (arith, nat_tests)

-- any other line
body_stands : (s t : Reading) (line : List ℕ) → 3 ≤ rank_of s.part → Stands s → body_read s line ≡ Ok t → Stands t
unfolding body_read
body_stands s t line low h e =
    go (is_of s Dead (codes "dead ") line) (is_of s Owners (codes "owner ") line) (is_of s Given (codes "given ") line)
    (is_of s Committed (codes "rec ") line) (bytes_eq line (codes "end") && nat_lt (rank_of s.part) 8) refl refl refl refl e
  where
    go : (a b c d f : Bool) → is_of s Dead (codes "dead ") line ≡ a → is_of s Owners (codes "owner ") line ≡ b →
        is_of s Given (codes "given ") line ≡ c → is_of s Committed (codes "rec ") line ≡ d →
        (if a then dead_read s (switch_in s.saved.config.nodes (after (codes "dead ") line))
        else if b then owner_read s (owner_of s.saved.config.nodes (after (codes "owner ") line))
        else if c then given_read s (given_of s.saved.config.nodes (after (codes "given ") line))
        else if d then record_read s (record_of s.saved.config.nodes (after (codes "rec ") line))
        else if f then Ok (record s { part = End })
        else Err NotOfForm) ≡ Ok t → Stands t
    go true b c d f p q u v g =
        dead_stands s t (switch_in s.saved.config.nodes (after (codes "dead ") line)) low
        (both (begins (codes "dead ") line) (rank_of s.part) 4 p) h (switch_there s.saved.config.nodes (after (codes "dead ") line)) g
    go false true c d f p q u v g =
        owner_stands s t (owner_of s.saved.config.nodes (after (codes "owner ") line)) low
        (both (begins (codes "owner ") line) (rank_of s.part) 5 q) h (owner_there s.saved.config.nodes (after (codes "owner ") line)) g
    go false false true d f p q u v g =
        given_stands s t (given_of s.saved.config.nodes (after (codes "given ") line)) low
        (both (begins (codes "given ") line) (rank_of s.part) 6 u) h (given_there s.saved.config.nodes (after (codes "given ") line)) g
    go false false false true f p q u v g = record_stands s t (record_of s.saved.config.nodes (after (codes "rec ") line)) low h g
    go false false false false true p q u v g = let i : record s { part = End } ≡ t = cc in subst Stands i (end_stands s low h)
    go false false false false false p q u v g = absurd (cc)

next_stands : (s t : Reading) (line : List ℕ) → Stands s → next_read s line ≡ Ok t → Stands t
unfolding next_read
next_stands s t line h e = go s.part refl e
  where
    low : (p : Part) → s.part ≡ p → 3 ≤ rank_of p → 3 ≤ rank_of s.part
    low p i l = subst (λ q. 3 ≤ rank_of q) (sym i) l

    go : (p : Part) → s.part ≡ p → read_after p s line ≡ Ok t → Stands t
    go Top i f = head_stands s t line i h f
    go Head i f = config_stands s t (config_of line) i h (config_said line) f
    go Sizes i f = marks_stand s t (marks_of line) i h (marks_said line) f
    go Numbers i f = body_stands s t line (low Numbers i (omega arith)) h f
    go Dead i f = body_stands s t line (low Dead i (omega arith)) h f
    go Owners i f = body_stands s t line (low Owners i (omega arith)) h f
    go Given i f = body_stands s t line (low Given i (omega arith)) h f
    go Committed i f = body_stands s t line (low Committed i (omega arith)) h f
    go End i f = body_stands s t line (low End i (omega arith)) h f

-- all lines

abbrev StandsIfRead : Result Reading SaveCause → Type 0
StandsIfRead r = (s : Reading) → r ≡ Ok s → Stands s

numbered_stands : (number : ℕ) (r : Result Reading Fault) → ((t : Reading) → r ≡ Ok t → Stands t) → StandsIfRead (numbered number r)
numbered_stands number (Err fault) h t e = absurd (cc)
numbered_stands number (Ok s) h t e = let i : s ≡ t = cc in subst Stands i (h s refl)

line_stands : (number : ℕ) (r : Result Reading SaveCause) (line : List ℕ) → StandsIfRead r → StandsIfRead (line_read number r line)
line_stands number (Err cause) line h t e = absurd (cc)
line_stands number (Ok s) line h t e = numbered_stands number (next_read s line) (λ u f. next_stands s u line (h s refl) f) t e

closed_form : (number : ℕ) (r : Result Reading SaveCause) (rest : List ℕ) (saved : Saved) → StandsIfRead r → closed number r rest ≡ Ok saved →
    IsInForm saved
closed_form number (Err cause) rest saved h e = absurd (cc)
closed_form number (Ok s) rest saved h e = go (is_ended s.part rest) refl e
  where
    form : 8 ≤ rank_of s.part → IsInForm s.saved
    form l = let f = h s refl in record {
      fits = f.fits (omega (arith, l));
      numbers = f.numbers (omega (arith, l));
      marks = f.marks;
      switches = f.switches;
      owners = f.owners;
      blocks = f.blocks;
      given = f.given;
      nodes = f.nodes;
      few_given = f.few_given;
      few_records = f.few_records;
      untouched = f.untouched;
      unmoved = f.unmoved;
    }

    go : (q : Bool) → is_ended s.part rest ≡ q → (if q then Ok s.saved else Err (BadLine number)) ≡ Ok saved → IsInForm saved
    go false t f = absurd (cc)
    go true t f = let i : s.saved ≡ saved = cc in subst IsInForm i (form (grind (arith, nat_tests)))

lines_form : (lines : List (List ℕ)) (number : ℕ) (r : Result Reading SaveCause) (saved : Saved) → StandsIfRead r →
    lines_read number r lines ≡ Ok saved → IsInForm saved
unfolding lines_read
lines_form [] number r saved h e = closed_form number r [] saved h e
lines_form (rest ∷ []) number r saved h e = closed_form number r rest saved h e
lines_form (line ∷ next ∷ lines) number r saved h e =
    lines_form (next ∷ lines) (number + 1) (line_read number r line) saved (line_stands number r line h) e

pub in_form : (bytes : List ℕ) (saved : Saved) → said_by bytes ≡ Ok saved → IsInForm saved
in_form bytes saved e =
    lines_form (slice_split is_line_feed bytes) 1 (Ok top) saved (λ s f. let i : top ≡ s = cc in subst Stands i top_stands) e

-- and where nothing refuses it, it is accepted
pub accepted_by : (image : ImageData) (bytes : List ℕ) (saved : Saved) → said_by bytes ≡ Ok saved → IsGood image saved → IsAccepted image saved
accepted_by image bytes saved said good = record {
  form = in_form bytes saved said;
  joined = good.0.0.0;
  sets = good.0.0.1;
  execution = good.0.1;
  read = good.1;
}
