-- The accesses to the blocks of a part, one after the other.
use Rattle.std.proofs.Common.{◌≡◌, ◌≢◌, ℕ, suc, ◌+◌, ◌-◌, ◌*◌, ◌/◌, ◌%◌, ◌<◌, ◌⊎◌, inl, inr, Bool, true, false, not, ◌&&◌, ◌||◌, cond}
use Rattle.std.proofs.Common.{◌==◌, is_some, Option, Some, None, List, [], take, drop, slice_get, get_or, refl, sym, ap, subst, ◌∙◌}
use Rattle.std.proofs.Common.{arith}
use Rattle.std.specs.Prelude.{nat_eq, pred}
use Rattle.std.proofs.lemmas.Bool.Decides.{nat_tests}
use Rattle.std.proofs.lemmas.Bool.{cases_order}
use Rattle.byteorder.specs.Endian.{little_number}
use Rattle.sn_base.specs.Blocks.{ram_start}
use Rattle.sn_base.specs.Image.{ImageData}
use Rattle.sn_base.specs.declared.block.Write.{Write}
use Rattle.rv_core.specs.declared.state.CoreState.{CoreState}
use Rattle.rv_core.specs.declared.step.Record.{Record}
use Rattle.rv_core.specs.declared.step.Want.{Want}
use Rattle.rv_core.specs.declared.step.Want.TheVariants.{Nothing, Load, Store, Amo, Lr, Sc, Input}
use Rattle.rv_core.specs.Core.{bare, block_of, is_access}
use Rattle.rv_core.specs.Step.{want_of, next_of}
use Rattle.rv_core.specs.Wanted.{wanted_address, writes_memory, IsInside, WriteFits}
use Rattle.rv_core.specs.Flat.{flat_start, core_at}
use Rattle.rv_core.proofs.CoreLaws.{want_bare, effect_bare, want_inside, write_fits}
use Rattle.sn_consistency.specs.Words as words
use Rattle.sn_consistency.specs.Words.{Content, kind, kind_of, address_of, block, place, block_word, reads, writes, content_after}
use Rattle.sn_consistency.specs.Words.{write_block}
use Rattle.sn_consistency.specs.Entries.{Entry, is_writer, writes_to}
use Rattle.sn_consistency.specs.Projections.{BlockState, BlockLegal, block_step, block_of_state, entries, core_after}
use Rattle.projection_places.specs.Passes.{Passes}
use Rattle.projection_places.proofs.Folds.{block_after, block_more, block_last, block_next}
use Rattle.trace_check.specs.EffectData.{EffectData}
use Rattle.trace_check.specs.declared.cell.Cell.{Cell}
use Rattle.trace_check.specs.TaggedEffects.{reads_memory, effect_of}
use Rattle.trace_check.specs.Cells.{is_lr, is_sc, word_in, Finds, Stands, IsAfter}
use Rattle.trace_check.specs.declared.cells.Cells.{Cells}
use Rattle.trace_check.specs.CellPlaces.{first_cell, missing, cell_by, cell_at, IsReplay}
use Rattle.trace_check.specs.Tags.{wanted_block, tag_by}
use Rattle.trace_check.specs.Parts.{is_in, IsFitting, PartPasses}
use Rattle.trace_check.proofs.BlockStart.{first_stands}

-- the words of the projections, by what is wanted
record Same (w : Want) (done : Bool) : Type 0 where
  reads : reads (kind_of w) ≡ reads_memory w
  writes : writes (kind_of w) done ≡ writes_memory w done
  lr : words.is_lr (kind_of w) ≡ is_lr w
  sc : words.is_sc (kind_of w) ≡ is_sc w
  address : address_of w ≡ wanted_address w

same : (w : Want) (done : Bool) → Same w done
unfolding kind_of address_of
same Nothing done = record { reads = refl; writes = refl; lr = refl; sc = refl; address = refl }
same (Load a) done = record { reads = refl; writes = refl; lr = refl; sc = refl; address = refl }
same (Store a) done = record { reads = refl; writes = refl; lr = refl; sc = refl; address = refl }
same (Amo a) done = record { reads = refl; writes = refl; lr = refl; sc = refl; address = refl }
same (Lr a) done = record { reads = refl; writes = refl; lr = refl; sc = refl; address = refl }
same (Sc a) done = record { reads = refl; writes = refl; lr = refl; sc = refl; address = refl }
same Input done = record { reads = refl; writes = refl; lr = refl; sc = refl; address = refl }

-- what is no access reads nothing, writes nothing and is neither LR nor SC
record Idle (w : Want) (done : Bool) : Type 0 where
  reads : reads_memory w ≡ false
  writes : writes_memory w done ≡ false
  lr : is_lr w ≡ false
  sc : is_sc w ≡ false

idle : (w : Want) (done : Bool) → is_access w ≡ false → Idle w done
idle Nothing done e = record { reads = refl; writes = refl; lr = refl; sc = refl }
idle (Load a) done e = absurd (cc)
idle (Store a) done e = absurd (cc)
idle (Amo a) done e = absurd (cc)
idle (Lr a) done e = absurd (cc)
idle (Sc a) done e = absurd (cc)
idle Input done e = record { reads = refl; writes = refl; lr = refl; sc = refl }

in_memory : (w : Want) → IsInside w → is_access w ≡ true → wanted_block w < 65536
in_memory Nothing i e = absurd (cc)
in_memory (Load a) i e = let h = i.0 in let g = i.1 in omega (arith, h, g)
in_memory (Store a) i e = let h = i.0 in let g = i.1 in omega (arith, h, g)
in_memory (Amo a) i e = let h = i.0 in let g = i.1 in omega (arith, h, g)
in_memory (Lr a) i e = let h = i.0 in let g = i.1 in omega (arith, h, g)
in_memory (Sc a) i e = let h = i.0 in let g = i.1 in omega (arith, h, g)
in_memory Input i e = absurd (cc)

written_where : (w : Want) (done : Bool) (x : Option Write) → WriteFits w done x → writes_memory w done ≡ is_some x
written_where w done None h = h
written_where w done (Some x) h = h.0

-- tests
and_true : (x : Bool) → (x && true) ≡ x
and_true true = refl
and_true false = refl

and_false : (x : Bool) → (x && false) ≡ false
and_false true = refl
and_false false = refl

or_false : (x : Bool) → (x || false) ≡ x
or_false true = refl
or_false false = refl

same_either : {A : Type 0} (q : Bool) (x : A) → cond q x x ≡ x
same_either true x = refl
same_either false x = refl

write_or_not : (x : Option Write) (v : Content) → cond (is_some x) (write_block x v) v ≡ write_block x v
write_or_not None v = refl
write_or_not (Some w) v = refl

test_same : (a b : ℕ) → a ≡ b → (a == b) ≡ true
test_same a b e = grind (arith, nat_tests)

test_other : (a b : ℕ) → a ≢ b → (a == b) ≡ false
test_other a b e = grind (arith, nat_tests)

-- an entry and its effect
module _ (image : ImageData) (c : CoreState) (r : Record) (effect : EffectData) (is : effect ≡ effect_of image c r) where
  abbrev E : Entry
  E = record { found = bare c; did = r }

  want_is : want_of image (bare c) ≡ effect.want
  want_is = want_bare image c ∙ sym (ap (λ d. d.want) is)

  write_is : (next_of image (bare c) r.seen r.sc_done r.read).effect.write ≡ effect.write
  write_is = ap (λ x. x.write) (effect_bare image c r.seen r.sc_done r.read) ∙ sym (ap (λ d. d.write) is)

  reads_is : reads (kind image (bare c)) ≡ reads_memory effect.want
  unfolding kind
  reads_is = ap (λ w. reads (kind_of w)) want_is ∙ (same effect.want r.sc_done).reads

  lr_is : words.is_lr (kind image (bare c)) ≡ is_lr effect.want
  unfolding kind
  lr_is = ap (λ w. words.is_lr (kind_of w)) want_is ∙ (same effect.want r.sc_done).lr

  sc_is : words.is_sc (kind image (bare c)) ≡ is_sc effect.want
  unfolding kind
  sc_is = ap (λ w. words.is_sc (kind_of w)) want_is ∙ (same effect.want r.sc_done).sc

  block_is : block image (bare c) ≡ wanted_block effect.want
  unfolding block
  block_is = ap (λ w. block_of (address_of w)) want_is ∙ ap block_of (same effect.want r.sc_done).address

  place_is : place image (bare c) ≡ (wanted_address effect.want - ram_start) % 64 / 4 * 4
  unfolding place
  place_is = ap (λ w. (address_of w - ram_start) % 64 / 4 * 4) want_is ∙ ap (λ a. (a - ram_start) % 64 / 4 * 4) (same effect.want r.sc_done).address

  content_is : (v : Content) → content_after image (bare c) r v ≡ write_block effect.write v
  unfolding content_after
  content_is v = ap (λ x. write_block x v) write_is

  writes_is : writes (kind image (bare c)) r.sc_done ≡ writes_memory effect.want r.sc_done
  unfolding kind
  writes_is = ap (λ w. writes (kind_of w) r.sc_done) want_is ∙ (same effect.want r.sc_done).writes

  word_is : (v : Content) → block_word v (place image (bare c)) ≡ word_in v (wanted_address effect.want)
  unfolding block_word
  word_is v = ap (λ p. little_number 4 (drop p v)) place_is

  module _ (fits : WriteFits effect.want r.sc_done effect.write) where
    wrote_is : is_writer image E ≡ is_some effect.write
    wrote_is = writes_is ∙ written_where effect.want r.sc_done effect.write fits

    -- an access to another block, or none, leaves the block
    module _ (b : ℕ) (v : BlockState) (cell : Cell) (s : Stands cell v) where
      leaves : writes_to image E b ≡ false → (words.is_lr (kind image (bare c)) && (b == block image (bare c))) ≡ false →
          Stands cell (block_step image b v E)
      leaves w l = record {
        content = s.content ∙ sym (ap (λ q. cond q (content_after image (bare c) r v.content) v.content) w);
        intact = λ n. s.intact n ∙ sym (
            ap (λ q. cond (n == r.core) (v.intact n || q) (v.intact n && not (writes_to image E b))) l
            ∙ ap (λ q. cond (n == r.core) (v.intact n || false) (v.intact n && not q)) w
            ∙ ap (λ q. cond (n == r.core) q (v.intact n && true)) (or_false (v.intact n))
            ∙ ap (λ q. cond (n == r.core) (v.intact n) q) (and_true (v.intact n))
            ∙ same_either (n == r.core) (v.intact n));
      }

      stands_elsewhere : b ≢ wanted_block effect.want → Stands cell (block_step image b v E)
      stands_elsewhere o =
          let t : (b == block image (bare c)) ≡ false = test_other b (block image (bare c)) (λ e. o (e ∙ block_is)) in
          leaves (ap (λ q. is_writer image E && q) t ∙ and_false (is_writer image E))
          (ap (λ q. words.is_lr (kind image (bare c)) && q) t ∙ and_false (words.is_lr (kind image (bare c))))

      stands_idle : is_access effect.want ≡ false → Stands cell (block_step image b v E)
      stands_idle i =
          let k = idle effect.want r.sc_done i in
          leaves (ap (λ q. q && (b == block image (bare c))) (writes_is ∙ k.writes)) (ap (λ q. q && (b == block image (bare c))) (lr_is ∙ k.lr))

      -- an access to the block leaves it as the cell after it is
      stands_after : b ≡ wanted_block effect.want → (after : Cell) → IsAfter cell effect r after → Stands after (block_step image b v E)
      stands_after e after h =
          let t : (b == block image (bare c)) ≡ true = test_same b (block image (bare c)) (e ∙ sym block_is) in
          let w : writes_to image E b ≡ is_some effect.write = ap (λ q. is_writer image E && q) t ∙ and_true (is_writer image E) ∙ wrote_is in
          let l : (words.is_lr (kind image (bare c)) && (b == block image (bare c))) ≡ is_lr effect.want = ap (λ q. words.is_lr (kind image (bare c)) && q) t ∙ and_true (words.is_lr (kind image (bare c))) ∙ lr_is in
          record {
            content = h.0 ∙ ap (write_block effect.write) s.content ∙ sym (
                ap (λ q. cond q (content_after image (bare c) r v.content) v.content) w
                ∙ ap (λ x. cond (is_some effect.write) x v.content) (content_is v.content)
                ∙ write_or_not effect.write v.content);
            intact = λ n. h.1 n
                ∙ ap (λ x. cond (n == r.core) (x || is_lr effect.want) (x && not (is_some effect.write))) (s.intact n)
                ∙ sym (ap (λ q. cond (n == r.core) (v.intact n || q) (v.intact n && not (writes_to image E b))) l
                ∙ ap (λ q. cond (n == r.core) (v.intact n || is_lr effect.want) (v.intact n && not q)) w);
          }

  module _ (b : ℕ) (v : BlockState) (cell : Cell) (s : Stands cell v) where
    legal_to : Finds cell effect.want r → BlockLegal image v E
    legal_to f = record {
      seen = λ q. f.0 (sym reads_is ∙ q) ∙ ap (λ x. word_in x (wanted_address effect.want)) s.content ∙ sym (word_is v.content);
      done = λ q d. sym (s.intact r.core) ∙ f.1 (sym sc_is ∙ q) d;
    }

    legal_from : BlockLegal image v E → Finds cell effect.want r
    legal_from l = (
      (λ q. l.seen (reads_is ∙ q) ∙ word_is v.content ∙ sym (ap (λ x. word_in x (wanted_address effect.want)) s.content)),
      (λ q d. s.intact r.core ∙ l.done (sc_is ∙ q) d),
    )

  legal_idle : (v : BlockState) → is_access effect.want ≡ false → BlockLegal image v E
  legal_idle v i =
      let k = idle effect.want r.sc_done i in
      record {
        seen = λ q. let f : false ≡ true = sym (reads_is ∙ k.reads) ∙ q in absurd (cc);
        done = λ q d. let f : false ≡ true = sym (sc_is ∙ k.sc) ∙ q in absurd (cc);
      }

-- a block of the part after the first k records
abbrev pub block_now : ImageData → ℕ → List Record → ℕ → ℕ → BlockState
block_now image N rs b k =
    block_after image b (block_of_state (flat_start image N) b) (entries image (core_at (flat_start image N)) (take k rs))

pub record IsPartReplayed (image : ImageData) (N parts part : ℕ) (rs : List Record) (k : ℕ) (cells : ℕ → Cell) : Type 0 where
  pub good : PartPasses image N parts part rs k
  pub stands : (b : ℕ) → b < 65536 → b % parts ≡ part → Stands (cells b) (block_now image N rs b k)

-- whether two numbers are the same, and whether a test passes
pick : (n m : ℕ) → (n ≡ m) ⊎ (n ≢ m)
pick n m = go (cases_order n m)
  where
    go : ((n ≡ m) ⊎ ((n < m) ⊎ (m < n))) → (n ≡ m) ⊎ (n ≢ m)
    go (inl e) = inl e
    go (inr (inl l)) = inr (omega arith)
    go (inr (inr l)) = inr (omega arith)

pub tested : (x : Bool) → (x ≡ true) ⊎ (x ≡ false)
tested true = inl refl
tested false = inr refl

inside_part : (parts part : ℕ) (w : Want) → is_access w ≡ true → wanted_block w % parts ≡ part → is_in parts part w ≡ true
inside_part parts part w a e = let t : nat_eq (wanted_block w % parts) part ≡ true = grind (arith, nat_tests) in ap (λ x. x && nat_eq (wanted_block w % parts) part) a ∙ t

outside_part : (parts part : ℕ) (w : Want) → wanted_block w % parts ≢ part → is_in parts part w ≡ false
outside_part parts part w e = let t : nat_eq (wanted_block w % parts) part ≡ false = grind (arith, nat_tests) in ap (λ x. is_access w && x) t ∙ and_false (is_access w)

idle_part : (parts part : ℕ) (w : Want) → is_access w ≡ false → is_in parts part w ≡ false
idle_part parts part w a = ap (λ x. x && nat_eq (wanted_block w % parts) part) a

in_part : (parts part : ℕ) (w : Want) → is_in parts part w ≡ true → (is_access w ≡ true) × (wanted_block w % parts ≡ part)
in_part parts part w e = go (tested (is_access w)) (pick (wanted_block w % parts) part)
  where
    go : ((is_access w ≡ true) ⊎ (is_access w ≡ false)) → ((wanted_block w % parts ≡ part) ⊎ (wanted_block w % parts ≢ part)) → (is_access w ≡ true) × (wanted_block w % parts ≡ part)
    go (inl a) (inl m) = (a, m)
    go (inl a) (inr m) = let f : true ≡ false = sym e ∙ outside_part parts part w m in absurd (cc)
    go (inr a) m = let f : true ≡ false = sym e ∙ idle_part parts part w a in absurd (cc)

-- the tag of an access to a block of the part, and of what is none
pub tag_in : (parts part : ℕ) (w : Want) → is_in parts part w ≡ true → tag_by parts w ≡ suc part
tag_in parts part w e = let h = in_part parts part w e in ap (λ q. cond q (suc (wanted_block w % parts)) 0) h.0 ∙ ap (λ n. suc n) h.1

pub tag_out : (parts part : ℕ) (w : Want) → is_in parts part w ≡ false → tag_by parts w ≢ suc part
tag_out parts part w i e = go (tested (is_access w))
  where
    go : ((is_access w ≡ true) ⊎ (is_access w ≡ false)) → ⊥
    go (inl a) =
        let f : suc (wanted_block w % parts) ≡ suc part = sym (ap (λ q. cond q (suc (wanted_block w % parts)) 0) a) ∙ e in
        let m : wanted_block w % parts ≡ part = ap pred f in
        let t : true ≡ false = sym (inside_part parts part w a m) ∙ i in
        absurd (cc)
    go (inr a) = let f : 0 ≡ suc part = sym (ap (λ q. cond q (suc (wanted_block w % parts)) 0) a) ∙ e in absurd (omega (arith, f))

-- where no cell is kept, each block's is that at the start
none_kept : (image : ImageData) (cells : Cells) → cells.kept.items ≡ [] → (b : ℕ) → cell_at image cells b ≡ first_cell image b
none_kept image cells e b =
    ap (λ xs. cell_by image b (get_or xs (get_or cells.places.items b 0) (missing b))) e
    ∙ ap (λ q. cond q (missing b).cell (first_cell image b)) (test_other (suc b) b (omega arith))

pub part_start : (image : ImageData) (N parts part : ℕ) (rs : List Record) (cells : Cells) → cells.kept.items ≡ [] →
    IsPartReplayed image N parts part rs 0 (cell_at image cells)
part_start image N parts part rs cells f = record {
  good = λ b e. tt;
  stands = λ b l e. first_stands image N b (cell_at image cells b) l (none_kept image cells f b);
}

module _
    (image : ImageData) (N parts part : ℕ) (rs : List Record) (k : ℕ) (cells : ℕ → Cell) (p : IsPartReplayed image N parts part rs k cells)
    (r : Record) (e : slice_get rs k ≡ Some r) (effect : EffectData)
    (is : effect ≡ effect_of image (core_after image r.core (core_at (flat_start image N) r.core) (take k rs)) r) (fits : IsFitting effect r) where
  abbrev X : CoreState
  X = core_after image r.core (core_at (flat_start image N) r.core) (take k rs)

  abbrev w : Want
  w = effect.want

  here : (b : ℕ) → is_access w ≡ true → b ≡ wanted_block w → b % parts ≡ part → Stands (cells (wanted_block w)) (block_now image N rs b k)
  here b a i m = let s = p.stands b (let l = in_memory w fits.0 a in omega (arith, i, l)) m in subst (λ x. Stands (cells x) (block_now image N rs b k)) i s

  pub part_more : (after : ℕ → Cell) → (is_in parts part w ≡ false → (b : ℕ) → after b ≡ cells b) →
      (is_in parts part w ≡ true → Finds (cells (wanted_block w)) w r) →
      (is_in parts part w ≡ true → IsAfter (cells (wanted_block w)) effect r (after (wanted_block w))) →
      ((b : ℕ) → b ≢ wanted_block w → after b ≡ cells b) →
      IsPartReplayed image N parts part rs (suc k) after
  part_more after away finds done others = record {
    good = λ b m. block_more image b (block_of_state (flat_start image N) b) (core_at (flat_start image N)) rs k r e (p.good b m) (λ i. legal b m (i ∙ block_is image X r effect is) (tested (is_access w)));
    stands = λ b l m. subst (Stands (after b)) (sym (block_next image b (block_of_state (flat_start image N) b) (core_at (flat_start image N)) rs k r e)) (later b l m (tested (is_access w)) (pick b (wanted_block w)));
  }
    where
      legal : (b : ℕ) → b % parts ≡ part → b ≡ wanted_block w → ((is_access w ≡ true) ⊎ (is_access w ≡ false)) → BlockLegal image (block_now image N rs b k) (record { found = bare X; did = r })
      legal b m i (inl a) = legal_to image X r effect is b (block_now image N rs b k) (cells (wanted_block w)) (here b a i m) (finds (inside_part parts part w a (subst (λ x. x % parts ≡ part) i m)))
      legal b m i (inr a) = legal_idle image X r effect is (block_now image N rs b k) a

      stays : (b : ℕ) → b < 65536 → b % parts ≡ part → after b ≡ cells b → Stands (after b) (block_now image N rs b k)
      stays b l m s = subst (λ x. Stands x (block_now image N rs b k)) (sym s) (p.stands b l m)

      later : (b : ℕ) → b < 65536 → b % parts ≡ part → ((is_access w ≡ true) ⊎ (is_access w ≡ false)) → ((b ≡ wanted_block w) ⊎ (b ≢ wanted_block w)) →
          Stands (after b) (block_step image b (block_now image N rs b k) (record { found = bare X; did = r }))
      later b l m (inl a) (inl i) =
          subst (λ x. Stands (after x) (block_step image b (block_now image N rs b k) (record { found = bare X; did = r }))) (sym i)
          (stands_after image X r effect is fits.1 b (block_now image N rs b k) (cells (wanted_block w)) (here b a i m) i (after (wanted_block w)) (done (inside_part parts part w a (subst (λ x. x % parts ≡ part) i m))))
      later b l m (inl a) (inr n) = stands_elsewhere image X r effect is fits.1 b (block_now image N rs b k) (after b) (stays b l m (others b n)) n
      later b l m (inr a) i = stands_idle image X r effect is fits.1 b (block_now image N rs b k) (after b) (stays b l m (away (idle_part parts part w a) b)) a

  pub part_stops : (limit : ℕ) → k < limit → is_in parts part w ≡ true → (Finds (cells (wanted_block w)) w r → ⊥) →
      Passes (PartPasses image N parts part rs) limit k
  part_stops limit l i lost =
      let h = in_part parts part w i in
      let b = wanted_block w in
      record {
        within = omega (arith, l);
        good = p.good;
        bad = λ q g. lost (legal_from image X r effect is b (block_now image N rs b k) (cells b) (here b h.0 refl h.1)
            (block_last image b (block_of_state (flat_start image N) b) (core_at (flat_start image N)) rs k r e (g b h.1) (sym (block_is image X r effect is))));
      }

pub part_all : (image : ImageData) (N parts part : ℕ) (rs : List Record) (k : ℕ) (cells : ℕ → Cell) → IsPartReplayed image N parts part rs k cells →
    (limit : ℕ) → k ≡ limit → Passes (PartPasses image N parts part rs) limit limit
part_all image N parts part rs k cells p limit e = record { within = omega arith; good = subst (PartPasses image N parts part rs) e p.good; bad = λ q g. absurd (omega (arith, q)) }

-- a record by its tag: where that is of an access to a block of the part, the access is replayed, and else nothing is done
module _ (image : ImageData) (N parts part : ℕ) (rs : List Record) (k : ℕ) (r : Record) (e : slice_get rs k ≡ Some r) where
  abbrev Y : CoreState
  Y = core_after image r.core (core_at (flat_start image N) r.core) (take k rs)

  abbrev did : EffectData
  did = effect_of image Y r

  does_fit : IsFitting did r
  does_fit = (want_inside image Y, write_fits image Y r.seen r.sc_done r.read)

  module _
      (old new : Cells) (p : IsPartReplayed image N parts part rs k (cell_at image old)) (tag : ℕ) (is : tag ≡ tag_by parts did.want) (found : Bool)
      (away : tag ≢ suc part → (found ≡ true) × ((b : ℕ) → cell_at image new b ≡ cell_at image old b))
      (mine : tag ≡ suc part → is_access did.want ≡ true → IsReplay image old did r found new) where
    of_part : is_in parts part did.want ≡ true → IsReplay image old did r found new
    of_part i = mine (is ∙ tag_in parts part did.want i) (in_part parts part did.want i).0

    of_none : is_in parts part did.want ≡ false → (found ≡ true) × ((b : ℕ) → cell_at image new b ≡ cell_at image old b)
    of_none i = away (λ t. tag_out parts part did.want i (sym is ∙ t))

    pub tagged_more : found ≡ true → IsPartReplayed image N parts part rs (k + 1) (cell_at image new)
    tagged_more t =
        let f : suc k ≡ k + 1 = omega arith in
        subst (λ j. IsPartReplayed image N parts part rs j (cell_at image new)) f
        (part_more image N parts part rs k (cell_at image old) p r e did refl does_fit (cell_at image new)
        (λ i. (of_none i).1) (λ i. (of_part i).finds.0 t) (λ i. (of_part i).after t) (λ b n. others b n (tested (is_in parts part did.want))))
      where
        others : (b : ℕ) → b ≢ wanted_block did.want → ((is_in parts part did.want ≡ true) ⊎ (is_in parts part did.want ≡ false)) → cell_at image new b ≡ cell_at image old b
        others b n (inl i) = (of_part i).others b n
        others b n (inr i) = (of_none i).1 b

    pub tagged_stops : (limit : ℕ) → k < limit → found ≡ false → Passes (PartPasses image N parts part rs) limit k
    tagged_stops limit l f = go (tested (is_in parts part did.want))
      where
        refused : found ≡ true → ⊥
        refused t = let x : false ≡ true = sym f ∙ t in absurd (cc)

        go : ((is_in parts part did.want ≡ true) ⊎ (is_in parts part did.want ≡ false)) → Passes (PartPasses image N parts part rs) limit k
        go (inl i) = part_stops image N parts part rs k (cell_at image old) p r e did refl does_fit limit l i (λ g. refused ((of_part i).finds.1 g))
        go (inr i) = absurd (refused (of_none i).0)
