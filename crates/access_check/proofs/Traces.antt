-- The accesses of an execution are legal.
use Rattle.std.proofs.Common.{◌≡◌, ℕ, ◌-◌, ◌*◌, ◌/◌, ◌%◌, Bool, true, false, List, [], ◌∷◌, ◌++◌}
use Rattle.std.proofs.Common.{Option, Some, None, is_some, option_to_list, IfSome, refl, sym, ap, ◌∙◌, arith}
use Rattle.std.proofs.lemmas.Bool.Decides.{nat_tests}
use Rattle.std.proofs.lemmas.Option.{IfSome_then}
use Rattle.byteorder.specs.Endian.{little_bytes}
use Rattle.sn_base.specs.Blocks.{ram_start, bytes_of, stored_in}
use Rattle.sn_base.specs.Image.{ImageData}
use Rattle.sn_base.specs.declared.block.Width.{Width}
use Rattle.sn_base.specs.declared.block.Width.TheVariants.{Byte, Half, Word}
use Rattle.sn_base.specs.declared.block.Write.{Write}
use Rattle.rv_core.specs.declared.state.CoreState.{CoreState}
use Rattle.rv_core.specs.declared.step.Record.{Record}
use Rattle.rv_core.specs.declared.step.Want.{Want}
use Rattle.rv_core.specs.declared.step.Want.TheVariants as wants
use Rattle.rv_core.specs.Core.{bare, block_of, is_reserved}
use Rattle.rv_core.specs.Step.{want_of}
use Rattle.sn_consistency.specs.Words.{Content, kind, kind_of, block, place, address_of, next, content_after, write_block, block_word}
use Rattle.sn_consistency.specs.Words.{reads, writes, is_lr as wants_lr, is_sc as wants_sc}
use Rattle.sn_consistency.specs.Laws.{own_reservation, WriteFits}
use Rattle.sn_consistency.specs.Entries.{Entry}
use Rattle.sn_consistency.specs.Projections.{Replays, core_step, CoreGood, entries, BlockState, block_step, BlockLegal, BlockGood}
use Rattle.sn_consistency.proofs.CoreLaws.{next_reservation, write_fits}
use Rattle.sn_consistency.proofs.StepLaws.{kind_bare, block_bare, place_bare, written_bare}
use Rattle.access_check.specs.declared.access.Access.{Access}
use Rattle.access_check.specs.Accesses.{seen_by, written_by, write_of, is_lr, is_done}
use Rattle.access_check.specs.Legal.{MemoryState, IsLegal, AreLegal, memory_after, reserved_after, part_of}
use Rattle.access_check.specs.Executions.{low_of, access_by, access_of, accesses_from, load_width, next_instruction, written_if}

-- the low bytes of a value are those of its low part
low_bytes : (width : Width) (value : ℕ) → little_bytes (bytes_of width) (low_of width value) ≡ little_bytes (bytes_of width) value
low_bytes Byte value = grind arith
low_bytes Half value = grind arith
low_bytes Word value = grind arith

-- so a write of that part leaves the same
low_write : (w : Write) (address : ℕ) (x : Content) → w.address ≡ address →
    write_block (Some (record { address = address; width = w.width; value = low_of w.width w.value })) x ≡ write_block (Some w) x
low_write w address x e =
    ap (λ bytes. stored_in x ((address - ram_start) % 64) bytes) (low_bytes w.width w.value)
    ∙ ap (λ a. stored_in x ((a - ram_start) % 64) (little_bytes (bytes_of w.width) w.value)) (sym e)

-- an access is what its instruction wants and writes
record Mirrors (w : Want) (o : Option Write) (n word : ℕ) (did : Bool) (a : Access) : Type 0 where
  core : a.core ≡ n
  address : a.address ≡ address_of w
  lr : is_lr a.operation ≡ wants_lr (kind_of w)
  reserved : (old : Option ℕ) → reserved_after old a ≡ own_reservation w old
  done : is_done a.operation ≡ true → (wants_sc (kind_of w) ≡ true) × (did ≡ true)
  wrote : is_some (written_by a.operation) ≡ writes (kind_of w) did
  same : writes (kind_of w) did ≡ true → (x : Content) → write_block (write_of a) x ≡ write_block o x
  seen : IfSome (seen_by a.operation) (λ value. (reads (kind_of w) ≡ true) × (value ≡ part_of word a.address a.width))

-- an instruction that is no access leaves memory and reservations
record Rests (w : Want) (done : Bool) : Type 0 where
  lr : wants_lr (kind_of w) ≡ false
  reserved : (old : Option ℕ) → own_reservation w old ≡ old
  wrote : writes (kind_of w) done ≡ false

abbrev Comes : Want → Option Write → ℕ → ℕ → Bool → Option Access → Type 0
Comes w write core seen done None = Rests w done
Comes w write core seen done (Some a) = Mirrors w write core seen done a

comes : (w : Want) (width : Width) (o t : Option Write) (core seen : ℕ) (done : Bool) →
    WriteFits (address_of w) (writes (kind_of w) done) o → WriteFits (address_of w) (writes (kind_of w) true) t →
    (done ≡ true → o ≡ t) → Comes w o core seen done (access_by w width o t core seen done)
unfolding kind_of address_of
comes wants.Nothing width o t core seen done f g e = record { lr = refl; reserved = λ old. refl; wrote = refl }
comes wants.Input width o t core seen done f g e = record { lr = refl; reserved = λ old. refl; wrote = refl }
comes (wants.Load a) width o t core seen done f g e = record {
  core = refl;
  address = refl;
  lr = refl;
  reserved = λ old. refl;
  done = λ h. absurd (cc);
  wrote = refl;
  same = λ h x. absurd (cc);
  seen = (refl, refl);
}
comes (wants.Lr a) width o t core seen done f g e = record {
  core = refl;
  address = refl;
  lr = refl;
  reserved = λ old. refl;
  done = λ h. absurd (cc);
  wrote = refl;
  same = λ h x. absurd (cc);
  seen = (refl, refl);
}
comes (wants.Store a) width None t core seen done f g e = absurd (cc)
comes (wants.Store a) width (Some w) t core seen done f g e = record {
  core = refl;
  address = refl;
  lr = refl;
  reserved = λ old. refl;
  done = λ h. absurd (cc);
  wrote = refl;
  same = λ h x. low_write w a x f.1;
  seen = tt;
}
comes (wants.Amo a) width None t core seen done f g e = absurd (cc)
comes (wants.Amo a) width (Some w) t core seen done f g e = record {
  core = refl;
  address = refl;
  lr = refl;
  reserved = λ old. refl;
  done = λ h. absurd (cc);
  wrote = refl;
  same = λ h x. low_write w a x f.1;
  seen = (refl, refl);
}
comes (wants.Sc a) width o None core seen done f g e = absurd (cc)
comes (wants.Sc a) width o (Some w) core seen true f g e = record {
  core = refl;
  address = refl;
  lr = refl;
  reserved = λ old. refl;
  done = λ h. (refl, refl);
  wrote = refl;
  same = λ h x. low_write w a x g.1 ∙ sym (ap (λ y. write_block y x) (e refl));
  seen = tt;
}
comes (wants.Sc a) width o (Some w) core seen false f g e = record {
  core = refl;
  address = refl;
  lr = refl;
  reserved = λ old. refl;
  done = λ h. absurd (cc);
  wrote = refl;
  same = λ h x. absurd (cc);
  seen = tt;
}

-- memory has the blocks and the cores' own reservations
pub record Tied (m : MemoryState) (c : ℕ → CoreState) (v : ℕ → BlockState) : Type 0 where
  pub content : (b : ℕ) → (m.blocks b).content ≡ (v b).content
  pub intact : (b n : ℕ) → (m.blocks b).intact n ≡ (v b).intact n
  pub reserved : (n : ℕ) → m.reserved n ≡ (c n).reservation

abbrev entry : (ℕ → CoreState) → Record → Entry
entry c r = record { found = bare (c r.core); did = r }

abbrev after : ImageData → (ℕ → CoreState) → Record → ℕ → CoreState
after image c r n = core_step image n (c n) r

abbrev blocks_after : ImageData → (ℕ → CoreState) → (ℕ → BlockState) → Record → ℕ → BlockState
blocks_after image c v r b = block_step image b (v b) (entry c r)

module _ (image : ImageData) (m : MemoryState) (c : ℕ → CoreState) (v : ℕ → BlockState) (t : Tied m c v) (r : Record) where
  -- what the record's instruction wants and writes
  abbrev want : Want
  want = want_of image (c r.core)

  wrote_is : writes (kind image (bare (c r.core))) r.sc_done ≡ writes (kind_of want) r.sc_done
  unfolding kind
  wrote_is = ap (λ k. writes k r.sc_done) (kind_bare image (c r.core))

  lr_is : wants_lr (kind image (bare (c r.core))) ≡ wants_lr (kind_of want)
  unfolding kind
  lr_is = ap wants_lr (kind_bare image (c r.core))

  sc_is : wants_sc (kind image (bare (c r.core))) ≡ wants_sc (kind_of want)
  unfolding kind
  sc_is = ap wants_sc (kind_bare image (c r.core))

  reads_is : reads (kind image (bare (c r.core))) ≡ reads (kind_of want)
  unfolding kind
  reads_is = ap reads (kind_bare image (c r.core))

  block_is : block image (bare (c r.core)) ≡ block_of (address_of want)
  unfolding block
  block_is = block_bare image (c r.core)

  place_is : place image (bare (c r.core)) ≡ (address_of want - ram_start) % 64 / 4 * 4
  unfolding place
  place_is = place_bare image (c r.core)

  content_is : (x : Content) → content_after image (bare (c r.core)) r x ≡ write_block (written_if image (c r.core) r r.sc_done) x
  unfolding content_after
  content_is x = written_bare image (c r.core) r x

  reserved_is : (next image (c r.core) r).reservation ≡ own_reservation want (c r.core).reservation
  unfolding next
  reserved_is = next_reservation image (c r.core) r.seen r.sc_done r.read

  comes_here : Comes want (written_if image (c r.core) r r.sc_done) r.core r.seen r.sc_done (access_of image (c r.core) r)
  comes_here =
      comes want (load_width (next_instruction image (c r.core))) (written_if image (c r.core) r r.sc_done)
      (written_if image (c r.core) r true) r.core r.seen r.sc_done
      (write_fits image (c r.core) r.seen r.sc_done r.read) (write_fits image (c r.core) r.seen true r.read)
      (λ d. ap (written_if image (c r.core) r) d)

  module _ (h : Rests want r.sc_done) where
    rests_content : (b : ℕ) → (m.blocks b).content ≡ (blocks_after image c v r b).content
    rests_content b = let e = t.content b in let w = wrote_is in let q = h.wrote in grind (arith, nat_tests)

    rests_intact : (b n : ℕ) → (m.blocks b).intact n ≡ (blocks_after image c v r b).intact n
    rests_intact b n =
        let e = t.intact b n in let w = wrote_is in let q = h.wrote in let l = lr_is in let k = h.lr in
        grind (arith, nat_tests)

    rests_reserved : (n : ℕ) → m.reserved n ≡ (after image c r n).reservation
    rests_reserved n = let e = t.reserved n in let f = reserved_is in let g = h.reserved (c r.core).reservation in grind (arith, nat_tests)

    rests_tied : Tied m (after image c r) (blocks_after image c v r)
    rests_tied = record { content = rests_content; intact = rests_intact; reserved = rests_reserved }

  module _ (a : Access) (h : Mirrors want (written_if image (c r.core) r r.sc_done) r.core r.seen r.sc_done a) where
    same_block : block_of a.address ≡ block image (bare (c r.core))
    same_block = ap block_of h.address ∙ sym block_is

    mirrors_content : (b : ℕ) → ((memory_after m a).blocks b).content ≡ (blocks_after image c v r b).content
    mirrors_content b =
        let e = t.content b in let w = wrote_is in let q = h.wrote in let s = same_block in
        let f = λ (d : writes (kind_of want) r.sc_done ≡ true). h.same d (m.blocks b).content ∙ sym (content_is (m.blocks b).content) in
        grind (arith, nat_tests)

    mirrors_intact : (b n : ℕ) → ((memory_after m a).blocks b).intact n ≡ (blocks_after image c v r b).intact n
    mirrors_intact b n =
        let e = t.intact b n in let w = wrote_is in let q = h.wrote in let l = lr_is in let k = h.lr in let s = same_block in let o = h.core in
        grind (arith, nat_tests)

    mirrors_reserved : (n : ℕ) → (memory_after m a).reserved n ≡ (after image c r n).reservation
    mirrors_reserved n =
        let e = t.reserved n in let f = reserved_is in let g = h.reserved (m.reserved n) in let o = h.core in
        grind (arith, nat_tests)

    mirrors_tied : Tied (memory_after m a) (after image c r) (blocks_after image c v r)
    mirrors_tied = record { content = mirrors_content; intact = mirrors_intact; reserved = mirrors_reserved }

    word_is : block_word (v (block image (bare (c r.core)))).content (place image (bare (c r.core)))
        ≡ block_word (m.blocks (block_of a.address)).content ((a.address - ram_start) % 64 / 4 * 4)
    word_is =
        ap (λ b. block_word (v b).content (place image (bare (c r.core)))) (sym same_block)
        ∙ ap (λ x. block_word x (place image (bare (c r.core)))) (sym (t.content (block_of a.address)))
        ∙ ap (block_word (m.blocks (block_of a.address)).content) (place_is ∙ ap (λ x. (x - ram_start) % 64 / 4 * 4) (sym h.address))

    is_legal : (N : ℕ) → Replays image N (c r.core) r → BlockLegal image (v (block image (bare (c r.core)))) (entry c r) → IsLegal m a
    is_legal N k l = record {
      seen = IfSome_then (seen_by a.operation) h.seen
          (λ value p. p.1 ∙ ap (λ word. part_of word a.address a.width) (l.seen (reads_is ∙ p.0) ∙ word_is));
      reserved = λ d.
          ap (λ n. is_reserved (m.reserved n) (block_of a.address)) h.core
          ∙ ap (λ o. is_reserved o (block_of a.address)) (t.reserved r.core)
          ∙ ap (is_reserved (c r.core).reservation) (same_block ∙ block_bare image (c r.core))
          ∙ k.done_reserved (h.done d).1;
      intact = λ d.
          ap (m.blocks (block_of a.address)).intact h.core ∙ t.intact (block_of a.address) r.core
          ∙ ap (λ b. (v b).intact r.core) same_block ∙ l.done (sc_is ∙ (h.done d).0) (h.done d).1;
    }

module _ (image : ImageData) (N : ℕ) where
  pub legal_from : (m : MemoryState) (c : ℕ → CoreState) (v : ℕ → BlockState) → Tied m c v → (rs : List Record) →
      ((n : ℕ) → CoreGood image N n (c n) rs) → ((b : ℕ) → BlockGood image b (v b) (entries image c rs)) →
      AreLegal m (accesses_from image c rs)
  legal_from m c v t [] p q = tt
  legal_from m c v t (r ∷ rs) p q =
      go (access_of image (c r.core) r) (comes_here image m c v t r)
      (λ x s. legal_from x (after image c r) (blocks_after image c v r) s rs (λ n. (p n).1) (λ b. (q b).1))
    where
      go : (o : Option Access) → Comes (want_of image (c r.core)) (written_if image (c r.core) r r.sc_done) r.core r.seen r.sc_done o →
          ((x : MemoryState) → Tied x (after image c r) (blocks_after image c v r) → AreLegal x (accesses_from image (after image c r) rs)) →
          AreLegal m (option_to_list o ++ accesses_from image (after image c r) rs)
      go None h i = i m (rests_tied image m c v t r h)
      go (Some a) h i = (
        is_legal image m c v t r a h N ((p r.core).0 refl) ((q (block image (bare (c r.core)))).0 refl),
        i (memory_after m a) (mirrors_tied image m c v t r a h),
      )
