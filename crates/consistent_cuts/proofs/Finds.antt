-- A node's next instruction, by what it wants: what it finds, and that it may retire in the sorted list.
use Rattle.std.proofs.Common.{◌≡◌, ℕ, suc, ◌+◌, ◌-◌, ◌*◌, ◌/◌, ◌%◌, ◌<◌, ◌≤◌, Bool, true, false, ◌||◌, List, [], ◌∷◌, ◌++◌, length, drop}
use Rattle.std.proofs.Common.{Option, Some, is_some, option_to_list, slice_index, refl, ap, arith, drop-cons}
use Rattle.std.proofs.lemmas.Bool.Decides.{nat_tests}
use Rattle.sn_base.specs.Blocks.{ram_start}
use Rattle.sn_base.specs.Image.{ImageData}
use Rattle.rv_core.specs.declared.step.Want.{Want}
use Rattle.rv_core.specs.declared.step.Want.TheVariants.{Nothing, Load, Store, Amo, Lr, Sc, Input}
use Rattle.rv_core.specs.Core.{block_of, is_reserved}
use Rattle.rv_core.specs.Step.{want_of}
use Rattle.rv_core.proofs.CoreLaws.{want_bare}
use Rattle.sn_model.specs.Fabric.{line_of_node}
use Rattle.sn_model.specs.Machine.{State, processor_at}
use Rattle.sn_model.specs.Instructions.{found_by, taken_by, next_byte}
use Rattle.sn_coherence.specs.Records.{Records}
use Rattle.sn_consistency.specs.Words.{kind, block, place, kind_of, address_of, reads, writes, is_sc, takes, block_word}
use Rattle.consistent_cuts.specs.Accesses.{entry_of, IsReadable, IsWritable, IsServed}

-- by what is wanted

module _ (s : State) (r : ℕ → Records) (n : ℕ) where
  pub unseen_by : (w : Want) → reads (kind_of w) ≡ false → (found_by s n w).seen ≡ 0
  unfolding kind_of
  unseen_by Nothing e = refl
  unseen_by (Load a) e = cc
  unseen_by (Store a) e = refl
  unseen_by (Amo a) e = cc
  unseen_by (Lr a) e = cc
  unseen_by (Sc a) e = refl
  unseen_by Input e = refl

  pub done_sc_by : (w : Want) → (found_by s n w).sc_done ≡ true → is_sc (kind_of w) ≡ true
  unfolding kind_of
  done_sc_by Nothing e = cc
  done_sc_by (Load a) e = cc
  done_sc_by (Store a) e = cc
  done_sc_by (Amo a) e = cc
  done_sc_by (Lr a) e = cc
  done_sc_by (Sc a) e = refl
  done_sc_by Input e = cc

  pub done_by : (w : Want) → (found_by s n w).sc_done ≡ true →
      is_reserved (processor_at s n).core.reservation (block_of (address_of w)) ≡ true
  unfolding address_of
  done_by Nothing e = cc
  done_by (Load a) e = cc
  done_by (Store a) e = cc
  done_by (Amo a) e = cc
  done_by (Lr a) e = cc
  done_by (Sc a) e = e
  done_by Input e = cc

  next_is : taken_by s n < length (processor_at s n).given → next_byte s n ≡ Some (slice_index (processor_at s n).given (taken_by s n))
  next_is l = grind (arith, nat_tests)

  pub byte_by : (w : Want) (done : Bool) → IsServed w done s r n → is_some (found_by s n w).read ≡ takes (kind_of w)
  unfolding kind_of
  byte_by Nothing done h = refl
  byte_by (Load a) done h = refl
  byte_by (Store a) done h = refl
  byte_by (Amo a) done h = refl
  byte_by (Lr a) done h = refl
  byte_by (Sc a) done h = refl
  byte_by Input done h = ap is_some (next_is h)

  abbrev pub Takes : Option ℕ → Type 0
  Takes read =
      drop (taken_by s n) (processor_at s n).given ≡ option_to_list read
      ++ drop (length (option_to_list read)) (drop (taken_by s n) (processor_at s n).given)

  head_of : (xs ys : List ℕ) (x : ℕ) → xs ≡ x ∷ ys → xs ≡ (x ∷ []) ++ drop 1 xs
  head_of xs ys x e = rw e refl

  pub takes_by : (w : Want) (done : Bool) → IsServed w done s r n → Takes (found_by s n w).read
  takes_by Nothing done h = refl
  takes_by (Load a) done h = refl
  takes_by (Store a) done h = refl
  takes_by (Amo a) done h = refl
  takes_by (Lr a) done h = refl
  takes_by (Sc a) done h = refl
  takes_by Input done h =
      rw (next_is h) (head_of (drop (taken_by s n) (processor_at s n).given) (drop (suc (taken_by s n)) (processor_at s n).given)
      (slice_index (processor_at s n).given (taken_by s n)) (drop-cons (processor_at s n).given (taken_by s n) 0 h))

  -- it takes no more than was given
  pub taken_within : (w : Want) (done : Bool) → IsServed w done s r n → taken_by s n ≤ length (processor_at s n).given →
      taken_by s n + length (option_to_list (found_by s n w).read) ≤ length (processor_at s n).given
  taken_within Nothing done h l = omega arith
  taken_within (Load a) done h l = omega arith
  taken_within (Store a) done h l = omega arith
  taken_within (Amo a) done h l = omega arith
  taken_within (Lr a) done h l = omega arith
  taken_within (Sc a) done h l = omega arith
  taken_within Input done h l = rw (next_is h) (omega arith)

  pub read_by : (w : Want) (done : Bool) → IsServed w done s r n → (reads (kind_of w) || writes (kind_of w) done) ≡ true →
      IsReadable s.fabric r n (block_of (address_of w))
  unfolding kind_of address_of
  read_by Nothing done h e = cc
  read_by (Load a) done h e = h
  read_by (Store a) done h e = h.read
  read_by (Amo a) done h e = h.read
  read_by (Lr a) done h e = h
  read_by (Sc a) true h e = h.read
  read_by (Sc a) false h e = cc
  read_by Input done h e = cc

  pub written_by : (w : Want) (done : Bool) → IsServed w done s r n → writes (kind_of w) done ≡ true →
      IsWritable s.fabric r n (block_of (address_of w))
  unfolding kind_of address_of
  written_by Nothing done h e = cc
  written_by (Load a) done h e = cc
  written_by (Store a) done h e = h
  written_by (Amo a) done h e = h
  written_by (Lr a) done h e = cc
  written_by (Sc a) true h e = h
  written_by (Sc a) false h e = cc
  written_by Input done h e = cc

  -- the word seen is that of the line
  pub word_by : (w : Want) → reads (kind_of w) ≡ true →
      (found_by s n w).seen ≡ block_word (line_of_node s.fabric n (block_of (address_of w))).content ((address_of w - ram_start) % 64 / 4 * 4)
  unfolding kind_of address_of block_word
  word_by Nothing e = cc
  word_by (Load a) e = refl
  word_by (Store a) e = cc
  word_by (Amo a) e = refl
  word_by (Lr a) e = refl
  word_by (Sc a) e = cc
  word_by Input e = cc

-- the entry's words are those of the want

module _ (image : ImageData) (s : State) (n : ℕ) where
  abbrev pub wanted : Want
  wanted = want_of image (processor_at s n).core

  pub kind_is : kind image (entry_of image s n).found ≡ kind_of wanted
  unfolding kind
  kind_is = ap kind_of (want_bare image (processor_at s n).core)

  pub block_is : block image (entry_of image s n).found ≡ block_of (address_of wanted)
  unfolding block
  block_is = ap (λ w. block_of (address_of w)) (want_bare image (processor_at s n).core)

  pub place_is : place image (entry_of image s n).found ≡ (address_of wanted - ram_start) % 64 / 4 * 4
  unfolding place
  place_is = rw (want_bare image (processor_at s n).core) refl
