-- A node's next instruction may retire in the sorted list, where its line serves it.
use Rattle.std.proofs.Common.{◌≡◌, ◌≢◌, ℕ, ◌-◌, ◌*◌, ◌/◌, ◌%◌, ◌<◌, ◌≤◌, Bool, true, false, ◌||◌, List, length, refl, sym, ap, ◌∙◌, ◌⊎◌}
use Rattle.std.proofs.Common.{inl, inr, arith}
use Rattle.std.proofs.lemmas.Bool.Decides.{nat_tests}
use Rattle.std.proofs.lemmas.Bool.{cases_lt}
use Rattle.std.proofs.lemmas.List.{get_or_past}
use Rattle.sn_base.specs.Blocks.{ram_start}
use Rattle.sn_base.specs.Image.{ImageData}
use Rattle.rv_core.specs.Core.{block_of, is_reserved}
use Rattle.sn_model.specs.Fabric.{node_at}
use Rattle.sn_model.specs.Machine.{State, processor_at, first_processor}
use Rattle.sn_model.specs.Instructions.{found_at}
use Rattle.sn_coherence.specs.Records.{Records}
use Rattle.sn_consistency.specs.Words.{kind, block, place, kind_of, address_of, reads, writes, block_word}
use Rattle.sn_consistency.specs.Entries.{Entry, Fits, is_writer, touches}
use Rattle.sn_consistency.specs.Outline.{Retires}
use Rattle.consistent_cuts.specs.Outlines.{outline_of, interval_of, IsRestShaped, Agrees}
use Rattle.consistent_cuts.specs.Accesses.{entry_of, IsReadable, IsWritable, MayRetire}
use Rattle.consistent_cuts.proofs.Finds.{unseen_by, done_sc_by, done_by, byte_by, takes_by, read_by, written_by, word_by, wanted, kind_is}
use Rattle.consistent_cuts.proofs.Finds.{block_is, place_is}

-- a node's interval
pub interval_is : (s : State) (n : ℕ) → n < length s.fabric.nodes → interval_of s.fabric n ≡ (node_at s.fabric n).now
interval_is s n l = grind (arith, nat_tests)

-- what is no node's has no reservation
none_past : (s : State) (m b : ℕ) → length s.processors ≤ m → is_reserved (processor_at s m).core.reservation b ≡ false
none_past s m b l = ap (λ p. is_reserved p.core.reservation b) (get_or_past s.processors m (first_processor 0 0) l)

module _ (image : ImageData) (s : State) (r : ℕ → Records) (n : ℕ) (shape : IsRestShaped s) (agrees : Agrees s r) (may : MayRetire image s r n) where
  abbrev done : Bool
  done = (found_at image s n).sc_done

  abbrev at : ℕ
  at = block_of (address_of (wanted image s n))

  pub touched : touches image (entry_of image s n) ≡ (reads (kind_of (wanted image s n)) || writes (kind_of (wanted image s n)) done)
  touched = ap (λ k. reads k || writes k done) (kind_is image s n)

  pub written : is_writer image (entry_of image s n) ≡ writes (kind_of (wanted image s n)) done
  written = ap (λ k. writes k done) (kind_is image s n)

  pub read_there : touches image (entry_of image s n) ≡ true → IsReadable s.fabric r n at
  read_there e = read_by s r n (wanted image s n) done may.served (sym touched ∙ e)

  pub written_there : is_writer image (entry_of image s n) ≡ true → IsWritable s.fabric r n at
  written_there e = written_by s r n (wanted image s n) done may.served (sym written ∙ e)

  fits : Fits image (length s.fabric.nodes) (entry_of image s n)
  fits = record {
    within = may.node;
    running = may.running;
    unseen = λ e. unseen_by s r n (wanted image s n) (sym (ap reads (kind_is image s n)) ∙ e);
    done_sc = λ e. rw (kind_is image s n) (done_sc_by s r n (wanted image s n) e);
    byte = rw (kind_is image s n) (byte_by s r n (wanted image s n) done may.served);
  }

  seen : reads (kind image (entry_of image s n).found) ≡ true →
      (found_at image s n).seen ≡ block_word (r (block image (entry_of image s n).found)).value (place image (entry_of image s n).found)
  seen e =
      let q : reads (kind_of (wanted image s n)) ≡ true = sym (ap reads (kind_is image s n)) ∙ e in
      rw (block_is image s n, place_is image s n)
      (word_by s r n (wanted image s n) q
      ∙ ap (λ v. block_word v ((address_of (wanted image s n) - ram_start) % 64 / 4 * 4))
      (read_by s r n (wanted image s n) done may.served (grind arith)).content)

  lost : is_writer image (entry_of image s n) ≡ true → (m : ℕ) → m ≢ n → is_reserved (processor_at s m).core.reservation at ≡ false
  lost e m other = go (cases_lt m (length s.fabric.nodes))
    where
      go : (m < length s.fabric.nodes) ⊎ (length s.fabric.nodes ≤ m) → is_reserved (processor_at s m).core.reservation at ≡ false
      go (inl l) = sym (agrees.reserved at m (written_there e).read.below l) ∙ (written_there e).unreserved m l other
      go (inr l) = none_past s m at (omega (arith, shape.processors))

  pub retires : (list : ℕ → List Entry) → Retires image (length s.fabric.nodes) (outline_of s r list) (entry_of image s n)
  retires list = record {
    fits = fits;
    same = refl;
    seen = seen;
    done = λ e. rw (block_is image s n) (done_by s r n (wanted image s n) e);
    newest = λ e. rw (block_is image s n, interval_is s n may.node) (omega (arith, (read_there e).newest));
    alone = λ e m. rw (block_is image s n, interval_is s n may.node) (omega (arith, (written_there e).alone m));
    lost = λ e m other. rw (block_is image s n) (lost e m other);
    input = takes_by s r n (wanted image s n) done may.served;
  }
