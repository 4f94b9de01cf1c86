-- The outline of the machine after a retirement is the outline of the machine before it, retired.
use Rattle.std.proofs.Common.{◌≡◌, ℕ, ◌+◌, ◌-◌, ◌<◌, ◌≤◌, Bool, true, false, ◌&&◌, ◌==◌, List, [], length, drop, option_to_list}
use Rattle.std.proofs.Common.{if◌then◌else◌, nat_eq, nat_lt, refl, sym, ap, ◌∙◌, arith, subst, length-set}
use Rattle.std.proofs.lemmas.Bool.Decides.{nat_tests}
use Rattle.std.proofs.lemmas.List.{get_or_default}
use Rattle.sn_base.specs.Image.{ImageData}
use Rattle.rv_core.specs.declared.state.CoreState.{CoreState}
use Rattle.rv_core.specs.Core.{bare, block_of, is_reserved}
use Rattle.sn_model.specs.Fabric.{node_at}
use Rattle.sn_model.specs.Machine.{State, processor_at}
use Rattle.sn_model.specs.MachineEvents.{checkpoint_of}
use Rattle.sn_model.specs.Caches.{block_count}
use Rattle.sn_model.specs.Instructions.{found_at, taken_by}
use Rattle.sn_coherence.specs.Records.{Records}
use Rattle.sn_consistency.specs.Words.{Content, next, content_after, kind_of, address_of, writes, write_block}
use Rattle.sn_consistency.specs.Entries.{Entry, Places, own}
use Rattle.sn_consistency.specs.Sorted.{retire}
use Rattle.sn_consistency.specs.Outline.{Outline, IsSameOutline, Keeps, outline_after_retirement}
use Rattle.sn_consistency.proofs.StepLaws.{kind_bare, block_bare, after_bare, written_bare, next_held}
use Rattle.sn_consistency.proofs.Outline.{retired_keeps, same_keeps}
use Rattle.sn_consistency.proofs.Others.{exchanged_keeps}
use Rattle.consistent_cuts.specs.Outlines.{outline_of, interval_of, IsRestShaped, Agrees}
use Rattle.consistent_cuts.specs.Accesses.{entry_of, write_of, content_left, records_after, MayRetire}
use Rattle.consistent_cuts.proofs.Told.{IsToldBy, told_by}
use Rattle.consistent_cuts.proofs.Finds.{taken_within, wanted, kind_is, block_is}
use Rattle.consistent_cuts.proofs.Retires.{interval_is, written, written_there, retires}
use Rattle.consistent_cuts.proofs.Places.{same_interval, same_known, same_now, same_point, same_length, taken_after, drop_after, after}
use Rattle.consistent_cuts.proofs.Places.{next_processor, at_each_processor}

-- a block's content, where the one is what the other is there
settle : (is : Bool) (b k : ℕ) (v : Content) (g : ℕ → Content) (old : Content) → (is ≡ true → v ≡ g k) →
    (if is && (b == k) then g b else old) ≡ (if is && (b == k) then v else old)
settle is b k v g old h = grind (arith, nat_tests)

settle_late : (is late : Bool) (b k : ℕ) (v : Content) (g : ℕ → Content) (old : Content) → (is ≡ true → v ≡ g k) →
    (if (is && (b == k)) && late then g b else old) ≡ (if (is && (b == k)) && late then v else old)
settle_late is late b k v g old h = grind (arith, nat_tests)

module _ (image : ImageData) (s : State) (r : ℕ → Records) (list : ℕ → List Entry) (n : ℕ) (shape : IsRestShaped s) (agrees : Agrees s r) (may : MayRetire image s r n) where
  abbrev e : Entry
  e = entry_of image s n

  abbrev before : Outline
  before = outline_of s r list

  abbrev pub list_after : ℕ → List Entry
  list_after = retire list (node_at s.fabric n).now e

  abbrev wants : Bool
  wants = writes (kind_of (wanted image s n)) (found_at image s n).sc_done

  abbrev at : ℕ
  at = block_of (address_of (wanted image s n))

  told : IsToldBy r n (node_at s.fabric n).now (content_left image s n) (wanted image s n) (found_at image s n).sc_done
  told = told_by r n (node_at s.fabric n).now (content_left image s n) (wanted image s n) (found_at image s n).sc_done

  there : n < length s.processors
  there = omega (arith, shape.processors, may.node)

  -- the core

  next_is : bare (next image e.found e.did) ≡ bare (next_processor image s n).core
  unfolding next
  next_is = after_bare image (processor_at s n).core e.did

  held_is : (b : ℕ) → own image e b (is_reserved (processor_at s n).core.reservation b)
      ≡ is_reserved (next_processor image s n).core.reservation b
  unfolding next
  held_is b =
      rw (kind_bare image (processor_at s n).core, block_bare image (processor_at s n).core)
      (sym (next_held image (processor_at s n).core e.did b))

  core_is : (m : ℕ) → (outline_after_retirement image before e).core m ≡ bare (processor_at (after image s n) m).core
  core_is =
      at_each_processor image s n (λ m p. (outline_after_retirement image before e).core m ≡ bare p.core) there (grind (arith, nat_tests, next_is))
      (λ m o. grind (arith, nat_tests))

  reserved_is : (m b : ℕ) → (outline_after_retirement image before e).reserved m b ≡ is_reserved (processor_at (after image s n) m).core.reservation b
  reserved_is m b =
      at_each_processor image s n (λ m p. (outline_after_retirement image before e).reserved m b ≡ is_reserved p.core.reservation b) there
      (grind (arith, nat_tests, held_is b)) (λ m o. grind (arith, nat_tests)) m

  pub given_is : (m : ℕ) → (processor_at s m).given ≡ (processor_at (after image s n) m).given
  given_is = at_each_processor image s n (λ m p. (processor_at s m).given ≡ p.given) there refl (λ m o. refl)

  waiting_is : (m : ℕ) → (outline_after_retirement image before e).waiting m ≡ drop (taken_by (after image s n) m) (processor_at (after image s n) m).given
  waiting_is m = rw (← given_is m) (sym (drop_after image s n m (processor_at s m).given))

  -- the blocks

  left_is : wants ≡ true → content_left image s n at ≡ content_after image e.found e.did (r at).value
  unfolding content_after
  left_is w =
      ap (write_block (write_of image s n))
      (written_there image s r n shape agrees may (written image s r n shape agrees may ∙ w)).read.content
      ∙ sym (written_bare image (processor_at s n).core e.did (r at).value)

  value_is : (b : ℕ) → (outline_after_retirement image before e).value b ≡ (records_after image s r n b).value
  value_is b =
      rw (kind_is image s n, block_is image s n)
      (settle wants b at (content_left image s n at) (λ o. content_after image e.found e.did (r o).value) (r b).value left_is)
      ∙ sym (told.value b)

  below_is : (b j : ℕ) → (outline_after_retirement image before e).content b j ≡ (records_after image s r n b).below j
  below_is b j =
      rw (kind_is image s n, block_is image s n, interval_is s n may.node)
      (settle_late wants (nat_lt (node_at s.fabric n).now j) b at (content_left image s n at)
      (λ o. content_after image e.found e.did (r o).value) ((r b).below j) left_is) ∙ sym (told.below b j)

  last_write_is : (b : ℕ) → (outline_after_retirement image before e).last_write b ≡ (records_after image s r n b).last_write
  last_write_is b = rw (kind_is image s n, block_is image s n, interval_is s n may.node) (sym (told.last_write b))

  last_access_is : (b m : ℕ) → (outline_after_retirement image before e).last_access b m ≡ (records_after image s r n b).last_access m
  last_access_is b m = rw (kind_is image s n, block_is image s n, interval_is s n may.node) (sym (told.last_access b m))

  list_is : (x : ℕ) → (outline_after_retirement image before e).list x ≡ list_after x
  list_is x = rw (interval_is s n may.node) refl

  -- but for the register checkpoints, which stand where they count

  abbrev pub checkpoint_after : ℕ → ℕ → CoreState
  checkpoint_after = (outline_of (after image s n) (records_after image s r n) list_after).checkpoint

  pub same_outline : IsSameOutline (record (outline_after_retirement image before e) { checkpoint = checkpoint_after })
      (outline_of (after image s n) (records_after image s r n) list_after)
  same_outline = record {
    point = sym (same_point s.fabric n (write_of image s n));
    interval = λ m. sym (same_interval s.fabric n m (write_of image s n) may.node);
    known = λ m. sym (same_known s.fabric n m (write_of image s n) may.node);
    core = core_is;
    reserved = reserved_is;
    checkpoint = λ m j. refl;
    given = given_is;
    waiting = waiting_is;
    list = list_is;
    content = below_is;
    value = value_is;
    last_write = last_write_is;
    last_access = last_access_is;
  }

  -- the register checkpoints that count are those of before

  own_checkpoints : (j : ℕ) → (node_at s.fabric n).known ≤ j → j ≤ (node_at s.fabric n).now →
      checkpoint_of (next_processor image s n) (node_at s.fabric n).known j ≡ checkpoint_of (processor_at s n) (node_at s.fabric n).known j
  own_checkpoints j low high =
      get_or_default (processor_at s n).checkpoints (j - (node_at s.fabric n).known) (next_processor image s n).core (processor_at s n).core
      (omega (arith, shape.checkpoints n may.node))

  checkpoints_are : (m j : ℕ) → (node_at s.fabric m).known ≤ j → j ≤ interval_of s.fabric m → checkpoint_after m j ≡ before.checkpoint m j
  checkpoints_are m j low high =
      ap (λ k. checkpoint_of (processor_at (after image s n) m) k j) (same_known s.fabric n m (write_of image s n) may.node)
      ∙ at_each_processor image s n
      (λ m p. (node_at s.fabric m).known ≤ j → j ≤ interval_of s.fabric m →
      checkpoint_of p (node_at s.fabric m).known j ≡ checkpoint_of (processor_at s m) (node_at s.fabric m).known j)
      there (λ low high. own_checkpoints j low (subst (λ i. j ≤ i) (interval_is s n may.node) high)) (λ m o low high. refl) m low high

  -- the sorted list is kept
  pub sorted_keeps : (F : Places) → Keeps image (length s.fabric.nodes) F before →
      Keeps image (length (after image s n).fabric.nodes) F (outline_of (after image s n) (records_after image s r n) list_after)
  sorted_keeps F keeps =
      subst (λ N. Keeps image N F (outline_of (after image s n) (records_after image s r n) list_after))
      (sym (same_length s.fabric n (write_of image s n)))
      (same_keeps image (length s.fabric.nodes) F _ (outline_of (after image s n) (records_after image s r n) list_after) same_outline
      (exchanged_keeps image (length s.fabric.nodes) F (outline_after_retirement image before e)
      (retired_keeps image (length s.fabric.nodes) F before keeps e
      (retires image s r n shape agrees may list)) checkpoint_after checkpoints_are))

  -- and the rest with the records

  reserved_agrees : (b m : ℕ) → b < block_count → m < length s.fabric.nodes →
      (records_after image s r n b).reserved m ≡ is_reserved (processor_at (after image s n) m).core.reservation b
  reserved_agrees b m low l =
      told.reserved b m ∙ rw (agrees.reserved b m low l) (rw (← kind_is image s n, ← block_is image s n) (reserved_is m b))

  pub agrees_after : Agrees (after image s n) (records_after image s r n)
  agrees_after = record {
    reserved = λ b m low l. reserved_agrees b m low (rw (← same_length s.fabric n (write_of image s n)) l);
    reported = λ b m low l. told.reported b m ∙ agrees.reported b m low (rw (← same_length s.fabric n (write_of image s n)) l);
  }

  taken_here : (m : ℕ) → m < length s.fabric.nodes → (same : Bool) → nat_eq n m ≡ same →
      taken_by s m + length (if same then option_to_list (found_at image s n).read else []) ≤ length (processor_at s m).given
  taken_here m l true e =
      let i : m ≡ n = grind (arith, nat_tests) in
      subst (λ k. taken_by s k + length (option_to_list (found_at image s n).read) ≤ length (processor_at s k).given) (sym i)
      (taken_within s r n (wanted image s n) (found_at image s n).sc_done may.served (shape.taken n may.node))
  taken_here m l false e = omega (arith, shape.taken m l)

  taken_is : (m : ℕ) → m < length s.fabric.nodes → taken_by (after image s n) m ≤ length (processor_at (after image s n) m).given
  taken_is m l = rw (taken_after image s n m, ← given_is m) (taken_here m l (nat_eq n m) refl)

  pub shape_after : IsRestShaped (after image s n)
  shape_after = record {
    processors =
        length-set s.processors n (next_processor image s n) ∙ shape.processors ∙ sym (same_length s.fabric n (write_of image s n));
    reported = shape.reported ∙ sym (same_length s.fabric n (write_of image s n));
    checkpoints = λ m l. rw (same_known s.fabric n m (write_of image s n) may.node, same_now s.fabric n m (write_of image s n) may.node)
        (at_each_processor image s n
        (λ m p. m < length s.fabric.nodes → (node_at s.fabric m).known + length p.checkpoints ≡ (node_at s.fabric m).now + 1) there
        (shape.checkpoints n) (λ m o. shape.checkpoints m) m
        (rw (← same_length s.fabric n (write_of image s n)) l));
    taken = λ m l. taken_is m (rw (← same_length s.fabric n (write_of image s n)) l);
  }
