-- A record's flat step in the words of the proofs.
use Rattle.std.proofs.Common.{◌≡◌, ℕ, ◌<◌, length, Bool, true, false, cond, List, refl, sym, ◌∙◌, arith, is_some}
use Rattle.sn_base.specs.Image.{ImageData}
use Rattle.rv_core.specs.declared.state.CoreState.{CoreState}
use Rattle.rv_core.specs.declared.step.Record.{Record}
use Rattle.rv_core.specs.declared.step.Want.{Want}
use Rattle.rv_core.specs.declared.step.Want.TheVariants.{Nothing, Load, Store, Amo, Lr, Sc, Input}
use Rattle.rv_core.specs.Core.{is_running, is_input, is_reserved, holds_reservation, block_of}
use Rattle.rv_core.specs.Step.{want_of}
use Rattle.rv_core.specs.Flat.{FlatState, core_at, HasStep}
use Rattle.sn_consistency.specs.Words.{kind, kind_of, block, address_of, place, block_word, block_in, reads, is_sc, takes}
use Rattle.sn_consistency.proofs.BlockLaws.{seen_block}

-- whether r has a flat step where its core is c
pub record Allowed (image : ImageData) (N : ℕ) (memory : List ℕ) (c : CoreState) (r : Record) : Type 0 where
  pub within : r.core < N
  pub running : is_running c.end ≡ true
  pub seen : reads (kind image c) ≡ true → r.seen ≡ block_word (block_in memory (block image c)) (place image c)
  pub unseen : reads (kind image c) ≡ false → r.seen ≡ 0
  pub done_sc : r.sc_done ≡ true → is_sc (kind image c) ≡ true
  pub done_reserved : r.sc_done ≡ true → is_reserved c.reservation (block image c) ≡ true
  pub byte : is_some r.read ≡ takes (kind image c)

-- a reservation of the wanted block is there, and an SC wanted
sc_to : (w : Want) (c : CoreState) → holds_reservation c w ≡ true →
    (is_sc (kind_of w) ≡ true) × (is_reserved c.reservation (block_of (address_of w)) ≡ true)
unfolding kind_of address_of
sc_to (Sc a) c i = (refl, i)
sc_to Nothing c i = absurd (cc)
sc_to (Load a) c i = absurd (cc)
sc_to (Store a) c i = absurd (cc)
sc_to (Amo a) c i = absurd (cc)
sc_to (Lr a) c i = absurd (cc)
sc_to Input c i = absurd (cc)

sc_from : (w : Want) (c : CoreState) → is_sc (kind_of w) ≡ true →
    is_reserved c.reservation (block_of (address_of w)) ≡ true → holds_reservation c w ≡ true
unfolding kind_of address_of
sc_from (Sc a) c i j = j
sc_from Nothing c i j = i
sc_from (Load a) c i j = i
sc_from (Store a) c i j = i
sc_from (Amo a) c i j = i
sc_from (Lr a) c i j = i
sc_from Input c i j = i

input_is : (w : Want) → is_input w ≡ takes (kind_of w)
unfolding kind_of
input_is Nothing = refl
input_is (Load a) = refl
input_is (Store a) = refl
input_is (Amo a) = refl
input_is (Lr a) = refl
input_is (Sc a) = refl
input_is Input = refl

module _ (image : ImageData) (N : ℕ) (s : FlatState) (count : length s.cores ≡ N) (r : Record) where
  pub allowed : HasStep image s r → Allowed image N s.memory (core_at s r.core) r
  unfolding kind block
  allowed h =
      let seen = h.seen ∙ seen_block image (core_at s r.core) s.memory in
      let sc = λ (d : r.sc_done ≡ true). sc_to (want_of image (core_at s r.core)) (core_at s r.core) (h.done d) in
      record {
        within = omega (arith, h.within);
        running = h.running;
        seen = λ q. rw q at seen;
        unseen = λ q. rw q at seen;
        done_sc = λ d. (sc d).0;
        done_reserved = λ d. (sc d).1;
        byte = h.read ∙ input_is (want_of image (core_at s r.core));
      }

  seen_from : (q : Bool) (w : ℕ) → (q ≡ true → r.seen ≡ w) → (q ≡ false → r.seen ≡ 0) → r.seen ≡ cond q w 0
  seen_from true w a b = a refl
  seen_from false w a b = b refl

  pub has_step : Allowed image N s.memory (core_at s r.core) r → HasStep image s r
  unfolding kind block
  has_step h =
      record {
        within = omega (arith, h.within);
        running = h.running;
        seen =
            seen_from (reads (kind image (core_at s r.core)))
            (block_word (block_in s.memory (block image (core_at s r.core))) (place image (core_at s r.core))) h.seen h.unseen
            ∙ sym (seen_block image (core_at s r.core) s.memory);
        done = λ d. sc_from (want_of image (core_at s r.core)) (core_at s r.core) (h.done_sc d) (h.done_reserved d);
        read = h.byte ∙ sym (input_is (want_of image (core_at s r.core)));
      }
