-- What a core may do by itself, in the words of its projection.
use Rattle.std.proofs.Common.{◌≡◌, ℕ, ◌<◌, true, refl, sym, ◌∙◌}
use Rattle.sn_base.specs.Image.{ImageData}
use Rattle.rv_core.specs.declared.state.CoreState.{CoreState}
use Rattle.rv_core.specs.declared.step.Record.{Record}
use Rattle.rv_core.specs.declared.step.Want.{Want}
use Rattle.rv_core.specs.declared.step.Want.TheVariants.{Nothing, Load, Store, Amo, Lr, Sc, Input}
use Rattle.rv_core.specs.Core.{is_running, is_reserved, is_input, holds_reservation, block_of}
use Rattle.rv_core.specs.Step.{want_of}
use Rattle.sn_consistency.specs.Words.{kind, kind_of, block, address_of, reads, is_sc, takes}
use Rattle.sn_consistency.specs.Projections.{Replays}
use Rattle.trace_check.specs.TaggedEffects.{reads_memory, MayDo}

reads_same : (w : Want) → reads (kind_of w) ≡ reads_memory w
unfolding kind_of
reads_same Nothing = refl
reads_same (Load a) = refl
reads_same (Store a) = refl
reads_same (Amo a) = refl
reads_same (Lr a) = refl
reads_same (Sc a) = refl
reads_same Input = refl

takes_same : (w : Want) → takes (kind_of w) ≡ is_input w
unfolding kind_of
takes_same Nothing = refl
takes_same (Load a) = refl
takes_same (Store a) = refl
takes_same (Amo a) = refl
takes_same (Lr a) = refl
takes_same (Sc a) = refl
takes_same Input = refl

holds_sc : (c : CoreState) (w : Want) → holds_reservation c w ≡ true → is_sc (kind_of w) ≡ true
unfolding kind_of
holds_sc c Nothing h = h
holds_sc c (Load a) h = h
holds_sc c (Store a) h = h
holds_sc c (Amo a) h = h
holds_sc c (Lr a) h = h
holds_sc c (Sc a) h = refl
holds_sc c Input h = h

holds_block : (c : CoreState) (w : Want) → holds_reservation c w ≡ true → is_reserved c.reservation (block_of (address_of w)) ≡ true
unfolding address_of
holds_block c Nothing h = absurd (cc)
holds_block c (Load a) h = absurd (cc)
holds_block c (Store a) h = absurd (cc)
holds_block c (Amo a) h = absurd (cc)
holds_block c (Lr a) h = absurd (cc)
holds_block c (Sc a) h = h
holds_block c Input h = absurd (cc)

holds_from : (c : CoreState) (w : Want) → is_sc (kind_of w) ≡ true → is_reserved c.reservation (block_of (address_of w)) ≡ true →
    holds_reservation c w ≡ true
unfolding kind_of address_of
holds_from c Nothing s h = s
holds_from c (Load a) s h = s
holds_from c (Store a) s h = s
holds_from c (Amo a) s h = s
holds_from c (Lr a) s h = s
holds_from c (Sc a) s h = h
holds_from c Input s h = s

pub replays_to : (image : ImageData) (N : ℕ) (c : CoreState) (r : Record) → r.core < N → is_running c.end ≡ true →
    MayDo c (want_of image c) r → Replays image N c r
unfolding kind block
replays_to image N c r l run m = record {
  within = l;
  running = run;
  unseen = λ e. m.0 (sym (reads_same (want_of image c)) ∙ e);
  done_sc = λ e. holds_sc c (want_of image c) (m.1 e);
  done_reserved = λ e. holds_block c (want_of image c) (m.1 e);
  byte = m.2 ∙ sym (takes_same (want_of image c));
}

pub replays_from : (image : ImageData) (N : ℕ) (c : CoreState) (r : Record) → Replays image N c r →
    (is_running c.end ≡ true) × MayDo c (want_of image c) r
unfolding kind block
replays_from image N c r p =
    let w = want_of image c in
    (p.running, ((λ e. p.unseen (reads_same w ∙ e)), (λ e. holds_from c w (p.done_sc e) (p.done_reserved e)), p.byte ∙ takes_same w))
