-- The same laws for the words in which the proofs read a step.
use Rattle.std.proofs.Common.{◌≡◌, ℕ, false, cond, nat_eq, option_to_list, refl, ap, ◌∙◌}
use Rattle.rv_core.specs.declared.state.CoreState.{CoreState}
use Rattle.rv_core.specs.declared.step.Record.{Record}
use Rattle.rv_core.specs.declared.step.Want.{Want}
use Rattle.rv_core.specs.declared.step.Want.TheVariants.{Nothing, Load, Store, Amo, Lr, Sc, Input}
use Rattle.sn_base.specs.Image.{ImageData}
use Rattle.sn_consistency.specs.Words.{Content, kind, kind_of, block, address_of, place, next, puts, content_after, write_block, is_lr}
use Rattle.sn_consistency.specs.Words.{is_sc}
use Rattle.rv_core.specs.Step.{want_of}
use Rattle.rv_core.specs.Core.{bare, is_running, block_of, is_reserved}
use Rattle.sn_consistency.specs.Laws.{own_reservation}
use Rattle.sn_consistency.proofs.CoreLaws.{want_bare, next_bare, effect_bare, next_reservation}

pub bare_bare : (c : CoreState) → bare (bare c) ≡ bare c
bare_bare c = refl

pub bare_none : (c : CoreState) (b : ℕ) → is_reserved (bare c).reservation b ≡ false
bare_none c b = refl

pub running_bare : (c : CoreState) → is_running (bare c).end ≡ is_running c.end
running_bare c = refl

module _ (image : ImageData) (c : CoreState) where
  pub kind_bare : kind image (bare c) ≡ kind image c
  unfolding kind
  kind_bare = ap kind_of (want_bare image c)

  pub block_bare : block image (bare c) ≡ block image c
  unfolding block
  block_bare = ap (λ w. block_of (address_of w)) (want_bare image c)

  pub place_bare : place image (bare c) ≡ place image c
  unfolding place
  place_bare = rw (want_bare image c) refl

  module _ (r : Record) where
    pub after_bare : bare (next image (bare c) r) ≡ bare (next image c r)
    unfolding next
    after_bare = next_bare image c r.seen r.sc_done r.read

    pub puts_bare : puts image (bare c) r ≡ puts image c r
    unfolding puts
    puts_bare = ap (λ e. option_to_list e.out) (effect_bare image c r.seen r.sc_done r.read)

    pub written_bare : (v : Content) → content_after image (bare c) r v ≡ content_after image c r v
    unfolding content_after
    written_bare v = ap (λ e. write_block e.write v) (effect_bare image c r.seen r.sc_done r.read)

    -- a core's reservation after its own step
    pub next_held : (b : ℕ) →
        is_reserved (next image c r).reservation b
        ≡ cond (is_lr (kind image c)) (nat_eq (block image c) b) (cond (is_sc (kind image c)) false (is_reserved c.reservation b))
    unfolding next kind block kind_of address_of
    next_held b = ap (λ o. is_reserved o b) (next_reservation image c r.seen r.sc_done r.read) ∙ of_want (want_of image c)
      where
        of_want : (w : Want) →
            is_reserved (own_reservation w c.reservation) b
            ≡ cond (is_lr (kind_of w)) (nat_eq (block_of (address_of w)) b) (cond (is_sc (kind_of w)) false (is_reserved c.reservation b))
        of_want Nothing = refl
        of_want (Load a) = refl
        of_want (Store a) = refl
        of_want (Amo a) = refl
        of_want (Lr a) = refl
        of_want (Sc a) = refl
        of_want Input = refl
