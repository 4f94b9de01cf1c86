-- The kept cores, as the definitions have them: after a record, and what they may do.
use Rattle.std.proofs.Common.{◌≡◌, ℕ, ◌+◌, ◌<◌, ◌==◌, true, false, List, ◌∷◌, drop, length, get_or, refl, sym, ap, subst, ◌∙◌, arith, inl, inr}
use Rattle.std.proofs.lemmas.Bool.Decides.{nat_tests}
use Rattle.std.proofs.lemmas.Bool.{cases_eq}
use Rattle.std.proofs.lemmas.List.{drop_more, get_or-set_other, length-set}
use Rattle.std.proofs.lemmas.Grind.{get_or-set_at}
use Rattle.std.proofs.Math.Path.{fun_ext}
use Rattle.sn_base.specs.Image.{ImageData}
use Rattle.rv_core.specs.declared.state.CoreState.{CoreState}
use Rattle.rv_core.specs.declared.step.Record.{Record}
use Rattle.rv_core.specs.declared.step.Want.{Want}
use Rattle.rv_core.specs.declared.step.Want.TheVariants.{Nothing, Load, Store, Amo, Lr, Sc, Input}
use Rattle.rv_core.specs.Core.{start_of, is_reserved, is_input, holds_reservation, block_of}
use Rattle.rv_core.specs.Step.{want_of, next_of}
use Rattle.rv_core.specs.Flat.{flat_start, first_cores}
use Rattle.rv_core.specs.Execution.{IsExecution}
use Rattle.sn_consistency.specs.Words.{kind, kind_of, block, address_of, is_sc, takes, next}
use Rattle.sn_consistency.specs.Projections.{Replays, CoreGood, core_step}
use Rattle.sn_consistency.proofs.Start.{start_shows}
use Rattle.sn_consistency.proofs.ProjectionLaw.{law_to}
use Rattle.committed_accesses.specs.Rows.{access_row, access_rows_from, access_rows_of}
use Rattle.committed_accesses.specs.Cores.{MayDo, AreGood, core_in, cores_after}

takes_same : (w : Want) → takes (kind_of w) ≡ is_input w
unfolding kind_of
takes_same Nothing = refl
takes_same (Load a) = refl
takes_same (Store a) = refl
takes_same (Amo a) = refl
takes_same (Lr a) = refl
takes_same (Sc a) = refl
takes_same Input = refl

holds_from : (c : CoreState) (w : Want) → is_sc (kind_of w) ≡ true → is_reserved c.reservation (block_of (address_of w)) ≡ true →
    holds_reservation c w ≡ true
unfolding kind_of address_of
holds_from c Nothing s h = s
holds_from c (Load a) s h = s
holds_from c (Store a) s h = s
holds_from c (Amo a) s h = s
holds_from c (Lr a) s h = s
holds_from c (Sc a) s h = h
holds_from c Input s h = s

-- a record that replays may be done
may_do : (image : ImageData) (N : ℕ) (c : CoreState) (r : Record) → Replays image N c r → MayDo image c r
unfolding kind block
may_do image N c r p = record {
  running = p.running;
  reserved = λ e. holds_from c (want_of image c) (p.done_sc e) (p.done_reserved e);
  byte = p.byte ∙ takes_same (want_of image c);
}

module _ (image : ImageData) (cores : List CoreState) (r : Record) where
  -- the cores after a record
  abbrev after : List CoreState
  after = cores_after image cores r

  module _ (inside : r.core < length cores) where
    core_after : (n : ℕ) → core_step image n (core_in cores n) r ≡ core_in after n
    unfolding next
    core_after n = elim (cases_eq n r.core) [
      | inl e ↦
          let test : (n == r.core) ≡ true = grind (arith, nat_tests, e) in
          rw test
          (ap (λ k. next image (core_in cores k) r) e
          ∙ sym (get_or-set_at cores r.core n (next_of image (core_in cores r.core) r.seen r.sc_done r.read).core (start_of 0 0) e inside))
      | inr other ↦
          let test : (n == r.core) ≡ false = grind (arith, nat_tests, other) in
          rw test
          (sym (get_or-set_other cores r.core n (next_of image (core_in cores r.core) r.seen r.sc_done r.read).core (start_of 0 0) other))
    ]

    pub rows_next : (rs : List Record) →
        access_rows_from image (core_in cores) (r ∷ rs)
        ≡ access_row image (core_in cores r.core) r ∷ access_rows_from image (core_in after) rs
    rows_next rs = ap (λ (f : ℕ → CoreState). access_row image (core_in cores r.core) r ∷ access_rows_from image f rs) (fun_ext core_after)

  module _ (rs : List Record) (good : AreGood image cores (r ∷ rs)) where
    pub is_inside : r.core < length cores
    is_inside = ((good r.core).0 refl).within

    pub may_now : MayDo image (core_in cores r.core) r
    may_now = may_do image (length cores) (core_in cores r.core) r ((good r.core).0 refl)

    pub good_next : AreGood image after rs
    good_next n =
        subst (λ (N : ℕ). CoreGood image N n (core_in after n) rs)
        (sym (length-set cores r.core (next_of image (core_in cores r.core) r.seen r.sc_done r.read).core))
        (subst (λ (c : CoreState). CoreGood image (length cores) n c rs) (core_after is_inside n) (good n).1)

-- the records that are left, the next of them first
pub dropped : (rs : List Record) (i : ℕ) (r : Record) → i < length rs → r ≡ get_or rs i r → drop i rs ≡ r ∷ drop (i + 1) rs
dropped rs i r below is = drop_more rs i r below ∙ ap (λ (t : Record). t ∷ drop (i + 1) rs) (sym is)

-- the start of an execution
module _ (image : ImageData) (nodes : ℕ) (cores : List CoreState) (at : cores ≡ first_cores nodes image.entry) (rs : List Record) where
  pub good_start : IsExecution image nodes rs → AreGood image cores rs
  good_start h =
      let shows = start_shows image nodes in
      let all = law_to image nodes (flat_start image nodes) shows rs h in
      λ n. subst (λ (cs : List CoreState). CoreGood image (length cs) n (core_in cs n) rs) (sym at)
      (subst (λ (N : ℕ). CoreGood image N n (core_in (first_cores nodes image.entry) n) rs) (sym shows.count) (all.cores n))

  pub rows_start : access_rows_from image (core_in cores) rs ≡ access_rows_of image nodes rs
  rows_start = ap (λ (cs : List CoreState). access_rows_from image (core_in cs) rs) at
