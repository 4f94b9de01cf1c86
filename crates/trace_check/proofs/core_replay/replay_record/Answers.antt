use Rattle.std.proofs.Common.{◌≡◌, ◌≢◌, ◌<◌, true, false, [], ◌∷◌, ◌++◌, ◌∙◌, sym, ap, subst, refl, append-nil, arith}
use Rattle.std.proofs.lemmas.Bool.Decides.{nat_tests}
use Rattle.rv_core.specs.Wanted.{IsInside}
use Rattle.rv_core.proofs.CoreLaws.{want_inside}
use Rattle.sn_consistency.specs.Words.{next}
use Rattle.trace_check.proofs.MayDo.{replays_to, replays_from}
use Rattle.trace_check.specs.Tags.{AreKept}
use Rattle.trace_check.proofs.CoreReplay.{own_step, own_effect, other_effect}
use Rattle.trace_check.proofs.core_replay.replay_record.Goals as goal
use Rattle.trace_check.proofs.core_replay.replay_record.Goals.{In_default, In_ok-push}

same : (c : In_default) → c.args.core ≡ c.args.taken.now.core
same c = let a = c.if-ne.false in let b = c.ne.ensures in grind (arith, nat_tests)

own : (c : In_ok-push) → c.args.core ≡ c.args.taken.now.core
own c = let a = c.if-ne.false in let b = c.ne.ensures in grind (arith, nat_tests)

pub returns-in_default-clause-good : goal.returns-in_default-clause-good
returns-in_default-clause-good c = (
  (λ f. let g : false ≡ true = f in absurd (cc)),
  λ h. c.in_default.ensures.some.1 (replays_from c.args.image.now c.args.nodes c.args.state.now c.args.taken.now (h.1 (same c))),
)

pub returns-clause-good : goal.returns-clause-good
returns-clause-good c =
    let m = c.in-Some.ensures.some.0 refl in (
      (λ t. let l : c.args.taken.now.core < c.args.nodes = let q = c.requires.inside in let e = own c in omega (arith, e, q) in
          (l, λ e. replays_to c.args.image.now c.args.nodes c.args.state.now c.args.taken.now l m.0 m.1)),
      λ h. refl,
    )

as_next : (c : In_ok-push) → c.take-effect.new.state ≡ next c.args.image.now c.args.state.now c.args.taken.now
unfolding next
as_next c = c.take-effect.ensures.state

pub returns-clause-state : goal.returns-clause-state
returns-clause-state c = λ t. as_next c ∙ sym (own_step c.args.image.now c.args.core c.args.state.now c.args.taken.now (own c))

pub returns-clause-tagged : goal.returns-clause-tagged
returns-clause-tagged c = λ t did k.
    subst (λ xs. AreKept c.args.parts (did ++ xs) c.push.new.self)
    (ap (λ d. d ∷ []) c.take-effect.ensures.effect ∙ sym (own_effect c.args.image.now c.args.core c.args.state.now c.args.taken.now (own c)))
    (c.in_ok-push.ensures did k)

pub returns-then-ne-clause-tagged : goal.returns-then-ne-clause-tagged
returns-then-ne-clause-tagged c = λ t did k.
    let a = c.if-ne.true in
    let b = c.ne.ensures in
    let o : c.args.core ≢ c.args.taken.now.core = grind (arith, nat_tests) in
    subst (λ xs. AreKept c.args.parts xs c.args.tagged.now)
    (sym (ap (λ xs. did ++ xs) (other_effect c.args.image.now c.args.core c.args.state.now c.args.taken.now o) ∙ append-nil did)) k

pub push-requires-clause-inside : goal.push-requires-clause-inside
push-requires-clause-inside c = subst (λ d. IsInside d.want) (sym c.take-effect.ensures.effect) (want_inside c.args.image.now c.args.state.now)
