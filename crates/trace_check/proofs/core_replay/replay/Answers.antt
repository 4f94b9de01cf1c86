use Rattle.std.proofs.Common.{◌≡◌, ◌<◌, true, false, take, subst, sym, refl, arith, length}
use Rattle.std.proofs.lemmas.Option.{slice_get_read}
use Rattle.rv_core.specs.Core.{start_of}
use Rattle.sn_consistency.specs.Projections.{Replays}
use Rattle.trace_check.specs.TaggedEffects.{core_effects}
use Rattle.trace_check.specs.Tags.{AreKept}
use Rattle.trace_check.proofs.CoreReplay.{IsReplayed, replayed_more, replayed_stops, replayed_all, tagged_all}
use Rattle.trace_check.proofs.core_replay.replay.Goals as goal
use Rattle.trace_check.proofs.core_replay.replay.Goals.{Then-not-branch}

refused : (c : Then-not-branch) → (c.index-records-place.result.core < c.args.nodes) ×
    (c.args.core ≡ c.index-records-place.result.core → Replays c.args.image.now c.args.nodes c.records.state c.index-records-place.result) → ⊥
refused c h =
    let t : c.in_ok-replay_record.field-0 ≡ true = c.in_ok-replay_record.ensures.good.1 h in
    let f : c.in_ok-replay_record.field-0 ≡ false = c.if-not-branch.true in
    absurd (cc)

pub returns-then-not-branch-clause-passed : goal.returns-then-not-branch-clause-passed
returns-then-not-branch-clause-passed c =
    replayed_stops c.args.image.now c.args.nodes c.args.parts c.args.core (start_of c.args.core c.args.image.now.entry) c.args.records.now
    c.records.place c.records.state c.records.tagged c.records.invariant c.index-records-place.result (slice_get_read c.args.records.now (length c.args.records.now) c.records.place c.index-records-place.result refl (omega (arith, c.records-test.true)) c.index-records-place.is)
    (omega (arith, c.records-test.true)) (refused c)

pub returns-then-not-branch-clause-tagged : goal.returns-then-not-branch-clause-tagged
returns-then-not-branch-clause-tagged c =
    subst (AreKept c.args.parts (core_effects c.args.image.now c.args.core (start_of c.args.core c.args.image.now.entry) (take c.records.place c.args.records.now)))
    (sym (c.in_ok-replay_record.ensures.kept c.if-not-branch.true)) c.records.invariant.tagged

pub records-preserved : goal.records-preserved
records-preserved c =
    let good = c.if-not-branch.false in
    let more = replayed_more c.args.image.now c.args.nodes c.args.parts c.args.core (start_of c.args.core c.args.image.now.entry) c.args.records.now
    c.records.place c.records.state c.records.tagged c.records.invariant c.index-records-place.result (slice_get_read c.args.records.now (length c.args.records.now) c.records.place c.index-records-place.result refl (omega (arith, c.records-test.true)) c.index-records-place.is)
    c.replay_record.new.state c.replay_record.new.tagged
    (c.in_ok-replay_record.ensures.good.0 good) (c.in_ok-replay_record.ensures.state good) (c.in_ok-replay_record.ensures.tagged good) in
    subst (λ k. IsReplayed c.args.image.now c.args.nodes c.args.parts c.args.core (start_of c.args.core c.args.image.now.entry) c.args.records.now k c.replay_record.new.state c.replay_record.new.tagged)
    (omega arith) more

pub returns-clause-passed : goal.returns-clause-passed
returns-clause-passed c =
    replayed_all c.args.image.now c.args.nodes c.args.parts c.args.core (start_of c.args.core c.args.image.now.entry) c.args.records.now
    c.records.place c.records.state c.records.tagged c.records.invariant (omega (arith, c.records-test.false, c.records.auto.place-end))

pub returns-clause-tagged : goal.returns-clause-tagged
returns-clause-tagged c =
    tagged_all c.args.image.now c.args.nodes c.args.parts c.args.core (start_of c.args.core c.args.image.now.entry) c.args.records.now
    c.records.place c.records.state c.records.tagged c.records.invariant (omega (arith, c.records-test.false, c.records.auto.place-end))
