use Rattle.std.proofs.Common.{◌≡◌, ℕ, zero, suc, List, [], ◌∷◌, drop, refl, ap, ◌∙◌}
use Rattle.std.specs.Prelude.{map, slice_index}
use Rattle.std.proofs.lemmas.Result.{on_ok_weaker}
use Rattle.interval_list.specs.declared.Waiting.{Waiting}
use Rattle.sn_model.specs.declared.net.Sent.{Sent}
use Rattle.sn_model.specs.Machine.{HeldByte}
use Rattle.sn_machine.specs.Parts.{held_as}
use Rattle.run_statistics.specs.declared.bytes.ByteStatistics.{ByteStatistics}
use Rattle.run_statistics.specs.declared.intervals.IntervalStatistics.{IntervalStatistics}
use Rattle.run_statistics.specs.declared.recoveries.RecoveryStatistics.{RecoveryStatistics}
use Rattle.run_statistics.specs.declared.statistics.Statistics.{Statistics}
use Rattle.run_statistics.specs.Intervals.{intervals_with}
use Rattle.run_statistics.specs.Bytes.{bytes_with}
use Rattle.run_statistics.specs.Recoveries.{recoveries_with}
use Rattle.run_statistics.proofs.statistics.Statistics.add_lists.Goals as goal

held-since : (n : ℕ) (bytes : List (Waiting ℕ)) → map held_as (drop n bytes) ≡ drop n (map held_as bytes)
held-since zero bytes = refl
held-since (suc n) [] = refl
held-since (suc n) (byte ∷ bytes) = held-since n bytes

-- three parts in their places
parts-are : (x : Statistics) (i i' : IntervalStatistics) (b b' : ByteStatistics) (r r' : RecoveryStatistics) → i ≡ i' → b ≡ b' → r ≡ r' →
    record x { intervals = i; bytes = b; recoveries = r } ≡ record x { intervals = i'; bytes = b'; recoveries = r' }
parts-are x i i' b b' r r' e f g =
    ap (λ (t : IntervalStatistics). record x { intervals = t; bytes = b; recoveries = r }) e
    ∙ ap (λ (t : ByteStatistics). record x { intervals = i'; bytes = t; recoveries = r }) f
    ∙ ap (λ (t : RecoveryStatistics). record x { intervals = i'; bytes = b'; recoveries = t }) g

pub returns : goal.returns
returns c =
    let x = c.args.self.now in
    let retired = c.at.ensures ∙ ap (slice_index x.answers) c.place_of_answer.ensures.place in
    let intervals = c.in_ok-add.ensures
    ∙ ap (λ (t : ℕ). intervals_with x.intervals (record { event = x.events; retired = t }) c.args.answer.now c.args.machine.now.config.nodes
    c.args.machine.now.state.fabric) retired in
    let held = ap (map held_as) c.since.ensures ∙ held-since c.args.before.now.held c.held.result.now
    ∙ ap (drop c.args.before.now.held) c.held.ensures in
    let bytes = c.in_ok-add-2.ensures
    ∙ ap (λ (t : List HeldByte). bytes_with x.bytes x.events c.args.event.now c.args.answer.now t) held in
    on_ok_weaker c.add-3.result
    (λ e. parts-are x _ _ _ _ _ _ intervals bytes
    (e ∙ ap (λ (t : List Sent). recoveries_with x.recoveries x.events c.args.before.now.waiting c.args.answer.now t) c.sent.ensures.same))
    c.add-3.ensures
