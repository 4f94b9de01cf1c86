use Rattle.std.proofs.Common.{◌<◌, ◌∙◌, List, ℕ, ◌++◌, Option, length, take, sym, ap, arith}
use Rattle.std.proofs.lemmas.List.{take_all}
use Rattle.std.specs.Prelude.{option_to_list}
use Rattle.rv_core.specs.Flat.{flat_start}
use Rattle.rv_core.specs.Execution.{put_out_by}
use Rattle.interval_list.specs.declared.Waiting.{Waiting}
use Rattle.sn_machine.specs.Resumed.{of_interval_0}
use Rattle.sn_machine.proofs.ResumedLists.{step-at, state-more, out-more, held-append, all-released}
use Rattle.sn_machine.proofs.resuming.resumed_output.Goals as goal

pub replay_one-byte-requires : goal.replay_one-byte-requires
replay_one-byte-requires c =
    step-at c.args.image.now (flat_start c.args.image.now c.args.nodes) c.args.records.now c.records.place c.index-records-place.result
    (omega arith) c.index-records-place.is c.records.flat c.records.invariant.state c.requires.legal

pub records-preserved : goal.records-preserved
records-preserved c =
    let image = c.args.image.now in
    let start = flat_start c.args.image.now c.args.nodes in
    let rs = c.args.records.now in
    let place = c.records.place in
    let r = c.index-records-place.result in
    let l : c.records.place < length c.args.records.now = omega arith in
    record {
      state = c.replay_one-byte.ensures.state ∙ state-more image start rs place r l c.index-records-place.is c.records.flat c.records.invariant.state;
      held =
          c.hold_byte.ensures.held
          ∙ (ap (λ (hs : List (Waiting ℕ)). hs ++ of_interval_0 (option_to_list c.replay_one-byte.result)) c.records.invariant.held
          ∙ (sym (held-append (put_out_by image start (take place rs)) (option_to_list c.replay_one-byte.result))
          ∙ ap of_interval_0
          (ap (λ (b : Option ℕ). put_out_by image start (take place rs) ++ option_to_list b) c.replay_one-byte.ensures.out
          ∙ out-more image start rs place r l c.index-records-place.is c.records.flat c.records.invariant.state)));
      released = c.hold_byte.ensures.released ∙ c.records.invariant.released;
      room = let a = c.hold_byte.ensures.room in let b = c.records.invariant.room in omega (arith, a, b);
    }

pub returns : goal.returns
returns c =
    let all = all-released (put_out_by c.args.image.now (flat_start c.args.image.now c.args.nodes) (take c.records.place c.args.records.now))
    c.records.output c.release_below.new.self c.records.invariant.held c.records.invariant.released c.release_below.ensures in
    (all.0, all.1 ∙ ap (put_out_by c.args.image.now (flat_start c.args.image.now c.args.nodes)) (take_all c.records.place c.args.records.now (omega arith)))
