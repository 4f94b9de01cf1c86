use Rattle.std.proofs.Common.{List, ℕ, ◌++◌, ◌∙◌, ap, sym, length, false}
use Rattle.std.specs.Prelude.{codes, decimal, map, Option, option_to_list, slice_index}
use Rattle.std.proofs.lemmas.Result.{on_ok_weaker}
use Rattle.rv_core.specs.declared.step.Effect.{Effect}
use Rattle.rv_core.specs.Step.{next_of}
use Rattle.state_json.specs.Json.{or_null, flag, word, byte}
use Rattle.state_json.specs.Details.{did_text, write_text}
use Rattle.state_texts.proofs.Lists.{more, more-by-two}
use Rattle.state_lines.proofs.step.add_did.Goals as goal

pub returns : goal.returns
unfolding did_text
returns c =
    let start = c.args.text.now.items in
    let name : List ℕ = codes "{\"" ++ codes "seen" ++ codes "\":" in
    let value : List ℕ = word c.args.did.now.seen in
    let e0 = more start _ _ name value c.in_ok-add_opening.ensures c.in_ok-add_word.ensures in
    let y0 : List ℕ = name ++ value in
    let name1 : List ℕ = codes ",\"" ++ codes "done" ++ codes "\":" in
    let value1 : List ℕ = flag c.args.did.now.sc_done in
    let e1 = more-by-two start _ _ _ y0 name1 value1 e0 c.in_ok-add_member.ensures c.in_ok-add_flag.ensures in
    let y1 : List ℕ = y0 ++ (name1 ++ value1) in
    let name2 : List ℕ = codes ",\"" ++ codes "read" ++ codes "\":" in
    let value2 : List ℕ = or_null byte c.args.did.now.read in
    let e2 = more-by-two start _ _ _ y1 name2 value2 e1 c.in_ok-add_member-2.ensures c.in_ok-add_read.ensures in
    let y2 : List ℕ = y1 ++ (name2 ++ value2) in
    let name3 : List ℕ = codes ",\"" ++ codes "wrote" ++ codes "\":" in
    let value3 : List ℕ = or_null write_text (next_of c.args.image.now c.args.core.now c.args.did.now.seen c.args.did.now.sc_done c.args.did.now.read).effect.write in
    let e3 = more-by-two start _ _ _ y2 name3 value3 e2 c.in_ok-add_member-3.ensures (c.in_ok-add_any_write.ensures ∙ ap (λ (x : Effect). c.add_member-3.new.text.items ++ or_null write_text x.write) c.finish-effect.ensures.effect) in
    let y3 : List ℕ = y2 ++ (name3 ++ value3) in
    let name4 : List ℕ = codes ",\"" ++ codes "out" ++ codes "\":" in
    let value4 : List ℕ = or_null byte (next_of c.args.image.now c.args.core.now c.args.did.now.seen c.args.did.now.sc_done c.args.did.now.read).effect.out in
    let e4 = more-by-two start _ _ _ y3 name4 value4 e3 c.in_ok-add_member-4.ensures (c.in_ok-add_read-2.ensures ∙ ap (λ (x : Effect). c.add_member-4.new.text.items ++ or_null byte x.out) c.finish-effect.ensures.effect) in
    let y4 : List ℕ = y3 ++ (name4 ++ value4) in
    on_ok_weaker c.add.result (λ e. more start _ _ y4 (codes "}") e4 e) c.add.ensures
