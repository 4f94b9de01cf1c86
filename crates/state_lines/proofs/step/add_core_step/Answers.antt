use Rattle.std.proofs.Common.{List, ℕ, ◌++◌, ◌∙◌, ap, sym, length, false}
use Rattle.std.specs.Prelude.{codes, decimal, map, Option, option_to_list, slice_index}
use Rattle.std.proofs.lemmas.Result.{on_ok_weaker}
use Rattle.sn_base.specs.Image.{word_fetched}
use Rattle.state_json.specs.Json.{or_null, word}
use Rattle.state_json.specs.Details.{instruction_text}
use Rattle.state_lines.specs.Steps.{retired_text, core_step_text}
use Rattle.state_texts.proofs.Lists.{more, more-by-two}
use Rattle.state_lines.proofs.step.add_core_step.Goals as goal

pub returns : goal.returns
unfolding core_step_text
returns c =
    let start = c.add_member.new.text.items in
    let name : List ℕ = codes "{\"" ++ codes "pc" ++ codes "\":" in
    let value : List ℕ = word c.args.core.now.pc in
    let e0 = more start _ _ name value c.in_ok-add_opening.ensures c.in_ok-add_word.ensures in
    let y0 : List ℕ = name ++ value in
    let name1 : List ℕ = codes ",\"" ++ codes "instruction" ++ codes "\":" in
    let value1 : List ℕ = or_null instruction_text (word_fetched c.args.image.now.segments c.args.core.now.pc) in
    let e1 = more-by-two start _ _ _ y0 name1 value1 e0 c.in_ok-add_member-2.ensures c.in_ok-add_instruction.ensures in
    let y1 : List ℕ = y0 ++ (name1 ++ value1) in
    let name2 : List ℕ = codes ",\"" ++ codes "did" ++ codes "\":" in
    let value2 : List ℕ = or_null (retired_text c.args.image.now c.args.core.now) c.args.did.now in
    let e2 = more-by-two start _ _ _ y1 name2 value2 e1 c.in_ok-add_member-3.ensures c.in_ok-add_if_did.ensures in
    let y2 : List ℕ = y1 ++ (name2 ++ value2) in
    let named : List ℕ = codes ",\"" ++ codes "step" ++ codes "\":" in
    on_ok_weaker c.add.result
    (λ e. more c.args.text.now.items start _ named (y2 ++ codes "}") c.in_ok-add_member.ensures (more start _ _ y2 (codes "}") e2 e)) c.add.ensures
