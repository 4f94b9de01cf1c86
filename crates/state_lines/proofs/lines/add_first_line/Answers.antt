use Rattle.std.proofs.Common.{List, ℕ, ◌++◌, ◌∙◌, ap, sym, length, false}
use Rattle.std.specs.Prelude.{codes, decimal, map, Option, option_to_list, slice_index}
use Rattle.std.proofs.lemmas.Result.{on_ok_weaker}
use Rattle.sn_base.specs.declared.config.Config.{Config}
use Rattle.sn_base.specs.Image.{ImageData}
use Rattle.state_json.specs.Json.{quotation_of, word}
use Rattle.state_json.specs.Parts.{state_text}
use Rattle.state_json.specs.Lines.{first_line}
use Rattle.state_texts.proofs.Lists.{more, more-by-two}
use Rattle.state_lines.proofs.lines.add_first_line.Goals as goal

pub returns : goal.returns
unfolding first_line
returns c =
    let start = c.args.text.now.items in
    let name : List ℕ = codes "{\"" ++ codes "form" ++ codes "\":" in
    let value : List ℕ = quotation_of (codes "safetynet states 1") in
    let e0 = more start _ _ name value c.in_ok-add_opening.ensures (more c.add_opening.new.text.items _ _ (codes "\"" ++ codes "safetynet states 1") (codes "\"") (more c.add_opening.new.text.items _ _ (codes "\"") (codes "safetynet states 1") c.in_ok-add.ensures c.in_ok-add-2.ensures) c.in_ok-add-3.ensures) in
    let y0 : List ℕ = name ++ value in
    let name1 : List ℕ = codes ",\"" ++ codes "nodes" ++ codes "\":" in
    let value1 : List ℕ = decimal c.args.machine.now.config.nodes in
    let e1 = more-by-two start _ _ _ y0 name1 value1 e0 c.in_ok-add_member.ensures (c.in_ok-add_number.ensures ∙ ap (λ (t : ℕ). c.add_member.new.text.items ++ decimal t) (c.from.ensures ∙ ap (λ (t : Config). t.nodes) c.config-sizes.ensures.same)) in
    let y1 : List ℕ = y0 ++ (name1 ++ value1) in
    let name2 : List ℕ = codes ",\"" ++ codes "sets" ++ codes "\":" in
    let value2 : List ℕ = decimal c.args.machine.now.config.sets in
    let e2 = more-by-two start _ _ _ y1 name2 value2 e1 c.in_ok-add_member-2.ensures (c.in_ok-add_number-2.ensures ∙ ap (λ (t : ℕ). c.add_member-2.new.text.items ++ decimal t) (c.from-2.ensures ∙ ap (λ (t : Config). t.sets) c.config-sizes.ensures.same)) in
    let y2 : List ℕ = y1 ++ (name2 ++ value2) in
    let name3 : List ℕ = codes ",\"" ++ codes "ways" ++ codes "\":" in
    let value3 : List ℕ = decimal c.args.machine.now.config.ways in
    let e3 = more-by-two start _ _ _ y2 name3 value3 e2 c.in_ok-add_member-3.ensures (c.in_ok-add_number-3.ensures ∙ ap (λ (t : ℕ). c.add_member-3.new.text.items ++ decimal t) (c.from-3.ensures ∙ ap (λ (t : Config). t.ways) c.config-sizes.ensures.same)) in
    let y3 : List ℕ = y2 ++ (name3 ++ value3) in
    let name4 : List ℕ = codes ",\"" ++ codes "log" ++ codes "\":" in
    let value4 : List ℕ = decimal c.args.machine.now.config.log in
    let e4 = more-by-two start _ _ _ y3 name4 value4 e3 c.in_ok-add_member-4.ensures (c.in_ok-add_number-4.ensures ∙ ap (λ (t : ℕ). c.add_member-4.new.text.items ++ decimal t) (c.from-4.ensures ∙ ap (λ (t : Config). t.log) c.config-sizes.ensures.same)) in
    let y4 : List ℕ = y3 ++ (name4 ++ value4) in
    let name5 : List ℕ = codes ",\"" ++ codes "entry" ++ codes "\":" in
    let value5 : List ℕ = word c.args.machine.now.image.entry in
    let e5 = more-by-two start _ _ _ y4 name5 value5 e4 c.in_ok-add_member-5.ensures (c.in_ok-add_word.ensures ∙ ap (λ (t : ℕ). c.add_member-5.new.text.items ++ word t) (c.entry.ensures ∙ ap (λ (t : ImageData). t.entry) c.image.ensures)) in
    let y5 : List ℕ = y4 ++ (name5 ++ value5) in
    let name6 : List ℕ = codes ",\"" ++ codes "events" ++ codes "\":" in
    let value6 : List ℕ = decimal c.args.machine.now.applied in
    let e6 = more-by-two start _ _ _ y5 name6 value6 e5 c.in_ok-add_member-6.ensures (c.in_ok-add_number-5.ensures ∙ ap (λ (t : ℕ). c.add_member-6.new.text.items ++ decimal t) (c.from-5.ensures ∙ c.applied.ensures.same)) in
    let y6 : List ℕ = y5 ++ (name6 ++ value6) in
    let name7 : List ℕ = codes ",\"" ++ codes "state" ++ codes "\":" in
    let value7 : List ℕ = state_text c.args.machine.now.image c.args.machine.now.state in
    let e7 = more-by-two start _ _ _ y6 name7 value7 e6 c.in_ok-add_member-7.ensures c.in_ok-add_state.ensures in
    let y7 : List ℕ = y6 ++ (name7 ++ value7) in
    on_ok_weaker c.add-5.result (λ e. more start _ _ (y7 ++ codes "}") (codes "\n") (more start _ _ y7 (codes "}") e7 c.in_ok-add-4.ensures) e) c.add-5.ensures
