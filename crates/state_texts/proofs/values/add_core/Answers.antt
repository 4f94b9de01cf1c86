use Rattle.std.proofs.Common.{List, ℕ, ◌++◌, ◌∙◌, ap, false}
use Rattle.std.specs.Prelude.{codes, decimal}
use Rattle.std.proofs.lemmas.Result.{on_ok_weaker}
use Rattle.state_json.specs.Values.{core_text}
use Rattle.std.proofs.Common.{drop}
use Rattle.sn_text.specs.Text.{end_text}
use Rattle.state_json.specs.Values.{register_texts}
use Rattle.state_json.specs.Json.{quotation_of, word, with_commas, or_null}
use Rattle.state_texts.proofs.Lists.{more, more-by-two}
use Rattle.state_texts.proofs.values.add_core.Goals as goal

pub returns : goal.returns
unfolding core_text
returns c =
    let start = c.args.text.now.items in
    let name : List ℕ = codes "{\"" ++ codes "pc" ++ codes "\":" in
    let value : List ℕ = word c.args.core.now.pc in
    let e0 = more start _ _ name value c.in_ok-add_opening.ensures c.in_ok-add_word.ensures in
    let y0 : List ℕ = name ++ value in
    let name1 : List ℕ = codes ",\"" ++ codes "end" ++ codes "\":" in
    let value1 : List ℕ = quotation_of (end_text c.args.core.now.end) in
    let e1 = more-by-two start _ _ _ y0 name1 value1 e0 c.in_ok-add_member.ensures c.in_ok-add_end.ensures in
    let y1 : List ℕ = y0 ++ (name1 ++ value1) in
    let registers : List ℕ = with_commas false (register_texts 1 (drop 1 c.args.core.now.x)) in
    let name2 : List ℕ = codes ",\"" ++ codes "registers" ++ codes "\":" in
    let value2 : List ℕ = codes "{" ++ registers ++ codes "}" in
    let e2 = more-by-two start _ _ _ y1 name2 value2 e1 c.in_ok-add_member-2.ensures (more c.add_member-2.new.text.items _ _ (codes "{" ++ registers) (codes "}") (more c.add_member-2.new.text.items _ _ (codes "{") (registers) c.in_ok-add.ensures (c.in_ok-add_registers.ensures ∙ ap (λ (t : List ℕ). c.add.new.text.items ++ with_commas false (register_texts 1 t)) c.after_zero.ensures.registers)) c.in_ok-add-2.ensures) in
    let y2 : List ℕ = y1 ++ (name2 ++ value2) in
    let name3 : List ℕ = codes ",\"" ++ codes "reservation" ++ codes "\":" in
    let value3 : List ℕ = or_null decimal c.args.core.now.reservation in
    let e3 = more-by-two start _ _ _ y2 name3 value3 e2 c.in_ok-add_member-3.ensures c.in_ok-add_reservation.ensures in
    let y3 : List ℕ = y2 ++ (name3 ++ value3) in
    on_ok_weaker c.add-3.result (λ e. more start _ _ y3 (codes "}") e3 e) c.add-3.ensures
