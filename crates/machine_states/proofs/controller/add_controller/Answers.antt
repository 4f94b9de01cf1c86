use Rattle.std.proofs.Common.{List, ℕ, ◌++◌, ◌∙◌, ap, length}
use Rattle.std.specs.Prelude.{codes, decimal, map}
use Rattle.std.proofs.lemmas.Result.{on_ok_weaker}
use Rattle.state_json.specs.Parts.{controller_text}
use Rattle.state_json.specs.Json.{array}
use Rattle.state_json.specs.Values.{held_text}
use Rattle.state_texts.proofs.Lists.{more, more-by-two}
use Rattle.machine_states.proofs.controller.add_controller.Goals as goal

pub returns : goal.returns
unfolding controller_text
returns c =
    let start = c.args.text.now.items in
    let name : List ℕ = codes "{\"" ++ codes "point" ++ codes "\":" in
    let value : List ℕ = decimal c.args.machine.now.state.fabric.point in
    let e0 = more start _ _ name value c.in_ok-add_opening.ensures c.in_ok-add_point.ensures in
    let y0 : List ℕ = name ++ value in
    let name1 : List ℕ = codes ",\"" ++ codes "reported" ++ codes "\":" in
    let value1 : List ℕ = array (map decimal c.args.machine.now.state.reported) in
    let e1 = more-by-two start _ _ _ y0 name1 value1 e0 c.in_ok-add_member.ensures (c.in_ok-add_reported.ensures ∙ ap (λ (t : List ℕ). c.add_member.new.text.items ++ array (map decimal t)) c.reported.ensures) in
    let y1 : List ℕ = y0 ++ (name1 ++ value1) in
    let name2 : List ℕ = codes ",\"" ++ codes "committed" ++ codes "\":" in
    let value2 : List ℕ = decimal (length c.args.machine.now.state.committed) in
    let e2 = more-by-two start _ _ _ y1 name2 value2 e1 c.in_ok-add_member-2.ensures c.in_ok-add_committed.ensures in
    let y2 : List ℕ = y1 ++ (name2 ++ value2) in
    let name3 : List ℕ = codes ",\"" ++ codes "held" ++ codes "\":" in
    let value3 : List ℕ = array (map held_text c.args.machine.now.state.held) in
    let e3 = more-by-two start _ _ _ y2 name3 value3 e2 c.in_ok-add_member-3.ensures c.in_ok-add_all_held.ensures in
    let y3 : List ℕ = y2 ++ (name3 ++ value3) in
    let name4 : List ℕ = codes ",\"" ++ codes "released" ++ codes "\":" in
    let value4 : List ℕ = decimal (length c.args.machine.now.state.released) in
    let e4 = more-by-two start _ _ _ y3 name4 value4 e3 c.in_ok-add_member-4.ensures c.in_ok-add_released.ensures in
    let y4 : List ℕ = y3 ++ (name4 ++ value4) in
    on_ok_weaker c.add.result (λ e. more start _ _ y4 (codes "}") e4 e) c.add.ensures
