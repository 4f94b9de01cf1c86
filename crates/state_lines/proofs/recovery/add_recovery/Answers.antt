use Rattle.std.proofs.Common.{List, ℕ, ◌++◌, ◌∙◌, ap, sym, length, false}
use Rattle.std.specs.Prelude.{codes, decimal, map, Option, option_to_list, slice_index}
use Rattle.std.proofs.lemmas.Result.{on_ok_weaker}
use Rattle.sn_model.specs.Fabric.{Net}
use Rattle.state_json.specs.Json.{with_commas, array}
use Rattle.state_json.specs.Messages.{flight_text}
use Rattle.state_json.specs.Details.{undone_texts, taken_back_texts, recovery_text}
use Rattle.state_texts.proofs.Lists.{more, more-by-two}
use Rattle.state_lines.proofs.recovery.add_recovery.Goals as goal

pub returns : goal.returns
returns c =
    let start = c.args.text.now.items in
    let name : List ℕ = codes "{\"" ++ codes "undone" ++ codes "\":" in
    let value : List ℕ = codes "[" ++ with_commas false (undone_texts (length c.args.machine.now.state.fabric.nodes) c.args.machine.now.state) ++ codes "]" in
    let e0 = more start _ _ name value c.in_ok-add_opening.ensures (more c.add_opening.new.text.items _ _ (codes "[" ++ with_commas false (undone_texts (length c.args.machine.now.state.fabric.nodes) c.args.machine.now.state)) (codes "]") (more c.add_opening.new.text.items _ _ (codes "[") (with_commas false (undone_texts (length c.args.machine.now.state.fabric.nodes) c.args.machine.now.state)) c.in_ok-add.ensures (c.in_ok-add_each_undone.ensures ∙ ap (λ (t : ℕ). c.add.new.text.items ++ with_commas false (undone_texts t c.args.machine.now.state)) (sym c.has_its_nodes.ensures))) c.in_ok-add-2.ensures) in
    let y0 : List ℕ = name ++ value in
    let name1 : List ℕ = codes ",\"" ++ codes "dropped" ++ codes "\":" in
    let value1 : List ℕ = array (map flight_text c.args.machine.now.state.fabric.net.flights) in
    let e1 = more-by-two start _ _ _ y0 name1 value1 e0 c.in_ok-add_member.ensures (c.in_ok-add_flights.ensures ∙ ap (λ (t : Net). c.add_member.new.text.items ++ array (map flight_text t.flights)) c.net.ensures.carried) in
    let y1 : List ℕ = y0 ++ (name1 ++ value1) in
    let name2 : List ℕ = codes ",\"" ++ codes "taken_back" ++ codes "\":" in
    let value2 : List ℕ = codes "[" ++ with_commas false (taken_back_texts (length c.args.machine.now.state.fabric.nodes) c.args.machine.now.state) ++ codes "]" in
    let e2 = more-by-two start _ _ _ y1 name2 value2 e1 c.in_ok-add_member-2.ensures (more c.add_member-2.new.text.items _ _ (codes "[" ++ with_commas false (taken_back_texts (length c.args.machine.now.state.fabric.nodes) c.args.machine.now.state)) (codes "]") (more c.add_member-2.new.text.items _ _ (codes "[") (with_commas false (taken_back_texts (length c.args.machine.now.state.fabric.nodes) c.args.machine.now.state)) c.in_ok-add-3.ensures (c.in_ok-add_each_taken_back.ensures ∙ ap (λ (t : ℕ). c.add-3.new.text.items ++ with_commas false (taken_back_texts t c.args.machine.now.state)) (sym c.has_its_nodes.ensures))) c.in_ok-add-4.ensures) in
    let y2 : List ℕ = y1 ++ (name2 ++ value2) in
    on_ok_weaker c.add-5.result (λ e. more start _ _ y2 (codes "}") e2 e) c.add-5.ensures
