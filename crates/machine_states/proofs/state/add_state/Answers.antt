use Rattle.std.proofs.Common.{List, ℕ, ◌++◌, ◌∙◌, ap, sym, length}
use Rattle.std.specs.Prelude.{codes}
use Rattle.std.proofs.lemmas.Result.{on_ok_weaker}
use Rattle.state_json.specs.Parts.{state_text}
use Rattle.sn_model.specs.Caches.{block_count}
use Rattle.state_parts.specs.Parts.{controller_part}
use Rattle.state_json.specs.Json.{array}
use Rattle.state_json.specs.Parts.{node_texts, home_texts, net_text, controller_text}
use Rattle.state_texts.proofs.Lists.{more, more-by-two}
use Rattle.machine_states.proofs.state.add_state.Goals as goal

pub returns : goal.returns
unfolding state_text
returns c =
    let start = c.args.text.now.items in
    let name : List ℕ = codes "{\"" ++ codes "nodes" ++ codes "\":" in
    let value : List ℕ = array (node_texts (length c.args.machine.now.state.fabric.nodes) c.args.machine.now.state) in
    let e0 = more start _ _ name value c.in_ok-add_opening.ensures (c.in_ok-add_nodes.ensures ∙ ap (λ (t : ℕ). c.add_opening.new.text.items ++ array (node_texts t c.args.machine.now.state)) (sym c.has_its_nodes.ensures)) in
    let y0 : List ℕ = name ++ value in
    let name1 : List ℕ = codes ",\"" ++ codes "homes" ++ codes "\":" in
    let value1 : List ℕ = array (home_texts c.args.machine.now.image block_count c.args.machine.now.state) in
    let e1 = more-by-two start _ _ _ y0 name1 value1 e0 c.in_ok-add_member.ensures c.in_ok-add_homes.ensures in
    let y1 : List ℕ = y0 ++ (name1 ++ value1) in
    let name2 : List ℕ = codes ",\"" ++ codes "net" ++ codes "\":" in
    let value2 : List ℕ = net_text (length c.args.machine.now.state.fabric.nodes) c.args.machine.now.state.fabric.net in
    let e2 = more-by-two start _ _ _ y1 name2 value2 e1 c.in_ok-add_member-2.ensures (c.in_ok-add_net.ensures ∙ ap (λ (t : ℕ). c.add_member-2.new.text.items ++ net_text t c.args.machine.now.state.fabric.net) (sym c.has_its_nodes.ensures)) in
    let y2 : List ℕ = y1 ++ (name2 ++ value2) in
    let name3 : List ℕ = codes ",\"" ++ codes "controller" ++ codes "\":" in
    let value3 : List ℕ = controller_text (controller_part c.args.machine.now.state) in
    let e3 = more-by-two start _ _ _ y2 name3 value3 e2 c.in_ok-add_member-3.ensures c.in_ok-add_controller.ensures in
    let y3 : List ℕ = y2 ++ (name3 ++ value3) in
    on_ok_weaker c.add.result (λ e. more start _ _ y3 (codes "}") e3 e) c.add.ensures
