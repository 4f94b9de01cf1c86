use Rattle.std.proofs.Common.{List, ℕ, ◌++◌, ◌*◌, ◌∙◌, ap, false}
use Rattle.std.specs.Prelude.{codes, map}
use Rattle.std.proofs.lemmas.Result.{on_ok_weaker}
use Rattle.state_json.specs.Parts.{net_text}
use Rattle.sn_model.specs.Fabric.{Net}
use Rattle.state_json.specs.Json.{array, large, with_commas}
use Rattle.state_json.specs.Messages.{flight_text}
use Rattle.state_json.specs.Parts.{dead_texts}
use Rattle.state_texts.proofs.Lists.{more, more-by-two}
use Rattle.machine_states.proofs.net.add_net.Goals as goal

pub returns : goal.returns
unfolding net_text
returns c =
    let start = c.args.text.now.items in
    let dead : List ℕ = with_commas false (dead_texts (2 * c.args.machine.now.config.nodes) c.args.machine.now.state.fabric.net.dead) in
    let name : List ℕ = codes "{\"" ++ codes "messages" ++ codes "\":" in
    let value : List ℕ = array (map flight_text c.args.machine.now.state.fabric.net.flights) in
    let e0 = more start _ _ name value c.in_ok-add_opening.ensures (c.in_ok-add_flights.ensures ∙ ap (λ (t : Net). c.add_opening.new.text.items ++ array (map flight_text t.flights)) c.net-net.ensures.carried) in
    let y0 : List ℕ = name ++ value in
    let name1 : List ℕ = codes ",\"" ++ codes "dead" ++ codes "\":" in
    let value1 : List ℕ = codes "[" ++ dead ++ codes "]" in
    let e1 = more-by-two start _ _ _ y0 name1 value1 e0 c.in_ok-add_member.ensures (more c.add_member.new.text.items _ _ (codes "[" ++ dead) (codes "]") (more c.add_member.new.text.items _ _ (codes "[") (dead) c.in_ok-add.ensures c.in_ok-add_each_dead.ensures) c.in_ok-add-2.ensures) in
    let y1 : List ℕ = y0 ++ (name1 ++ value1) in
    let name2 : List ℕ = codes ",\"" ++ codes "next" ++ codes "\":" in
    let value2 : List ℕ = large c.args.machine.now.state.fabric.net.next_id in
    let e2 = more-by-two start _ _ _ y1 name2 value2 e1 c.in_ok-add_member-2.ensures (c.in_ok-add_large.ensures ∙ ap (λ (t : ℕ). c.add_member-2.new.text.items ++ large t) (c.next_id.ensures ∙ ap (λ (n : Net). n.next_id) c.net-net.ensures.carried)) in
    let y2 : List ℕ = y1 ++ (name2 ++ value2) in
    on_ok_weaker c.add-3.result (λ e. more start _ _ y2 (codes "}") e2 e) c.add-3.ensures
