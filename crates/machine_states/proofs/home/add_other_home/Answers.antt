use Rattle.std.proofs.Common.{List, ℕ, ◌++◌, ◌∙◌, ap}
use Rattle.std.specs.Prelude.{codes, decimal, Option}
use Rattle.std.proofs.lemmas.Result.{on_ok_weaker}
use Rattle.std.proofs.Common.{Bool}
use Rattle.sn_model.specs.Fabric.{home_of}
use Rattle.sn_model.specs.Homes.{Transaction}
use Rattle.state_json.specs.Json.{array, or_null}
use Rattle.state_json.specs.Values.{transaction_text, marked_texts}
use Rattle.state_json.specs.Parts.{holder_text}
use Rattle.state_texts.proofs.Lists.{more, more-by-two}
use Rattle.machine_states.proofs.home.add_other_home.Goals as goal

pub returns : goal.returns
returns c =
    let start = c.args.text.now.items in
    let name : List ℕ = codes "{\"" ++ codes "block" ++ codes "\":" in
    let value : List ℕ = decimal c.args.block in
    let e0 = more start _ _ name value c.in_ok-add_opening.ensures (c.in_ok-add_number.ensures ∙ ap (λ (t : ℕ). c.add_opening.new.text.items ++ decimal t) (c.from.ensures ∙ c.number.ensures.same)) in
    let y0 : List ℕ = name ++ value in
    let value1 : List ℕ = holder_text (home_of c.args.machine.now.state.fabric c.args.block).holder in
    let e1 = more start _ _ y0 value1 e0 c.in_ok-add_holder.ensures in
    let y1 : List ℕ = y0 ++ value1 in
    let name2 : List ℕ = codes ",\"" ++ codes "sharers" ++ codes "\":" in
    let value2 : List ℕ = array (marked_texts 16 (home_of c.args.machine.now.state.fabric c.args.block).sharers) in
    let e2 = more-by-two start _ _ _ y1 name2 value2 e1 c.in_ok-add_member.ensures (c.in_ok-add_sharers.ensures ∙ ap (λ (t : List Bool). c.add_member.new.text.items ++ array (marked_texts 16 t)) c.sharers.ensures) in
    let y2 : List ℕ = y1 ++ (name2 ++ value2) in
    let name3 : List ℕ = codes ",\"" ++ codes "transaction" ++ codes "\":" in
    let value3 : List ℕ = or_null transaction_text (home_of c.args.machine.now.state.fabric c.args.block).transaction in
    let e3 = more-by-two start _ _ _ y2 name3 value3 e2 c.in_ok-add_member-2.ensures (c.in_ok-add_open.ensures ∙ ap (λ (t : Option Transaction). c.add_member-2.new.text.items ++ or_null transaction_text t) c.transaction.ensures) in
    let y3 : List ℕ = y2 ++ (name3 ++ value3) in
    on_ok_weaker c.add.result (λ e. more start _ _ y3 (codes "}") e3 e) c.add.ensures
