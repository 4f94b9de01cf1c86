use Rattle.std.proofs.Common.{List, ℕ, ◌++◌, ◌∙◌, ap}
use Rattle.std.specs.Prelude.{codes, decimal}
use Rattle.std.proofs.lemmas.Result.{on_ok_weaker}
use Rattle.sn_model.specs.Homes.{Transaction}
use Rattle.state_json.specs.Values.{transaction_text}
use Rattle.state_texts.proofs.Lists.{more, more-by-two}
use Rattle.state_lines.proofs.unready.add_open.Goals as goal

pub returns : goal.returns
returns c =
    let start = c.args.text.now.items in
    let name : List ℕ = codes "{\"" ++ codes "block" ++ codes "\":" in
    let value : List ℕ = decimal c.args.block in
    let e0 = more start _ _ name value c.in_ok-add_opening.ensures
    (c.in_ok-add_number.ensures ∙ ap (λ (t : ℕ). c.add_opening.new.text.items ++ decimal t) (c.from.ensures ∙ c.number.ensures.same)) in
    let y0 : List ℕ = name ++ value in
    let name1 : List ℕ = codes ",\"" ++ codes "transaction" ++ codes "\":" in
    let value1 : List ℕ = transaction_text c.args.transaction.now in
    let e1 = more-by-two start _ _ _ y0 name1 value1 e0 c.in_ok-add_member.ensures
    (c.in_ok-add_transaction.ensures ∙ ap (λ (t : Transaction). c.add_member.new.text.items ++ transaction_text t) c.transaction.view_is) in
    let y1 : List ℕ = y0 ++ (name1 ++ value1) in
    on_ok_weaker c.add.result (λ e. more start _ _ y1 (codes "}") e1 e) c.add.ensures
