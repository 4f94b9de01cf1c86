use Rattle.std.proofs.Common.{List, ℕ, ◌++◌, ◌∙◌, ap}
use Rattle.std.specs.Prelude.{codes, decimal}
use Rattle.std.proofs.lemmas.Result.{on_ok_weaker}
use Rattle.state_json.specs.Messages.{message_text}
use Rattle.sn_text.specs.Text.{body_name}
use Rattle.state_json.specs.Messages.{body_text}
use Rattle.state_json.specs.Json.{quotation_of, large, member}
use Rattle.state_texts.proofs.Lists.{more, more-by-two}
use Rattle.state_texts.proofs.messages.add_message.Goals as goal

pub returns : goal.returns
unfolding message_text
returns c =
    let start = c.args.text.now.items in
    let name : List ℕ = codes "{\"" ++ codes "id" ++ codes "\":" in
    let value : List ℕ = large c.args.message.now.id in
    let e0 = more start _ _ name value c.in_ok-add_opening.ensures c.in_ok-add_large.ensures in
    let y0 : List ℕ = name ++ value in
    let name1 : List ℕ = codes ",\"" ++ codes "kind" ++ codes "\":" in
    let value1 : List ℕ = quotation_of (body_name c.args.message.now.body) in
    let e1 = more-by-two start _ _ _ y0 name1 value1 e0 c.in_ok-add_member.ensures (c.in_ok-add_quotation.ensures ∙ ap (λ (t : List ℕ). c.add_member.new.text.items ++ quotation_of t) c.body_name.ensures.name) in
    let y1 : List ℕ = y0 ++ (name1 ++ value1) in
    let value2 : List ℕ = member (codes "from") (decimal c.args.message.now.from) in
    let e2 = more start _ _ y1 value2 e1 (c.in_ok-add_named_number.ensures ∙ ap (λ (t : ℕ). c.add_quotation.new.text.items ++ member (codes "from") (decimal t)) (c.from.ensures ∙ c.number.ensures.same)) in
    let y2 : List ℕ = y1 ++ value2 in
    let value3 : List ℕ = member (codes "to") (decimal c.args.message.now.to) in
    let e3 = more start _ _ y2 value3 e2 (c.in_ok-add_named_number-2.ensures ∙ ap (λ (t : ℕ). c.add_named_number.new.text.items ++ member (codes "to") (decimal t)) (c.from-2.ensures ∙ c.number-2.ensures.same)) in
    let y3 : List ℕ = y2 ++ value3 in
    let value4 : List ℕ = member (codes "tag") (decimal c.args.message.now.tag) in
    let e4 = more start _ _ y3 value4 e3 (c.in_ok-add_named_number-3.ensures ∙ ap (λ (t : ℕ). c.add_named_number-2.new.text.items ++ member (codes "tag") (decimal t)) c.from-3.ensures) in
    let y4 : List ℕ = y3 ++ value4 in
    let value5 : List ℕ = body_text c.args.message.now.block c.args.message.now.body in
    let e5 = more start _ _ y4 value5 e4 c.in_ok-add_body.ensures in
    let y5 : List ℕ = y4 ++ value5 in
    on_ok_weaker c.add.result (λ e. more start _ _ y5 (codes "}") e5 e) c.add.ensures
