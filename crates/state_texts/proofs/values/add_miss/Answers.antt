use Rattle.std.proofs.Common.{List, ℕ, ◌++◌, ◌∙◌, ap}
use Rattle.std.specs.Prelude.{codes, decimal}
use Rattle.std.proofs.lemmas.Result.{on_ok_weaker}
use Rattle.state_json.specs.Values.{miss_text}
use Rattle.state_json.specs.Values.{need_name}
use Rattle.state_json.specs.Json.{quotation_of, member, or_null}
use Rattle.state_texts.proofs.Lists.{more, more-by-two}
use Rattle.state_texts.proofs.values.add_miss.Goals as goal

pub returns : goal.returns
unfolding miss_text
returns c =
    let start = c.args.text.now.items in
    let name : List ℕ = codes "{\"" ++ codes "block" ++ codes "\":" in
    let value : List ℕ = decimal c.args.block in
    let e0 = more start _ _ name value c.in_ok-add_opening.ensures (c.in_ok-add_number.ensures ∙ ap (λ (t : ℕ). c.add_opening.new.text.items ++ decimal t) (c.from.ensures ∙ c.number.ensures.same)) in
    let y0 : List ℕ = name ++ value in
    let name1 : List ℕ = codes ",\"" ++ codes "need" ++ codes "\":" in
    let value1 : List ℕ = quotation_of (need_name c.args.need) in
    let e1 = more-by-two start _ _ _ y0 name1 value1 e0 c.in_ok-add_member.ensures (c.in_ok-add_quotation.ensures ∙ ap (λ (t : List ℕ). c.add_member.new.text.items ++ quotation_of t) c.need_name.ensures) in
    let y1 : List ℕ = y0 ++ (name1 ++ value1) in
    let value2 : List ℕ = member (codes "issued") (decimal c.args.issued) in
    let e2 = more start _ _ y1 value2 e1 (c.in_ok-add_named_number.ensures ∙ ap (λ (t : ℕ). c.add_quotation.new.text.items ++ member (codes "issued") (decimal t)) c.from-2.ensures) in
    let y2 : List ℕ = y1 ++ value2 in
    let name3 : List ℕ = codes ",\"" ++ codes "fixed" ++ codes "\":" in
    let value3 : List ℕ = or_null decimal c.args.fixed in
    let e3 = more-by-two start _ _ _ y2 name3 value3 e2 c.in_ok-add_member-2.ensures c.in_ok-add_interval.ensures in
    let y3 : List ℕ = y2 ++ (name3 ++ value3) in
    let value4 : List ℕ = member (codes "due") (decimal c.args.due) in
    let e4 = more start _ _ y3 value4 e3 (c.in_ok-add_named_number-2.ensures ∙ ap (λ (t : ℕ). c.add_interval.new.text.items ++ member (codes "due") (decimal t)) c.from-3.ensures) in
    let y4 : List ℕ = y3 ++ value4 in
    let value5 : List ℕ = member (codes "acks") (decimal c.args.acks) in
    let e5 = more start _ _ y4 value5 e4 (c.in_ok-add_named_number-3.ensures ∙ ap (λ (t : ℕ). c.add_named_number-2.new.text.items ++ member (codes "acks") (decimal t)) c.from-4.ensures) in
    let y5 : List ℕ = y4 ++ value5 in
    on_ok_weaker c.add.result (λ e. more start _ _ y5 (codes "}") e5 e) c.add.ensures
