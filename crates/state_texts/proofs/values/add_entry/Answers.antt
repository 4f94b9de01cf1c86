use Rattle.std.proofs.Common.{List, ℕ, ◌++◌, ◌∙◌, ap}
use Rattle.std.specs.Prelude.{codes, decimal}
use Rattle.std.proofs.lemmas.Result.{on_ok_weaker}
use Rattle.state_json.specs.Values.{entry_text}
use Rattle.state_json.specs.Values.{old_text}
use Rattle.state_json.specs.Json.{member}
use Rattle.state_texts.proofs.Lists.{more, more-by-two}
use Rattle.state_texts.proofs.values.add_entry.Goals as goal

pub returns : goal.returns
unfolding entry_text
returns c =
    let start = c.args.text.now.items in
    let name : List ℕ = codes "{\"" ++ codes "interval" ++ codes "\":" in
    let value : List ℕ = decimal c.args.entry.now.interval in
    let e0 = more start _ _ name value c.in_ok-add_opening.ensures (c.in_ok-add_number.ensures ∙ ap (λ (t : ℕ). c.add_opening.new.text.items ++ decimal t) c.from.ensures) in
    let y0 : List ℕ = name ++ value in
    let value1 : List ℕ = member (codes "block") (decimal c.args.entry.now.block) in
    let e1 = more start _ _ y0 value1 e0 (c.in_ok-add_named_number.ensures ∙ ap (λ (t : ℕ). c.add_number.new.text.items ++ member (codes "block") (decimal t)) (c.from-2.ensures ∙ c.number.ensures.same)) in
    let y1 : List ℕ = y0 ++ value1 in
    let name2 : List ℕ = codes ",\"" ++ codes "old" ++ codes "\":" in
    let value2 : List ℕ = old_text c.args.entry.now.old in
    let e2 = more-by-two start _ _ _ y1 name2 value2 e1 c.in_ok-add_member.ensures c.in_ok-add_old.ensures in
    let y2 : List ℕ = y1 ++ (name2 ++ value2) in
    on_ok_weaker c.add.result (λ e. more start _ _ y2 (codes "}") e2 e) c.add.ensures
