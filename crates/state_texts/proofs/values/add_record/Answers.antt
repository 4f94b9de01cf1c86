use Rattle.std.proofs.Common.{List, ℕ, ◌++◌, ◌∙◌, ap}
use Rattle.std.specs.Prelude.{codes, decimal}
use Rattle.std.proofs.lemmas.Result.{on_ok_weaker}
use Rattle.state_json.specs.Values.{record_text}
use Rattle.state_json.specs.Json.{word, flag, or_null, byte}
use Rattle.state_texts.proofs.Lists.{more, more-by-two}
use Rattle.state_texts.proofs.values.add_record.Goals as goal

pub returns : goal.returns
unfolding record_text
returns c =
    let start = c.args.text.now.items in
    let name : List ℕ = codes "{\"" ++ codes "interval" ++ codes "\":" in
    let value : List ℕ = decimal c.args.interval in
    let e0 = more start _ _ name value c.in_ok-add_opening.ensures (c.in_ok-add_number.ensures ∙ ap (λ (t : ℕ). c.add_opening.new.text.items ++ decimal t) c.from.ensures) in
    let y0 : List ℕ = name ++ value in
    let name1 : List ℕ = codes ",\"" ++ codes "seen" ++ codes "\":" in
    let value1 : List ℕ = word c.args.did.now.seen in
    let e1 = more-by-two start _ _ _ y0 name1 value1 e0 c.in_ok-add_member.ensures c.in_ok-add_word.ensures in
    let y1 : List ℕ = y0 ++ (name1 ++ value1) in
    let name2 : List ℕ = codes ",\"" ++ codes "done" ++ codes "\":" in
    let value2 : List ℕ = flag c.args.did.now.sc_done in
    let e2 = more-by-two start _ _ _ y1 name2 value2 e1 c.in_ok-add_member-2.ensures c.in_ok-add_flag.ensures in
    let y2 : List ℕ = y1 ++ (name2 ++ value2) in
    let name3 : List ℕ = codes ",\"" ++ codes "read" ++ codes "\":" in
    let value3 : List ℕ = or_null byte c.args.did.now.read in
    let e3 = more-by-two start _ _ _ y2 name3 value3 e2 c.in_ok-add_member-3.ensures c.in_ok-add_read.ensures in
    let y3 : List ℕ = y2 ++ (name3 ++ value3) in
    on_ok_weaker c.add.result (λ e. more start _ _ y3 (codes "}") e3 e) c.add.ensures
