use Rattle.std.proofs.Common.{List, ℕ, ◌++◌, ◌∙◌, ap, sym, length, false}
use Rattle.std.specs.Prelude.{codes, decimal, map, Option, option_to_list, slice_index}
use Rattle.std.proofs.lemmas.Result.{on_ok_weaker}
use Rattle.sn_model.specs.Caches.{Miss, Put, block_count}
use Rattle.sn_model.specs.Fabric.{node_at}
use Rattle.state_json.specs.Json.{array, or_null}
use Rattle.state_json.specs.Values.{miss_text, put_text}
use Rattle.state_json.specs.Details.{miss_below, put_below, open_texts, unready_text}
use Rattle.state_texts.proofs.Lists.{more, more-by-two}
use Rattle.state_lines.proofs.unready.add_unready.Goals as goal

pub returns : goal.returns
unfolding unready_text
returns c =
    let start = c.args.text.now.items in
    let name : List ℕ = codes "{\"" ++ codes "node" ++ codes "\":" in
    let value : List ℕ = decimal c.args.node in
    let e0 = more start _ _ name value c.in_ok-add_opening.ensures (c.in_ok-add_number.ensures ∙ ap (λ (t : ℕ). c.add_opening.new.text.items ++ decimal t) (c.from.ensures ∙ c.number.ensures.same)) in
    let y0 : List ℕ = name ++ value in
    let name1 : List ℕ = codes ",\"" ++ codes "now" ++ codes "\":" in
    let value1 : List ℕ = decimal (node_at c.args.machine.now.state.fabric c.args.node).now in
    let e1 = more-by-two start _ _ _ y0 name1 value1 e0 c.in_ok-add_member.ensures (c.in_ok-add_number-2.ensures ∙ ap (λ (t : ℕ). c.add_member.new.text.items ++ decimal t) (c.from-2.ensures ∙ c.now.ensures)) in
    let y1 : List ℕ = y0 ++ (name1 ++ value1) in
    let name2 : List ℕ = codes ",\"" ++ codes "reported" ++ codes "\":" in
    let value2 : List ℕ = decimal (slice_index c.args.machine.now.state.reported c.args.node) in
    let e2 = more-by-two start _ _ _ y1 name2 value2 e1 c.in_ok-add_member-2.ensures (c.in_ok-add_number-3.ensures ∙ ap (λ (t : ℕ). c.add_member-2.new.text.items ++ decimal t) c.reported_by.ensures) in
    let y2 : List ℕ = y1 ++ (name2 ++ value2) in
    let name3 : List ℕ = codes ",\"" ++ codes "miss" ++ codes "\":" in
    let value3 : List ℕ = or_null miss_text (miss_below (node_at c.args.machine.now.state.fabric c.args.node).cache.miss c.args.k) in
    let e3 = more-by-two start _ _ _ y2 name3 value3 e2 c.in_ok-add_member-3.ensures (c.in_ok-add_open_miss.ensures ∙ ap (λ (t : Option Miss). c.add_member-3.new.text.items ++ or_null miss_text t) c.miss_below.ensures ∙ ap (λ (t : Option Miss). c.add_member-3.new.text.items ++ or_null miss_text (miss_below t c.args.k)) c.miss.ensures) in
    let y3 : List ℕ = y2 ++ (name3 ++ value3) in
    let name4 : List ℕ = codes ",\"" ++ codes "put" ++ codes "\":" in
    let value4 : List ℕ = or_null put_text (put_below (node_at c.args.machine.now.state.fabric c.args.node).cache.put c.args.k) in
    let e4 = more-by-two start _ _ _ y3 name4 value4 e3 c.in_ok-add_member-4.ensures (c.in_ok-add_open_put.ensures ∙ ap (λ (t : Option Put). c.add_member-4.new.text.items ++ or_null put_text t) c.put_below.ensures ∙ ap (λ (t : Option Put). c.add_member-4.new.text.items ++ or_null put_text (put_below t c.args.k)) c.put.ensures) in
    let y4 : List ℕ = y3 ++ (name4 ++ value4) in
    let name5 : List ℕ = codes ",\"" ++ codes "transactions" ++ codes "\":" in
    let value5 : List ℕ = array (open_texts block_count c.args.machine.now.state.fabric c.args.node c.args.k) in
    let e5 = more-by-two start _ _ _ y4 name5 value5 e4 c.in_ok-add_member-5.ensures c.in_ok-add_all_open.ensures in
    let y5 : List ℕ = y4 ++ (name5 ++ value5) in
    on_ok_weaker c.add.result (λ e. more start _ _ y5 (codes "}") e5 e) c.add.ensures
