use Rattle.std.proofs.Common.{List, ℕ, ◌++◌, ◌∙◌, ap}
use Rattle.std.specs.Prelude.{codes, decimal, map, Option}
use Rattle.std.proofs.lemmas.Result.{on_ok_weaker}
use Rattle.state_json.specs.Parts.{node_text}
use Rattle.sn_base.specs.declared.log.LogEntry.{LogEntry}
use Rattle.rv_core.specs.declared.state.CoreState.{CoreState}
use Rattle.sn_model.specs.Caches.{Miss, Put, block_count}
use Rattle.sn_model.specs.Fabric.{node_at}
use Rattle.sn_model.specs.Instructions.{taken_by}
use Rattle.sn_model.specs.Machine.{Retirement, processor_at}
use Rattle.state_parts.specs.Parts.{waiting_of}
use Rattle.state_json.specs.Json.{array, or_null, bytes}
use Rattle.state_json.specs.Values.{core_text, line_texts, miss_text, put_text, entry_text, record_text}
use Rattle.state_texts.proofs.Lists.{more, more-by-two}
use Rattle.machine_states.proofs.node.add_node.Goals as goal

pub returns : goal.returns
unfolding node_text
returns c =
    let start = c.args.text.now.items in
    let name : List ℕ = codes "{\"" ++ codes "node" ++ codes "\":" in
    let value : List ℕ = decimal c.args.node in
    let e0 = more start _ _ name value c.in_ok-add_opening.ensures (c.in_ok-add_number.ensures ∙ ap (λ (t : ℕ). c.add_opening.new.text.items ++ decimal t) (c.from.ensures ∙ c.number.ensures.same)) in
    let y0 : List ℕ = name ++ value in
    let name1 : List ℕ = codes ",\"" ++ codes "now" ++ codes "\":" in
    let value1 : List ℕ = decimal (node_at c.args.machine.now.state.fabric c.args.node).now in
    let e1 = more-by-two start _ _ _ y0 name1 value1 e0 c.in_ok-add_member.ensures (c.in_ok-add_number-2.ensures ∙ ap (λ (t : ℕ). c.add_member.new.text.items ++ decimal t) (c.from-2.ensures ∙ c.now.ensures)) in
    let y1 : List ℕ = y0 ++ (name1 ++ value1) in
    let name2 : List ℕ = codes ",\"" ++ codes "known" ++ codes "\":" in
    let value2 : List ℕ = decimal (node_at c.args.machine.now.state.fabric c.args.node).known in
    let e2 = more-by-two start _ _ _ y1 name2 value2 e1 c.in_ok-add_member-2.ensures (c.in_ok-add_number-3.ensures ∙ ap (λ (t : ℕ). c.add_member-2.new.text.items ++ decimal t) (c.from-3.ensures ∙ c.known.ensures)) in
    let y2 : List ℕ = y1 ++ (name2 ++ value2) in
    let name3 : List ℕ = codes ",\"" ++ codes "core" ++ codes "\":" in
    let value3 : List ℕ = core_text (processor_at c.args.machine.now.state c.args.node).core in
    let e3 = more-by-two start _ _ _ y2 name3 value3 e2 c.in_ok-add_member-3.ensures (c.in_ok-add_core.ensures ∙ ap (λ (t : CoreState). c.add_member-3.new.text.items ++ core_text t) c.core.ensures) in
    let y3 : List ℕ = y2 ++ (name3 ++ value3) in
    let name4 : List ℕ = codes ",\"" ++ codes "lines" ++ codes "\":" in
    let value4 : List ℕ = array (line_texts block_count (node_at c.args.machine.now.state.fabric c.args.node).cache) in
    let e4 = more-by-two start _ _ _ y3 name4 value4 e3 c.in_ok-add_member-4.ensures c.in_ok-add_lines.ensures in
    let y4 : List ℕ = y3 ++ (name4 ++ value4) in
    let name5 : List ℕ = codes ",\"" ++ codes "miss" ++ codes "\":" in
    let value5 : List ℕ = or_null miss_text (node_at c.args.machine.now.state.fabric c.args.node).cache.miss in
    let e5 = more-by-two start _ _ _ y4 name5 value5 e4 c.in_ok-add_member-5.ensures (c.in_ok-add_open_miss.ensures ∙ ap (λ (t : Option Miss). c.add_member-5.new.text.items ++ or_null miss_text t) c.miss.ensures) in
    let y5 : List ℕ = y4 ++ (name5 ++ value5) in
    let name6 : List ℕ = codes ",\"" ++ codes "put" ++ codes "\":" in
    let value6 : List ℕ = or_null put_text (node_at c.args.machine.now.state.fabric c.args.node).cache.put in
    let e6 = more-by-two start _ _ _ y5 name6 value6 e5 c.in_ok-add_member-6.ensures (c.in_ok-add_open_put.ensures ∙ ap (λ (t : Option Put). c.add_member-6.new.text.items ++ or_null put_text t) c.put.ensures) in
    let y6 : List ℕ = y5 ++ (name6 ++ value6) in
    let name7 : List ℕ = codes ",\"" ++ codes "log" ++ codes "\":" in
    let value7 : List ℕ = array (map entry_text (node_at c.args.machine.now.state.fabric c.args.node).log) in
    let e7 = more-by-two start _ _ _ y6 name7 value7 e6 c.in_ok-add_member-7.ensures (c.in_ok-add_log.ensures ∙ ap (λ (t : List LogEntry). c.add_member-7.new.text.items ++ array (map entry_text t)) c.log.ensures) in
    let y7 : List ℕ = y6 ++ (name7 ++ value7) in
    let name8 : List ℕ = codes ",\"" ++ codes "given" ++ codes "\":" in
    let value8 : List ℕ = bytes (processor_at c.args.machine.now.state c.args.node).given in
    let e8 = more-by-two start _ _ _ y7 name8 value8 e7 c.in_ok-add_member-8.ensures c.in_ok-add_given.ensures in
    let y8 : List ℕ = y7 ++ (name8 ++ value8) in
    let name9 : List ℕ = codes ",\"" ++ codes "taken" ++ codes "\":" in
    let value9 : List ℕ = decimal (taken_by c.args.machine.now.state c.args.node) in
    let e9 = more-by-two start _ _ _ y8 name9 value9 e8 c.in_ok-add_member-9.ensures (c.in_ok-add_number-4.ensures ∙ ap (λ (t : ℕ). c.add_member-9.new.text.items ++ decimal t) c.taken.ensures) in
    let y9 : List ℕ = y8 ++ (name9 ++ value9) in
    let name10 : List ℕ = codes ",\"" ++ codes "waiting" ++ codes "\":" in
    let value10 : List ℕ = array (map record_text (waiting_of c.args.node c.args.machine.now.state.pending)) in
    let e10 = more-by-two start _ _ _ y9 name10 value10 e9 c.in_ok-add_member-10.ensures (c.in_ok-add_waiting.ensures ∙ ap (λ (t : List Retirement). c.add_member-10.new.text.items ++ array (map record_text (waiting_of c.args.node t))) c.pending.ensures) in
    let y10 : List ℕ = y9 ++ (name10 ++ value10) in
    on_ok_weaker c.add.result (λ e. more start _ _ y10 (codes "}") e10 e) c.add.ensures
