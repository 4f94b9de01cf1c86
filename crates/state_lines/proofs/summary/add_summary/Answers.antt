use Rattle.std.proofs.Common.{List, ℕ, ◌++◌, ◌∙◌, ap, sym, length, false}
use Rattle.std.specs.Prelude.{codes, decimal, map, Option, option_to_list, slice_index}
use Rattle.std.proofs.lemmas.Result.{on_ok_weaker}
use Rattle.rv_core.specs.declared.step.Record.{Record}
use Rattle.machine_states.specs.Machine.{MachineData, flat_of}
use Rattle.sn_probe.specs.Probes.{meters_of, tallies_of}
use Rattle.state_json.specs.Json.{with_commas, array, or_null}
use Rattle.state_json.specs.Lines.{core_texts, watch_text, tally_text, summary_text}
use Rattle.state_lines.proofs.summary.add_summary.Given as given
use Rattle.state_texts.proofs.Lists.{more, more-by-two}
use Rattle.state_lines.proofs.summary.add_summary.Goals as goal

pub returns : goal.returns
returns g c =
    let start = c.args.text.now.items in
    let name : List ℕ = codes "{\"" ++ codes "events" ++ codes "\":" in
    let value : List ℕ = decimal c.args.machine.now.applied in
    let e0 = more start _ _ name value c.in_ok-add_opening.ensures (c.in_ok-add_number.ensures ∙ ap (λ (t : ℕ). c.add_opening.new.text.items ++ decimal t) (c.from.ensures ∙ c.applied.ensures.same)) in
    let y0 : List ℕ = name ++ value in
    let name1 : List ℕ = codes ",\"" ++ codes "point" ++ codes "\":" in
    let value1 : List ℕ = decimal c.args.machine.now.state.fabric.point in
    let e1 = more-by-two start _ _ _ y0 name1 value1 e0 c.in_ok-add_member.ensures (c.in_ok-add_number-2.ensures ∙ ap (λ (t : ℕ). c.add_member.new.text.items ++ decimal t) (c.from-2.ensures ∙ c.point.ensures ∙ ap (λ (t : MachineData). t.state.fabric.point) c.recovered-view.ensures.shown)) in
    let y1 : List ℕ = y0 ++ (name1 ++ value1) in
    let name2 : List ℕ = codes ",\"" ++ codes "committed" ++ codes "\":" in
    let value2 : List ℕ = decimal (length c.args.machine.now.state.committed) in
    let e2 = more-by-two start _ _ _ y1 name2 value2 e1 c.in_ok-add_member-2.ensures (c.in_ok-add_number-3.ensures ∙ ap (λ (t : List Record). c.add_member-2.new.text.items ++ decimal (length t)) (c.committed.ensures ∙ ap (λ (t : MachineData). t.state.committed) c.recovered-view.ensures.shown)) in
    let y2 : List ℕ = y1 ++ (name2 ++ value2) in
    let name3 : List ℕ = codes ",\"" ++ codes "released" ++ codes "\":" in
    let value3 : List ℕ = decimal (length c.args.machine.now.state.released) in
    let e3 = more-by-two start _ _ _ y2 name3 value3 e2 c.in_ok-add_member-3.ensures (c.in_ok-add_number-4.ensures ∙ ap (λ (t : List ℕ). c.add_member-3.new.text.items ++ decimal (length t)) (c.released.ensures ∙ ap (λ (t : MachineData). t.state.released) c.recovered-view.ensures.shown)) in
    let y3 : List ℕ = y2 ++ (name3 ++ value3) in
    let name4 : List ℕ = codes ",\"" ++ codes "cores" ++ codes "\":" in
    let value4 : List ℕ = codes "[" ++ with_commas false (core_texts c.args.machine.now.config.nodes (flat_of c.args.machine.now)) ++ codes "]" in
    let e4 = more-by-two start _ _ _ y3 name4 value4 e3 c.in_ok-add_member-4.ensures (more c.add_member-4.new.text.items _ _ (codes "[" ++ with_commas false (core_texts c.args.machine.now.config.nodes (flat_of c.args.machine.now))) (codes "]") (more c.add_member-4.new.text.items _ _ (codes "[") (with_commas false (core_texts c.args.machine.now.config.nodes (flat_of c.args.machine.now))) c.in_ok-add.ensures c.in_ok-add_each_core.ensures) c.in_ok-add-2.ensures) in
    let y4 : List ℕ = y3 ++ (name4 ++ value4) in
    let name5 : List ℕ = codes ",\"" ++ codes "watch" ++ codes "\":" in
    let value5 : List ℕ = or_null (watch_text (flat_of c.args.machine.now)) c.args.watch in
    let e5 = more-by-two start _ _ _ y4 name5 value5 e4 c.in_ok-add_member-5.ensures c.in_ok-add_watched.ensures in
    let y5 : List ℕ = y4 ++ (name5 ++ value5) in
    let name6 : List ℕ = codes ",\"" ++ codes "probes" ++ codes "\":" in
    let value6 : List ℕ = codes "[" ++ with_commas false (map tally_text (tallies_of (meters_of (λ b. (given.Probe-dyn g (b.vtable, b.value)).first b.value) (λ b. (given.Probe-dyn g (b.vtable, b.value)).tally b.value) (λ b. (given.Probe-dyn g (b.vtable, b.value)).step b.value) c.args.probes.now.probes.items))) ++ codes "]" in
    let e6 = more-by-two start _ _ _ y5 name6 value6 e5 c.in_ok-add_member-6.ensures (more c.add_member-6.new.text.items _ _ (codes "[" ++ with_commas false (map tally_text (tallies_of (meters_of (λ b. (given.Probe-dyn g (b.vtable, b.value)).first b.value) (λ b. (given.Probe-dyn g (b.vtable, b.value)).tally b.value) (λ b. (given.Probe-dyn g (b.vtable, b.value)).step b.value) c.args.probes.now.probes.items)))) (codes "]") (more c.add_member-6.new.text.items _ _ (codes "[") (with_commas false (map tally_text (tallies_of (meters_of (λ b. (given.Probe-dyn g (b.vtable, b.value)).first b.value) (λ b. (given.Probe-dyn g (b.vtable, b.value)).tally b.value) (λ b. (given.Probe-dyn g (b.vtable, b.value)).step b.value) c.args.probes.now.probes.items)))) c.in_ok-add-3.ensures c.in_ok-add_each_tally.ensures) c.in_ok-add-4.ensures) in
    let y6 : List ℕ = y5 ++ (name6 ++ value6) in
    on_ok_weaker c.add-5.result (λ e. more start _ _ y6 (codes "}") e6 e) c.add-5.ensures
