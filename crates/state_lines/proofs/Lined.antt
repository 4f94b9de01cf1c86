-- The line of an event, member by member.
use Rattle.std.proofs.Common.{◌≡◌, ℕ, ◌+◌, List, ◌++◌, length, refl, ap, sym, ◌∙◌}
use Rattle.std.specs.Prelude.{codes, decimal, map}
use Rattle.sn_base.specs.declared.event.Event.{Event}
use Rattle.sn_base.specs.declared.event.Answer.{Answer}
use Rattle.sn_text.specs.Text.{event_text, answer_text}
use Rattle.machine_states.specs.Machine.{MachineData, IsApplied, next_of}
use Rattle.state_parts.specs.Touched.{TouchedParts, parts_touched}
use Rattle.state_json.specs.Json.{quotation_of, opens, member, closes, array}
use Rattle.state_json.specs.Messages.{sent_text}
use Rattle.state_json.specs.Parts.{told_text}
use Rattle.state_json.specs.Details.{details_text}
use Rattle.state_json.specs.Lines.{state_line}
use Rattle.state_texts.proofs.Lists.{more}
use Rattle.state_lines.specs.declared.touched.Touched.{Touched}
use Rattle.state_lines.specs.Touched.{touched_as}

module _ (m : MachineData) (event : Event) where
  abbrev heading : Answer → List ℕ
  heading answer =
      opens (codes "place") (decimal (m.applied + 1)) ++ member (codes "event") (quotation_of (event_text event))
      ++ member (codes "answer") (quotation_of (answer_text answer))

  abbrev details : Answer → List ℕ
  details answer = details_text m.image m.state event answer

  abbrev sent : MachineData → List ℕ
  sent n = member (codes "sent") (array (map sent_text n.sent))

  abbrev whole : Answer → MachineData → TouchedParts → List ℕ
  whole answer n parts = heading answer ++ details answer ++ sent n ++ told_text n.image n.state parts ++ closes ++ codes "\n"

  module _ (n : MachineData) (answer : Answer) (touched : Touched) (applied : IsApplied m n event answer) (count : length m.state.fabric.nodes ≡ m.config.nodes) (parts : touched_as (length m.state.fabric.nodes) touched ≡ parts_touched m.state event answer) where
    parts-are : touched_as n.config.nodes touched ≡ parts_touched m.state event (next_of m event).answer
    parts-are =
        ap (λ (t : MachineData). touched_as t.config.nodes touched) applied.left ∙ ap (λ k. touched_as k touched) (sym count) ∙ parts
        ∙ ap (parts_touched m.state event) applied.answer

    whole-is : whole answer n (touched_as n.config.nodes touched) ≡ state_line m.image (m.applied + 1) m.state event (next_of m event)
    unfolding state_line
    whole-is =
        ap (λ (a : Answer). whole a n (touched_as n.config.nodes touched)) applied.answer
        ∙ ap (λ (p : TouchedParts). whole (next_of m event).answer n p) parts-are
        ∙ ap (λ (t : MachineData). whole (next_of m event).answer t (parts_touched m.state event (next_of m event).answer)) applied.left

    pub line-whole : (start headed detailed listed told closed new : List ℕ) → headed ≡ start ++ heading answer →
        detailed ≡ headed ++ details answer → listed ≡ detailed ++ sent n →
        told ≡ listed ++ told_text n.image n.state (touched_as n.config.nodes touched) → closed ≡ told ++ codes "}" → new ≡ closed ++ codes "\n" →
        new ≡ start ++ state_line m.image (m.applied + 1) m.state event (next_of m event)
    line-whole start headed detailed listed told closed new e0 e1 e2 e3 e4 e5 =
        let y1 : List ℕ = heading answer ++ details answer in
        let y2 : List ℕ = y1 ++ sent n in
        let y3 : List ℕ = y2 ++ told_text n.image n.state (touched_as n.config.nodes touched) in
        more start closed new (y3 ++ codes "}") (codes "\n")
        (more start told closed y3 (codes "}")
        (more start listed told y2 (told_text n.image n.state (touched_as n.config.nodes touched))
        (more start detailed listed y1 (sent n) (more start headed detailed (heading answer) (details answer) e0 e1) e2) e3) e4) e5
        ∙ ap (λ t. start ++ t) whole-is
