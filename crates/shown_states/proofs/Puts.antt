-- The pieces of one event.
use Rattle.std.proofs.Common.{◌≡◌, ℕ, ◌+◌, ◌≤◌, Bool, true, false, if◌then◌else◌, List, [], ◌∷◌, ◌++◌, drop, length, refl, ap, sym, subst, ◌∙◌, length-append, arith}
use Rattle.std.proofs.lemmas.Bool.Decides.{nat_tests}
use Rattle.std.specs.Prelude.{Option, nat_eq, map}
use Rattle.sn_probe.specs.Probes.{Meter, told_of}
use Rattle.sn_base.specs.declared.event.Event.{Event}
use Rattle.sn_base.specs.declared.event.Answer.{Answer}
use Rattle.sn_model.specs.Machine.{State}
use Rattle.sn_model.specs.Step.{step_of}
use Rattle.script_replay.specs.Machine.{MachineData, IsApplied, IsConsistentWithItsRun, next_of}
use Rattle.consistent_cuts.specs.Headline.{IsStepOfRun}
use Rattle.consistent_cuts.specs.Runs.{EventFits}
use Rattle.consistent_cuts.proofs.Run.{from_next}
use Rattle.script_replay.proofs.Releases.{released-grows}
use Rattle.sink_pieces.specs.Pieces.{Piece, Report, Ends, after, Breaks, console_piece}
use Rattle.sink_pieces.proofs.PieceLaws.{after-append, after-nil, Breaks-more, Breaks-after}
use Rattle.option_values.specs.declared.places.Places.{Places}
use Rattle.state_json.specs.Lines.{state_line}
use Rattle.shown_states.specs.Pieces.{is_shown, report_piece, opening_text, turn_text, state_turn}
use Rattle.shown_states.specs.Played.{turn_now}

-- a text is put in one piece, or there is none
pub text-none : (text : List ℕ) (e : Ends) → nat_eq (length text) 0 ≡ true → e ≡ after e (report_piece text)
text-none [] e none = sym (after-nil e)
text-none (byte ∷ text) e none = absurd (grind (arith, nat_tests))

pub text-one : (text : List ℕ) (a b : Ends) → nat_eq (length text) 0 ≡ false → b ≡ after a (Report text ∷ []) → b ≡ after a (report_piece text)
text-one [] a b some put = absurd cc
text-one (byte ∷ text) a b some put = put

pub text-breaks : (text : List ℕ) (a b : Ends) → nat_eq (length text) 0 ≡ false → Breaks (Report text ∷ []) a b → Breaks (report_piece text) a b
text-breaks [] a b some broken = absurd cc
text-breaks (byte ∷ text) a b some broken = broken

-- the same of a text in other words
pub text-same : (bytes due : List ℕ) (a b : Ends) → bytes ≡ due → b ≡ after a (report_piece bytes) → b ≡ after a (report_piece due)
text-same bytes due a b same put = put ∙ ap (λ t. after a (report_piece t)) same

pub breaks-same : (bytes due : List ℕ) (a b : Ends) → bytes ≡ due → Breaks (report_piece bytes) a b → Breaks (report_piece due) a b
breaks-same bytes due a b same broken = subst (λ (t : List ℕ). Breaks (report_piece t) a b) same broken

pub line-same : (bytes due : List ℕ) (a b : Ends) → bytes ≡ due → b ≡ after a (Report bytes ∷ []) → b ≡ after a (Report due ∷ [])
line-same bytes due a b same put = put ∙ ap (λ t. after a (Report t ∷ [])) same

pub line-breaks : (bytes due : List ℕ) (a b : Ends) → bytes ≡ due → Breaks (Report bytes ∷ []) a b → Breaks (Report due ∷ []) a b
line-breaks bytes due a b same broken = subst (λ (t : List ℕ). Breaks (Report t ∷ []) a b) same broken

-- the console's piece, and then the report's
module _ (fresh due text : List ℕ) (same : fresh ≡ due) where
  pub first-breaks : (a b : Ends) → Breaks (console_piece fresh) a b → Breaks (console_piece due ++ report_piece text) a b
  first-breaks a b broken =
      Breaks-more (console_piece due) (report_piece text) a b (subst (λ (t : List ℕ). Breaks (console_piece t) a b) same broken)

  module _ (a b d : Ends) (first : b ≡ after a (console_piece fresh)) where
    console-put : b ≡ after a (console_piece due)
    console-put = first ∙ ap (λ t. after a (console_piece t)) same

    pub both-put : d ≡ after b (report_piece text) → d ≡ after a (console_piece due ++ report_piece text)
    both-put second =
        second ∙ ap (λ e. after e (report_piece text)) console-put ∙ after-append a (console_piece due) (report_piece text)

    pub second-breaks : Breaks (report_piece text) b d → Breaks (console_piece due ++ report_piece text) a d
    second-breaks broken =
        Breaks-after (console_piece due) (report_piece text) a d (subst (λ (e : Ends). Breaks (report_piece text) e d) console-put broken)

-- the probes are told an event's number
pub told-at : (number place : ℕ) (event : Event) (answer : Answer) (now_ behind : List Meter) → number ≡ place →
    behind ≡ map (told_of number event answer) now_ → behind ≡ map (told_of place event answer) now_
told-at number place event answer now_ behind same told = told ∙ ap (λ k. map (told_of k event answer) now_) same

-- in the words of the machine before
module _ (m n : MachineData) (only : Option Places) (event : Event) (answer : Answer) (had : ℕ) (text : List ℕ) (applied : IsApplied m n event answer) (was : had ≡ length m.state.released) (is : text ≡ turn_text m.image m.config only (m.applied + 1) m.state event) where
  pub turn-is : console_piece (drop had n.state.released) ++ report_piece text ≡ turn_now m only event
  unfolding state_turn
  turn-is =
      ap (λ k. console_piece (drop k n.state.released) ++ report_piece text) was
      ∙ ap (λ (t : MachineData). console_piece (drop (length m.state.released) t.state.released) ++ report_piece text) applied.left
      ∙ ap (λ t. console_piece (drop (length m.state.released) (next_of m event).state.released) ++ report_piece t) is

-- what the report gets of an event: its line, or what comes after it

by-true : (b : Bool) (line other : List ℕ) → b ≡ true → line ≡ (if b then line else other)
by-true true line other e = refl
by-true false line other e = absurd cc

by-false : (b : Bool) (line other : List ℕ) → b ≡ false → other ≡ (if b then line else other)
by-false true line other e = absurd cc
by-false false line other e = refl

module _ (m : MachineData) (only : Option Places) (event : Event) (shown : Bool) (asked : shown ≡ is_shown only (m.applied + 1)) where
  pub text-shown : (cleared text : List ℕ) → shown ≡ true → cleared ≡ [] →
      text ≡ cleared ++ state_line m.image (m.applied + 1) m.state event (next_of m event) →
      text ≡ turn_text m.image m.config only (m.applied + 1) m.state event
  text-shown cleared text is none put =
      put ∙ ap (λ t. t ++ state_line m.image (m.applied + 1) m.state event (next_of m event)) none
      ∙ by-true (is_shown only (m.applied + 1)) _ _ (sym asked ∙ is)

  pub text-hidden : (n : MachineData) (answer : Answer) (text : List ℕ) → shown ≡ false → IsApplied m n event answer →
      text ≡ opening_text n.image n.config only n.applied n.state → text ≡ turn_text m.image m.config only (m.applied + 1) m.state event
  text-hidden n answer text is applied put =
      put ∙ ap (λ (t : MachineData). opening_text t.image t.config only t.applied t.state) applied.left
      ∙ by-false (is_shown only (m.applied + 1)) _ _ (sym asked ∙ is)

-- as many bytes are released as before the event, or more
pub had-few : (m n : MachineData) (event : Event) (answer : Answer) (had : ℕ) → IsConsistentWithItsRun m → EventFits m.config.nodes event →
    IsApplied m n event answer → had ≡ length m.state.released → had ≤ length n.state.released
had-few m n event answer had consistent fits applied was =
    let led = consistent.led in
    let says : IsStepOfRun m.image m.config m.state event (next_of m event) =
    subst (λ (s : State). IsStepOfRun m.image m.config s event (step_of m.image m.config s event)) (sym led.state)
    (from_next m.image m.config consistent.origin consistent.events led.may led.run event fits) in
    let grown = released-grows m.image m.config m.state event (next_of m event) says in
    let is : n.state.released ≡ m.state.released ++ grown.0 = ap (λ (t : MachineData). t.state.released) applied.left ∙ grown.1 in
    let long : length n.state.released ≡ length m.state.released + length grown.0 = ap length is ∙ length-append m.state.released grown.0 in
    omega (arith, was, long)

pub pieces-same : (pieces due : List Piece) (a b : Ends) → pieces ≡ due → Breaks pieces a b → Breaks due a b
pieces-same pieces due a b same broken = subst (λ (t : List Piece). Breaks t a b) same broken
