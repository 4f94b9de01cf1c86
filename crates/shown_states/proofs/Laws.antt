-- One more event: its pieces, its state, and what the probes are told.
use Rattle.std.proofs.Common.{◌≡◌, ℕ, ◌+◌, List, [], ◌∷◌, ◌++◌, map, take, drop, length, refl, ap, sym, ◌∙◌, append_assoc, append-nil, arith}
use Rattle.std.proofs.lemmas.List.{take-append-drop}
use Rattle.std.specs.Prelude.{Option}
use Rattle.sn_base.specs.Image.{ImageData}
use Rattle.sn_base.specs.declared.config.Config.{Config}
use Rattle.sn_base.specs.declared.event.Event.{Event}
use Rattle.sn_model.specs.Machine.{State, start_of}
use Rattle.sn_model.specs.Step.{step_of, state_after}
use Rattle.sn_probe.specs.Probes.{Meter, Observation, told_of, told_from}
use Rattle.sink_pieces.specs.Pieces.{Piece}
use Rattle.script_replay.specs.Probed.{answers_along, told_of_run}
use Rattle.option_values.specs.declared.places.Places.{Places}
use Rattle.shown_states.specs.Pieces.{report_piece, opening_text, state_turn, turns_from, turns_of}

module _ (image : ImageData) (config : Config) where
  pub state-more : (s : State) (first : List Event) (event : Event) →
      state_after image config s (first ++ event ∷ []) ≡ (step_of image config (state_after image config s first) event).state
  state-more s [] event = refl
  state-more s (x ∷ first) event = state-more (step_of image config s x).state first event

  turns-more : (only : Option Places) (done : ℕ) (s : State) (first : List Event) (event : Event) →
      turns_from image config only done s (first ++ event ∷ [])
      ≡ turns_from image config only done s first
      ++ state_turn image config only (done + length first + 1) (state_after image config s first) event
  unfolding turns_from
  turns-more only done s [] event =
      let same : done + 1 ≡ done + 0 + 1 = omega arith in
      append-nil (state_turn image config only (done + 1) s event) ∙ ap (λ k. state_turn image config only k s event) same
  turns-more only done s (x ∷ first) event =
      let next : State = (step_of image config s x).state in
      let same : done + 1 + length first + 1 ≡ done + length (x ∷ first) + 1 = omega arith in
      ap (λ t. state_turn image config only (done + 1) s x ++ t)
      (turns-more only (done + 1) next first event
      ∙ ap (λ k. turns_from image config only (done + 1) next first
      ++ state_turn image config only k (state_after image config next first) event) same)
      ∙ sym (append_assoc (state_turn image config only (done + 1) s x) (turns_from image config only (done + 1) next first)
      (state_turn image config only (done + length (x ∷ first) + 1) (state_after image config next first) event))

  pub turns_of-more : (only : Option Places) (first : List Event) (event : Event) →
      turns_of image config only (first ++ event ∷ [])
      ≡ turns_of image config only first
      ++ state_turn image config only (length first + 1) (state_after image config (start_of image config.nodes) first) event
  unfolding turns_of
  turns_of-more only first event =
      let s : State = start_of image config.nodes in
      let same : 0 + length first + 1 ≡ length first + 1 = omega arith in
      ap (λ t. report_piece (opening_text image config only 0 s) ++ t)
      (turns-more only 0 s first event
      ∙ ap (λ k. turns_from image config only 0 s first ++ state_turn image config only k (state_after image config s first) event) same)
      ∙ sym (append_assoc (report_piece (opening_text image config only 0 s)) (turns_from image config only 0 s first)
      (state_turn image config only (length first + 1) (state_after image config s first) event))

  -- the answers along events, and what the probes are told of them

  answers-more : (s : State) (first : List Event) (event : Event) →
      answers_along image config s (first ++ event ∷ [])
      ≡ answers_along image config s first
      ++ record { event = event; answer = (step_of image config (state_after image config s first) event).answer } ∷ []
  answers-more s [] event = refl
  answers-more s (x ∷ first) event =
      ap (λ t. record { event = x; answer = (step_of image config s x).answer } ∷ t) (answers-more (step_of image config s x).state first event)

  answers-length : (s : State) (first : List Event) → length (answers_along image config s first) ≡ length first
  answers-length s [] = refl
  answers-length s (x ∷ first) = let more = answers-length (step_of image config s x).state first in omega (arith, more)

  from-more : (number : ℕ) (told : List Observation) (one : Observation) (m : Meter) →
      told_from number (told ++ one ∷ []) m ≡ told_of (number + length told) one.event one.answer (told_from number told m)
  from-more number [] one m =
      let same : number ≡ number + 0 = omega arith in
      ap (λ k. told_of k one.event one.answer m) same
  from-more number (x ∷ told) one m =
      let same : number + 1 + length told ≡ number + length (x ∷ told) = omega arith in
      from-more (number + 1) told one (told_of number x.event x.answer m)
      ∙ ap (λ k. told_of k one.event one.answer (told_from (number + 1) told (told_of number x.event x.answer m))) same

  each-more : (told : List Observation) (one : Observation) (count : ℕ) (probes : List Meter) → length told ≡ count →
      map (told_from 1 (told ++ one ∷ [])) probes ≡ map (told_of (count + 1) one.event one.answer) (map (told_from 1 told) probes)
  each-more told one count [] e = refl
  each-more told one count (m ∷ probes) e =
      let same : 1 + length told ≡ count + 1 = omega (arith, e) in
      ap (λ t. t ∷ map (told_from 1 (told ++ one ∷ [])) probes)
      (from-more 1 told one m ∙ ap (λ k. told_of k one.event one.answer (told_from 1 told m)) same)
      ∙ ap (λ t. told_of (count + 1) one.event one.answer (told_from 1 told m) ∷ t) (each-more told one count probes e)

  pub told-more : (first : List Event) (event : Event) (probes : List Meter) →
      told_of_run image config (first ++ event ∷ []) probes
      ≡ map (told_of (length first + 1) event (step_of image config (state_after image config (start_of image config.nodes) first) event).answer)
      (told_of_run image config first probes)
  told-more first event probes =
      let s : State = start_of image config.nodes in
      ap (λ t. map (told_from 1 t) probes) (answers-more s first event)
      ∙ each-more (answers_along image config s first) _ (length first) probes (answers-length s first)

  -- the pieces of the first events come first

  turns-split : (only : Option Places) (done : ℕ) (s : State) (first others : List Event) →
      (rest : List Piece) × (turns_from image config only done s first ++ rest ≡ turns_from image config only done s (first ++ others))
  unfolding turns_from
  turns-split only done s [] others = (turns_from image config only done s others, refl)
  turns-split only done s (event ∷ first) others =
      let more = turns-split only (done + 1) (step_of image config s event).state first others in (
        more.0,
        append_assoc (state_turn image config only (done + 1) s event)
            (turns_from image config only (done + 1) (step_of image config s event).state first) more.0
            ∙ ap (λ t. state_turn image config only (done + 1) s event ++ t) more.1,
      )

  pub turns-first : (only : Option Places) (events : List Event) (i : ℕ) →
      (rest : List Piece) × (turns_of image config only (take i events) ++ rest ≡ turns_of image config only events)
  unfolding turns_of
  turns-first only events i =
      let s : State = start_of image config.nodes in
      let split = turns-split only 0 s (take i events) (drop i events) in (
        split.0,
        append_assoc (report_piece (opening_text image config only 0 s)) (turns_from image config only 0 s (take i events)) split.0
            ∙ ap (λ t. report_piece (opening_text image config only 0 s) ++ t)
            (split.1 ∙ ap (turns_from image config only 0 s) (take-append-drop i events)),
      )
