-- Where a replay stands when a sink breaks.
use Rattle.std.proofs.Common.{◌≡◌, ℕ, ◌+◌, ◌<◌, List, [], ◌∷◌, ◌++◌, take, length, refl, ap, sym, subst, ◌∙◌, append_assoc}
use Rattle.std.proofs.Common.{append-nil, length-append, arith}
use Rattle.sn_base.specs.declared.event.Event.{Event}
use Rattle.due_events.specs.Machine.{MachineData}
use Rattle.sn_probe.specs.Probes.{Meter, tallies_of}
use Rattle.sink_pieces.specs.Pieces.{Ends, after, Breaks}
use Rattle.sink_pieces.proofs.PieceLaws.{after-append, after-nil}
use Rattle.script_replay.specs.declared.job.Showing.{Showing}
use Rattle.script_replay.specs.Pieces.{turns_from, pieces_from}
use Rattle.script_replay.specs.Played.{after_event, end_now, turn_now, turns_left, pieces_left, told_left, StopsAt, StopsAtEnd}
use Rattle.script_replay.proofs.SoFar.{pieces_left-event}
use Rattle.script_replay.proofs.ToldSoFar.{IsToldSoFar, told-done}

turns_left-event : (m : MachineData) (showing : Showing) (event : Event) (rest : List Event) →
    turns_left m showing (event ∷ rest) ≡ turn_now m showing event ++ turns_left (after_event m event) showing rest
unfolding turns_from
turns_left-event m showing event rest = refl

turns_left-one : (m : MachineData) (showing : Showing) (event : Event) → turns_left m showing (event ∷ []) ≡ turn_now m showing event
unfolding turns_from
turns_left-one m showing event = append-nil (turn_now m showing event)

-- the pieces of these events were put, and whatever is still to come follows them
pub record IsPutSoFar (start : MachineData) (showing : Showing) (tallies : List (List ℕ)) (done : List Event) (m : MachineData) (before now_ : Ends) : Type 0 where
  pub put : now_ ≡ after before (turns_left start showing done)
  pub turns : (rest : List Event) → turns_left start showing (done ++ rest) ≡ turns_left start showing done ++ turns_left m showing rest
  pub pieces : (rest : List Event) →
      pieces_left start showing tallies (done ++ rest) ≡ turns_left start showing done ++ pieces_left m showing tallies rest

pub put-start : (m : MachineData) (showing : Showing) (tallies : List (List ℕ)) (e : Ends) → IsPutSoFar m showing tallies [] m e e
unfolding turns_from
put-start m showing tallies e = record { put = sym (after-nil e); turns = λ rest. refl; pieces = λ rest. refl }

-- the first of a list are its beginning
take-first : (first rest : List Event) → take (length first) (first ++ rest) ≡ first
take-first [] rest = refl
take-first (event ∷ first) rest = ap (λ t. event ∷ t) (take-first first rest)

take-one_more : (first rest : List Event) (event : Event) → take (length first + 1) (first ++ event ∷ rest) ≡ first ++ event ∷ []
take-one_more first rest event =
    ap (λ n. take n (first ++ event ∷ rest)) (sym (length-append first (event ∷ [])))
    ∙ ap (take (length (first ++ event ∷ []))) (sym (append_assoc first (event ∷ []) rest)) ∙ take-first (first ++ event ∷ []) rest

length-below : (first rest : List Event) (event : Event) → length first < length (first ++ event ∷ rest)
length-below first rest event = omega (arith, length-append first (event ∷ rest))

-- one event
module _ (start m : MachineData) (showing : Showing) (tallies : List (List ℕ)) (done : List Event) (event : Event) (a b : Ends) (h : IsPutSoFar start showing tallies done m a b) where
  one-more : turns_left start showing (done ++ event ∷ []) ≡ turns_left start showing done ++ turn_now m showing event
  one-more = h.turns (event ∷ []) ∙ ap (λ t. turns_left start showing done ++ t) (turns_left-one m showing event)

  more-turns : (rest : List Event) →
      turns_left start showing ((done ++ event ∷ []) ++ rest) ≡ turns_left start showing (done ++ event ∷ [])
      ++ turns_left (after_event m event) showing rest
  more-turns rest =
      ap (turns_left start showing) (append_assoc done (event ∷ []) rest) ∙ h.turns (event ∷ rest)
      ∙ ap (λ t. turns_left start showing done ++ t) (turns_left-event m showing event rest)
      ∙ sym (append_assoc (turns_left start showing done) (turn_now m showing event) (turns_left (after_event m event) showing rest))
      ∙ ap (λ t. t ++ turns_left (after_event m event) showing rest) (sym one-more)

  more-pieces : (rest : List Event) →
      pieces_left start showing tallies ((done ++ event ∷ []) ++ rest) ≡ turns_left start showing (done ++ event ∷ [])
      ++ pieces_left (after_event m event) showing tallies rest
  more-pieces rest =
      ap (pieces_left start showing tallies) (append_assoc done (event ∷ []) rest) ∙ h.pieces (event ∷ rest)
      ∙ ap (λ t. turns_left start showing done ++ t) (pieces_left-event m showing tallies event rest)
      ∙ sym (append_assoc (turns_left start showing done) (turn_now m showing event)
      (pieces_left (after_event m event) showing tallies rest))
      ∙ ap (λ t. t ++ pieces_left (after_event m event) showing tallies rest) (sym one-more)

  put-more : (d : Ends) → d ≡ after b (turn_now m showing event) →
      IsPutSoFar start showing tallies (done ++ event ∷ []) (after_event m event) a d
  put-more d put = record {
    put = put ∙ ap (λ t. after t (turn_now m showing event)) h.put
        ∙ after-append a (turns_left start showing done) (turn_now m showing event) ∙ ap (after a) (sym one-more);
    turns = more-turns;
    pieces = more-pieces;
  }

  pub put-next : (next : MachineData) (d : Ends) → next ≡ after_event m event → d ≡ after b (turn_now m showing event) →
      IsPutSoFar start showing tallies (done ++ event ∷ []) next a d
  put-next next d is put =
      subst (λ (t : MachineData). IsPutSoFar start showing tallies (done ++ event ∷ []) t a d) (sym is) (put-more d put)

  -- it breaks, and the probes know it
  stops-now : (next : MachineData) (d : Ends) (rest : List Event) (probes now_ : List Meter) → Breaks (turn_now m showing event) b d →
      IsToldSoFar start (done ++ event ∷ []) probes next now_ → StopsAt start showing (done ++ event ∷ rest) (length done) a probes d now_
  stops-now next d rest probes now_ broken told =
      let first = take-first done (event ∷ rest) in
      let more = take-one_more done rest event in
      record {
        below = length-below done rest event;
        pieces = turn_now m showing event;
        are =
            ap (turns_left start showing) more ∙ one-more
            ∙ ap (λ t. turns_left start showing t ++ turn_now m showing event) (sym first);
        broken =
            subst (λ (t : Ends). Breaks (turn_now m showing event) t d) (h.put ∙ ap (λ t. after a (turns_left start showing t)) (sym first))
            broken;
        knows = told-done start next (done ++ event ∷ []) probes now_ told ∙ ap (λ t. told_left start t probes) (sym more);
      }

  pub stops-at : (events rest : List Event) (next : MachineData) (d : Ends) (probes now_ : List Meter) → done ++ event ∷ rest ≡ events →
      Breaks (turn_now m showing event) b d → IsToldSoFar start (done ++ event ∷ []) probes next now_ →
      StopsAt start showing events (length done) a probes d now_
  stops-at events rest next d probes now_ all broken told =
      subst (λ (t : List Event). StopsAt start showing t (length done) a probes d now_) all
      (stops-now next d rest probes now_ broken told)

-- the end breaks, and the probes know all events
module _ (start m : MachineData) (showing : Showing) (events : List Event) (a b d : Ends) (probes now_ : List Meter) (told : IsToldSoFar start events probes m now_) (h : IsPutSoFar start showing (tallies_of (told_left start events probes)) events m a b) where
  end-is : pieces_left start showing (tallies_of (told_left start events probes)) events ≡ turns_left start showing events
      ++ end_now m showing (tallies_of (told_left start events probes))
  unfolding pieces_from
  end-is = ap (pieces_left start showing (tallies_of (told_left start events probes))) (sym (append-nil events)) ∙ h.pieces []

  pub stops-at_end : Breaks (end_now m showing (tallies_of now_)) b d → StopsAtEnd start showing events a probes d now_
  stops-at_end broken =
      let known : now_ ≡ told_left start events probes = told-done start m events probes now_ told in
      record {
        pieces = end_now m showing (tallies_of (told_left start events probes));
        are = end-is;
        broken =
            subst (λ (t : Ends). Breaks (end_now m showing (tallies_of (told_left start events probes))) t d) h.put
            (subst (λ (t : List Meter). Breaks (end_now m showing (tallies_of t)) b d) known broken);
        knows = known;
      }
