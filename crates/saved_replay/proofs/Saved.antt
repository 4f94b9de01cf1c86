-- What was put and told in the words of the machine, and what was saved of it, is what is due.
use Rattle.std.proofs.Common.{◌≡◌, ◌≤◌, ℕ, ◌+◌, List, [], ◌∷◌, ◌++◌, take, drop, length, refl, ap, sym, subst, ◌∙◌, inl, inr, append_assoc, append-nil, arith}
use Rattle.std.proofs.lemmas.List.{take_all}
use Rattle.std.specs.Prelude.{Option, Some, None, Result, Ok, Err, OnOk}
use Rattle.sn_base.specs.declared.event.Event.{Event}
use Rattle.sn_base.specs.declared.event.Event.TheVariants.{Recover}
use Rattle.route_plan.specs.Routes.{first_cut_off}
use Rattle.sn_model.specs.Machine.{State, start_of}
use Rattle.sn_model.specs.PointEvents.{living_switches}
use Rattle.sn_model.specs.Step.{step_of}
use Rattle.sn_saved.specs.Resumed.{resumed}
use Rattle.sn_saved.specs.Saved.{Saved, IsAccepted, saved_of, given_from, most_applied, most_saved}
use Rattle.sn_machine.specs.Machine.{MachineData, machine_with_room, next_of}
use Rattle.save_text.specs.Text.{saved_text}
use Rattle.save_text.specs.Reading.{said_by}
use Rattle.sn_io.specs.Outside.{followed_by}
use Rattle.sn_probe.specs.Probes.{Meter}
use Rattle.sink_pieces.specs.Pieces.{Piece, Report, Ends, ends, after, Breaks, HasBeginning, console_text, report_text, console_piece}
use Rattle.sink_pieces.proofs.PieceLaws.{after-append, Breaks-more, Breaks-after, report_text-append, console_text-append}
use Rattle.sink_pieces.proofs.Begun.{report_text-piece, console-after, report-after, console-begun, report-begun}
use Rattle.script_replay.specs.Pieces.{turn_pieces, turns_from, turns_of, pieces_of}
use Rattle.script_replay.specs.Probed.{told_of_run}
use Rattle.script_replay.specs.Played.{after_events, since, state_left, turns_left, told_left, StopsAt}
use Rattle.script_replay.specs.Shown.{output_of, IsShown}
use Rattle.script_replay.proofs.Lawful.{run-lawful}
use Rattle.consistent_cuts.specs.Origins.{Start, applied_at}
use Rattle.consistent_cuts.proofs.SavedForm.{few_records, few_bytes}
use Rattle.saved_points.proofs.Accepted.{few_saved, saved_accepted}
use Rattle.sn_resume.specs.Saving.{IsSavable}
use Rattle.script_replay.proofs.Shown.{shown-all}
use Rattle.script_replay.proofs.Split.{turns-first}
use Rattle.script_replay.proofs.Turned.{left-image, left-config, left-state, left-applied}
use Rattle.saved_replay.specs.declared.job.SavedReplay.{SavedReplay}
use Rattle.saved_replay.specs.Shown.{MaySave, unseen, left_by, saved_by, pieces_due, told_script, IsMoment, IsSaved, IsDone, IsBrokenOff, BreaksAt, KnowApplied}

-- the first of a text, and no bytes more
take-begin : (first rest : List ℕ) → take (length first) (first ++ rest) ≡ first
take-begin [] rest = refl
take-begin (byte ∷ first) rest = ap (λ t. byte ∷ t) (take-begin first rest)

no-bytes : (t : Option (List ℕ)) → t ≡ followed_by t []
no-bytes None = refl
no-bytes (Some bytes) = ap (λ b. Some b) (sym (append-nil bytes))

-- a part of one piece is a break in it
pub one-breaks : (c before behind : Option (List ℕ)) (text : List ℕ) → HasBeginning text before behind →
    Breaks (Report text ∷ []) (ends c before) (ends c behind)
unfolding after
one-breaks c before behind text h = record {
  whole = [];
  piece = Report text;
  rest = [];
  count = length h.put;
  all = refl;
  put = ap (λ t. ends c t) (h.written ∙ ap (followed_by before) taken) ∙ ap (λ t. ends t _) (no-bytes c);
} where
  taken : h.put ≡ take (length h.put) text ++ []
  taken = sym (append-nil _ ∙ ap (take (length h.put)) (sym h.whole) ∙ take-begin h.put h.left)

-- what is known where a call is done: that it wrote, and what is read back where no more was applied than may be
pub both-ok : {E : Type 0} (result : Result (Unit {0}) E) (wrote few read known : Type 0) → OnOk result wrote → OnOk result (few → read) → few →
    (wrote → read → known) → OnOk result known
both-ok (Ok u) wrote few read known w r a f = f w (r a)
both-ok (Err e) wrote few read known w r a f = tt

-- a text that was put to the report is its piece
report-one : (c before behind : Option (List ℕ)) (text : List ℕ) → behind ≡ followed_by before text →
    ends c behind ≡ after (ends c before) (Report text ∷ [])
unfolding after
report-one c before behind text h =
    ap (λ t. ends c t) (h ∙ ap (followed_by before) (sym (append-nil text))) ∙ ap (λ t. ends t (followed_by before (text ++ []))) (no-bytes c)

-- the events release nothing but the console's bytes
module _ (r : SavedReplay) (may : MaySave r) where
  shown : IsShown r.program r.config unseen [] r.script (ends None None)
      (after (ends None None) (pieces_of r.program r.config unseen [] r.script))
  shown = shown-all r.program r.config unseen [] r.script (ends None None) _ may.run may.few (λ is. absurd cc) refl

  console-turns : (i : ℕ) → console_text (turns_of r.program r.config unseen (take i r.script)) ≡ output_of r.program r.config (take i r.script)
  console-turns i = (shown.in_step i).output

  console-script : console_text (turns_of r.program r.config unseen r.script) ≡ output_of r.program r.config r.script
  console-script =
      subst (λ (t : List Event). console_text (turns_of r.program r.config unseen t) ≡ output_of r.program r.config t)
      (take_all (length r.script) r.script (omega arith)) (console-turns (length r.script))

  console-due : console_text (pieces_due r) ≡ output_of r.program r.config r.script
  unfolding pieces_due
  console-due =
      console_text-append (turns_of r.program r.config unseen r.script) (Report (saved_text (saved_by r)) ∷ [])
      ∙ append-nil (console_text (turns_of r.program r.config unseen r.script)) ∙ console-script

  -- and nothing but the save file is reported
  quiet-turns : (done : ℕ) (s : State) (events : List Event) → report_text (turns_from r.program r.config unseen done s events) ≡ []
  unfolding turns_from turn_pieces
  quiet-turns done s [] = refl
  quiet-turns done s (event ∷ events) =
      let next : State = (step_of r.program r.config s event).state in
      let fresh : List ℕ = drop (length s.released) next.released in
      report_text-append (console_piece fresh ++ []) (turns_from r.program r.config unseen (done + 1) next events)
      ∙ ap (λ t. t ++ report_text (turns_from r.program r.config unseen (done + 1) next events))
      (ap report_text (append-nil (console_piece fresh)) ∙ report_text-piece fresh)
      ∙ quiet-turns (done + 1) next events

  report-due : report_text (pieces_due r) ≡ saved_text (saved_by r)
  unfolding pieces_due turns_of
  report-due =
      report_text-append (turns_of r.program r.config unseen r.script) (Report (saved_text (saved_by r)) ∷ [])
      ∙ ap (λ t. t ++ (saved_text (saved_by r) ++ [])) (quiet-turns 0 (start_of r.program r.config.nodes) r.script)
      ∙ append-nil (saved_text (saved_by r))

  moment : (i : ℕ) → IsMoment r (take i r.script)
  unfolding pieces_due
  moment i =
      let split = turns-first r.program r.config unseen r.script i in
      record {
        consistent = run-lawful r.program r.config r.script may.run i;
        others = split.0 ++ Report (saved_text (saved_by r)) ∷ [];
        order = sym (append_assoc (turns_of r.program r.config unseen (take i r.script)) split.0 (Report (saved_text (saved_by r)) ∷ []))
            ∙ ap (λ t. t ++ Report (saved_text (saved_by r)) ∷ []) split.1;
        output = console-turns i;
      }

  -- a machine may go on from what is saved
  accepted-after : first_cut_off (living_switches (left_by r).fabric) ≡ None → IsAccepted r.program (saved_by r)
  accepted-after joined =
      let few : applied_at Start + length r.script ≤ most_saved = omega (arith, may.few) in
      let e : applied_at Start + length r.script ≡ length r.script = omega arith in
      subst (λ n. IsAccepted r.program (saved_of r.config (left_by r) n)) e
      (saved_accepted r.program r.config Start r.script tt may.run (few_saved r.program r.config Start r.script tt may.run few) joined)

  module _ (before behind : Ends) where
    all-put : IsSaved r → behind ≡ after before (pieces_due r) → IsDone r before behind
    all-put saved put = record {
      put = put;
      lawful = moment;
      saved = saved;
      output = console-after before behind (pieces_due r) put ∙ ap (followed_by before.console) console-due;
      report = report-after before behind (pieces_due r) put ∙ ap (followed_by before.report) report-due;
    }

    part-put : Breaks (pieces_due r) before behind → IsBrokenOff r before behind
    part-put broken = record {
      broken = broken;
      lawful = moment;
      output = subst (λ (t : List ℕ). HasBeginning t before.console behind.console) console-due
          (console-begun (pieces_due r) broken.whole broken.rest broken.piece broken.count before behind broken.all broken.put);
      report = subst (λ (t : List ℕ). HasBeginning t before.report behind.report) report-due
          (report-begun (pieces_due r) broken.whole broken.rest broken.piece broken.count before behind broken.all broken.put);
    }

module _ (m : MachineData) (r : SavedReplay) (probes : List Meter) (may : MaySave r) (is : m ≡ machine_with_room r.program r.config (length r.script)) where
  turns-are : (first : List Event) → turns_left (since 0 m) unseen first ≡ turns_of r.program r.config unseen first
  unfolding turns_of
  turns-are first = ap (λ (t : MachineData). turns_left (since 0 t) unseen first) is

  told-is : (first : List Event) → told_left (since 0 m) first probes ≡ told_of_run r.program r.config first probes
  told-is first = ap (λ (t : MachineData). told_left (since 0 t) first probes) is

  pub all-told : (now_ : List Meter) → now_ ≡ told_left (since 0 m) r.script probes → now_ ≡ told_script r probes
  all-told now_ told = told ∙ told-is r.script

  -- a sink broke in the pieces of an event
  module _ (i : ℕ) (before behind : Ends) (now_ : List Meter) (h : StopsAt (since 0 m) unseen r.script i before probes behind now_) where
    pieces-are : turns_of r.program r.config unseen (take (i + 1) r.script)
        ≡ turns_of r.program r.config unseen (take i r.script) ++ h.pieces
    pieces-are = sym (turns-are (take (i + 1) r.script)) ∙ h.are ∙ ap (λ t. t ++ h.pieces) (turns-are (take i r.script))

    pieces-broken : Breaks h.pieces (after before (turns_of r.program r.config unseen (take i r.script))) behind
    pieces-broken = subst (λ (t : List Piece). Breaks h.pieces (after before t) behind) (turns-are (take i r.script)) h.broken

    stopped-at : BreaksAt r probes i before behind now_
    stopped-at = record {
      below = h.below;
      pieces = h.pieces;
      are = pieces-are;
      broken = pieces-broken;
      knows = h.knows ∙ told-is (take (i + 1) r.script);
    }

    breaks-due : Breaks (pieces_due r) before behind
    breaks-due =
        let at = moment r may (i + 1) in
        subst (λ (t : List Piece). Breaks t before behind) at.order
        (Breaks-more _ at.others before behind
        (subst (λ (t : List Piece). Breaks t before behind) (sym pieces-are)
        (Breaks-after (turns_of r.program r.config unseen (take i r.script)) h.pieces before behind pieces-broken)))

    pub events-broken : IsBrokenOff r before behind
    events-broken = part-put r may before behind breaks-due

    pub events-known : KnowApplied r probes before behind now_
    events-known = inl (i, stopped-at)

  -- all events were put and told, and they left this machine, which is saved
  module _ (before middle : Ends) (left : MachineData) (now_ : List Meter) (put : middle ≡ after before (turns_left (since 0 m) unseen r.script)) (told : now_ ≡ told_left (since 0 m) r.script probes) (left_is : left ≡ after_events m r.script) where
    start-is : state_left m r.script ≡ left_by r
    start-is = ap (λ (t : MachineData). state_left t r.script) is

    state-is : left.state ≡ left_by r
    state-is = ap (λ (t : MachineData). t.state) left_is ∙ left-state m r.script ∙ start-is

    config-is : left.config ≡ r.config
    config-is = ap (λ (t : MachineData). t.config) left_is ∙ left-config m r.script ∙ ap (λ (t : MachineData). t.config) is

    image-is : left.image ≡ r.program
    image-is = ap (λ (t : MachineData). t.image) left_is ∙ left-image m r.script ∙ ap (λ (t : MachineData). t.image) is

    applied-is : left.applied ≡ length r.script
    applied-is =
        let made = ap (λ (t : MachineData). t.applied) left_is in
        let more = left-applied m r.script in
        let none = ap (λ (t : MachineData). t.applied) is in
        omega (arith, made, more, none)

    pub saved-is : saved_of left.config left.state left.applied ≡ saved_by r
    saved-is =
        ap (λ t. saved_of t left.state left.applied) config-is ∙ ap (λ (t : State). saved_of r.config t left.applied) state-is
        ∙ ap (saved_of r.config (left_by r)) applied-is

    pub savable : IsSavable left.state
    savable =
        let records = few_records r.program r.config Start r.script tt may.run in
        let bytes = few_bytes r.program r.config Start r.script tt may.run in
        let same_records = ap (λ (t : State). length t.committed) state-is in
        let same_bytes = ap (λ (t : State). length (given_from 0 t.processors)) state-is in
        record { records = omega (arith, records, same_records, may.few); bytes = omega (arith, bytes, same_bytes, may.few) }

    pub few-applied : left.applied ≤ most_applied
    few-applied = omega (arith, applied-is, may.few)

    middle-is : middle ≡ after before (turns_of r.program r.config unseen r.script)
    middle-is = put ∙ ap (after before) (turns-are r.script)

    due-is : pieces_due r ≡ turns_of r.program r.config unseen r.script ++ Report (saved_text (saved_by r)) ∷ []
    unfolding pieces_due
    due-is = refl

    module _ (c v w : Option (List ℕ)) (there : ends c v ≡ middle) where
      pub saved-whole : w ≡ followed_by v (saved_text (saved_of left.config left.state left.applied)) →
          said_by (saved_text (saved_of left.config left.state left.applied)) ≡ Ok (saved_of left.config left.state left.applied) →
          (first_cut_off (living_switches left.state.fabric) ≡ None →
          (next_of left Recover).state ≡ resumed left.image (saved_of left.config left.state left.applied)) → IsDone r before (ends c w)
      saved-whole wrote read goes =
          all-put r may before (ends c w) (record {
            read = subst (λ (s : Saved). said_by (saved_text s) ≡ Ok s) saved-is read;
            recovered = λ joined. recovered-is (subst (λ (t : State). first_cut_off (living_switches t.fabric) ≡ None) (sym state-is) joined);
            accepted = accepted-after r may;
          })
          (report-one c v w _ wrote ∙ ap (λ t. after (ends c v) (Report (saved_text t) ∷ [])) saved-is
          ∙ ap (λ (e : Ends). after e (Report (saved_text (saved_by r)) ∷ [])) (there ∙ middle-is)
          ∙ after-append before (turns_of r.program r.config unseen r.script) (Report (saved_text (saved_by r)) ∷ [])
          ∙ ap (after before) (sym due-is))
        where
          recovered-is : first_cut_off (living_switches left.state.fabric) ≡ None →
              (step_of r.program r.config (left_by r) Recover).state ≡ resumed r.program (saved_by r)
          recovered-is joined =
              sym (ap (λ t. (step_of t left.config left.state Recover).state) image-is
              ∙ ap (λ t. (step_of r.program t left.state Recover).state) config-is
              ∙ ap (λ (t : State). (step_of r.program r.config t Recover).state) state-is)
              ∙ goes joined ∙ ap (λ t. resumed t (saved_of left.config left.state left.applied)) image-is
              ∙ ap (resumed r.program) saved-is

      module _ (h : HasBeginning (saved_text (saved_of left.config left.state left.applied)) v w) where
        save-breaks : Breaks (Report (saved_text (saved_by r)) ∷ []) (after before (turns_of r.program r.config unseen r.script)) (ends c w)
        save-breaks =
            subst (λ (e : Ends). Breaks (Report (saved_text (saved_by r)) ∷ []) e (ends c w)) (there ∙ middle-is)
            (subst (λ (s : Saved). Breaks (Report (saved_text s) ∷ []) (ends c v) (ends c w)) saved-is (one-breaks c v w _ h))

        pub save-broken : IsBrokenOff r before (ends c w)
        save-broken =
            part-put r may before (ends c w)
            (subst (λ (t : List Piece). Breaks t before (ends c w)) (sym due-is)
            (Breaks-after (turns_of r.program r.config unseen r.script) (Report (saved_text (saved_by r)) ∷ []) before (ends c w) save-breaks))

        pub save-known : KnowApplied r probes before (ends c w) now_
        save-known = inr (record { broken = save-breaks; knows = all-told now_ told })
