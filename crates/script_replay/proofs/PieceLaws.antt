-- Laws of the pieces of one event, and of the end.
use Rattle.std.proofs.Common.{◌≡◌, ℕ, ◌+◌, ◌<◌, ◌≤◌, List, [], ◌∷◌, ◌++◌, drop, length, get_or, refl, ap, sym, subst, ◌∙◌, arith}
use Rattle.std.proofs.lemmas.List.{length-append, drop_more, drop_all}
use Rattle.std.specs.Prelude.{Option, codes}
use Rattle.sn_base.specs.declared.event.Event.{Event}
use Rattle.sn_base.specs.declared.event.Answer.{Answer}
use Rattle.rv_core.specs.declared.step.Record.{Record}
use Rattle.due_events.specs.Machine.{MachineData, next_of, IsApplied}
use Rattle.due_events.specs.Headline.{IsStepOfRun}
use Rattle.sn_text.specs.Text.{trace_line}
use Rattle.sink_pieces.specs.Pieces.{Piece, Report, Ends, after, Breaks, console_piece}
use Rattle.sink_pieces.proofs.PieceLaws.{after-append, after-nil, Breaks-more, Breaks-after}
use Rattle.sink_pieces.proofs.SoFar.{SoFar, SoFar-more, SoFar-breaks, SoFar-whole}
use Rattle.script_replay.specs.declared.job.Showing.{Showing}
use Rattle.script_replay.specs.declared.job.ReportKind.{ReportKind}
use Rattle.script_replay.specs.declared.job.ReportKind.TheVariants.{Events, Trace, Summary}
use Rattle.script_replay.specs.Pieces.{group_of, group_pieces, trace_pieces, tally_pieces, end_pieces, last_pieces, turn_pieces}
use Rattle.script_replay.specs.Played.{group_now, summary_now, summary_pieces_of, end_now, turn_now, IsAlone}
use Rattle.script_replay.proofs.Recoveries.{recovery_is_alone}
use Rattle.script_replay.proofs.Releases.{released-grows}

-- the fresh bytes that the next event of a machine releases
abbrev pub IsFresh : MachineData → Event → List ℕ → Type 0
IsFresh m event fresh = fresh ≡ drop (length m.state.released) (next_of m event).state.released

-- what a machine shows before an event (`before`, of the machine `m`) and after it (`behind`, of `n`) gives the fresh bytes
pub fresh-is : (m n before behind : MachineData) (event : Event) (said : Answer) (had got fresh : List ℕ) → before ≡ m →
    had ≡ before.state.released → behind ≡ n → got ≡ behind.state.released → fresh ≡ drop (length had) got → IsApplied m n event said →
    IsFresh m event fresh
fresh-is m n before behind event said had got fresh a b d e f applied =
    let was : had ≡ m.state.released = b ∙ ap (λ (t : MachineData). t.state.released) a in
    let is : got ≡ (next_of m event).state.released = e ∙ ap (λ (t : MachineData). t.state.released) (d ∙ applied.left) in
    f ∙ ap (λ t. drop (length t) got) was ∙ ap (drop (length m.state.released)) is

-- after an event a recovery is alone, and there are as many released bytes as before, or more
pub alone-after : (m n : MachineData) (event : Event) (said : Answer) → IsApplied m n event said → IsAlone said n.sent
alone-after m n event said applied =
    subst (λ (t : MachineData). IsAlone said t.sent) (sym applied.left)
    (subst (λ a. IsAlone a (next_of m event).sent) (sym applied.answer) (recovery_is_alone m.image m.config m.state event))

pub had-few : (m n before behind : MachineData) (event : Event) (said : Answer) (had got : List ℕ) → before ≡ m →
    had ≡ before.state.released → behind ≡ n → got ≡ behind.state.released → IsApplied m n event said →
    IsStepOfRun m.image m.config m.state event (next_of m event) → length had ≤ length got
had-few m n before behind event said had got a b d e applied says =
    let more = released-grows m.image m.config m.state event (next_of m event) says in
    let was : had ≡ m.state.released = b ∙ ap (λ (t : MachineData). t.state.released) a in
    let is : got ≡ m.state.released ++ more.0 = e ∙ ap (λ (t : MachineData). t.state.released) (d ∙ applied.left) ∙ more.1 in
    let short : length had ≡ length m.state.released = ap length was in
    let long : length got ≡ length m.state.released + length more.0 = ap length is ∙ length-append m.state.released more.0 in
    omega (arith, short, long)

-- the group that the machine after an event has written is that of the event
group-is : (m n : MachineData) (watch : Option ℕ) (event : Event) (said : Answer) → IsApplied m n event said →
    group_now n watch event said ≡ group_of m.image m.config watch (m.applied + 1) event (next_of m event)
group-is m n watch event said applied =
    ap (λ t. group_now t watch event said) applied.left
    ∙ ap (λ a. group_of m.image m.config watch (m.applied + 1) event
    (record { state = (next_of m event).state; answer = a; sent = (next_of m event).sent })) applied.answer

group_pieces-are : (m n : MachineData) (showing : Showing) (event : Event) (said : Answer) → IsApplied m n event said →
    group_pieces showing.report (group_now n showing.watch event said)
    ≡ group_pieces showing.report (group_of m.image m.config showing.watch (m.applied + 1) event (next_of m event))
group_pieces-are m n showing event said applied = ap (group_pieces showing.report) (group-is m n showing.watch event said applied)

-- one event: all of its pieces were put
pub turn-whole : (m n : MachineData) (showing : Showing) (event : Event) (said : Answer) (fresh : List ℕ) (a b d : Ends) →
    IsFresh m event fresh → IsApplied m n event said → b ≡ after a (console_piece fresh) →
    d ≡ after b (group_pieces showing.report (group_now n showing.watch event said)) → d ≡ after a (turn_now m showing event)
unfolding turn_pieces
turn-whole m n showing event said fresh a b d is_fresh applied first second =
    second ∙ ap (after b) (group_pieces-are m n showing event said applied)
    ∙ ap (λ e. after e (group_pieces showing.report
    (group_of m.image m.config showing.watch (m.applied + 1) event (next_of m event)))) first
    ∙ after-append a (console_piece fresh)
    (group_pieces showing.report (group_of m.image m.config showing.watch (m.applied + 1) event (next_of m event))) ∙ rw is_fresh refl

-- one event: what it releases was put in part
pub turn-breaks_first : (m : MachineData) (showing : Showing) (event : Event) (fresh : List ℕ) (a b : Ends) → IsFresh m event fresh →
    Breaks (console_piece fresh) a b → Breaks (turn_now m showing event) a b
unfolding turn_pieces
turn-breaks_first m showing event fresh a b is_fresh broken =
    Breaks-more _ _ a b (subst (λ (f : List ℕ). Breaks (console_piece f) a b) is_fresh broken)

-- one event: its group was put in part
pub turn-breaks_second : (m n : MachineData) (showing : Showing) (event : Event) (said : Answer) (fresh : List ℕ) (a b d : Ends) →
    IsFresh m event fresh → IsApplied m n event said → b ≡ after a (console_piece fresh) →
    Breaks (group_pieces showing.report (group_now n showing.watch event said)) b d → Breaks (turn_now m showing event) a d
unfolding turn_pieces
turn-breaks_second m n showing event said fresh a b d is_fresh applied first broken =
    rw (← is_fresh) (Breaks-after (console_piece fresh) _ a d
    (subst (λ (e : Ends). Breaks
    (group_pieces showing.report (group_of m.image m.config showing.watch (m.applied + 1) event (next_of m event))) e d) first
    (subst (λ (ps : List Piece). Breaks ps b d) (group_pieces-are m n showing event said applied) broken)))

-- a group: one piece where the events are asked for, and else there is none
pub group-none : (kind : ReportKind) (text : List ℕ) (e : Ends) → (kind ≡ Events → ⊥) → e ≡ after e (group_pieces kind text)
group-none Events text e not = absurd (not refl)
group-none Trace text e not = sym (after-nil e)
group-none Summary text e not = sym (after-nil e)

pub group-one : (kind : ReportKind) (text line : List ℕ) (a b : Ends) → kind ≡ Events → line ≡ text → b ≡ after a (Report line ∷ []) →
    b ≡ after a (group_pieces kind text)
group-one kind text line a b is same put = rw is (put ∙ ap (λ t. after a (Report t ∷ [])) same)

pub group-breaks : (kind : ReportKind) (text line : List ℕ) (a b : Ends) → kind ≡ Events → line ≡ text → Breaks (Report line ∷ []) a b →
    Breaks (group_pieces kind text) a b
group-breaks kind text line a b is same broken = rw is (subst (λ (t : List ℕ). Breaks (Report t ∷ []) a b) same broken)

-- the trace's lines, one after another
trace_pieces-drop : (records : List Record) (i : ℕ) (taken : Record) → i < length records → taken ≡ get_or records i taken →
    trace_pieces (drop i records) ≡ Report (trace_line taken) ∷ trace_pieces (drop (i + 1) records)
unfolding trace_pieces
trace_pieces-drop records i taken below is =
    ap trace_pieces (drop_more records i taken below) ∙ ap (λ t. Report (trace_line t) ∷ trace_pieces (drop (i + 1) records)) (sym is)

trace_pieces-end : (records : List Record) (i : ℕ) → length records ≡ i → trace_pieces (drop i records) ≡ []
unfolding trace_pieces
trace_pieces-end records i e = rw (drop_all i records (omega arith))

-- what a line has after it was cleared
cleared-line : (cleared line text : List ℕ) → cleared ≡ [] → line ≡ cleared ++ text → line ≡ text
cleared-line cleared line text none put = put ∙ ap (λ t. t ++ text) none

pub trace-next : (records : List Record) (i : ℕ) (taken : Record) (cleared line bytes : List ℕ) (a b d : Ends) → i < length records →
    taken ≡ get_or records i taken → cleared ≡ [] → line ≡ cleared ++ trace_line taken → bytes ≡ line →
    SoFar (trace_pieces records) (trace_pieces (drop i records)) a b → d ≡ after b (Report bytes ∷ []) →
    SoFar (trace_pieces records) (trace_pieces (drop (i + 1) records)) a d
trace-next records i taken cleared line bytes a b d below is none put same h more =
    SoFar-more (trace_pieces records) (Report (trace_line taken) ∷ []) _ a b d
    (subst (λ (t : List Piece). SoFar (trace_pieces records) t a b) (trace_pieces-drop records i taken below is) h)
    (more ∙ ap (λ t. after b (Report t ∷ [])) (same ∙ cleared-line cleared line (trace_line taken) none put))

pub trace-breaks : (records : List Record) (i : ℕ) (taken : Record) (cleared line bytes : List ℕ) (a b d : Ends) → i < length records →
    taken ≡ get_or records i taken → cleared ≡ [] → line ≡ cleared ++ trace_line taken → bytes ≡ line →
    SoFar (trace_pieces records) (trace_pieces (drop i records)) a b → Breaks (Report bytes ∷ []) b d → Breaks (trace_pieces records) a d
trace-breaks records i taken cleared line bytes a b d below is none put same h broken =
    SoFar-breaks (trace_pieces records) (Report (trace_line taken) ∷ []) _ a b d
    (subst (λ (t : List Piece). SoFar (trace_pieces records) t a b) (trace_pieces-drop records i taken below is) h)
    (subst (λ (t : List ℕ). Breaks (Report t ∷ []) b d) (same ∙ cleared-line cleared line (trace_line taken) none put) broken)

pub trace-whole : (records : List Record) (i : ℕ) (a b : Ends) → length records ≡ i →
    SoFar (trace_pieces records) (trace_pieces (drop i records)) a b → b ≡ after a (trace_pieces records)
trace-whole records i a b e h =
    SoFar-whole (trace_pieces records) [] a b b
    (subst (λ (t : List Piece). SoFar (trace_pieces records) t a b) (trace_pieces-end records i e) h) (sym (after-nil b))

-- the summary: what it says of the machine, and then of the probes
module _ (m : MachineData) (watch : Option ℕ) (before : List ℕ) (tallies : List (List ℕ)) (bytes : List ℕ) (same : bytes ≡ summary_now before m watch) where
  pub summed-all : (a b d : Ends) → b ≡ after a (Report bytes ∷ []) → d ≡ after b (tally_pieces before 0 tallies) →
      d ≡ after a (summary_pieces_of before m watch tallies)
  summed-all a b d first second =
      second ∙ ap (λ e. after e (tally_pieces before 0 tallies)) (first ∙ ap (λ t. after a (Report t ∷ [])) same)
      ∙ after-append a (Report (summary_now before m watch) ∷ []) (tally_pieces before 0 tallies)

  pub summed-breaks_first : (a b : Ends) → Breaks (Report bytes ∷ []) a b → Breaks (summary_pieces_of before m watch tallies) a b
  summed-breaks_first a b broken =
      Breaks-more (Report (summary_now before m watch) ∷ []) (tally_pieces before 0 tallies) a b
      (subst (λ (t : List ℕ). Breaks (Report t ∷ []) a b) same broken)

  pub summed-breaks_second : (a b d : Ends) → b ≡ after a (Report bytes ∷ []) → Breaks (tally_pieces before 0 tallies) b d →
      Breaks (summary_pieces_of before m watch tallies) a d
  summed-breaks_second a b d first broken =
      Breaks-after (Report (summary_now before m watch) ∷ []) (tally_pieces before 0 tallies) a d
      (subst (λ (e : Ends). Breaks (tally_pieces before 0 tallies) e d) (first ∙ ap (λ t. after a (Report t ∷ [])) same) broken)

-- the end: the summary alone
plain-is : (m : MachineData) (watch : Option ℕ) (tallies : List (List ℕ)) (kind : ReportKind) → (kind ≡ Trace → ⊥) →
    last_pieces kind m.image m.config watch tallies m.applied m.state ≡ summary_pieces_of [] m watch tallies
plain-is m watch tallies Events not = refl
plain-is m watch tallies Trace not = absurd (not refl)
plain-is m watch tallies Summary not = refl

module _ (m : MachineData) (showing : Showing) (tallies : List (List ℕ)) (not : showing.report ≡ Trace → ⊥) where
  pub end-plain : (a b : Ends) → b ≡ after a (summary_pieces_of [] m showing.watch tallies) → b ≡ after a (end_now m showing tallies)
  unfolding end_pieces
  end-plain a b put = put ∙ ap (after a) (sym (plain-is m showing.watch tallies showing.report not))

  pub end-plain_breaks : (a b : Ends) → Breaks (summary_pieces_of [] m showing.watch tallies) a b → Breaks (end_now m showing tallies) a b
  unfolding end_pieces
  end-plain_breaks a b broken =
      subst (λ (ps : List Piece). Breaks ps a b) (sym (plain-is m showing.watch tallies showing.report not)) broken

-- the end: the trace, and then the summary
module _ (m : MachineData) (showing : Showing) (tallies : List (List ℕ)) (records : List Record) (is : showing.report ≡ Trace) (same : records ≡ m.state.committed) where
  pub end-traced : (a b d : Ends) → b ≡ after a (trace_pieces records) → d ≡ after b (summary_pieces_of (codes "# ") m showing.watch tallies) →
      d ≡ after a (end_now m showing tallies)
  unfolding end_pieces
  end-traced a b d first second =
      rw is (second ∙ ap (λ e. after e (summary_pieces_of (codes "# ") m showing.watch tallies)) (first ∙ ap (λ t. after a (trace_pieces t)) same)
      ∙ after-append a (trace_pieces m.state.committed) (summary_pieces_of (codes "# ") m showing.watch tallies))

  pub end-traced_breaks_first : (a b : Ends) → Breaks (trace_pieces records) a b → Breaks (end_now m showing tallies) a b
  unfolding end_pieces
  end-traced_breaks_first a b broken =
      rw is (Breaks-more (trace_pieces m.state.committed) (summary_pieces_of (codes "# ") m showing.watch tallies) a b
      (subst (λ (t : List Record). Breaks (trace_pieces t) a b) same broken))

  pub end-traced_breaks_second : (a b d : Ends) → b ≡ after a (trace_pieces records) →
      Breaks (summary_pieces_of (codes "# ") m showing.watch tallies) b d → Breaks (end_now m showing tallies) a d
  unfolding end_pieces
  end-traced_breaks_second a b d first broken =
      rw is (Breaks-after (trace_pieces m.state.committed) (summary_pieces_of (codes "# ") m showing.watch tallies) a d
      (subst (λ (e : Ends). Breaks (summary_pieces_of (codes "# ") m showing.watch tallies) e d)
      (first ∙ ap (λ t. after a (trace_pieces t)) same) broken))
