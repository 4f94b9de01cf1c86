-- How far a drive has come, between two of its lines.
use Rattle.std.proofs.Common.{◌≡◌, ℕ, ◌+◌, ◌<◌, ◌≤◌, List, [], ◌∷◌, ◌++◌, length, refl, ap, sym, subst, ◌∙◌}
use Rattle.std.proofs.Common.{append-nil, length-append, arith}
use Rattle.std.specs.Prelude.{IfSome, Option, Some, None, Ok}
use Rattle.sn_base.specs.declared.config.Config.{Config}
use Rattle.sn_base.specs.declared.event.Event.{Event}
use Rattle.sn_machine.specs.Machine.{MachineData}
use Rattle.consistent_cuts.specs.Headline.{state_of_run}
use Rattle.consistent_cuts.specs.Runs.{AllFit}
use Rattle.line_source.specs.declared.source.Taken.{Taken}
use Rattle.line_source.specs.declared.source.Taken.TheVariants as taken
use Rattle.line_source.specs.Lines.{LineRead, Line, TooLong, taken_by, lines_and, first_of_lines}
use Rattle.due_events.specs.Numbers.{Numbers}
use Rattle.sn_driver.specs.Driver.{DriverData}
use Rattle.sn_probe.specs.Probes.{Meter}
use Rattle.sink_pieces.specs.Pieces.{Piece, Ends, after, Breaks}
use Rattle.sink_pieces.proofs.PieceLaws.{after-append, after-nil, Breaks-more, Breaks-after}
use Rattle.driven_replay.specs.declared.job.DriveShowing.{DriveShowing}
use Rattle.driven_replay.specs.declared.job.Said.{Said}
use Rattle.driven_replay.specs.declared.job.Said.TheVariants.{Nothing, Does}
use Rattle.driven_replay.specs.declared.driving.DriveEnd.{DriveEnd}
use Rattle.driven_replay.specs.declared.driving.DriveEnd.TheVariants.{Whole, TooMany}
use Rattle.driven_replay.specs.Said.{said_by, done_after, events_of, event_in, SaidFits, WantsMemory}
use Rattle.driven_replay.specs.Dues.{usual_rules, numbers_of}
use Rattle.driven_replay.specs.Answers.{over_pieces, answer_of, answer_to, answers_to, answers_after}
use Rattle.driven_replay.specs.Told.{told_by, told_along}
use Rattle.driven_replay.specs.Answered.{IsFresh, MayBeDoneAlong, IsAfter, HasAnswered, BreaksOff, NextIs, answer_now, machine_after, driver_after, driver_of, told_after}
use Rattle.driven_replay.specs.Driven.{SourceData, AreRead, IsAtEnd, drive_on}
use Rattle.driven_replay.proofs.Lines.{events-last, told-last, moments-none, moments-last, answers-last, none-read, read-and}
use Rattle.driven_replay.proofs.After.{after-start, answer-is, told-is, after-next, counted-more}
use Rattle.driven_replay.proofs.Counted.{numbers-done}
use Rattle.sn_base.specs.declared.limits.TheConstants.{EVENTS}

-- so many lines were read and answered
pub record IsDriving (start : MachineData) (showing : DriveShowing) (probes : List Meter) (before : Ends) (source : SourceData) (count : ℕ) (m : MachineData) (driver : DriverData) (kept : List Event) (now_ : List Meter) (behind : Ends) (left : SourceData) : Type 0 where
  pub lines : List LineRead
  pub many : length lines ≡ count
  pub at : IsAfter start (events_of start.config.nodes lines) m
  pub moments : MayBeDoneAlong start.config.nodes lines
  pub put : behind ≡ after before (answers_to start.image start.config showing lines)
  pub counted : driver ≡ driver_of start (events_of start.config.nodes lines)
  pub kept_is : kept ≡ events_of start.config.nodes lines
  pub told : now_ ≡ told_along start.image start.config [] lines probes
  pub read : AreRead lines source left

pub driving-starts : (m : MachineData) (showing : DriveShowing) (probes : List Meter) (e : Ends) (source : SourceData) (driver : DriverData) (kept : List Event) →
    IsFresh m → driver ≡ driver_of m [] → kept ≡ [] → IsDriving m showing probes e source 0 m driver kept probes e source
unfolding answers_after
driving-starts m showing probes e source driver kept fresh counts none = record {
  lines = [];
  many = refl;
  at = after-start m fresh;
  moments = moments-none m.config.nodes;
  put = sym (after-nil e);
  counted = counts;
  kept_is = none;
  told = refl;
  read = none-read source;
}

-- a line was read, or one that is too long
pub read-whole : (took : Taken) (room : List ℕ) (from to : SourceData) → took ≡ taken.Whole → to.read ≡ lines_and from.read (taken_by (Ok took) room) →
    from.left ≡ first_of_lines (taken_by (Ok took) room) to.left → AreRead (Line room ∷ []) from to
read-whole took room from to is read left = record {
  read = read ∙ ap (λ (t : Taken). lines_and from.read (taken_by (Ok t) room)) is;
  left = left ∙ ap (λ (t : Taken). first_of_lines (taken_by (Ok t) room) to.left) is;
}

pub read-longer : (took : Taken) (room : List ℕ) (from to : SourceData) → took ≡ taken.Longer → to.read ≡ lines_and from.read (taken_by (Ok took) room) →
    from.left ≡ first_of_lines (taken_by (Ok took) room) to.left → AreRead (TooLong ∷ []) from to
read-longer took room from to is read left = record {
  read = read ∙ ap (λ (t : Taken). lines_and from.read (taken_by (Ok t) room)) is;
  left = left ∙ ap (λ (t : Taken). first_of_lines (taken_by (Ok t) room) to.left) is;
}

-- what was read, where it is a line
pub next-said : (nodes : ℕ) (left after_ : SourceData) (read : Option Said) (said : Said) → read ≡ Some said → NextIs nodes left after_ read →
    NextIs nodes left after_ (Some said)
next-said nodes left after_ read said is next = subst (λ (t : Option Said). NextIs nodes left after_ t) is next

pub fits-said : (nodes : ℕ) (read : Option Said) (said : Said) → read ≡ Some said → IfSome read (SaidFits nodes) → SaidFits nodes said
fits-said nodes read said is fits = subst (λ (t : Option Said). IfSome t (SaidFits nodes)) is fits

-- pieces after pieces
pub both-put : (ps qs : List Piece) (a b c : Ends) → b ≡ after a ps → c ≡ after b qs → c ≡ after a (ps ++ qs)
both-put ps qs a b c first second = second ∙ ap (λ (t : Ends). after t qs) first ∙ after-append a ps qs

pub first-broken : (ps qs : List Piece) (a b : Ends) → Breaks ps a b → Breaks (ps ++ qs) a b
first-broken ps qs a b broken = Breaks-more ps qs a b broken

pub second-broken : (ps qs : List Piece) (a b c : Ends) → b ≡ after a ps → Breaks qs b c → Breaks (ps ++ qs) a c
second-broken ps qs a b c first broken = Breaks-after ps qs a c (subst (λ (t : Ends). Breaks qs t c) first broken)

-- nothing is put
pub nothing-put : (e : Ends) (m : MachineData) (driver : DriverData) (showing : DriveShowing) (number : ℕ) (said : Said) → said ≡ Nothing →
    e ≡ after e (answer_now m driver showing number said)
nothing-put e m driver showing number said is =
    sym (after-nil e) ∙ ap (λ (t : Said). after e (answer_now m driver showing number t)) (sym is)

pub over-none : (e : Ends) (how : DriveEnd) → how ≡ Whole → e ≡ after e (over_pieces how)
over-none e how is = sym (after-nil e) ∙ ap (λ (t : DriveEnd). after e (over_pieces t)) (sym is)

module _ (start : MachineData) (showing : DriveShowing) (probes : List Meter) (before : Ends) (source : SourceData) (count : ℕ) (m : MachineData) (driver : DriverData) (kept : List Event) (now_ : List Meter) (behind : Ends) (left : SourceData) (h : IsDriving start showing probes before source count m driver kept now_ behind left) where
  abbrev done : List Event
  done = events_of start.config.nodes h.lines

  few : length done ≤ EVENTS
  few = omega (arith, h.at.count, h.at.room)

  -- all that were read are answered
  pub driving-answered : HasAnswered start showing h.lines probes before m now_ behind
  driving-answered = record { at = h.at; moments = h.moments; put = h.put; knows = h.told }

  pub driving-fits : (nodes : ℕ) (said : Said) → nodes ≡ start.config.nodes → SaidFits nodes said → SaidFits m.config.nodes said
  driving-fits nodes said is fits = subst (λ n. SaidFits n said) (is ∙ ap (λ (t : Config). t.nodes) (sym h.at.sizes)) fits

  -- the driver is one for the machine, and has a long life ahead
  pub same-nodes : driver.nodes ≡ m.config.nodes
  same-nodes = ap (λ (d : DriverData). d.nodes) h.counted ∙ ap (λ (t : Config). t.nodes) (sym h.at.sizes)

  pub by-usual : driver.rules ≡ usual_rules
  by-usual = ap (λ (d : DriverData). d.rules) h.counted

  pub long-life : driver.numbers.done < 4000000000
  long-life =
      let counts : driver.numbers.done ≡ (numbers_of start.image start.config done).done = ap (λ (d : DriverData). d.numbers.done) h.counted in
      omega (arith, counts, numbers-done start.image start.config done, few)

  -- what is kept are the events that led to it
  pub kept-count : m.applied ≡ length kept
  kept-count = h.at.count ∙ ap (λ (t : List Event). length t) (sym h.kept_is)

  pub kept-fit : AllFit m.config.nodes kept
  kept-fit =
      subst (λ (t : List Event). AllFit m.config.nodes t) (sym h.kept_is)
      (subst (λ (t : Config). AllFit t.nodes done) (sym h.at.sizes) h.at.fit)

  pub kept-few : (said : Said) → length (event_in said) ≤ m.spare → length kept + length (event_in said) ≤ EVENTS
  kept-few said room = omega (arith, kept-count, h.at.room, room)

  -- nothing more was read
  pub none-more : (after_ : SourceData) → AreRead [] left after_ → AreRead h.lines source after_
  none-more after_ none =
      subst (λ (t : List LineRead). AreRead t source after_) (append-nil h.lines) (read-and h.lines [] source left after_ h.read none)

  -- none was left
  pub driving-ends : (nodes : ℕ) (after_ : SourceData) (read : Option Said) → read ≡ None → NextIs nodes left after_ read →
      IsAtEnd (drive_on start showing) h.lines Whole source after_
  driving-ends nodes after_ read is next =
      let none = subst (λ (t : Option Said). NextIs nodes left after_ t) is next in
      (none-more after_ none.0, none.1)

  -- a line more was read
  module _ (nodes : ℕ) (is : nodes ≡ start.config.nodes) (said : Said) (after_ : SourceData) (next : NextIs nodes left after_ (Some said)) where
    abbrev pub line : LineRead
    line = next.0

    said-is : said ≡ said_by start.config.nodes line
    said-is = next.1 ∙ ap (λ n. said_by n line) is

    pub line-read : AreRead (h.lines ++ line ∷ []) source after_
    line-read = read-and h.lines (line ∷ []) source left after_ h.read next.2

    events-are : events_of start.config.nodes (h.lines ++ line ∷ []) ≡ done_after done said
    events-are = events-last start.config.nodes h.lines line ∙ ap (λ (t : Said). done_after done t) (sym said-is)

    pub wants-memory : WantsMemory showing kept said → WantsMemory showing done (said_by start.config.nodes line)
    wants-memory wants =
        subst (λ (t : Said). WantsMemory showing done t) said-is (subst (λ (t : List Event). WantsMemory showing t said) h.kept_is wants)

    -- there is no room for its event
    pub too-many : (event : Event) → m.spare ≡ 0 → said ≡ Does event → IsAtEnd (drive_on start showing) h.lines TooMany source after_
    too-many event none does = (omega (arith, h.at.count, h.at.room, none), (line, event, sym said-is ∙ does, line-read))

    module _ (number : ℕ) (at : number ≡ count + 1) (told : List Meter) (d : Ends) (knows : told ≡ told_after m said now_) where
      answer-due : answer_now m driver showing number said ≡ answer_to start.image start.config showing h.lines line
      answer-due =
          let place : number ≡ length h.lines + 1 = omega (arith, at, h.many) in
          let x : Numbers = numbers_of start.image start.config done in
          ap (λ (d : DriverData). answer_now m d showing number said) h.counted
          ∙ answer-is start m done h.at showing number said
          ∙ ap (λ k. answer_of start.image start.config showing (length done) (state_of_run start.image start.config done) x k said) place
          ∙ ap (λ (t : Said). answer_of start.image start.config showing (length done) (state_of_run start.image start.config done) x
          (length h.lines + 1) t) said-is

      told-so : told ≡ told_along start.image start.config [] (h.lines ++ line ∷ []) probes
      told-so =
          knows ∙ told-is start m done h.at said now_
          ∙ ap (λ (t : Said). told_by start.image start.config done t now_) said-is
          ∙ ap (λ t. told_by start.image start.config done (said_by start.config.nodes line) t) h.told
          ∙ sym (told-last start.image start.config h.lines line probes)

      -- it is answered
      module _ (n : MachineData) (later : DriverData) (behind_ : List Event) (next_is : n ≡ machine_after m kept said) (counts : later ≡ driver_after driver m kept said) (keeps : behind_ ≡ done_after kept said) where
        after-line : SaidFits m.config.nodes said → length (event_in said) ≤ m.spare →
            IsAfter start (events_of start.config.nodes (h.lines ++ line ∷ [])) n
        after-line fits room =
            subst (λ (t : List Event). IsAfter start t n) (sym events-are)
            (subst (λ (t : MachineData). IsAfter start (done_after done said) t)
            (sym (next_is ∙ ap (λ (t : List Event). machine_after m t said) h.kept_is)) (after-next start m done h.at said fits room))

        counted-line : later ≡ driver_of start (events_of start.config.nodes (h.lines ++ line ∷ []))
        counted-line =
            counts ∙ ap (λ (t : List Event). driver_after driver m t said) h.kept_is
            ∙ ap (λ (d : DriverData). driver_after d m done said) h.counted
            ∙ counted-more start m done h.at said ∙ ap (driver_of start) (sym events-are)

        pub driving-next : SaidFits m.config.nodes said → length (event_in said) ≤ m.spare →
            d ≡ after behind (answer_now m driver showing number said) →
            IsDriving start showing probes before source (count + 1) n later behind_ told d after_
        driving-next fits room put =
            let at_ = after-line fits room in
            let few_ : length (events_of start.config.nodes (h.lines ++ line ∷ [])) ≤ EVENTS = omega (arith, at_.count, at_.room) in
            record {
              lines = h.lines ++ line ∷ [];
              many = omega (arith, length-append h.lines (line ∷ []), h.many);
              at = at_;
              moments = moments-last start.config.nodes h.lines line h.moments (record { few = few_; fit = at_.fit });
              put = put ∙ ap (after behind) answer-due
                  ∙ ap (λ (t : Ends). after t (answer_to start.image start.config showing h.lines line)) h.put
                  ∙ after-append before (answers_to start.image start.config showing h.lines) (answer_to start.image start.config showing h.lines line)
                  ∙ ap (after before) (sym (answers-last start.image start.config showing h.lines line));
              counted = counted-line;
              kept_is = keeps ∙ ap (λ (t : List Event). done_after t said) h.kept_is ∙ sym events-are;
              told = told-so;
              read = line-read;
            }

      -- its answer is broken off
      pub driving-breaks : Breaks (answer_now m driver showing number said) behind d → BreaksOff start showing h.lines line probes before told d
      driving-breaks broken = record {
        moments = h.moments;
        broken = subst (λ (t : List Piece). Breaks t (after before (answers_to start.image start.config showing h.lines)) d) answer-due
            (subst (λ (t : Ends). Breaks (answer_now m driver showing number said) t d) h.put broken);
        knows = told-so;
      }
