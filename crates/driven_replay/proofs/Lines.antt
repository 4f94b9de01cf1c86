-- Lines after lines: what is done, what the probes are told, their answers, and what was read.
use Rattle.std.proofs.Common.{◌≡◌, ℕ, false, List, [], ◌∷◌, ◌++◌, take, zero, suc, refl, ap, sym, ◌∙◌, append_assoc, append-nil, arith}
use Rattle.std.proofs.lemmas.List.Elements.{All-head, All-tail}
use Rattle.std.specs.Prelude.{Option, Some, None}
use Rattle.sn_base.specs.Image.{ImageData}
use Rattle.sn_base.specs.declared.config.Config.{Config}
use Rattle.sn_base.specs.declared.event.Event.{Event}
use Rattle.consistent_cuts.specs.Runs.{AllFit, EventFits}
use Rattle.line_source.specs.Lines.{LineRead, lines_and, first_of_lines}
use Rattle.sn_probe.specs.Probes.{Meter}
use Rattle.driven_replay.specs.declared.job.DriveShowing.{DriveShowing}
use Rattle.driven_replay.specs.declared.job.Said.{Said}
use Rattle.driven_replay.specs.declared.job.Said.TheVariants.{Nothing, Does, Foresees, Looks, Marks, Back, Refused}
use Rattle.driven_replay.specs.Said.{said_by, done_after, done_along, events_of, event_in, goes_back, NeverBack}
use Rattle.driven_replay.specs.Answers.{answer_to, answers_after}
use Rattle.driven_replay.specs.Driven.{SourceData, AreRead}
use Rattle.driven_replay.specs.Told.{told_by, told_along}
use Rattle.driven_replay.specs.Answered.{MayBeDone, MayBeDoneAlong}

-- lines after lines
done-more : (nodes : ℕ) (done : List Event) (xs ys : List LineRead) →
    done_along nodes done (xs ++ ys) ≡ done_along nodes (done_along nodes done xs) ys
done-more nodes done [] ys = refl
done-more nodes done (line ∷ xs) ys = done-more nodes (done_after done (said_by nodes line)) xs ys

-- one line more
pub events-last : (nodes : ℕ) (lines : List LineRead) (line : LineRead) →
    events_of nodes (lines ++ line ∷ []) ≡ done_after (events_of nodes lines) (said_by nodes line)
events-last nodes lines line = done-more nodes [] lines (line ∷ [])

told-more : (image : ImageData) (config : Config) (done : List Event) (lines : List LineRead) (line : LineRead) (probes : List Meter) →
    told_along image config done (lines ++ line ∷ []) probes
    ≡ told_by image config (done_along config.nodes done lines) (said_by config.nodes line) (told_along image config done lines probes)
told-more image config done [] line probes = refl
told-more image config done (first ∷ lines) line probes =
    told-more image config (done_after done (said_by config.nodes first)) lines line
    (told_by image config done (said_by config.nodes first) probes)

pub told-last : (image : ImageData) (config : Config) (lines : List LineRead) (line : LineRead) (probes : List Meter) →
    told_along image config [] (lines ++ line ∷ []) probes
    ≡ told_by image config (events_of config.nodes lines) (said_by config.nodes line) (told_along image config [] lines probes)
told-last image config lines line probes = told-more image config [] lines line probes

-- what holds of the first of some lines, however many, and of all with one more, holds of the first of those
each-first : (P : List LineRead → Type 0) (lines : List LineRead) (line : LineRead) → ((i : ℕ) → P (take i lines)) → P (lines ++ line ∷ []) →
    (i : ℕ) → P (take i (lines ++ line ∷ []))
each-first P lines line h last zero = h zero
each-first P [] line h last (suc zero) = last
each-first P [] line h last (suc (suc i)) = last
each-first P (first ∷ lines) line h last (suc i) = each-first (λ t. P (first ∷ t)) lines line (λ j. h (suc j)) last i

pub moments-none : (nodes : ℕ) → MayBeDoneAlong nodes []
moments-none nodes zero = record { few = omega arith; fit = tt }
moments-none nodes (suc i) = record { few = omega arith; fit = tt }

pub moments-last : (nodes : ℕ) (lines : List LineRead) (line : LineRead) → MayBeDoneAlong nodes lines →
    MayBeDone nodes (events_of nodes (lines ++ line ∷ [])) → MayBeDoneAlong nodes (lines ++ line ∷ [])
moments-last nodes lines line h last i = each-first (λ t. MayBeDone nodes (events_of nodes t)) lines line h last i

-- the events that lines do, in order
abbrev pub events-in : ℕ → List LineRead → List Event
events-in nodes [] = []
events-in nodes (line ∷ lines) = event_in (said_by nodes line) ++ events-in nodes lines

-- which are those that are done, where none goes back
pub forward-said : (done : List Event) (said : Said) → goes_back said ≡ false → done_after done said ≡ done ++ event_in said
forward-said done (Does event) on = refl
forward-said done (Back events) on = absurd cc
forward-said done Nothing on = sym (append-nil done)
forward-said done (Foresees event) on = sym (append-nil done)
forward-said done (Looks asked) on = sym (append-nil done)
forward-said done Marks on = sym (append-nil done)
forward-said done (Refused fault) on = sym (append-nil done)

pub on-first : (nodes : ℕ) (line : LineRead) (lines : List LineRead) → NeverBack nodes (line ∷ lines) → goes_back (said_by nodes line) ≡ false
on-first nodes line lines on = All-head (λ t. goes_back (said_by nodes t) ≡ false) line lines on

pub on-others : (nodes : ℕ) (line : LineRead) (lines : List LineRead) → NeverBack nodes (line ∷ lines) → NeverBack nodes lines
on-others nodes line lines on = All-tail (λ t. goes_back (said_by nodes t) ≡ false) line lines on

pub forward : (nodes : ℕ) (done : List Event) (lines : List LineRead) → NeverBack nodes lines →
    done_along nodes done lines ≡ done ++ events-in nodes lines
forward nodes done [] on = sym (append-nil done)
forward nodes done (line ∷ lines) on =
    forward nodes (done_after done (said_by nodes line)) lines (on-others nodes line lines on)
    ∙ ap (λ t. t ++ events-in nodes lines) (forward-said done (said_by nodes line) (on-first nodes line lines on))
    ∙ append_assoc done (event_in (said_by nodes line)) (events-in nodes lines)

answers-more : (image : ImageData) (config : Config) (showing : DriveShowing) (before lines : List LineRead) (line : LineRead) →
    answers_after image config showing before (lines ++ line ∷ [])
    ≡ answers_after image config showing before lines ++ answer_to image config showing (before ++ lines) line
unfolding answers_after
answers-more image config showing before [] line =
    append-nil (answer_to image config showing before line)
    ∙ ap (λ t. answer_to image config showing t line) (sym (append-nil before))
answers-more image config showing before (first ∷ lines) line =
    ap (λ t. answer_to image config showing before first ++ t) (answers-more image config showing (before ++ first ∷ []) lines line)
    ∙ sym (append_assoc (answer_to image config showing before first) (answers_after image config showing (before ++ first ∷ []) lines)
    (answer_to image config showing ((before ++ first ∷ []) ++ lines) line))
    ∙ ap (λ t. (answer_to image config showing before first ++ answers_after image config showing (before ++ first ∷ []) lines)
    ++ answer_to image config showing t line) (append_assoc before (first ∷ []) lines)

pub answers-last : (image : ImageData) (config : Config) (showing : DriveShowing) (lines : List LineRead) (line : LineRead) →
    answers_after image config showing [] (lines ++ line ∷ [])
    ≡ answers_after image config showing [] lines ++ answer_to image config showing lines line
answers-last image config showing lines line = answers-more image config showing [] lines line

-- nothing, and then some lines, were read
lines_and-append : (read : Option (List LineRead)) (xs ys : List LineRead) → lines_and (lines_and read xs) ys ≡ lines_and read (xs ++ ys)
lines_and-append None xs ys = refl
lines_and-append (Some lines) xs ys = ap (λ t. Some t) (append_assoc lines xs ys)

first_of-append : (left : Option (List LineRead)) (xs ys : List LineRead) →
    first_of_lines xs (first_of_lines ys left) ≡ first_of_lines (xs ++ ys) left
first_of-append None xs ys = refl
first_of-append (Some lines) xs ys = ap (λ t. Some t) (sym (append_assoc xs ys lines))

lines_and-nil : (read : Option (List LineRead)) → read ≡ lines_and read []
lines_and-nil None = refl
lines_and-nil (Some lines) = ap (λ t. Some t) (sym (append-nil lines))

first_of-nil : (left : Option (List LineRead)) → left ≡ first_of_lines [] left
first_of-nil None = refl
first_of-nil (Some lines) = refl

pub none-read : (s : SourceData) → AreRead [] s s
none-read s = record { read = lines_and-nil s.read; left = first_of-nil s.left }

pub read-and : (xs ys : List LineRead) (a b c : SourceData) → AreRead xs a b → AreRead ys b c → AreRead (xs ++ ys) a c
read-and xs ys a b c h more = record {
  read = more.read ∙ ap (λ t. lines_and t ys) h.read ∙ lines_and-append a.read xs ys;
  left = h.left ∙ ap (first_of_lines xs) more.left ∙ first_of-append c.left xs ys;
}

-- what fits
fit-append : (nodes : ℕ) (xs ys : List Event) → AllFit nodes xs → AllFit nodes ys → AllFit nodes (xs ++ ys)
fit-append nodes [] ys fit more = more
fit-append nodes (event ∷ xs) ys fit more = (fit.0, fit-append nodes xs ys fit.1 more)

pub fit-last : (nodes : ℕ) (events : List Event) (event : Event) → AllFit nodes events → EventFits nodes event →
    AllFit nodes (events ++ event ∷ [])
fit-last nodes events event fit more = fit-append nodes events (event ∷ []) fit (more, tt)
