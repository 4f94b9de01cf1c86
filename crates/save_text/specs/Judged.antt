-- What a machine goes on from, or the first cause for which a save file is refused that has the right form.
use Rattle.std.specs.Prelude.{◌≡◌, ℕ, ◌+◌, Bool, not, ◌&&◌, ◌||◌, nat_eq, nat_lt, if◌then◌else◌, List, [], ◌∷◌, length, filter, is_some}
use Rattle.std.specs.Prelude.{Option, Some, None, option_map, Result, Ok, Err}
use Rattle.std.specs.List.{range_with_len}
use Rattle.sn_base.specs.Image.{ImageData}
use Rattle.route_plan.specs.Distances.{is_dead}
use Rattle.route_plan.specs.Routes.{first_cut_off}
use Rattle.rv_core.specs.declared.step.Record.{Record}
use Rattle.rv_core.specs.declared.step.Want.{Want}
use Rattle.rv_core.specs.Core.{is_running, is_input, holds_reservation}
use Rattle.rv_core.specs.Flat.{FlatState, core_at, flat_start, flat_step, seen_by}
use Rattle.rv_core.specs.Execution.{IsExecution}
use Rattle.rv_core.specs.Step.{want_of}
use Rattle.sn_saved.specs.Saved.{Saved, living_in, first_full, first_unread}
use Rattle.save_text.specs.declared.cause.SaveCause.{SaveCause}
use Rattle.save_text.specs.declared.cause.SaveCause.TheVariants.{CutOff, SetFull, NotLegal, Unread}

-- the line of the owner at a place: three lines and one for each dead switch stand before the first
abbrev pub dead_count : List Bool → ℕ
dead_count dead = length (filter (is_dead dead) (range_with_len 0 32))

abbrev pub line_of_owner : Saved → ℕ → ℕ
line_of_owner saved place = 4 + dead_count saved.marks.dead + place

abbrev pub full_line : Saved → Option ℕ
full_line saved = option_map (line_of_owner saved) (first_full saved)

-- whether a byte is read just where one is wanted
abbrev pub is_read_for : Want → Option ℕ → Bool
is_read_for want byte = if is_input want then is_some byte else not (is_some byte)

-- whether a record is a step of the flat machine, where its core wants this
abbrev pub is_step_wanting : FlatState → Want → Record → Bool
is_step_wanting flat want r =
    nat_lt r.core (length flat.cores) && is_running (core_at flat r.core).end && nat_eq r.seen (seen_by want flat.memory)
    && (not r.sc_done || holds_reservation (core_at flat r.core) want) && is_read_for want r.read

abbrev pub is_step : ImageData → FlatState → Record → Bool
is_step image flat r = is_step_wanting flat (want_of image (core_at flat r.core)) r

-- the number, counted from a number on, of the first record that is no step after those before it
abbrev pub illegal_from : ImageData → FlatState → List Record → ℕ → Option ℕ
illegal_from image flat [] number = None
illegal_from image flat (r ∷ records) number =
    if is_step image flat r then illegal_from image (flat_step image flat r) records (number + 1) else Some number

abbrev pub first_illegal : ImageData → Saved → Option ℕ
first_illegal image saved = illegal_from image (flat_start image saved.config.nodes) saved.committed 1

-- a cause where there is one, and else what comes next
abbrev pub refused_or : {A : Type 0} → (A → SaveCause) → Option A → Result Saved SaveCause → Result Saved SaveCause
refused_or cause None next = next
refused_or cause (Some found) next = Err (cause found)

-- what a machine goes on from, or the first cause for which what the lines say is refused: nodes that are cut off from each other, an
-- owner too many, a record that is no step, a byte that was read and not given
abbrev pub judged : ImageData → Saved → Result Saved SaveCause
judged image saved =
    refused_or (λ pair. CutOff pair.0 pair.1) (first_cut_off (living_in saved))
    (refused_or (λ line. SetFull line) (full_line saved)
    (refused_or (λ number. NotLegal number) (first_illegal image saved)
    (refused_or (λ node. Unread node) (first_unread saved) (Ok saved))))

-- the first cause of all: by the lines, and then by what they say
abbrev pub judged_of : ImageData → Result Saved SaveCause → Result Saved SaveCause
judged_of image (Ok saved) = judged image saved
judged_of image (Err cause) = Err cause

-- what is known on the way: no two nodes are cut off, and no owner is too many; and each record has its step

abbrev pub Fits : Saved → Type 0
Fits saved = (first_cut_off (living_in saved) ≡ None) × (first_full saved ≡ None)

abbrev pub IsLegal : ImageData → Saved → Type 0
IsLegal image saved = Fits saved × IsExecution image saved.config.nodes saved.committed

-- nothing refuses what the lines say
abbrev pub IsGood : ImageData → Saved → Type 0
IsGood image saved = IsLegal image saved × (first_unread saved ≡ None)
