-- The text of a summary that is marked is a text of comments.
use Rattle.std.proofs.Common.{ℕ, zero, suc, ◌+◌, List, [], ◌∷◌, ◌++◌, take, length, refl}
use Rattle.std.specs.Prelude.{Option, Some, None, codes}
use Rattle.sn_base.specs.Image.{ImageData}
use Rattle.sn_base.specs.declared.config.Config.{Config}
use Rattle.rv_core.specs.Flat.{FlatState, core_at, word_at}
use Rattle.sn_model.specs.Machine.{State}
use Rattle.sn_text.specs.Text.{core_line, count_line, probe_line}
use Rattle.sn_text.proofs.Comments.{AreComments, comments-none, comments-both, comments-count, comments-core, comments-watch}
use Rattle.sn_text.proofs.Comments.{comments-probe}
use Rattle.sink_pieces.specs.Pieces.{report_text}
use Rattle.script_replay.specs.Pieces.{flat_at, core_lines, watch_lines, summary_of, tally_lines, tally_pieces, summary_pieces}

comments-cores : (flat : FlatState) (n : ℕ) → AreComments (core_lines (codes "# ") flat n)
unfolding core_lines
comments-cores flat zero = comments-none
comments-cores flat (suc n) =
    comments-both (core_lines (codes "# ") flat n) (core_line (codes "# ") n (core_at flat n)) (comments-cores flat n)
    (comments-core n (core_at flat n))

comments-watched : (flat : FlatState) (watch : Option ℕ) → AreComments (watch_lines (codes "# ") flat watch)
comments-watched flat None = comments-none
comments-watched flat (Some address) = comments-watch address (word_at flat.memory address)

comments-tally : (probe place : ℕ) (values : List ℕ) → AreComments (tally_lines (codes "# ") probe place values)
unfolding tally_lines
comments-tally probe place [] = comments-none
comments-tally probe place (value ∷ values) =
    comments-both (probe_line (codes "# ") probe place value) (tally_lines (codes "# ") probe (place + 1) values)
    (comments-probe probe place value) (comments-tally probe (place + 1) values)

comments-tallies : (probe : ℕ) (tallies : List (List ℕ)) → AreComments (report_text (tally_pieces (codes "# ") probe tallies))
unfolding tally_pieces
comments-tallies probe [] = comments-none
comments-tallies probe (tally ∷ tallies) =
    comments-both (tally_lines (codes "# ") probe 0 (take 16 tally)) (report_text (tally_pieces (codes "# ") (probe + 1) tallies))
    (comments-tally probe 0 (take 16 tally)) (comments-tallies (probe + 1) tallies)

comments-machine : (image : ImageData) (config : Config) (watch : Option ℕ) (events : ℕ) (s : State) →
    AreComments (summary_of (codes "# ") image config watch events s)
unfolding summary_of
comments-machine image config watch events s =
    let one : List ℕ = count_line (codes "# ") (codes "events") events in
    let two : List ℕ = count_line (codes "# ") (codes "point") s.fabric.point in
    let three : List ℕ = count_line (codes "# ") (codes "committed") (length s.committed) in
    let four : List ℕ = count_line (codes "# ") (codes "released") (length s.released) in
    let cores : List ℕ = core_lines (codes "# ") (flat_at image config s) config.nodes in
    let word : List ℕ = watch_lines (codes "# ") (flat_at image config s) watch in
    comments-both (((one ++ two) ++ three) ++ four) (cores ++ word)
    (comments-both ((one ++ two) ++ three) four
    (comments-both (one ++ two) three
    (comments-both one two (comments-count (codes "events") events refl) (comments-count (codes "point") s.fabric.point refl))
    (comments-count (codes "committed") (length s.committed) refl))
    (comments-count (codes "released") (length s.released) refl))
    (comments-both cores word (comments-cores (flat_at image config s) config.nodes) (comments-watched (flat_at image config s) watch))

pub comments-summary : (image : ImageData) (config : Config) (watch : Option ℕ) (tallies : List (List ℕ)) (events : ℕ) (s : State) →
    AreComments (report_text (summary_pieces (codes "# ") image config watch tallies events s))
comments-summary image config watch tallies events s =
    comments-both (summary_of (codes "# ") image config watch events s) (report_text (tally_pieces (codes "# ") 0 tallies))
    (comments-machine image config watch events s) (comments-tallies 0 tallies)
