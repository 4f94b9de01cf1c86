-- A save file as it is written: one thing a line, each ended by LF, in this order.
use Rattle.std.specs.Prelude.{ℕ, Bool, List, [], ◌++◌, flat_map, codes}
use Rattle.std.specs.List.{filter, range_with_len}
use Rattle.text_lines.specs.Hex.{hex_byte}
use Rattle.sn_base.specs.declared.config.Config.{Config}
use Rattle.rv_core.specs.declared.step.Record.{Record}
use Rattle.route_plan.specs.Distances.{is_dead}
use Rattle.sn_saved.specs.Saved.{Saved}
use Rattle.sn_text.specs.Text.{named_number, switch_text, trace_line}

-- `safetynet-save 1`
abbrev pub head_line : List ℕ
head_line = codes "safetynet-save 1\n"

-- `config NODES SETS WAYS LOG`
unfoldable pub config_line : Config → List ℕ
config_line c =
    named_number (codes "config") c.nodes ++ named_number [] c.sets ++ named_number [] c.ways ++ named_number [] c.log ++ codes "\n"

-- `marks POINT NEXT APPLIED`
unfoldable pub marks_line : ℕ → ℕ → ℕ → List ℕ
marks_line point next_id applied =
    named_number (codes "marks") point ++ named_number [] next_id ++ named_number [] applied ++ codes "\n"

-- `dead S`
unfoldable pub dead_line : ℕ → List ℕ
dead_line switch = codes "dead " ++ switch_text switch ++ codes "\n"

-- the dead switches, in order of their numbers
abbrev pub dead_switches : List Bool → List ℕ
dead_switches dead = filter (is_dead dead) (range_with_len 0 32)

-- `owner B N`
unfoldable pub owner_line : ℕ × ℕ → List ℕ
owner_line owner = named_number (codes "owner") owner.0 ++ named_number [] owner.1 ++ codes "\n"

-- `given N BB`
unfoldable pub given_line : ℕ × ℕ → List ℕ
given_line byte = named_number (codes "given") byte.0 ++ codes " " ++ hex_byte byte.1 ++ codes "\n"

-- `rec ` and the record as a line of a trace
unfoldable pub record_line : Record → List ℕ
record_line taken = codes "rec " ++ trace_line taken

abbrev pub end_line : List ℕ
end_line = codes "end\n"

-- all lines
unfoldable pub saved_text : Saved → List ℕ
saved_text saved =
    head_line ++ config_line saved.config ++ marks_line saved.marks.point saved.marks.next_id saved.marks.applied ++ flat_map dead_line (dead_switches saved.marks.dead)
    ++ flat_map owner_line saved.owners ++ flat_map given_line saved.given ++ flat_map record_line saved.committed ++ end_line
