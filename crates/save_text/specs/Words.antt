-- The words of a save file's lines: lists of numbers, sizes, marks, owners and bytes.
use Rattle.std.specs.Prelude.{ℕ, ◌&&◌, nat_lt, if◌then◌else◌, List, codes, Option, Some, None, Result, Ok, Err}
use Rattle.sn_base.specs.Config.{config_fits}
use Rattle.sn_base.specs.declared.config.Config.{Config}
use Rattle.sn_saved.specs.declared.marks.Marks.{Marks}
use Rattle.sn_model.specs.Caches.{block_count}
use Rattle.sn_model.specs.Fabric.{no_switches}
use Rattle.sn_saved.specs.Saved.{marks_fit}
use Rattle.sn_text.specs.Digits.{number_of}
use Rattle.sn_text.specs.Script.{parts_at_blank, byte_of, begins, after}
use Rattle.sn_text.specs.declared.cause.Fault.{Fault}
use Rattle.sn_text.specs.declared.cause.Fault.TheVariants.{NotOfForm, NotThere}

-- two, three and four numbers, with one blank between two

abbrev pub with_first : {A : Type 0} → Option ℕ → Option A → Option (ℕ × A)
with_first None others = None
with_first (Some number) None = None
with_first (Some number) (Some others) = Some (number, others)

abbrev pub two_by : Option (List ℕ × List ℕ) → Option (ℕ × ℕ)
two_by None = None
two_by (Some words) = with_first (number_of words.0) (number_of words.1)

abbrev pub two_numbers : List ℕ → Option (ℕ × ℕ)
two_numbers text = two_by (parts_at_blank text)

abbrev pub three_by : Option (List ℕ × List ℕ) → Option (ℕ × (ℕ × ℕ))
three_by None = None
three_by (Some words) = with_first (number_of words.0) (two_numbers words.1)

abbrev pub three_numbers : List ℕ → Option (ℕ × (ℕ × ℕ))
three_numbers text = three_by (parts_at_blank text)

abbrev pub four_by : Option (List ℕ × List ℕ) → Option (ℕ × (ℕ × (ℕ × ℕ)))
four_by None = None
four_by (Some words) = with_first (number_of words.0) (three_numbers words.1)

abbrev pub four_numbers : List ℕ → Option (ℕ × (ℕ × (ℕ × ℕ)))
four_numbers text = four_by (parts_at_blank text)

-- the sizes of a machine

abbrev pub config_if : Config → Result Config Fault
config_if config = if config_fits config then Ok config else Err NotThere

abbrev pub config_by : Option (ℕ × (ℕ × (ℕ × ℕ))) → Result Config Fault
config_by None = Err NotOfForm
config_by (Some (nodes, (sets, (ways, log)))) = config_if (record { nodes = nodes; sets = sets; ways = ways; log = log })

-- `config NODES SETS WAYS LOG`
unfoldable pub config_of : List ℕ → Result Config Fault
config_of line =
    if begins (codes "config ") line then config_by (four_numbers (after (codes "config ") line)) else Err NotOfForm

-- the numbers of a recovery point; no switch is dead before it is named

abbrev pub marks_if : Marks → Result Marks Fault
marks_if m = if marks_fit m then Ok m else Err NotThere

abbrev pub marks_by : Option (ℕ × (ℕ × ℕ)) → Result Marks Fault
marks_by None = Err NotOfForm
marks_by (Some (point, (next_id, applied))) =
    marks_if (record { point = point; next_id = next_id; applied = applied; dead = no_switches })

-- `marks POINT NEXT APPLIED`
unfoldable pub marks_of : List ℕ → Result Marks Fault
marks_of line = if begins (codes "marks ") line then marks_by (three_numbers (after (codes "marks ") line)) else Err NotOfForm

-- a block of memory and a node of the machine
abbrev pub owner_by : ℕ → Option (ℕ × ℕ) → Result (ℕ × ℕ) Fault
owner_by nodes None = Err NotOfForm
owner_by nodes (Some (block, node)) =
    if nat_lt block block_count && nat_lt node nodes then Ok (block, node) else Err NotThere

-- `B N`
unfoldable pub owner_of : ℕ → List ℕ → Result (ℕ × ℕ) Fault
owner_of nodes text = owner_by nodes (two_numbers text)

-- a node of the machine and a byte
abbrev pub given_by : ℕ → Option ℕ → Option ℕ → Result (ℕ × ℕ) Fault
given_by nodes None byte = Err NotOfForm
given_by nodes (Some node) None = Err NotOfForm
given_by nodes (Some node) (Some byte) = if nat_lt node nodes then Ok (node, byte) else Err NotThere

abbrev pub given_in : ℕ → Option (List ℕ × List ℕ) → Result (ℕ × ℕ) Fault
given_in nodes None = Err NotOfForm
given_in nodes (Some words) = given_by nodes (number_of words.0) (byte_of words.1)

-- `N BB`
unfoldable pub given_of : ℕ → List ℕ → Result (ℕ × ℕ) Fault
given_of nodes text = given_in nodes (parts_at_blank text)
