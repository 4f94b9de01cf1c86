-- Which file a request names for what.
use Rattle.std.specs.Prelude.{ℕ, zero, suc, if◌then◌else◌, List, Option, Some, None}
use Rattle.sn_io.specs.Outside.{found_in}
use Rattle.reasons.specs.declared.hints.TextKind.{TextKind}
use Rattle.reasons.specs.declared.hints.TextKind.TheVariants as kind
use Rattle.command_words.specs.Request.{Request, Replay, Drive, Roll, Save, Resume, Run, Monitor, Check, Judge, Demo, Assemble, Disassemble}
use Rattle.call_reasons.specs.Files.{is_refused, nodes_in}

-- the files that are there, by their names
abbrev pub Files : Type 0
Files = List ℕ → Option (List ℕ)

-- the name of the program
abbrev pub program_of : Request → Option (List ℕ)
program_of (Replay config report watch program script) = Some program
program_of (Drive config report watch program) = Some program
program_of (Roll config watch program script control) = Some program
program_of (Save config program script) = Some program
program_of (Resume watch program save script) = Some program
program_of (Run config rules report order scope watch program) = Some program
program_of (Monitor config rules watch program) = Some program
program_of (Check nodes program trace) = Some program
program_of (Judge accesses) = None
program_of (Demo size) = None
program_of (Assemble text) = None
program_of (Disassemble program) = Some program

-- the name of the text that is assembled
abbrev pub assembly_of : Request → Option (List ℕ)
assembly_of (Assemble text) = Some text
assembly_of _ = None

-- the names of the files that a call fetches, in their order
abbrev pub first_of : Request → Option (List ℕ)
first_of (Replay config report watch program script) = Some program
first_of (Drive config report watch program) = Some program
first_of (Roll config watch program script control) = Some program
first_of (Save config program script) = Some program
first_of (Resume watch program save script) = Some program
first_of (Run config rules report order scope watch program) = Some program
first_of (Monitor config rules watch program) = Some program
first_of (Check nodes program trace) = Some program
first_of (Judge accesses) = Some accesses
first_of (Demo size) = None
first_of (Assemble text) = Some text
first_of (Disassemble program) = Some program

abbrev pub second_of : Request → Option (List ℕ)
second_of (Replay config report watch program script) = Some script
second_of (Roll config watch program script control) = Some script
second_of (Save config program script) = Some script
second_of (Resume watch program save script) = Some save
second_of (Check nodes program trace) = Some trace
second_of _ = None

abbrev pub third_of : Request → Option (List ℕ)
third_of (Roll config watch program script control) = Some control
third_of (Resume watch program save script) = Some script
third_of _ = None

abbrev pub file_of : Request → ℕ → Option (List ℕ)
file_of ask zero = first_of ask
file_of ask (suc zero) = second_of ask
file_of ask (suc (suc zero)) = third_of ask
file_of ask (suc (suc (suc _))) = None

-- the name of the save file
abbrev pub save_of : Request → Option (List ℕ)
save_of (Resume watch program save script) = Some save
save_of _ = None

-- how many events a run may have, also one that is watched
abbrev pub budget_of : Request → Option ℕ
budget_of (Run config rules report order scope watch program) = Some rules.budget
budget_of (Monitor config rules watch program) = Some rules.budget
budget_of _ = None

-- a file of lines that is blamed: what its lines say, for how many nodes, and its name
pub record Blamed : Type 0 where
  pub kind : TextKind
  pub nodes : ℕ
  pub name : List ℕ

-- a script that is refused as it is now is blamed before its control file
abbrev pub blamed_in_roll : Files → ℕ → List ℕ → List ℕ → Blamed
blamed_in_roll held nodes script control =
    if is_refused nodes (found_in (held script) 33554432) then record { kind = kind.Script; nodes = nodes; name = script }
    else record { kind = kind.Control; nodes = nodes; name = control }

abbrev pub blamed_of : Files → Request → Option Blamed
blamed_of held (Replay config report watch program script) = Some (record { kind = kind.Script; nodes = config.nodes; name = script })
blamed_of held (Roll config watch program script control) = Some (blamed_in_roll held config.nodes script control)
blamed_of held (Save config program script) = Some (record { kind = kind.Script; nodes = config.nodes; name = script })
blamed_of held (Resume watch program save script) =
    Some (record { kind = kind.Script; nodes = nodes_in (found_in (held save) 67108864); name = script })
blamed_of held (Check nodes program trace) = Some (record { kind = kind.Trace; nodes = nodes; name = trace })
blamed_of held (Judge accesses) = Some (record { kind = kind.Accesses; nodes = 16; name = accesses })
blamed_of held _ = None
