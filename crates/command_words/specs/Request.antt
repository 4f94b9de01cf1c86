-- What the words ask for.
use Rattle.std.specs.Prelude.{ℕ, Bool, true, false, ◌&&◌, if◌then◌else◌, List, codes, bytes_eq, Option, Some, None, is_some, option_map}
use Rattle.std.specs.Prelude.{option_and_then, string_bytes}
use Rattle.std.specs.Option.{option_map_or}
use Rattle.sn_base.specs.Config.{lies_in, config_fits}
use Rattle.sn_base.specs.declared.config.Config.{Config}
use Rattle.option_values.specs.declared.run.RunRules.{RunRules}
use Rattle.option_values.specs.Runs.{run_rules_by, run_rules_fit}
use Rattle.option_values.specs.declared.places.Places.{Places}
use Rattle.option_values.specs.Places.{places_by, places_fit}
use Rattle.option_values.specs.declared.seeds.Seeds.{Seeds}
use Rattle.option_values.specs.Seeds.{seeds_by, seeds_fit}
use Rattle.option_values.specs.Values.{nodes_rule, number_by, config_by, watch_by, is_word_address, demo_size}
use Rattle.clap.specs.Words.{Row, Text, first_of, takes, subcommand_of}
use Rattle.command_words.specs.Command.{the_app}
use Rattle.command_words.specs.declared.request.Replay as code_replay
use Rattle.command_words.specs.declared.request.Drive as code_drive
use Rattle.command_words.specs.declared.request.Roll as code_roll
use Rattle.command_words.specs.declared.request.Save as code_save
use Rattle.command_words.specs.declared.request.Resume as code_resume
use Rattle.command_words.specs.declared.request.Run as code_run
use Rattle.command_words.specs.declared.request.Monitor as code_monitor
use Rattle.sn_base.specs.declared.report.RunReport.{RunReport}
use Rattle.sn_base.specs.declared.report.RunReport.TheVariants as shown
use Rattle.command_words.specs.declared.request.ReplayReport.{ReplayReport}
use Rattle.command_words.specs.declared.request.ReplayReport.TheVariants as replayed
use Rattle.command_words.specs.declared.request.DriveReport.{DriveReport}
use Rattle.command_words.specs.declared.request.DriveReport.TheVariants as driven
use Rattle.command_words.specs.declared.request.RunOrder.{RunOrder}
use Rattle.command_words.specs.declared.request.RunOrder.TheVariants as order
use Rattle.command_words.specs.declared.request.RunScope.{RunScope}
use Rattle.command_words.specs.declared.request.RunScope.TheVariants as scope
use Rattle.command_words.specs.declared.request.Check as code_check
use Rattle.command_words.specs.declared.request.Request as code_request
use Rattle.command_words.specs.declared.request.Request.TheVariants as asked
use Rattle.sn_base.specs.declared.limits.TheConstants.{EVENTS}

-- the sizes, the rules of a run, what of a replay, of a drive or of a run is to be shown, who has a run's turns, which word is to be watched, and the names of
-- files: of the program and of the script, the control, the save file or the trace, or of the accesses or the text
pub data Request : Type 0 where
  Replay : Config → ReplayReport → Option ℕ → Text → Text → Request
  Drive : Config → DriveReport → Option ℕ → Text → Request
  Roll : Config → Option ℕ → Text → Text → Text → Request
  Save : Config → Text → Text → Request
  Resume : Option ℕ → Text → Text → Text → Request
  Run : Config → RunRules → RunReport → RunOrder → RunScope → Option ℕ → Text → Request
  Monitor : Config → RunRules → Option ℕ → Text → Request
  Check : ℕ → Text → Text → Request
  Judge : Text → Request
  Demo : ℕ → Request
  Assemble : Text → Request
  Disassemble : Text → Request

-- whether a flag is given
abbrev pub flag_of : Text → List Row → Bool
flag_of name entries = option_map_or (λ text. bytes_eq text (codes "true")) (first_of name entries) false

abbrev pub config_of : List Row → Option Config
config_of entries =
    config_by (first_of (codes "nodes") entries) (first_of (codes "sets") entries) (first_of (codes "ways") entries) (first_of (codes "log") entries)

-- what a replay shows by its four flags, no two of which stand together, and by the places, which only states have
abbrev pub replay_report_by : Bool → Bool → Bool → Bool → Option Places → Option ReplayReport
replay_report_by false false false false None = Some replayed.Events
replay_report_by true false false false None = Some replayed.Trace
replay_report_by false true false false only = Some (replayed.States only)
replay_report_by false false true false None = Some replayed.Statistics
replay_report_by false false false true None = Some replayed.Accesses
replay_report_by trace states statistics accesses only = None

abbrev pub replay_report_of : List Row → Option ReplayReport
replay_report_of entries =
    option_and_then (λ only. replay_report_by
    (flag_of (codes "trace") entries) (flag_of (codes "states") entries) (flag_of (codes "statistics") entries)
    (flag_of (codes "accesses") entries) only)
    (places_by (first_of (codes "only") entries))

abbrev pub replay_of : List Row → Option Request
replay_of entries =
    option_and_then (λ config. option_and_then (λ report. option_and_then (λ watch. option_and_then (λ program. option_map (λ script.
    Replay config report watch program script)
    (first_of (codes "script") entries)) (first_of (codes "program") entries)) (watch_by (first_of (codes "watch") entries)))
    (replay_report_of entries)) (config_of entries)

-- what a drive shows by its flag
abbrev pub drive_report_of : List Row → DriveReport
drive_report_of entries = if flag_of (codes "states") entries then driven.States else driven.Events

abbrev pub drive_of : List Row → Option Request
drive_of entries =
    option_and_then (λ config. option_and_then (λ watch. option_map (λ program. Drive config (drive_report_of entries) watch program)
    (first_of (codes "program") entries)) (watch_by (first_of (codes "watch") entries))) (config_of entries)

abbrev pub roll_of : List Row → Option Request
roll_of entries =
    option_and_then (λ config. option_and_then (λ watch. option_and_then (λ program. option_and_then (λ script. option_map (λ control.
    Roll config watch program script control)
    (first_of (codes "control") entries)) (first_of (codes "script") entries)) (first_of (codes "program") entries))
    (watch_by (first_of (codes "watch") entries))) (config_of entries)

abbrev pub save_of : List Row → Option Request
save_of entries =
    option_and_then (λ config. option_and_then (λ program. option_map (λ script. Save config program script)
    (first_of (codes "script") entries)) (first_of (codes "program") entries)) (config_of entries)

abbrev pub resume_of : List Row → Option Request
resume_of entries =
    option_and_then (λ watch. option_and_then (λ program. option_and_then (λ save. option_map (λ script. Resume watch program save script)
    (first_of (codes "script") entries)) (first_of (codes "save") entries)) (first_of (codes "program") entries))
    (watch_by (first_of (codes "watch") entries))

-- the rules of a run on so many nodes
abbrev pub run_rules_of : ℕ → List Row → Option RunRules
run_rules_of nodes entries =
    run_rules_by nodes (first_of (codes "interval") entries) (first_of (codes "wait") entries) (first_of (codes "lose-every") entries)
    (first_of (codes "kill") entries) (first_of (codes "budget") entries) (first_of (codes "seed") entries)

-- what a run shows by its three flags, no two of which stand together
abbrev pub run_report_by : Bool → Bool → Bool → Option RunReport
run_report_by false false false = Some shown.Summary
run_report_by true false false = Some shown.Trace
run_report_by false true false = Some shown.Journal
run_report_by false false true = Some shown.Accesses
run_report_by trace journal accesses = None

abbrev pub run_report_of : List Row → Option RunReport
run_report_of entries =
    run_report_by (flag_of (codes "trace") entries) (flag_of (codes "journal") entries) (flag_of (codes "accesses") entries)

-- who has the next turn of a run: the threads decide it where no option says another
abbrev pub run_order_by : Option Text → Option RunOrder
run_order_by None = Some order.Threads
run_order_by (Some text) =
    if bytes_eq text (codes "threads") then Some order.Threads else
    if bytes_eq text (codes "round") then Some order.Round else
    if bytes_eq text (codes "drawn") then Some order.Drawn else None

abbrev pub run_order_of : List Row → Option RunOrder
run_order_of entries = run_order_by (first_of (codes "order") entries)

-- whether the workers have their turns in an order, and whether nothing is shown beside the summary
abbrev pub is_ordered : RunOrder → Bool
is_ordered order.Threads = false
is_ordered order.Round = true
is_ordered order.Drawn = true

abbrev pub is_summary : RunReport → Bool
is_summary shown.Summary = true
is_summary _ = false

-- how many runs there are, and whether they are counted: by the flag for statistics, a range of seeds, whether the summary alone is shown, whether
-- the turns come in an order, and whether one seed is given
abbrev pub run_scope_by : Bool → Option Seeds → Bool → Bool → Bool → Option RunScope
run_scope_by false None summary ordered seed = Some scope.One
run_scope_by true None true ordered seed = Some scope.Counted
run_scope_by counted (Some seeds) true true false = Some (scope.Seeds seeds counted)
run_scope_by counted seeds summary ordered seed = None

abbrev pub run_scope_of : RunOrder → RunReport → List Row → Option RunScope
run_scope_of order report entries =
    option_and_then (λ seeds. run_scope_by
    (flag_of (codes "statistics") entries) seeds (is_summary report) (is_ordered order) (is_some (first_of (codes "seed") entries)))
    (seeds_by (first_of (codes "seeds") entries))

abbrev pub run_of : List Row → Option Request
run_of entries =
    option_and_then (λ config. option_and_then (λ rules. option_and_then (λ report. option_and_then (λ order. option_and_then (λ scope.
    option_and_then (λ watch. option_map (λ program. Run config rules report order scope watch program)
    (first_of (codes "program") entries)) (watch_by (first_of (codes "watch") entries))) (run_scope_of order report entries))
    (run_order_of entries)) (run_report_of entries)) (run_rules_of config.nodes entries)) (config_of entries)

abbrev pub monitor_of : List Row → Option Request
monitor_of entries =
    option_and_then (λ config. option_and_then (λ rules. option_and_then (λ watch. option_map (λ program.
    Monitor config rules watch program)
    (first_of (codes "program") entries)) (watch_by (first_of (codes "watch") entries))) (run_rules_of config.nodes entries))
    (config_of entries)

abbrev pub check_of : List Row → Option Request
check_of entries =
    option_and_then (λ nodes. option_and_then (λ program. option_map (λ trace. Check nodes program trace)
    (first_of (codes "trace") entries)) (first_of (codes "program") entries)) (number_by nodes_rule (first_of (codes "nodes") entries))

abbrev pub demo_of : List Row → Option ℕ
demo_of entries = option_and_then demo_size (first_of (codes "size") entries)

-- the request of a command that judges or translates what a file has, or that demonstrates, by its name and its entries
abbrev pub other_request_of : Text → List Row → Option Request
other_request_of command entries =
    if bytes_eq command (codes "check") then check_of entries else
    if bytes_eq command (codes "judge") then option_map (λ accesses. Judge accesses) (first_of (codes "accesses") entries) else
    if bytes_eq command (codes "demo") then option_map (λ size. Demo size) (demo_of entries) else
    if bytes_eq command (codes "asm") then option_map (λ text. Assemble text) (first_of (codes "text") entries) else
    if bytes_eq command (codes "dis") then option_map (λ program. Disassemble program) (first_of (codes "program") entries) else None

-- the request of a command by its name and its entries
abbrev pub request_of : Text → List Row → Option Request
request_of command entries =
    if bytes_eq command (codes "replay") then replay_of entries else
    if bytes_eq command (codes "drive") then drive_of entries else
    if bytes_eq command (codes "roll") then roll_of entries else
    if bytes_eq command (codes "save") then save_of entries else
    if bytes_eq command (codes "resume") then resume_of entries else
    if bytes_eq command (codes "run") then run_of entries else
    if bytes_eq command (codes "monitor") then monitor_of entries else other_request_of command entries

-- the request of the words: none where they aren't a command's, or where the text of an entry breaks its rule
abbrev pub ask_of : List Text → Option Request
ask_of words =
    if takes the_app words then option_and_then (λ command. request_of command.0 command.1) (subcommand_of the_app words) else None

-- requests of the code, with their names as bytes
abbrev pub as_replay : code_replay.Replay → Request
as_replay r = Replay r.config r.report r.watch (string_bytes r.program) (string_bytes r.script)

abbrev pub as_drive : code_drive.Drive → Request
as_drive d = Drive d.config d.report d.watch (string_bytes d.program)

abbrev pub as_roll : code_roll.Roll → Request
as_roll r = Roll r.config r.watch (string_bytes r.program) (string_bytes r.script) (string_bytes r.control)

abbrev pub as_save : code_save.Save → Request
as_save s = Save s.config (string_bytes s.program) (string_bytes s.script)

abbrev pub as_resume : code_resume.Resume → Request
as_resume r = Resume r.watch (string_bytes r.program) (string_bytes r.save) (string_bytes r.script)

abbrev pub as_run : code_run.Run → Request
as_run r = Run r.config r.rules r.report r.order r.scope r.watch (string_bytes r.program)

abbrev pub as_monitor : code_monitor.Monitor → Request
as_monitor m = Monitor m.config m.rules m.watch (string_bytes m.program)

abbrev pub as_check : code_check.Check → Request
as_check c = Check c.nodes (string_bytes c.program) (string_bytes c.trace)

abbrev pub as_request : code_request.Request → Request
as_request (asked.Replay r) = as_replay r
as_request (asked.Drive d) = as_drive d
as_request (asked.Roll r) = as_roll r
as_request (asked.Save s) = as_save s
as_request (asked.Resume r) = as_resume r
as_request (asked.Run r) = as_run r
as_request (asked.Monitor m) = as_monitor m
as_request (asked.Check c) = as_check c
as_request (asked.Judge accesses) = Judge (string_bytes accesses)
as_request (asked.Demo size) = Demo size
as_request (asked.Assemble text) = Assemble (string_bytes text)
as_request (asked.Disassemble program) = Disassemble (string_bytes program)

-- whether a word that is to be watched is one of memory
abbrev pub watch_fits : Option ℕ → Bool
watch_fits watch = option_map_or is_word_address watch true

-- whether the places of which states are shown are such
abbrev pub report_fits : ReplayReport → Bool
report_fits (replayed.States only) = option_map_or places_fit only true
report_fits _ = true

-- whether the range of seeds of runs is one
abbrev pub scope_fits : RunScope → Bool
scope_fits (scope.Seeds seeds counted) = seeds_fit seeds
scope_fits scope.One = true
scope_fits scope.Counted = true

-- whether the sizes and the rules of a run lie in their ranges, and so do the places that are shown, and the watched word in memory
abbrev pub request_fits : Request → Bool
request_fits (Replay config report watch program script) = config_fits config && (report_fits report && watch_fits watch)
request_fits (Drive config report watch program) = config_fits config && watch_fits watch
request_fits (Roll config watch program script control) = config_fits config && watch_fits watch
request_fits (Save config program script) = config_fits config
request_fits (Resume watch program save script) = watch_fits watch
request_fits (Run config rules report order scope watch program) =
    config_fits config && (run_rules_fit config.nodes rules && (scope_fits scope && watch_fits watch))
request_fits (Monitor config rules watch program) = config_fits config && (run_rules_fit config.nodes rules && watch_fits watch)
request_fits (Check nodes program trace) = lies_in 1 16 nodes
request_fits (Demo size) = lies_in 1 EVENTS size
request_fits _ = true
