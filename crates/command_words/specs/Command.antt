-- The program's command line, as clap has it: a table with one row a command.
use Rattle.std.specs.Prelude.{true, Some, List, [], ◌∷◌, codes, fold, map}
use Rattle.clap.specs.Words.{App, Rule, Text, new_app, new_rule, with_rule, with_subcommand}
use Rattle.clap.specs.declared.builder.ArgAction.{ArgAction}
use Rattle.clap.specs.declared.builder.ArgAction.TheVariants.{Set, SetTrue}
use Rattle.command_words.specs.declared.command.Kind.{Kind}
use Rattle.command_words.specs.declared.command.Row.{Row}
use Rattle.command_words.specs.declared.command.Kind.TheVariants as kind

-- what it does where it stands: a flag says true, the others take a value
abbrev pub action_of : Kind → ArgAction
action_of kind.Flag = SetTrue
action_of _ = Set

-- a word that must be there; `--name value` or `--name=value`; `--name`
abbrev pub rule_by : Kind → Text → Rule
rule_by kind.Word name = record (new_rule name) { required = true; action = Some Set }
rule_by kind.Option name = record (new_rule name) { long = Some name; action = Some Set }
rule_by kind.Flag name = record (new_rule name) { long = Some name; action = Some SetTrue }

abbrev pub with_args : Kind → List Text → App → App
with_args kind names app = fold (λ a name. with_rule a (rule_by kind name)) app names

-- a command by its name, with its words, its options and its flags
abbrev pub command_app : Text → List Text → List Text → List Text → App
command_app name words options flags = with_args kind.Flag flags (with_args kind.Option options (with_args kind.Word words (new_app name)))

-- a command by its row of the program's table
abbrev pub row_app : Row → App
row_app row =
    command_app row.name.now (map (λ name. name.now) row.words.now) (map (λ name. name.now) row.options.now) (map (λ name. name.now) row.flags.now)

abbrev pub replay_app : App
replay_app = command_app (codes "replay") (codes "program" ∷ codes "script" ∷ [])
    (codes "nodes" ∷ codes "sets" ∷ codes "ways" ∷ codes "log" ∷ codes "watch" ∷ codes "only" ∷ []) (codes "trace" ∷ codes "states" ∷ codes "statistics" ∷ codes "accesses" ∷ [])

abbrev pub drive_app : App
drive_app = command_app (codes "drive") (codes "program" ∷ [])
    (codes "nodes" ∷ codes "sets" ∷ codes "ways" ∷ codes "log" ∷ codes "watch" ∷ []) (codes "states" ∷ [])

abbrev pub roll_app : App
roll_app = command_app (codes "roll") (codes "program" ∷ codes "script" ∷ codes "control" ∷ [])
    (codes "nodes" ∷ codes "sets" ∷ codes "ways" ∷ codes "log" ∷ codes "watch" ∷ []) []

abbrev pub save_app : App
save_app = command_app (codes "save") (codes "program" ∷ codes "script" ∷ [])
    (codes "nodes" ∷ codes "sets" ∷ codes "ways" ∷ codes "log" ∷ []) []

-- the sizes are the save file's
abbrev pub resume_app : App
resume_app = command_app (codes "resume") (codes "program" ∷ codes "save" ∷ codes "script" ∷ []) (codes "watch" ∷ []) []

-- the options of a machine that picks its own events
abbrev pub run_options : List Text
run_options =
    codes "nodes" ∷ codes "sets" ∷ codes "ways" ∷ codes "log" ∷ codes "watch"
    ∷ codes "interval" ∷ codes "wait" ∷ codes "lose-every" ∷ codes "kill" ∷ codes "budget" ∷ codes "seed" ∷ []

abbrev pub run_app : App
run_app = command_app (codes "run") (codes "program" ∷ []) (codes "order" ∷ codes "seeds" ∷ run_options) (codes "trace" ∷ codes "journal" ∷ codes "accesses" ∷ codes "statistics" ∷ [])

abbrev pub monitor_app : App
monitor_app = command_app (codes "monitor") (codes "program" ∷ []) run_options []

abbrev pub check_app : App
check_app = command_app (codes "check") (codes "program" ∷ codes "trace" ∷ []) (codes "nodes" ∷ []) []

abbrev pub judge_app : App
judge_app = command_app (codes "judge") (codes "accesses" ∷ []) [] []

abbrev pub demo_app : App
demo_app = command_app (codes "demo") (codes "size" ∷ []) [] []

abbrev pub asm_app : App
asm_app = command_app (codes "asm") (codes "text" ∷ []) [] []

abbrev pub dis_app : App
dis_app = command_app (codes "dis") (codes "program" ∷ []) [] []

-- the program's name, and that a command must follow it; a call for help is no command and no option
abbrev pub named_app : App
named_app = record (new_app (codes "safetynet")) {
  top = record (new_app (codes "safetynet")).top { disable_help_flag = true; disable_help_subcommand = true; subcommand_required = true };
}

abbrev pub with_command : App → App → App
with_command app command = with_subcommand app command.top

abbrev pub command_apps : List App
command_apps =
    replay_app ∷ drive_app ∷ roll_app ∷ save_app ∷ resume_app ∷ run_app ∷ monitor_app ∷ check_app ∷ judge_app ∷ demo_app ∷ asm_app ∷ dis_app ∷ []

abbrev pub the_app : App
the_app = fold with_command named_app command_apps
