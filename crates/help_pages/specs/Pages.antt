-- Which page the program's words ask for, before any command is done.
use Rattle.std.specs.Prelude.{ℕ, List, [], ◌∷◌, Bool, codes, Option, Some, None, bytes_eq, if◌then◌else◌, option_and_then}
use Rattle.std.specs.List.{list_any}
use Rattle.std.specs.Option.{option_or}
use Rattle.help_pages.specs.declared.page.Page.{Page}
use Rattle.help_pages.specs.declared.page.Page.TheVariants.{Overview, Replay, Drive, Roll, Save, Resume, Run, Monitor, Check, Judge, Demo, Asm, Dis}
use Rattle.help_pages.specs.declared.page.Page.TheVariants.{Events, Formats, Statuses, Version}

abbrev pub Text : Type 0
Text = List ℕ

-- the commands, in the order of the overview, each with its page
abbrev pub command_pages : List (Text × Page)
command_pages =
    (codes "replay", Replay) ∷ (codes "drive", Drive) ∷ (codes "roll", Roll) ∷ (codes "save", Save) ∷ (codes "resume", Resume) ∷ (codes "run", Run) ∷ (codes "monitor", Monitor)
    ∷ (codes "check", Check) ∷ (codes "judge", Judge) ∷ (codes "demo", Demo) ∷ (codes "asm", Asm) ∷ (codes "dis", Dis) ∷ []

-- what else has a page
abbrev pub topic_pages : List (Text × Page)
topic_pages = (codes "events", Events) ∷ (codes "formats", Formats) ∷ (codes "statuses", Statuses) ∷ []

-- the page of a word by a table
abbrev pub page_in : List (Text × Page) → Text → Option Page
page_in [] word = None
page_in (row ∷ rows) word = if bytes_eq word row.0 then Some row.1 else page_in rows word

-- the page on a command, and that on a command or a topic
unfoldable pub command_page : Text → Option Page
command_page word = page_in command_pages word

unfoldable pub page_on : Text → Option Page
page_on word = option_or (command_page word) (page_in topic_pages word)

-- the words that ask for help
abbrev pub calls_for_help : List Text
calls_for_help = codes "--help" ∷ codes "-h" ∷ codes "help" ∷ []

abbrev pub is_one_of : List Text → Text → Bool
is_one_of texts word = list_any (bytes_eq word) texts

-- what a word asks for where help is this page
unfoldable pub asked_by : Page → Text → Option Page
asked_by help word =
    if is_one_of calls_for_help word then Some help else
    if bytes_eq word (codes "--version") then Some Version else None

-- after the program's name: `help` before a command or a topic asks for its page; and a word that asks for help or the version, after a
-- command, for that command's page or the version
abbrev pub page_of_two : Text → Text → Option Page
page_of_two first second =
    if bytes_eq first (codes "help") then page_on second else option_and_then (λ help. asked_by help second) (command_page first)

-- no word asks for the overview, and so does a word that asks for help alone
abbrev pub page_by : List Text → Option Page
page_by [] = Some Overview
page_by (name ∷ []) = Some Overview
page_by (name ∷ word ∷ []) = asked_by Overview word
page_by (name ∷ first ∷ second ∷ []) = page_of_two first second
page_by _ = None
