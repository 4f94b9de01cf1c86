-- A core's step, by the core before it and by the record that it retired with.
use Rattle.std.specs.Prelude.{◌≡◌, ℕ, true, is_some, List, ◌++◌, codes, Option}
use Rattle.sn_base.specs.Image.{ImageData, word_fetched}
use Rattle.rv_core.specs.declared.state.CoreState.{CoreState}
use Rattle.rv_core.specs.declared.step.Record.{Record}
use Rattle.rv_core.specs.Core.{is_running, is_input, holds_reservation}
use Rattle.rv_core.specs.Step.{want_of, next_of}
use Rattle.sn_model.specs.Instructions.{FoundOutside}
use Rattle.state_json.specs.Json.{opens, member, closes, or_null, word}
use Rattle.state_json.specs.Details.{did_text, instruction_text}

-- what it found from outside
abbrev pub found_as : Record → FoundOutside
found_as did = record { seen = did.seen; sc_done = did.sc_done; read = did.read }

-- what it did
abbrev pub retired_text : ImageData → CoreState → Record → List ℕ
retired_text image core did = did_text (found_as did) (next_of image core did.seen did.sc_done did.read)

-- a core may finish its instruction so: it runs, a store-conditional is done only where its block is reserved, and a byte was
-- read where one is wanted
pub record CanFinish (image : ImageData) (core : CoreState) (did : Record) : Type 0 where
  pub running : is_running core.end ≡ true
  pub reserved : did.sc_done ≡ true → holds_reservation core (want_of image core) ≡ true
  pub byte : is_some did.read ≡ is_input (want_of image core)

-- the step whole, of a core that retired with a record or didn't
unfoldable pub core_step_text : ImageData → CoreState → Option Record → List ℕ
core_step_text image core did =
    opens (codes "pc") (word core.pc)
    ++ member (codes "instruction") (or_null instruction_text (word_fetched image.segments core.pc))
    ++ member (codes "did") (or_null (retired_text image core) did) ++ closes
