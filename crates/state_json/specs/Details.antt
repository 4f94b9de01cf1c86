-- What is told of an event besides, as it was found before the event: a step's instruction, who isn't ready, what a recovery takes
-- back.
use Rattle.std.specs.Prelude.{ℕ, zero, suc, ◌+◌, ◌%◌, Bool, nat_eq, nat_lt, nat_le, ◌&&◌, if◌then◌else◌, List, [], ◌∷◌, ◌++◌, length, map}
use Rattle.std.specs.Prelude.{codes, decimal, slice_index, Option, Some, None}
use Rattle.sn_base.specs.Blocks.{bytes_of}
use Rattle.sn_base.specs.Image.{ImageData, word_fetched}
use Rattle.sn_base.specs.declared.block.Write.{Write}
use Rattle.sn_base.specs.declared.event.Event.{Event}
use Rattle.sn_base.specs.declared.event.Event.TheVariants.{Step, Report, Validate, Recover}
use Rattle.sn_base.specs.declared.event.Answer.{Answer}
use Rattle.sn_base.specs.declared.event.Answer.TheVariants.{Ended, Reported, NotReady, Recovered}
use Rattle.sn_base.specs.declared.log.LogEntry.{LogEntry}
use Rattle.rv_core.specs.Step.{Next}
use Rattle.log_buffer.specs.Log.{entries_from}
use Rattle.rv_asm.specs.Text.{word_text}
use Rattle.sn_model.specs.Caches.{Miss, Put, block_count}
use Rattle.sn_model.specs.Homes.{Transaction}
use Rattle.sn_model.specs.Fabric.{Fabric, node_at, home_of, home_node}
use Rattle.sn_model.specs.Cuts.{miss_before, put_before, transaction_before}
use Rattle.sn_model.specs.NodeEvents.{ready_of}
use Rattle.sn_model.specs.Machine.{State, processor_at}
use Rattle.sn_model.specs.Instructions.{FoundOutside, found_at, next_with, is_retired}
use Rattle.state_parts.specs.Parts.{waiting_of}
use Rattle.state_json.specs.Json.{quotation_of, opens, member, closes, array, or_null, flag, word, byte}
use Rattle.state_json.specs.Values.{miss_text, put_text, entry_text, transaction_text}
use Rattle.state_json.specs.Messages.{flight_text}

-- a step: its core's instruction, and what it did if it retired

unfoldable pub write_text : Write → List ℕ
write_text w =
    opens (codes "address") (word w.address) ++ member (codes "size") (decimal (bytes_of w.width))
    ++ member (codes "value") (word w.value) ++ closes

unfoldable pub did_text : FoundOutside → Next → List ℕ
did_text found next =
    opens (codes "seen") (word found.seen) ++ member (codes "done") (flag found.sc_done)
    ++ member (codes "read") (or_null byte found.read) ++ member (codes "wrote") (or_null write_text next.effect.write)
    ++ member (codes "out") (or_null byte next.effect.out) ++ closes

abbrev pub instruction_text : ℕ → List ℕ
instruction_text number = quotation_of (word_text number)

abbrev pub step_text : ImageData → State → ℕ → Answer → List ℕ
step_text image s n answer =
    opens (codes "pc") (word (processor_at s n).core.pc)
    ++ member (codes "instruction") (or_null instruction_text (word_fetched image.segments (processor_at s n).core.pc))
    ++ member (codes "did") (if is_retired answer
    then did_text (found_at image s n) (next_with image (processor_at s n) (found_at image s n))
    else codes "null") ++ closes

-- a node that isn't ready for a checkpoint, and what began before that and holds it back

abbrev pub miss_below : Option Miss → ℕ → Option Miss
miss_below miss k = if miss_before miss k then miss else None

abbrev pub put_below : Option Put → ℕ → Option Put
put_below put k = if put_before put k then put else None

abbrev pub open_text : ℕ → Transaction → List ℕ
open_text block transaction =
    opens (codes "block") (decimal block) ++ member (codes "transaction") (transaction_text transaction) ++ closes

-- a transaction that began below checkpoint k
abbrev pub open_below : ℕ → ℕ → Option Transaction → List (List ℕ)
open_below k block None = []
open_below k block (Some transaction) = if nat_lt transaction.begun k then open_text block transaction ∷ [] else []

-- those of the home of node n, of the first so many blocks
unfoldable pub open_texts : ℕ → Fabric → ℕ → ℕ → List (List ℕ)
open_texts zero s n k = []
open_texts (suc block) s n k =
    open_texts block s n k ++ (if nat_eq (home_node s block) n then open_below k block (home_of s block).transaction else [])

unfoldable pub unready_text : State → ℕ → ℕ → List ℕ
unready_text s n k =
    opens (codes "node") (decimal n) ++ member (codes "now") (decimal (node_at s.fabric n).now)
    ++ member (codes "reported") (decimal (slice_index s.reported n))
    ++ member (codes "miss") (or_null miss_text (miss_below (node_at s.fabric n).cache.miss k))
    ++ member (codes "put") (or_null put_text (put_below (node_at s.fabric n).cache.put k))
    ++ member (codes "transactions") (array (open_texts block_count s.fabric n k)) ++ closes

-- a report: its node, unless it is ready for its own interval
abbrev pub reporter_texts : State → ℕ → List (List ℕ)
reporter_texts s n =
    if nat_lt (ready_of s.fabric n) (node_at s.fabric n).now then unready_text s n (node_at s.fabric n).now ∷ [] else []

-- a validation that is refused: those of the first so many nodes that haven't reported the next checkpoint
abbrev pub unready_texts : ℕ → State → List (List ℕ)
unready_texts zero s = []
unready_texts (suc n) s =
    unready_texts n s ++ (if nat_le (slice_index s.reported n) s.fabric.point then unready_text s n (s.fabric.point + 1) ∷ [] else [])

-- a recovery

unfoldable pub undone_text : ℕ → LogEntry → List ℕ
undone_text n entry = opens (codes "node") (decimal n) ++ member (codes "entry") (entry_text entry) ++ closes

-- the entries that it uses, of the first so many nodes
abbrev pub undone_texts : ℕ → State → List (List ℕ)
undone_texts zero s = []
undone_texts (suc n) s = undone_texts n s ++ map (undone_text n) (entries_from s.fabric.point (node_at s.fabric n).log)

-- how many instructions of each of them it takes back
abbrev pub taken_back_texts : ℕ → State → List (List ℕ)
taken_back_texts zero s = []
taken_back_texts (suc n) s = taken_back_texts n s ++ decimal (length (waiting_of n s.pending)) ∷ []

abbrev pub recovery_text : State → List ℕ
recovery_text s =
    opens (codes "undone") (array (undone_texts (length s.fabric.nodes) s))
    ++ member (codes "dropped") (array (map flight_text s.fabric.net.flights))
    ++ member (codes "taken_back") (array (taken_back_texts (length s.fabric.nodes) s)) ++ closes

-- what is told of an event with this answer, found in this state

abbrev pub of_step : ImageData → State → ℕ → Answer → List ℕ
of_step image s n Ended = []
of_step image s n answer = member (codes "step") (step_text image s n answer)

abbrev pub of_report : State → ℕ → Answer → List ℕ
of_report s n (Reported k) = member (codes "unready") (array (reporter_texts s n))
of_report s n _ = []

abbrev pub of_validation : State → Answer → List ℕ
of_validation s (NotReady n) = member (codes "unready") (array (unready_texts (length s.fabric.nodes) s))
of_validation s _ = []

abbrev pub of_recovery : State → Answer → List ℕ
of_recovery s (Recovered undo) = member (codes "recovery") (recovery_text s)
of_recovery s _ = []

unfoldable pub details_text : ImageData → State → Event → Answer → List ℕ
details_text image s (Step n) answer = of_step image s n answer
details_text image s (Report n) answer = of_report s n answer
details_text image s Validate answer = of_validation s answer
details_text image s Recover answer = of_recovery s answer
details_text image s _ answer = []
