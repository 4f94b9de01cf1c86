-- What a node and a home have, as JSON.
use Rattle.std.specs.Prelude.{ℕ, zero, suc, ◌+◌, Bool, false, nat_eq, if◌then◌else◌, List, [], ◌∷◌, ◌++◌, drop, codes, decimal}
use Rattle.sn_base.specs.Nodes.{has_node}
use Rattle.sn_base.specs.declared.log.LogEntry.{LogEntry}
use Rattle.sn_base.specs.declared.log.Old.{Old}
use Rattle.sn_base.specs.declared.log.Old.TheVariants.{NotOwned, Owned as WasOwned, WasHome, WasCache}
use Rattle.rv_core.specs.declared.state.CoreState.{CoreState}
use Rattle.text_lines.specs.Hex.{hex_word}
use Rattle.sn_model.specs.declared.cache.LineState.{LineState}
use Rattle.sn_model.specs.declared.cache.LineState.TheVariants.{Absent, Shared, Owned, Modified, Exclusive}
use Rattle.sn_model.specs.declared.cache.Need.{Need}
use Rattle.sn_model.specs.declared.cache.Need.TheVariants.{Read as ToRead, Write as ToWrite}
use Rattle.sn_model.specs.declared.home.Kind.{Kind}
use Rattle.sn_model.specs.declared.home.Kind.TheVariants.{Read, Take, Move, Upgrade, Put as Back}
use Rattle.sn_model.specs.Caches.{Cache, Line, Miss, Put, line_of, is_present}
use Rattle.sn_model.specs.Homes.{Transaction}
use Rattle.sn_model.specs.Machine.{Retirement, HeldByte}
use Rattle.sn_text.specs.Text.{end_text}
use Rattle.state_json.specs.Json.{quotation_of, opens, member, closes, with_commas, or_null, flag, word, byte, content_text}

-- cores

-- a register by its name
abbrev pub register_text : ℕ → ℕ → List ℕ
register_text number value = codes "\"x" ++ decimal number ++ codes "\":" ++ word value

-- those from this number on that aren't 0
abbrev pub register_texts : ℕ → List ℕ → List (List ℕ)
register_texts number [] = []
register_texts number (value ∷ values) =
    (if nat_eq value 0 then register_texts (number + 1) values else register_text number value ∷ register_texts (number + 1) values)

-- a core; register 0 reads 0 whatever stands in it
unfoldable pub core_text : CoreState → List ℕ
core_text core =
    opens (codes "pc") (word core.pc) ++ member (codes "end") (quotation_of (end_text core.end))
    ++ member (codes "registers") (codes "{" ++ with_commas false (register_texts 1 (drop 1 core.x)) ++ codes "}")
    ++ member (codes "reservation") (or_null decimal core.reservation) ++ closes

-- caches

abbrev pub state_letter : LineState → List ℕ
state_letter Absent = codes "I"
state_letter Shared = codes "S"
state_letter Owned = codes "O"
state_letter Modified = codes "M"
state_letter Exclusive = codes "E"

unfoldable pub line_text : ℕ → Line → List ℕ
line_text block line =
    opens (codes "block") (decimal block) ++ member (codes "state") (quotation_of (state_letter line.state))
    ++ member (codes "content") (content_text line.content) ++ closes

-- the lines of the first so many blocks
unfoldable pub line_texts : ℕ → Cache → List (List ℕ)
line_texts zero cache = []
line_texts (suc block) cache =
    line_texts block cache ++ (if is_present (line_of cache block).state then line_text block (line_of cache block) ∷ [] else [])

abbrev pub need_name : Need → List ℕ
need_name ToRead = codes "read"
need_name ToWrite = codes "write"

unfoldable pub miss_text : Miss → List ℕ
miss_text miss =
    opens (codes "block") (decimal miss.block) ++ member (codes "need") (quotation_of (need_name miss.need))
    ++ member (codes "issued") (decimal miss.issued) ++ member (codes "fixed") (or_null decimal miss.fixed)
    ++ member (codes "due") (decimal miss.due) ++ member (codes "acks") (decimal miss.acks) ++ closes

unfoldable pub put_text : Put → List ℕ
put_text put = opens (codes "block") (decimal put.block) ++ member (codes "issued") (decimal put.issued) ++ closes

-- logs

abbrev pub old_text : Old → List ℕ
old_text NotOwned = quotation_of (codes "notowned")
old_text (WasOwned content) = quotation_of (codes "owned") ++ member (codes "content") (content_text content)
old_text (WasHome content) = quotation_of (codes "washome") ++ member (codes "content") (content_text content)
old_text (WasCache node) = quotation_of (codes "wascache") ++ member (codes "owner") (decimal node)

unfoldable pub entry_text : LogEntry → List ℕ
entry_text entry =
    opens (codes "interval") (decimal entry.interval) ++ member (codes "block") (decimal entry.block)
    ++ member (codes "old") (old_text entry.old) ++ closes

-- what waits for a validation

unfoldable pub record_text : Retirement → List ℕ
record_text r =
    opens (codes "interval") (decimal r.interval) ++ member (codes "seen") (word r.did.seen)
    ++ member (codes "done") (flag r.did.sc_done) ++ member (codes "read") (or_null byte r.did.read) ++ closes

unfoldable pub held_text : HeldByte → List ℕ
held_text held = opens (codes "interval") (decimal held.interval) ++ member (codes "byte") (byte held.byte) ++ closes

-- homes

abbrev pub kind_name : Kind → List ℕ
kind_name Read = codes "read"
kind_name Take = codes "take"
kind_name Move = codes "move"
kind_name Upgrade = codes "upgrade"
kind_name Back = codes "put"

unfoldable pub transaction_text : Transaction → List ℕ
transaction_text t =
    opens (codes "kind") (quotation_of (kind_name t.kind)) ++ member (codes "requester") (decimal t.requester)
    ++ member (codes "begun") (decimal t.begun) ++ closes

-- the marked ones of the first so many nodes
unfoldable pub marked_texts : ℕ → List Bool → List (List ℕ)
marked_texts zero marks = []
marked_texts (suc n) marks = marked_texts n marks ++ (if has_node marks n then decimal n ∷ [] else [])
