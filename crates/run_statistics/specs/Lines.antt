-- The lines of statistics: of the machine, of each node, and of each recovery.
use Rattle.std.specs.Prelude.{ℕ, zero, suc, ◌+◌, List, [], ◌∷◌, ◌++◌, codes, slice_index, slice_index_or}
use Rattle.sn_text.specs.Text.{named_number}
use Rattle.run_statistics.specs.declared.spread.Spread.{Spread}
use Rattle.run_statistics.specs.declared.instructions.InstructionStatistics.{InstructionStatistics}
use Rattle.run_statistics.specs.declared.recoveries.Recovery.{Recovery}
use Rattle.run_statistics.specs.declared.recoveries.RecoveryStatistics.{RecoveryStatistics}
use Rattle.run_statistics.specs.declared.messages.MessageStatistics.{MessageStatistics}
use Rattle.run_statistics.specs.declared.statistics.Statistics.{Statistics}

-- the names of the answers, in the order of their places
abbrev pub answer_names : List (List ℕ)
answer_names =
    codes "retired" ∷ codes "missed" ∷ codes "evicted" ∷ codes "putbegun" ∷ codes "edged" ∷ codes "hopped" ∷ codes "lostindead"
    ∷ codes "delivered" ∷ codes "lost" ∷ codes "killed" ∷ codes "reported" ∷ codes "validated" ∷ codes "recovered" ∷ codes "given"
    ∷ codes "refused_waits" ∷ codes "refused_needsevict" ∷ codes "refused_logfull" ∷ codes "refused_netfull" ∷ codes "refused_ended"
    ∷ codes "refused_notcached" ∷ codes "refused_putopen" ∷ codes "refused_missopen" ∷ codes "refused_checkpointsfull"
    ∷ codes "refused_arrived" ∷ codes "refused_notarrived" ∷ codes "refused_nomessage" ∷ codes "refused_held"
    ∷ codes "refused_homebusy" ∷ codes "refused_alreadydead" ∷ codes "refused_notready" ∷ codes "refused_cutoff"
    ∷ codes "refused_noinput" ∷ []

-- of the kinds of messages
abbrev pub kind_names : List (List ℕ)
kind_names =
    codes "sent_gets" ∷ codes "sent_getm" ∷ codes "sent_fwdgets" ∷ codes "sent_fwdgetm" ∷ codes "sent_inv" ∷ codes "sent_datas"
    ∷ codes "sent_datam" ∷ codes "sent_datae" ∷ codes "sent_upgok" ∷ codes "sent_invack" ∷ codes "sent_unblock" ∷ codes "sent_putreq"
    ∷ codes "sent_putgo" ∷ codes "sent_putdata" ∷ codes "sent_putdone" ∷ codes "sent_ready" ∷ codes "sent_advance" ∷ []

-- of what led to a recovery
abbrev pub lead_names : List (List ℕ)
lead_names = codes "recoveries_by_loss" ∷ codes "recoveries_by_switch" ∷ codes "recoveries_by_wait" ∷ []

-- `stat NAME VALUE`
abbrev pub stat_line : List ℕ → ℕ → List ℕ
stat_line name value = codes "stat " ++ named_number name value ++ codes "\n"

-- the lines of the first so many numbers, each under its name
unfoldable pub named_lines : List (List ℕ) → List ℕ → ℕ → List ℕ
named_lines names numbers zero = []
named_lines names numbers (suc n) =
    named_lines names numbers n ++ stat_line (slice_index_or names n []) (slice_index numbers n)

-- the lines of a measure: how often, the sum and the greatest
abbrev pub spread_lines : List ℕ → List ℕ → List ℕ → Spread → List ℕ
spread_lines count sum greatest x = stat_line count x.count ++ stat_line sum x.sum ++ stat_line greatest x.greatest

-- what is said of the machine, in four parts
unfoldable pub answer_lines : Statistics → List ℕ
answer_lines x = stat_line (codes "events") x.events ++ named_lines answer_names x.answers 32

unfoldable pub message_lines : MessageStatistics → List ℕ
message_lines x =
    named_lines kind_names x.sent 17 ++ stat_line (codes "lost_at_once") x.lost_at_once
    ++ stat_line (codes "lost_in_switch") x.lost_in_switch

unfoldable pub wait_lines : Statistics → List ℕ
wait_lines x =
    spread_lines (codes "validation_events_count") (codes "validation_events_sum") (codes "validation_events_greatest") x.intervals.events
    ++ spread_lines (codes "validation_instructions_count") (codes "validation_instructions_sum")
    (codes "validation_instructions_greatest") x.intervals.instructions
    ++ spread_lines (codes "release_events_count") (codes "release_events_sum") (codes "release_events_greatest") x.bytes.waits

unfoldable pub recovered_lines : RecoveryStatistics → List ℕ
recovered_lines x =
    named_lines lead_names x.leads 3
    ++ spread_lines (codes "undone_instructions_count") (codes "undone_instructions_sum") (codes "undone_instructions_greatest") x.instructions
    ++ spread_lines (codes "undone_entries_count") (codes "undone_entries_sum") (codes "undone_entries_greatest") x.entries
    ++ spread_lines (codes "dropped_messages_count") (codes "dropped_messages_sum") (codes "dropped_messages_greatest") x.messages

-- `stat NODE NAME VALUE`
abbrev pub node_line : ℕ → List ℕ → ℕ → List ℕ
node_line n name value = named_number (codes "stat") n ++ codes " " ++ named_number name value ++ codes "\n"

-- what is said of a node's instructions, and of the node
unfoldable pub instructions_of_node : InstructionStatistics → ℕ → List ℕ
instructions_of_node x n =
    node_line n (codes "retired") (slice_index x.retired n) ++ node_line n (codes "committed") (slice_index x.committed n)
    ++ node_line n (codes "taken_back") (slice_index x.taken_back n) ++ node_line n (codes "waiting") (slice_index x.waiting n)
    ++ node_line n (codes "most_waiting") (slice_index x.most_waiting n)

unfoldable pub lines_of_node : Statistics → ℕ → List ℕ
lines_of_node x n =
    instructions_of_node x.instructions n ++ node_line n (codes "most_entries") (slice_index x.logs.most_entries n)
    ++ node_line n (codes "most_checkpoints") (slice_index x.logs.most_checkpoints n)
    ++ node_line n (codes "most_owned") (slice_index x.most_owned n)
    ++ node_line n (codes "most_held") (slice_index x.bytes.most_held n)

unfoldable pub node_lines : Statistics → ℕ → List ℕ
node_lines x zero = []
node_lines x (suc n) = node_lines x n ++ lines_of_node x n

-- `stat recovery K at EVENT to CHECKPOINT undone INSTRUCTIONS entries ENTRIES messages MESSAGES`
unfoldable pub recovery_line : ℕ → Recovery → List ℕ
recovery_line k r =
    named_number (codes "stat recovery") k ++ named_number (codes " at") r.at ++ named_number (codes " to") r.to
    ++ named_number (codes " undone") r.instructions ++ named_number (codes " entries") r.entries
    ++ named_number (codes " messages") r.messages ++ codes "\n"

-- these recoveries, of which the first has this number
unfoldable pub recovery_lines : ℕ → List Recovery → List ℕ
recovery_lines k [] = []
recovery_lines k (r ∷ recoveries) = recovery_line k r ++ recovery_lines (k + 1) recoveries

-- all of a run on so many nodes
unfoldable pub statistics_lines : ℕ → Statistics → List ℕ
statistics_lines nodes x =
    answer_lines x ++ message_lines x.messages ++ wait_lines x ++ recovered_lines x.recoveries ++ node_lines x nodes
    ++ recovery_lines 1 x.recoveries.all
