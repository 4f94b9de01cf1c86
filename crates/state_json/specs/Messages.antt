-- Messages as JSON.
use Rattle.std.specs.Prelude.{ℕ, List, ◌++◌, codes, decimal}
use Rattle.sn_msg.specs.declared.Message.{Message}
use Rattle.sn_msg.specs.declared.Body.{Body}
use Rattle.sn_msg.specs.declared.Body.TheVariants.{FwdGetS, FwdGetM, Inv, DataS, DataM, DataE, UpgOk, Unblock, PutData, Ready, Advance}
use Rattle.sn_model.specs.declared.net.Sent.{Sent}
use Rattle.sn_model.specs.Fabric.{Flight}
use Rattle.sn_text.specs.Text.{body_name, switch_text}
use Rattle.state_json.specs.Json.{quotation_of, opens, member, closes, flag, large, content_text}

-- what a message is about: a block, with what its kind has besides; or a checkpoint or the recovery point
abbrev pub about_block : ℕ → List ℕ
about_block block = member (codes "block") (decimal block)

abbrev pub body_text : ℕ → Body → List ℕ
body_text block (FwdGetS r) = about_block block ++ member (codes "requester") (decimal r)
body_text block (FwdGetM r due) = about_block block ++ member (codes "requester") (decimal r) ++ member (codes "due") (decimal due)
body_text block (Inv r) = about_block block ++ member (codes "requester") (decimal r)
body_text block (DataS content) = about_block block ++ member (codes "content") (content_text content)
body_text block (DataM content due) = about_block block ++ member (codes "content") (content_text content) ++ member (codes "due") (decimal due)
body_text block (DataE content) = about_block block ++ member (codes "content") (content_text content)
body_text block (UpgOk due) = about_block block ++ member (codes "due") (decimal due)
body_text block (Unblock fixed) = about_block block ++ member (codes "fixed") (decimal fixed)
body_text block (PutData content) = about_block block ++ member (codes "content") (content_text content)
body_text block (Ready checkpoint) = member (codes "checkpoint") (decimal checkpoint)
body_text block (Advance point) = member (codes "point") (decimal point)
body_text block _ = about_block block

unfoldable pub message_text : Message → List ℕ
message_text m =
    opens (codes "id") (large m.id) ++ member (codes "kind") (quotation_of (body_name m.body)) ++ member (codes "from") (decimal m.from)
    ++ member (codes "to") (decimal m.to) ++ member (codes "tag") (decimal m.tag) ++ body_text m.block m.body ++ closes

-- a message in flight, with the switch in which it stands
unfoldable pub flight_text : Flight → List ℕ
flight_text f = opens (codes "message") (message_text f.message) ++ member (codes "switch") (quotation_of (switch_text f.place)) ++ closes

-- a message as it was sent, and whether it was lost at once
unfoldable pub sent_text : Sent → List ℕ
sent_text sent = opens (codes "message") (message_text sent.message) ++ member (codes "lost") (flag sent.lost) ++ closes
