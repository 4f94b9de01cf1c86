-- Which body a message has is said by who takes it; and how its block sees it: whose it is, between the same nodes.
use Rattle.std.proofs.Common.{◌≡◌, ◌∙◌, refl, sym, ap}
use Rattle.sn_msg.specs.declared.Message.{Message}
use Rattle.sn_msg.specs.declared.Body.{Body}
use Rattle.sn_msg.specs.declared.Body.TheVariants.{GetS, GetM, FwdGetS, FwdGetM, Inv, DataS, DataM, DataE, UpgOk, InvAck, Unblock, PutReq}
use Rattle.sn_msg.specs.declared.Body.TheVariants.{PutGo, PutData, PutDone, Ready, Advance}
use Rattle.sn_model.specs.declared.rows.CacheRow.{CacheRow}
use Rattle.sn_model.specs.declared.rows.CacheRow.TheVariants as row
use Rattle.sn_model.specs.declared.rows.HomeMessage.{HomeMessage}
use Rattle.sn_model.specs.declared.rows.HomeMessage.TheVariants as asked
use Rattle.sn_model.specs.declared.rows.Receiver.{Receiver}
use Rattle.sn_model.specs.declared.rows.Receiver.TheVariants as receiver
use Rattle.sn_model.specs.Receivers.{receiver_of, comes_to_home}
use Rattle.sn_coherence.specs.Block.{is_to_home}
use Rattle.fabric_coherence.specs.View.{message_seen}

-- the body of a row of a cache, of what comes to a home, and of what each receiver takes
abbrev pub body_of : CacheRow → Body
body_of (row.ForwardRead r) = FwdGetS r
body_of (row.ForwardWrite r due) = FwdGetM r due
body_of (row.Invalidate r) = Inv r
body_of (row.DataShared content) = DataS content
body_of (row.DataModified content due) = DataM content due
body_of (row.UpgradeGranted due) = UpgOk due
body_of row.Acknowledge = InvAck
body_of row.PutGo = PutGo
body_of row.PutDone = PutDone
body_of (row.DataExclusive content) = DataE content

abbrev pub body_asked : HomeMessage → Body
body_asked asked.GetS = GetS
body_asked asked.GetM = GetM
body_asked (asked.Unblock fixed) = Unblock fixed
body_asked asked.PutReq = PutReq
body_asked (asked.PutData content) = PutData content

abbrev pub body_for : Receiver → Body
body_for (receiver.Cache taken) = body_of taken
body_for (receiver.Home message) = body_asked message
body_for (receiver.Controller k) = Ready k
body_for (receiver.Clock k) = Advance k

body_is : (x : Body) → body_for (receiver_of x) ≡ x
body_is GetS = refl
body_is _ = refl

pub says_body : (x : Body) (who : Receiver) → receiver_of x ≡ who → x ≡ body_for who
says_body x who is = sym (body_is x) ∙ ap body_for is

-- as its block sees it, a message goes between the same nodes with the same tag, and it is to a home where its receiver is one
abbrev pub IsSeenAsSent : Message → Body → Type 0
IsSeenAsSent m x =
    ((message_seen m x).from ≡ m.from)
    × ((message_seen m x).to ≡ m.to)
    × ((message_seen m x).tag ≡ m.tag)
    × (is_to_home (message_seen m x).body ≡ comes_to_home x)

pub seen_as_sent : (m : Message) (x : Body) → IsSeenAsSent m x
seen_as_sent m GetS = (refl, refl, refl, refl)
seen_as_sent m _ = (refl, refl, refl, refl)
