-- What contracts see of the two ends of a console's ring.
use Rattle.std.specs.Prelude.{ℕ, List}
use Rattle.rtrb.specs.Ring.{sent, known_free, received, known_items, consumer_capacity, IsPair, SameProducer, SameConsumer}
use Rattle.sn_console.specs.declared.ends.Outbox.{Outbox}
use Rattle.sn_console.specs.declared.ends.Inbox.{Inbox}

-- all bytes that were passed on so far
abbrev pub bytes_passed : Outbox → List ℕ
bytes_passed outbox = sent outbox.ring

-- how many places of the ring the outbox knows to be free
abbrev pub free_places : Outbox → ℕ
free_places outbox = known_free outbox.ring

-- all bytes that were taken out so far
abbrev pub bytes_taken : Inbox → List ℕ
bytes_taken inbox = received inbox.ring

-- the bytes that the inbox knows to be in the ring
abbrev pub waiting : Inbox → List ℕ
waiting inbox = known_items inbox.ring

-- how many bytes the ring has room for
abbrev pub room_of : Inbox → ℕ
room_of inbox = consumer_capacity inbox.ring

-- the two ends of one ring
abbrev pub AreEnds : Outbox → Inbox → Type 0
AreEnds outbox inbox = IsPair outbox.ring inbox.ring

-- the same end of the same ring
abbrev pub SameOutbox : Outbox → Outbox → Type 0
SameOutbox a b = SameProducer a.ring b.ring

abbrev pub SameInbox : Inbox → Inbox → Type 0
SameInbox a b = SameConsumer a.ring b.ring
