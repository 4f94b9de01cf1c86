-- What comes to a home is at its block's home, and meets its row's condition there; what the home finds where it does a row; and that what a
-- row notes is late enough.
use Rattle.std.proofs.Common.{◌≡◌, ◌≢◌, ◌∙◌, ℕ, ◌+◌, ◌≤◌, Bool, true, false, List, refl, sym, ap, subst, arith, if◌then◌else◌, nat_eq}
use Rattle.std.proofs.lemmas.Bool.Decides.{nat_tests}
use Rattle.std.specs.Prelude.{Option, Some, None, IfSome}
use Rattle.sn_msg.specs.declared.Message.{Message}
use Rattle.sn_msg.specs.declared.Body.{Body}
use Rattle.sn_msg.specs.declared.Body.TheVariants.{GetS, GetM, Unblock, PutReq, PutData}
use Rattle.log_buffer.specs.Log.{logged_to}
use Rattle.sn_model.specs.declared.home.Kind.{Kind}
use Rattle.sn_model.specs.declared.home.Kind.TheVariants as kind
use Rattle.sn_model.specs.declared.rows.HomeMessage.{HomeMessage}
use Rattle.sn_model.specs.declared.rows.HomeMessage.TheVariants as asked
use Rattle.sn_model.specs.declared.rows.HomeRow.{HomeRow}
use Rattle.sn_model.specs.declared.rows.HomeRow.TheVariants as row
use Rattle.sn_model.specs.declared.rows.Receiver.TheVariants as receiver
use Rattle.sn_model.specs.Homes.{HomeEntry, Holder, Itself, OfCache, Transaction, is_owner}
use Rattle.sn_model.specs.HomeRows.{count_others, MeetsHomeRow, MayUnblock, MayEndPut, is_put, is_request, home_row, read_row, write_row}
use Rattle.sn_model.specs.HomeRows.{noted_by_home, noted_by_end, noted_by_unblock}
use Rattle.sn_model.specs.Fabric.{Fabric, node_at, home_of, home_node}
use Rattle.sn_model.specs.Receivers.{IsNoteInOrder, receiver_of, is_home, comes_to_home}
use Rattle.sn_coherence.specs.Block as block
use Rattle.sn_coherence.specs.Consequences.{MeetsRows, MeetsNotes}
use Rattle.fabric_coherence.specs.View.{GhostState, block_seen, message_seen, is_itself, owner_of, kind_seen, kind_open, requester_of}
use Rattle.fabric_coherence.specs.Steps.{IsInFlight}
use Rattle.fabric_coherence.specs.HomeEvents.{IsServed, row_at_home}
use Rattle.fabric_coherence.proofs.Receivers.{body_asked, says_body, seen_as_sent}

-- the body by which a row comes
abbrev pub body_by : HomeRow → Body
body_by (row.ReadAtHome content) = GetS
body_by (row.ReadAtOwner owner) = GetS
body_by (row.Take content) = GetM
body_by (row.MoveOwnership owner) = GetM
body_by row.Upgrade = GetM
body_by (row.Unblock fixed) = Unblock fixed
body_by row.PutBegins = PutReq
body_by row.PutIsStale = PutReq
body_by (row.PutData content) = PutData content
body_by (row.GrantExclusive content) = GetS

-- what the home finds in its entry where it does a row for r
abbrev pub Finds : HomeEntry → ℕ → HomeRow → Type 0
Finds entry r (row.ReadAtHome content) =
    (entry.transaction ≡ None) × (entry.holder ≡ Itself content) × (count_others entry.sharers r ≢ 0)
Finds entry r (row.ReadAtOwner owner) = (entry.transaction ≡ None) × (entry.holder ≡ OfCache owner)
Finds entry r (row.Take content) = (entry.transaction ≡ None) × (entry.holder ≡ Itself content)
Finds entry r (row.MoveOwnership owner) = (entry.transaction ≡ None) × (entry.holder ≡ OfCache owner) × (owner ≢ r)
Finds entry r row.Upgrade = (entry.transaction ≡ None) × (entry.holder ≡ OfCache r)
Finds entry r (row.Unblock fixed) = MayUnblock entry.transaction r
Finds entry r row.PutBegins = (entry.transaction ≡ None) × (entry.holder ≡ OfCache r)
Finds entry r row.PutIsStale = (entry.transaction ≡ None) × (is_owner entry.holder r ≡ false)
Finds entry r (row.PutData content) = MayEndPut entry.transaction r
Finds entry r (row.GrantExclusive content) =
    (entry.transaction ≡ None) × (entry.holder ≡ Itself content) × (count_others entry.sharers r ≡ 0)

-- a message has come to its block's home and is this row there; what it notes is late enough
pub record IsAtHome (s : Fabric) (m : Message) (taken : HomeRow) : Type 0 where
  pub home : m.to ≡ home_node s m.block
  pub body : m.body ≡ body_by taken
  pub finds : Finds (home_of s m.block) m.from taken
  pub late : IsNoteInOrder (node_at s m.to).log true m.block (noted_by_home (home_of s m.block) (node_at s m.to).now m.tag taken)

-- the row that is chosen by the entry is one by that body, and finds there what it needs
module _ (entry : HomeEntry) (r : ℕ) where
  abbrev Chosen : HomeMessage → HomeRow → Type 0
  Chosen message taken = (body_by taken ≡ body_asked message) × Finds entry r taken

  read : (holder : Holder) → entry.holder ≡ holder → entry.transaction ≡ None →
      Chosen asked.GetS (read_row holder (count_others entry.sharers r))
  read (OfCache owner) e idle = (refl, (idle, e))
  read (Itself content) e idle = by_count (nat_eq (count_others entry.sharers r) 0) refl
    where
      by_count : (c : Bool) → nat_eq (count_others entry.sharers r) 0 ≡ c →
          Chosen asked.GetS (if c then row.GrantExclusive content else row.ReadAtHome content)
      by_count true none = (refl, (idle, e, grind (arith, nat_tests)))
      by_count false some = (refl, (idle, e, others))
        where
          others : count_others entry.sharers r ≢ 0
          others h = grind (arith, nat_tests)

  write : (holder : Holder) → entry.holder ≡ holder → entry.transaction ≡ None → Chosen asked.GetM (write_row holder r)
  write (Itself content) e idle = (refl, (idle, e))
  write (OfCache owner) e idle = by_owner (nat_eq owner r) refl
    where
      by_owner : (c : Bool) → nat_eq owner r ≡ c → Chosen asked.GetM (if c then row.Upgrade else row.MoveOwnership owner)
      by_owner true own = (refl, (idle, e ∙ ap OfCache same))
        where
          same : owner ≡ r
          same = grind (arith, nat_tests)
      by_owner false own = (refl, (idle, e, other))
        where
          other : owner ≢ r
          other h = grind (arith, nat_tests)

  owned : (holder : Holder) → is_owner holder r ≡ true → holder ≡ OfCache r
  owned (Itself content) own = absurd (cc)
  owned (OfCache owner) own = ap OfCache same
    where
      same : owner ≡ r
      same = grind (arith, nat_tests)

  put : (c : Bool) → is_owner entry.holder r ≡ c → entry.transaction ≡ None →
      Chosen asked.PutReq (if c then row.PutBegins else row.PutIsStale)
  put true own idle = (refl, (idle, owned entry.holder own))
  put false own idle = (refl, (idle, own))

  chosen : (message : HomeMessage) → (is_request message ≡ true → entry.transaction ≡ None) → MeetsHomeRow entry r message →
      Chosen message (home_row entry r message)
  chosen asked.GetS idle met = read entry.holder refl (idle refl)
  chosen asked.GetM idle met = write entry.holder refl (idle refl)
  chosen (asked.Unblock fixed) idle met = (refl, met)
  chosen asked.PutReq idle met = put (is_owner entry.holder r) refl (idle refl)
  chosen (asked.PutData content) idle met = (refl, met)

-- a transaction that is seen as a Get is no Put, and one that is seen as a Put is one
seen_put : (k : Kind) → kind_seen k ≡ block.Put → is_put k ≡ true
seen_put kind.Put e = refl
seen_put _ e = absurd (cc)

seen_get : (k : Kind) → block.gets (kind_seen k) ≡ true → is_put k ≡ false
seen_get kind.Put e = absurd (cc)
seen_get _ e = refl

may_unblock : (open_one : Option Transaction) (r : ℕ) → block.gets (kind_open open_one) ≡ true → requester_of open_one ≡ r →
    MayUnblock open_one r
may_unblock None r g e = absurd (cc)
may_unblock (Some transaction) r g e = (seen_get transaction.kind g, e)

may_end_put : (open_one : Option Transaction) (r : ℕ) → kind_open open_one ≡ block.Put → requester_of open_one ≡ r → MayEndPut open_one r
may_end_put None r k e = absurd (cc)
may_end_put (Some transaction) r k e = (seen_put transaction.kind k, e)

-- who isn't named as the owner
not_owner : (holder : Holder) (r : ℕ) → (is_itself holder ≡ false → owner_of holder ≡ r → ⊥) → is_owner holder r ≡ false
not_owner (Itself content) r h = refl
not_owner (OfCache owner) r h = by_test (nat_eq owner r) refl
  where
    by_test : (c : Bool) → nat_eq owner r ≡ c → c ≡ false
    by_test false e = refl
    by_test true e = absurd (h refl (grind (arith, nat_tests)))

-- an Unblock notes in its interval, where it ends a Move
late_end : (log : ℕ) (k : Kind) (holder : Holder) (fixed : ℕ) → (kind_seen k ≡ block.Move → log ≤ fixed + 1) →
    IfSome (noted_by_end k holder fixed) (λ i. log ≤ i + 1)
late_end log kind.Move (OfCache owner) fixed l = l refl
late_end log kind.Move (Itself content) fixed l = tt
late_end log kind.Read holder fixed l = tt
late_end log kind.Take holder fixed l = tt
late_end log kind.Upgrade holder fixed l = tt
late_end log kind.Put holder fixed l = tt

late_unblock : (log : ℕ) (open_one : Option Transaction) (holder : Holder) (fixed : ℕ) →
    (kind_open open_one ≡ block.Move → log ≤ fixed + 1) → IfSome (noted_by_unblock open_one holder fixed) (λ i. log ≤ i + 1)
late_unblock log None holder fixed l = tt
late_unblock log (Some transaction) holder fixed l = late_end log transaction.kind holder fixed l

module _ (s : Fabric) (t : GhostState) (m : Message) (flight : IsInFlight s m) where
  abbrev here : block.Block
  here = block_seen s t m.block

  abbrev entry : HomeEntry
  entry = home_of s m.block

  -- the message as its block sees it
  pub seen_as : (x : Body) → m.body ≡ x → here.net m.id ≡ message_seen m x
  seen_as x is = flight.seen ∙ ap (message_seen m) is

  pub sender_seen : (here.net m.id).from ≡ m.from
  sender_seen = ap (λ (x : block.Message). x.from) flight.seen ∙ (seen_as_sent m m.body).0

  module _ (rows : MeetsRows here) where
    pub comes_home : comes_to_home m.body ≡ true → m.to ≡ home_node s m.block
    comes_home to_home =
        sym (seen_as_sent m m.body).1
        ∙ (subst (λ (x : block.Message). block.is_to_home x.body ≡ true → x.to ≡ home_node s m.block) flight.seen (rows.home m.id))
        ((seen_as_sent m m.body).3 ∙ to_home)

    pub meets_home_row : (message : HomeMessage) → m.body ≡ body_asked message → MeetsHomeRow entry m.from message
    meets_home_row asked.GetS is =
        λ idle. not_owner entry.holder m.from
        (λ away owns. rows.read m.id (ap (λ x. x.body) (seen_as GetS is)) (ap kind_open idle) away (owns ∙ sym sender_seen))
    meets_home_row asked.GetM is = tt
    meets_home_row (asked.Unblock fixed) is =
        let h : (block.gets here.kind ≡ true) × (here.requester ≡ (here.net m.id).from)
        = rows.unblock m.id (ap (λ x. x.body) (seen_as (Unblock fixed) is)) in
        may_unblock entry.transaction m.from h.0 (h.1 ∙ sender_seen)
    meets_home_row asked.PutReq is = tt
    meets_home_row (asked.PutData content) is =
        let h : (here.kind ≡ block.Put) × (here.requester ≡ (here.net m.id).from)
        = rows.put_data m.id (ap (λ x. x.body) (seen_as (PutData content) is)) in
        may_end_put entry.transaction m.from h.0 (h.1 ∙ sender_seen)

  -- the notes of the home's side, in the log of the node that the message has come to
  module _ (notes : MeetsNotes here) (home : m.to ≡ home_node s m.block) where
    abbrev last : ℕ
    last = logged_to (node_at s m.to).log true m.block

    late_now : last ≤ (node_at s m.to).now + 1
    late_now = subst (λ n. logged_to (node_at s n).log true m.block ≤ (node_at s n).now + 1) (sym home) notes.take

    pub late_fixed : (fixed : ℕ) → m.body ≡ Unblock fixed → kind_open entry.transaction ≡ block.Move → last ≤ fixed + 1
    late_fixed fixed is moves = subst (λ n. logged_to (node_at s n).log true m.block ≤ fixed + 1) (sym home)
        (subst (λ y. here.home_last ≤ y.number + 1) (seen_as (Unblock fixed) is)
        (notes.unblock m.id (ap (λ x. x.body) (seen_as (Unblock fixed) is)) moves))

    late_tag : (content : List ℕ) → m.body ≡ PutData content → last ≤ m.tag + 1
    late_tag content is = subst (λ n. logged_to (node_at s n).log true m.block ≤ m.tag + 1) (sym home)
        (subst (λ y. here.home_last ≤ y.tag + 1) (seen_as (PutData content) is)
        (notes.put_data m.id (ap (λ x. x.body) (seen_as (PutData content) is))))

    home_late : (taken : HomeRow) → m.body ≡ body_by taken →
        IsNoteInOrder (node_at s m.to).log true m.block (noted_by_home entry (node_at s m.to).now m.tag taken)
    home_late (row.Take content) is = late_now
    home_late (row.GrantExclusive content) is = late_now
    home_late (row.PutData content) is = late_tag content is
    home_late (row.Unblock fixed) is = late_unblock last entry.transaction entry.holder fixed (late_fixed fixed is)
    home_late _ is = tt

  pub at_home : MeetsRows here → MeetsNotes here → (message : HomeMessage) → receiver_of m.body ≡ receiver.Home message →
      IsServed s m message → IsAtHome s m (row_at_home s m message)
  at_home rows notes message is served =
      record { home = home; body = body ∙ sym does.0; finds = does.1; late = home_late notes home (row_at_home s m message) (body ∙ sym does.0) }
    where
      home : m.to ≡ home_node s m.block
      home = comes_home rows (ap is_home is)

      body : m.body ≡ body_asked message
      body = says_body m.body (receiver.Home message) is

      does : Chosen entry m.from message (row_at_home s m message)
      does = chosen entry m.from message served (meets_home_row rows message body)
