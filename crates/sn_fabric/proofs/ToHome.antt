-- What a home is asked of a message that has come to it, by what the parts say.
use Rattle.std.proofs.Common.{◌≡◌, ℕ, ◌%◌, ◌<◌, true, false, length, get_or, sym, ap, ◌∙◌, subst}
use Rattle.std.proofs.lemmas.List.{length-map, get_or_read}
use Rattle.sn_base.specs.declared.config.Config.{Config}
use Rattle.sn_base.specs.declared.event.Answer.{Answer}
use Rattle.sn_base.specs.declared.event.Answer.TheVariants.{Delivered}
use Rattle.sn_msg.specs.declared.Message.{Message}
use Rattle.home_directory.specs.Home.{HomeData, entry_of}
use Rattle.home_directory.specs.Receipt.{entry_as_it_is, look_of}
use Rattle.home_directory.specs.Serving.{at_block, reply_of, verdict_for, waits}
use Rattle.home_directory.proofs.Verdicts.{noted_idle}
use Rattle.sn_model.specs.declared.look.Look.{Look}
use Rattle.sn_model.specs.declared.rows.HomeMessage.{HomeMessage}
use Rattle.sn_model.specs.declared.rows.HomeRow.{HomeRow}
use Rattle.sn_model.specs.declared.rows.Receiver.{Receiver}
use Rattle.sn_model.specs.declared.rows.Receiver.TheVariants as receiver
use Rattle.sn_model.specs.Homes.{HomeEntry}
use Rattle.sn_model.specs.HomeRows.{home_row, home_reply, is_request, noted_by_home, noted_at_home}
use Rattle.sn_model.specs.Fabric.{Fabric, Node, FabricStep, node_at, home_of}
use Rattle.sn_model.specs.NetEvents.{kept_at, outcome_at_home, delivers, step_of_delivery}
use Rattle.sn_model.specs.Receivers.{is_home, IsNoteInOrder}
use Rattle.fabric_bounds.specs.Met.{MeetsHome}
use Rattle.fabric_bounds.specs.Steps.{IsInFlight}
use Rattle.fabric_bounds.proofs.RowsMet.{meets_home}
use Rattle.sn_fabric.specs.declared.node.NodeUnit.{NodeUnit}
use Rattle.sn_fabric.specs.Deliveries.{HasCome, look_answer}
use Rattle.sn_fabric.specs.Nets.{flight_as}
use Rattle.sn_fabric.specs.Parts.{Parts, fabric_as, node_as, home_at, no_home, IsUnit, IsHomeOf, AreParts}
use Rattle.sn_fabric.specs.Plans.{IsTaken, HasHomeRow, home_reply_at}
use Rattle.sn_fabric.proofs.Entries.{entry-as}
use Rattle.sn_fabric.proofs.Given.{in-flight, inside, node-read, serves}
use Rattle.sn_fabric.proofs.Looks.{home-looks}
use Rattle.sn_fabric.proofs.Parts.{count-nodes}
use Rattle.sn_fabric.proofs.Planned.{taken-step, home-planned}

module _ (config : Config) (p : Parts) (a : AreParts config p) (m : Message) (h : HasCome (fabric_as p) m) (asked : HomeMessage)
    (t : IsTaken (fabric_as p) m (receiver.Home asked)) (place now : ℕ) (x : NodeUnit) (ep : place ≡ m.to) (ex : x ≡ get_or p.units place x)
    (en : now ≡ x.clock.interval) (home : HomeData) (eh : home ≡ get_or p.homes place home) where
  abbrev s : Fabric
  s = fabric_as p

  flight : IsInFlight s m
  flight = in-flight config p a m h

  read : node_at s m.to ≡ node_as x
  read = node-read config p a m h place x ep ex

  is : IsUnit config m.to x
  is = serves config p a m h place x ep ex

  meets : MeetsHome s m
  meets = meets_home s a.keeps.0 m flight a.keeps.1 (ap is_home t.receiver)

  -- the home is that of the message's block
  pub home-node : m.to ≡ m.block % config.nodes
  home-node = meets.0 ∙ ap (λ (k : ℕ). m.block % k) (count-nodes p ∙ a.whole.count)

  low : m.to < config.nodes
  low = subst (λ (k : ℕ). m.to < k) a.whole.count (inside config p a m h)

  pub home-is : home ≡ home_at p.homes m.to
  home-is =
      get_or_read p.homes m.to home (subst (λ (k : ℕ). m.to < k) (sym a.whole.count_homes) low)
      (subst (λ (k : ℕ). home ≡ get_or p.homes k home) ep eh) no_home

  it : IsHomeOf config m.to home
  it = subst (IsHomeOf config m.to) (sym home-is) (a.whole.homes m.to low)

  entry_is : home_of s m.block ≡ entry_of home m.block
  entry_is =
      entry-as p.homes m.block flight.block
      ∙ ap (λ (k : ℕ). entry_of (home_at p.homes (m.block % k)) m.block) a.whole.count_homes
      ∙ ap (λ (k : ℕ). entry_of (home_at p.homes k) m.block) (sym home-node)
      ∙ ap (λ (y : HomeData). entry_of y m.block) (sym home-is)

  -- what the home asks of the message
  pub home-own : m.block % home.nodes ≡ home.node
  home-own = ap (λ (k : ℕ). m.block % k) it.nodes ∙ sym home-node ∙ sym it.node

  -- what it comes to there is the machine's
  outcome_as : outcome_at_home (kept_at s m.to m.block) m (node_at s m.to).now asked ≡ outcome_at_home (at_block home x.log m.block) m now asked
  outcome_as =
      ap (λ (y : Node). outcome_at_home (entry_as_it_is (home_of s m.block) y.log) m y.now asked) read
      ∙ ap (λ (e : HomeEntry). outcome_at_home (entry_as_it_is e x.log.entries) m x.clock.interval asked) entry_is
      ∙ ap (λ (i : ℕ). outcome_at_home (at_block home x.log m.block) m i asked) (sym en)

  -- the answer that is foreseen, and the row that is done where that is so
  pub home-foreseen : (look : Look) (count : ℕ) (said : Answer) →
      look ≡ look_of (verdict_for x.log.limit (at_block home x.log m.block) now m asked) →
      count ≡ length p.net.flights → said ≡ look_answer look count → said ≡ (step_of_delivery config s m.id).answer
  home-foreseen look count said el ec es =
      es
      ∙ ap (λ (l : Look). look_answer l count) el
      ∙ ap (look_answer (look_of (verdict_for x.log.limit (at_block home x.log m.block) now m asked)))
      (ec ∙ sym (length-map p.net.flights flight_as))
      ∙ ap (λ (k : ℕ). look_answer (look_of (verdict_for k (at_block home x.log m.block) now m asked)) (length s.net.flights)) is.limit
      ∙ home-looks config s m (at_block home x.log m.block) now asked
      ∙ sym (ap (λ (y : FabricStep). y.answer)
      (taken-step config s m h (receiver.Home asked) t ∙ ap (delivers config s m) outcome_as))

  pub home-row : (row : HomeRow) → row ≡ home_row (entry_of home m.block) m.from asked →
      (step_of_delivery config s m.id).answer ≡ Delivered → HasHomeRow config s row m
  home-row row e d =
      home-planned config s m h asked row t (e ∙ ap (λ (y : HomeEntry). home_row y m.from asked) (sym entry_is)) d

  -- what it asks of that row, and what that leaves
  module _ (row : HomeRow) (idle : waits (home_of s m.block) asked ≡ false) (er : row ≡ home_row (home_of s m.block) m.from asked) where
    pub row-last : IsNoteInOrder x.log.entries true m.block (noted_by_home (entry_of home m.block) now m.tag row)
    row-last =
        subst (λ (i : ℕ). IsNoteInOrder x.log.entries true m.block (noted_by_home (entry_of home m.block) i m.tag row)) (sym en)
        (subst (λ (e : HomeEntry). IsNoteInOrder x.log.entries true m.block (noted_by_home e x.clock.interval m.tag row)) entry_is
        (subst (λ (y : Node). IsNoteInOrder y.log true m.block (noted_by_home (home_of s m.block) y.now m.tag row)) read
        (subst (λ (z : HomeRow). IsNoteInOrder (node_at s m.to).log true m.block
        (noted_by_home (home_of s m.block) (node_at s m.to).now m.tag z)) (sym er)
        (subst (IsNoteInOrder (node_at s m.to).log true m.block)
        (noted_idle (is_request asked) (home_of s m.block).transaction
        (noted_by_home (home_of s m.block) (node_at s m.to).now m.tag (home_row (home_of s m.block) m.from asked)) idle)
        (subst (λ (r : Receiver). IsNoteInOrder (node_at s m.to).log true m.block
        (noted_at_home (home_of s m.block) (node_at s m.to).now m r)) t.receiver meets.2)))))

    pub row-leaves : home_reply_at s m row ≡ reply_of home x.log now m row
    row-leaves =
        ap (λ (y : Node). home_reply (entry_as_it_is (home_of s m.block) y.log) m.block y.now m.tag m.from row) read
        ∙ ap (λ (e : HomeEntry). home_reply (entry_as_it_is e x.log.entries) m.block x.clock.interval m.tag m.from row) entry_is
        ∙ ap (λ (i : ℕ). home_reply (at_block home x.log m.block) m.block i m.tag m.from row) (sym en)
