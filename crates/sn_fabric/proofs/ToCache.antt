-- What a cache is asked of a message that has come to it, by what the parts say.
use Rattle.std.proofs.Common.{◌≡◌, ℕ, ◌%◌, false, length, get_or, sym, ap, ◌∙◌, subst}
use Rattle.std.proofs.lemmas.List.{length-map}
use Rattle.sn_base.specs.declared.config.Config.{Config}
use Rattle.sn_base.specs.declared.event.Answer.{Answer}
use Rattle.sn_msg.specs.declared.Message.{Message}
use Rattle.mosi_cache.specs.Controller.{with_entries}
use Rattle.mosi_cache.specs.Rows.{reply_of, look_by}
use Rattle.sn_model.specs.declared.look.Look.{Look}
use Rattle.sn_model.specs.declared.rows.CacheRow.{CacheRow}
use Rattle.sn_model.specs.declared.rows.Receiver.{Receiver}
use Rattle.sn_model.specs.declared.rows.Receiver.TheVariants as receiver
use Rattle.sn_model.specs.CacheRows.{CacheReply, cache_reply, MeetsCacheRow, MeetsAtCache, noted_by_cache, noted_at_cache}
use Rattle.sn_model.specs.Fabric.{Fabric, Node, FabricStep, node_at, home_node}
use Rattle.sn_model.specs.NetEvents.{AtCache, logged_at, delivers, step_of_delivery}
use Rattle.sn_model.specs.Receivers.{is_cache, IsNoteInOrder}
use Rattle.fabric_bounds.specs.Met.{MeetsCache}
use Rattle.fabric_bounds.proofs.RowsMet.{meets_cache}
use Rattle.sn_fabric.specs.declared.node.NodeUnit.{NodeUnit}
use Rattle.sn_fabric.specs.Deliveries.{HasCome, look_answer}
use Rattle.sn_fabric.specs.Nets.{flight_as}
use Rattle.sn_fabric.specs.Parts.{Parts, fabric_as, node_as, IsUnit, AreParts}
use Rattle.sn_fabric.specs.Plans.{IsTaken, cache_reply_at}
use Rattle.sn_fabric.proofs.Given.{in-flight, node-read, serves}
use Rattle.sn_fabric.proofs.Looks.{cache-looks}
use Rattle.sn_fabric.proofs.Parts.{count-nodes}
use Rattle.sn_fabric.proofs.Planned.{taken-step}

module _ (config : Config) (p : Parts) (a : AreParts config p) (m : Message) (h : HasCome (fabric_as p) m) (row : CacheRow)
    (t : IsTaken (fabric_as p) m (receiver.Cache row)) (place now : ℕ) (x : NodeUnit) (ep : place ≡ m.to) (ex : x ≡ get_or p.units place x)
    (en : now ≡ x.clock.interval) where
  abbrev s : Fabric
  s = fabric_as p

  read : node_at s m.to ≡ node_as x
  read = node-read config p a m h place x ep ex

  is : IsUnit config m.to x
  is = serves config p a m h place x ep ex

  meets : MeetsCache s m
  meets = meets_cache s a.keeps.0 m (in-flight config p a m h) a.keeps.1 (ap is_cache t.receiver)

  -- what the cache asks of the row
  pub row-meets : MeetsCacheRow (with_entries x.cache x.log.entries) m.block row
  row-meets =
      subst (λ (y : Node). MeetsCacheRow (record { cache = y.cache; log = y.log }) m.block row) read
      (subst (MeetsAtCache (logged_at s m.to) m.block) t.receiver meets.0)

  pub row-last : IsNoteInOrder x.log.entries false m.block (noted_by_cache now m.tag row)
  row-last =
      subst (λ (i : ℕ). IsNoteInOrder x.log.entries false m.block (noted_by_cache i m.tag row)) (sym en)
      (subst (λ (y : Node). IsNoteInOrder y.log false m.block (noted_by_cache y.now m.tag row)) read
      (subst (λ (r : Receiver). IsNoteInOrder (node_at s m.to).log false m.block (noted_at_cache (node_at s m.to).now m.tag r))
      t.receiver meets.1))

  -- what it replies is the machine's
  abbrev reply : CacheReply
  reply = reply_of x.cache x.log now m row

  pub row-replies : cache_reply_at s m row ≡ reply
  row-replies =
      ap (λ (y : Node). cache_reply (record { cache = y.cache; log = y.log }) (home_node s m.block) m.block y.now m.tag row) read
      ∙ ap (λ (k : ℕ). cache_reply (with_entries x.cache x.log.entries) (m.block % k) m.block x.clock.interval m.tag row)
      (count-nodes p ∙ a.whole.count ∙ sym is.nodes)
      ∙ ap (λ (i : ℕ). cache_reply (with_entries x.cache x.log.entries) (m.block % x.cache.nodes) m.block i m.tag row) (sym en)

  -- the answer that is foreseen
  pub cache-foreseen : (look : Look) (count : ℕ) (said : Answer) → look ≡ look_by x.log reply → count ≡ length p.net.flights →
      said ≡ look_answer look count → said ≡ (step_of_delivery config s m.id).answer
  cache-foreseen look count said el ec es =
      es
      ∙ ap (λ (l : Look). look_answer l count) el
      ∙ ap (look_answer (look_by x.log reply)) (ec ∙ sym (length-map p.net.flights flight_as))
      ∙ cache-looks config s m x.log reply is.limit
      ∙ sym (ap (λ (y : FabricStep). y.answer)
      (taken-step config s m h (receiver.Cache row) t ∙ ap (λ (r : CacheReply). delivers config s m (AtCache r)) row-replies))
