use Rattle.std.proofs.Common.{◌≡◌, ℕ, List, true, sym, ap, ◌∙◌, subst}
use Rattle.byteorder.specs.Endian.{little_bytes}
use Rattle.sn_base.specs.Blocks.{bytes_of, stored_in}
use Rattle.rv_core.specs.Core.{block_of}
use Rattle.sn_model.specs.Caches.{line_of, is_present, is_writable_state, line_at}
use Rattle.mosi_cache.specs.Controller.{CacheData}
use Rattle.mosi_cache.specs.Probe.{cache_after_write}
use Rattle.mosi_cache.proofs.Fits.{fits-line, writable-present}
use Rattle.mosi_cache.proofs.Stores.{store-done}
use Rattle.mosi_cache.proofs.cache.Cache.store.Goals as goal

present : (c : goal.After-put) → is_present (line_at c.self.inside.lines.lines c.in-Some.block).state ≡ true
present c =
    let w = writable-present _
    (subst (λ (d : CacheData). is_writable_state (line_of d.cache (block_of c.args.write.now.address)).state ≡ true)
    (sym c.self.view_is) c.requires.line) in
    subst (λ b. is_present (line_at c.self.inside.lines.lines b).state ≡ true) (sym c.in-Some.ensures.block) w

pub invariant_of-self : goal.invariant_of-self
invariant_of-self c = (
  c.self.invariant.0,
  c.self.invariant.1,
  fits-line c.self.inside.need c.self.inside.lines c.put.new.self c.self.inside.transactions c.in-Some.block _ c.put.ensures.lines
      (present c) c.self.invariant.2,
)

abbrev bytes_written : goal.After-put → List ℕ
bytes_written c = little_bytes (bytes_of c.args.write.now.width) c.args.write.now.value

pub returns-clause-stored : goal.returns-clause-stored
returns-clause-stored c =
    store-done c.self.inside.node c.self.inside.nodes c.self.inside.need c.self.inside.lines c.put.new.self c.self.inside.transactions c.args.write.now c.in-Some.block _ c.put.ensures.lines
    c.in-Some.ensures.block
    (c.store.ensures
    ∙ ap (λ xs. stored_in xs c.offset-place.result (bytes_written c)) c.content-content.ensures
    ∙ ap (λ place. stored_in (line_at c.self.inside.lines.lines c.in-Some.block).content place (bytes_written c)) c.offset-place.ensures.same)
    (present c)
    ∙ ap (λ (d : CacheData). cache_after_write d c.args.write.now) c.self.view_is
