use Rattle.std.proofs.Common.{ℕ, ap}
use Rattle.rand_pcg.specs.Lcg.{Lcg}
use Rattle.turn_orders.proofs.GeneratorLaws.{drawn-at, drawn-next}
use Rattle.turn_orders.proofs.draws.draw.Goals as goal

pub returns-clause-pick : goal.returns-clause-pick
returns-clause-pick c = λ seed journal drawn.
    ap (λ (d : ℕ × Lcg). d.0)
    (drawn-at seed c.args.worker journal c.args.generators.now.items c.index_mut.result.now _ _ drawn c.requires c.index_mut.ensures.value
    c.next_word.ensures)

pub returns-clause-drawn : goal.returns-clause-drawn
returns-clause-drawn c = λ seed journal event drawn.
    drawn-next seed c.args.worker event journal c.args.generators.now.items _ drawn c.requires
    (ap (λ (d : ℕ × Lcg). d.1)
    (drawn-at seed c.args.worker journal c.args.generators.now.items c.index_mut.result.now _ _ drawn c.requires c.index_mut.ensures.value
    c.next_word.ensures))
