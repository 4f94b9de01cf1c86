-- What each node is told of a new recovery point.
use Rattle.std.specs.Prelude.{ℕ, zero, suc, List, [], ◌∷◌, ◌++◌}
use Rattle.sn_msg.specs.declared.Body.TheVariants.{Advance}
use Rattle.sn_model.specs.declared.cache.Out.{Out}
use Rattle.sn_model.specs.CacheRows.{send}

-- Advance to each of the first so many nodes, in order
abbrev pub tellings : ℕ → ℕ → List Out
tellings k zero = []
tellings k (suc n) = tellings k n ++ send n (Advance k) ∷ []
