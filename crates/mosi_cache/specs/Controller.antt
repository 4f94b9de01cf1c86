-- A cache controller as a value: the cache of the machine's definitions, with the node that it serves and its sizes.
use Rattle.std.specs.Prelude.{ℕ, List, Option, Some, None}
use Rattle.sn_base.specs.declared.log.LogEntry.{LogEntry}
use Rattle.atomicity_point.specs.declared.Txn.{Txn}
use Rattle.atomicity_point.specs.Txn.{Open}
use Rattle.sn_model.specs.declared.cache.Need.{Need}
use Rattle.sn_model.specs.Caches.{Cache, Miss, Put}
use Rattle.sn_model.specs.CacheRows.{Logged}
use Rattle.mosi_cache.specs.Frames.{LinesData}

-- the node and how many nodes there are, how many sets and ways the cache has, and its lines, miss and put
pub record CacheData : Type 0 where
  pub node : ℕ
  pub nodes : ℕ
  pub sets : ℕ
  pub ways : ℕ
  pub cache : Cache

-- the open miss of a transaction, with what is needed of the block
abbrev pub miss_of : Need → Option Txn → Option Miss
miss_of need None = None
miss_of need (Some t) =
    Some (record { block = t.block; need = need; issued = t.issued; fixed = t.fixed; due = t.acks_due; acks = t.acks_in })

abbrev pub put_of : Option Txn → Option Put
put_of None = None
put_of (Some t) = Some (record { block = t.block; issued = t.issued })

abbrev pub cache_of : Need → LinesData → Open → Cache
cache_of need lines transactions = record { lines = lines.lines; miss = miss_of need transactions.miss; put = put_of transactions.put }

-- the controller's cache with entries of its node's log
abbrev pub with_entries : CacheData → List LogEntry → Logged
with_entries c entries = record { cache = c.cache; log = entries }
