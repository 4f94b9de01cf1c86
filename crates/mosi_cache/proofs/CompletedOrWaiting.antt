-- What completing the miss makes of the whole row.
use Rattle.std.proofs.Common.{◌≡◌, ℕ, ◌%◌, List, set, Option, Some, None, refl, sym, ap, ◌∙◌, subst}
use Rattle.std.specs.Option.{option_map}
use Rattle.sn_base.specs.declared.log.LogEntry.{LogEntry}
use Rattle.atomicity_point.specs.Txn.{Open, txn_with_answer, txn_with_ack as counted}
use Rattle.sn_model.specs.declared.cache.Need.{Need}
use Rattle.sn_model.specs.Caches.{Line, Miss}
use Rattle.sn_model.specs.CacheRows.{Logged, CacheReply, fixed_at, miss_with_ack, reply_or_wait, reply_or_wait_by}
use Rattle.sn_model.specs.CacheRows.{AwaitsAnswer, MayCount}
use Rattle.mosi_cache.specs.declared.step.CacheStep.{CacheStep}
use Rattle.mosi_cache.specs.Frames.{LinesData}
use Rattle.mosi_cache.specs.Controller.{CacheData, cache_of, miss_of, with_entries}
use Rattle.mosi_cache.specs.Rows.{IsRowDone}
use Rattle.mosi_cache.proofs.Fits.{miss-answered, miss-counted}

-- a controller by its parts
abbrev pub data_by : ℕ → ℕ → Need → LinesData → Open → CacheData
data_by node nodes need lines o = record { node = node; nodes = nodes; sets = lines.sets; ways = lines.ways; cache = cache_of need lines o }

-- the controller with other lines and another miss
abbrev pub moved : CacheData → List Line → Option Miss → CacheData
moved d ls m = record d { cache = record d.cache { lines = ls; miss = m } }

abbrev pub with_lines : CacheData → List Line → List LogEntry → Logged
with_lines d ls log = record { cache = record d.cache { lines = ls }; log = log }

by_fixed : (d : CacheData) (ls : List Line) (log : List LogEntry) (home : ℕ) (m : Option Miss) (x : Miss) (f : Option ℕ) →
    reply_or_wait_by (with_entries (moved d ls m) log) home x f ≡ reply_or_wait_by (with_lines d ls log) home x f
by_fixed d ls log home m x None = refl
by_fixed d ls log home m x (Some f) = refl

waits-or-done : (d : CacheData) (ls : List Line) (log : List LogEntry) (home : ℕ) (m : Option Miss) (x : Miss) → m ≡ Some x →
    reply_or_wait (with_entries (moved d ls m) log) home m ≡ reply_or_wait (with_lines d ls log) home m
waits-or-done d ls log home m x e =
    ap (reply_or_wait (with_entries (moved d ls m) log) home) e ∙ by_fixed d ls log home m x x.fixed
    ∙ ap (reply_or_wait (with_lines d ls log) home) (sym e)

-- a row that moves a line and the miss, and then completes or waits
pub moved-done : (d mid after : CacheData) (step : CacheStep) (log : List LogEntry) (ls : List Line) (m : Option Miss) (x : Miss)
    (block : ℕ) → mid ≡ moved d ls m → m ≡ Some x →
    IsRowDone mid after step (reply_or_wait (with_entries mid log) (block % mid.nodes) mid.cache.miss) →
    IsRowDone d after step (reply_or_wait (with_lines d ls log) (block % d.nodes) m)
moved-done d mid after step log ls m x block e i h =
    let k : IsRowDone (moved d ls m) after step (reply_or_wait (with_entries (moved d ls m) log) (block % d.nodes) m) = subst
    (λ (c : CacheData). IsRowDone c after step (reply_or_wait (with_entries c log) (block % c.nodes) c.cache.miss)) e h in
    subst (λ (r : CacheReply). IsRowDone d after step r) (waits-or-done d ls log (block % d.nodes) m x i)
    (record { cache = k.cache; answer = k.answer })

-- what the parts have become

pub mid-answered : (node nodes : ℕ) (need : Need) (a b : LinesData) (o o' : Open) (x : ℕ) (l : Line) (tag due : ℕ) →
    b ≡ record a { lines = set a.lines x l } →
    o' ≡ record o { miss = option_map (λ t. txn_with_answer t tag due) o.miss } →
    data_by node nodes need b o' ≡ moved (data_by node nodes need a o) (set a.lines x l) (fixed_at (miss_of need o.miss) tag due)
mid-answered node nodes need a b o o' x l tag due e f =
    ap (λ (c : LinesData). data_by node nodes need c o') e
    ∙ ap (λ (p : Open). data_by node nodes need (record a { lines = set a.lines x l }) p) f
    ∙ ap (λ (m : Option Miss). moved (data_by node nodes need a o) (set a.lines x l) m) (miss-answered need o.miss tag due)

pub mid-upgraded : (node nodes : ℕ) (need : Need) (a : LinesData) (o o' : Open) (tag due : ℕ) →
    o' ≡ record o { miss = option_map (λ t. txn_with_answer t tag due) o.miss } →
    data_by node nodes need a o' ≡ moved (data_by node nodes need a o) a.lines (fixed_at (miss_of need o.miss) tag due)
mid-upgraded node nodes need a o o' tag due f =
    ap (λ (p : Open). data_by node nodes need a p) f
    ∙ ap (λ (m : Option Miss). moved (data_by node nodes need a o) a.lines m) (miss-answered need o.miss tag due)

pub mid-counted : (node nodes : ℕ) (need : Need) (a : LinesData) (o o' : Open) → o' ≡ record o { miss = option_map counted o.miss } →
    data_by node nodes need a o' ≡ moved (data_by node nodes need a o) a.lines (miss_with_ack (miss_of need o.miss))
mid-counted node nodes need a o o' f =
    ap (λ (p : Open). data_by node nodes need a p) f
    ∙ ap (λ (m : Option Miss). moved (data_by node nodes need a o) a.lines m) (miss-counted need o.miss)

-- a miss that awaits its answer is there
pub some-awaiting : (m : Option Miss) (b : ℕ) (n : Need) (tag due : ℕ) → AwaitsAnswer m b n → (x : Miss) × (fixed_at m tag due ≡ Some x)
some-awaiting None b n tag due h = absurd h
some-awaiting (Some m) b n tag due h = (record m { fixed = Some tag; due = due }, refl)

pub some-counting : (m : Option Miss) (b : ℕ) → MayCount m b → (x : Miss) × (miss_with_ack m ≡ Some x)
some-counting None b h = absurd h
some-counting (Some m) b h = (_, refl)
