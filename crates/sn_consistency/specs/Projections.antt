-- The projections of a list of records: on a core its records, on a block the accesses to it. First as folds over the
-- whole list that skip what is not theirs, then as filtered lists.
use Rattle.std.specs.Prelude.{◌≡◌, ℕ, ◌<◌, Bool, true, false, not, ◌&&◌, ◌||◌, if◌then◌else◌, List, [], ◌∷◌, ◌==◌, is_some, take, length}
use Rattle.std.specs.Prelude.{suc, slice_get, Some}
use Rattle.rv_core.specs.declared.state.CoreState.{CoreState}
use Rattle.rv_core.specs.declared.step.Record.{Record}
use Rattle.sn_base.specs.Image.{ImageData}
use Rattle.rv_core.specs.Flat.{FlatState, core_at, HasStep}
use Rattle.rv_core.specs.Execution.{Executes, state_after}
use Rattle.sn_consistency.specs.Words.{Content, kind, block, place, next, content_after, block_word, reads, is_lr, is_sc, takes, block_in}
use Rattle.rv_core.specs.Core.{bare, is_running, is_reserved}
use Rattle.sn_consistency.specs.Entries.{Entry, writes_to, touches}

-- a record as its core's step alone allows it, where the core's reservation is what its own instructions left
pub record Replays (image : ImageData) (N : ℕ) (c : CoreState) (r : Record) : Type 0 where
  pub within : r.core < N
  pub running : is_running c.end ≡ true
  pub unseen : reads (kind image c) ≡ false → r.seen ≡ 0
  pub done_sc : r.sc_done ≡ true → is_sc (kind image c) ≡ true
  pub done_reserved : r.sc_done ≡ true → is_reserved c.reservation (block image c) ≡ true
  pub byte : is_some r.read ≡ takes (kind image c)

-- core n after a record, which is its own or not
abbrev pub core_step : ImageData → ℕ → CoreState → Record → CoreState
core_step image n c r = if n == r.core then next image c r else c

-- core n after a list
abbrev pub core_after : ImageData → ℕ → CoreState → List Record → CoreState
core_after image n c [] = c
core_after image n c (r ∷ rs) = core_after image n (core_step image n c r) rs

-- the projection on core n is good: a fold that skips the records of others
abbrev pub CoreGood : ImageData → ℕ → ℕ → CoreState → List Record → Type 0
CoreGood image N n c [] = Unit {0}
CoreGood image N n c (r ∷ rs) = (n ≡ r.core → Replays image N c r) × CoreGood image N n (core_step image n c r) rs

-- the records with the cores that they find, each core by its own records alone
abbrev pub entries : ImageData → (ℕ → CoreState) → List Record → List Entry
entries image c [] = []
entries image c (r ∷ rs) =
    record { found = bare (c r.core); did = r } ∷ entries image (λ n. core_step image n (c n) r) rs

-- a block alone: what the writes so far leave, and for which core no other has written it since that core's last LR of it
pub record BlockState : Type 0 where
  pub content : Content
  pub intact : ℕ → Bool

abbrev pub block_step : ImageData → ℕ → BlockState → Entry → BlockState
block_step image b v e = record {
  content = if writes_to image e b then content_after image e.found e.did v.content else v.content;
  intact = λ n.
      if n == e.did.core then v.intact n || (is_lr (kind image e.found) && (b == block image e.found))
      else v.intact n && not (writes_to image e b);
}

-- the word seen is what the earlier writes leave, and no other core's write lies between a done SC and its core's last LR
pub record BlockLegal (image : ImageData) (v : BlockState) (e : Entry) : Type 0 where
  pub seen : reads (kind image e.found) ≡ true → e.did.seen ≡ block_word v.content (place image e.found)
  pub done : is_sc (kind image e.found) ≡ true → e.did.sc_done ≡ true → v.intact e.did.core ≡ true

-- the projection on block b is good: a fold that skips what is of other blocks
abbrev pub BlockGood : ImageData → ℕ → BlockState → List Entry → Type 0
BlockGood image b v [] = Unit {0}
BlockGood image b v (e ∷ es) =
    (b ≡ block image e.found → BlockLegal image v e) × BlockGood image b (block_step image b v e) es

-- a block of a flat state, before any record
abbrev pub block_of_state : FlatState → ℕ → BlockState
block_of_state s b = record { content = block_in s.memory b; intact = λ n. is_reserved (core_at s n).reservation b }

-- all projections are good, as folds that skip
pub record AllGood (image : ImageData) (N : ℕ) (s : FlatState) (rs : List Record) : Type 0 where
  pub cores : (n : ℕ) → CoreGood image N n (core_at s n) rs
  pub blocks : (b : ℕ) → BlockGood image b (block_of_state s b) (entries image (core_at s) rs)

-- the records of core n
abbrev pub records_of : ℕ → List Record → List Record
records_of n [] = []
records_of n (r ∷ rs) = if n == r.core then r ∷ records_of n rs else records_of n rs

-- they replay the core's step alone
abbrev pub ReplaysAll : ImageData → ℕ → CoreState → List Record → Type 0
ReplaysAll image N c [] = Unit {0}
ReplaysAll image N c (r ∷ rs) = Replays image N c r × ReplaysAll image N (next image c r) rs

-- the accesses to block b
abbrev pub accesses_of : ImageData → ℕ → List Entry → List Entry
accesses_of image b [] = []
accesses_of image b (e ∷ es) =
    if touches image e && (b == block image e.found) then e ∷ accesses_of image b es else accesses_of image b es

-- each finds what the earlier ones leave
abbrev pub AgreesAll : ImageData → ℕ → BlockState → List Entry → Type 0
AgreesAll image b v [] = Unit {0}
AgreesAll image b v (e ∷ es) = BlockLegal image v e × AgreesAll image b (block_step image b v e) es

-- all projections are good, as filtered lists
pub record AllProjectionsGood (image : ImageData) (N : ℕ) (s : FlatState) (rs : List Record) : Type 0 where
  pub cores : (n : ℕ) → ReplaysAll image N (core_at s n) (records_of n rs)
  pub blocks : (b : ℕ) → AgreesAll image b (block_of_state s b) (accesses_of image b (entries image (core_at s) rs))

-- the record at place p is the first without a flat step after those before it
pub record FirstWithoutStep (image : ImageData) (s : FlatState) (rs : List Record) (p : ℕ) : Type 0 where
  pub within : p < length rs
  pub before : Executes image s (take p rs)
  pub none : (r : Record) → slice_get rs p ≡ Some r → HasStep image (state_after image s (take p rs)) r → ⊥

-- p is the least place at which a projection fails
pub record LeastFailing (image : ImageData) (N : ℕ) (s : FlatState) (rs : List Record) (p : ℕ) : Type 0 where
  pub within : p < length rs
  pub before : AllGood image N s (take p rs)
  pub fails : AllGood image N s (take (suc p) rs) → ⊥
