-- The slots of the cores, and what is in them.
use Rattle.std.specs.Prelude.{◌≡◌, ℕ, ◌<◌, List, length, take, IfOk, get_or, slice_get, Some}
use Rattle.sn_base.specs.Image.{ImageData}
use Rattle.rv_core.specs.declared.step.Record.{Record}
use Rattle.rv_core.specs.Core.{start_of}
use Rattle.rv_core.specs.Flat.{flat_start, core_at}
use Rattle.sn_consistency.specs.Projections.{CoreGood, records_of, core_after}
use Rattle.projection_places.specs.Passes.{Passes}
use Rattle.trace_check.specs.declared.cores.Slot.{Slot}
use Rattle.trace_check.specs.TaggedEffects.{core_effects, effect_of}
use Rattle.trace_check.specs.Tags.{KeepsNone, AreKept, IsKeptAt, accesses_before}

-- a slot of core n that nothing was put into
abbrev pub IsFresh : ℕ → Slot → Type 0
IsFresh n slot = (slot.core ≡ n) × KeepsNone slot.tagged

-- one for each of N cores
pub record AreFresh (N : ℕ) (slots : List Slot) : Type 0 where
  pub count : length slots ≡ N
  pub each : (n : ℕ) (d : Slot) → n < N → IsFresh n (get_or slots n d)

-- the first k records are of cores below N
abbrev pub AreInside : ℕ → List Record → ℕ → Type 0
AreInside N rs k = (j : ℕ) (r : Record) → j < k → slice_get rs j ≡ Some r → r.core < N

-- core n passes the first k records: they are of cores that are there, and it replays its own among them alone
abbrev pub IsPassed : ImageData → ℕ → ℕ → List Record → ℕ → Type 0
IsPassed image N n rs k = AreInside N rs k × CoreGood image N n (start_of n image.entry) (take k rs)

-- how many records the core passes, and what its own among them do; or memory was lacking
abbrev pub HasReplayed : ImageData → ℕ → ℕ → List Record → Slot → Type 0
HasReplayed image N parts rs slot =
    IfOk slot.passed (λ p.
    Passes (IsPassed image N slot.core rs) (length rs) p
    × AreKept parts (core_effects image slot.core (start_of slot.core image.entry) (take p rs)) slot.tagged)

pub record AreReplayed (image : ImageData) (N parts : ℕ) (rs : List Record) (slots : List Slot) : Type 0 where
  pub count : length slots ≡ N
  pub each : (n : ℕ) (d : Slot) → n < N → ((get_or slots n d).core ≡ n) × HasReplayed image N parts rs (get_or slots n d)

-- the first cores pass the first k records
abbrev pub CoresBelow : ImageData → ℕ → List Record → ℕ → ℕ → Type 0
CoresBelow image N rs count k = (n : ℕ) → n < count → IsPassed image N n rs k

-- how many of the first k records are core n's
abbrev pub own_before : List Record → ℕ → ℕ → ℕ
own_before rs n k = length (records_of n (take k rs))

-- the tag that the slot of a record's core has for it, record k of all
abbrev pub HasTag : List Record → ℕ → Record → Slot → ℕ → Type 0
HasTag rs k r slot tag = slice_get slot.tagged.tags.items (own_before rs r.core k) ≡ Some tag

-- the place of what an access does, in the slot of its core
abbrev pub access_place : List Record → ℕ → Record → Slot → ℕ
access_place rs k r slot = accesses_before slot.tagged (own_before rs r.core k)

-- each record's core has a slot, with a tag for the record, and with what it does if it is an access
pub record HasSlots (slots : List Slot) (rs : List Record) (count : ℕ) : Type 0 where
  pub inside : (k : ℕ) (r : Record) → k < count → slice_get rs k ≡ Some r → r.core < length slots
  pub room : (k : ℕ) (r : Record) (d : Slot) → k < count → slice_get rs k ≡ Some r →
      own_before rs r.core k < length (get_or slots r.core d).tagged.tags.items
  pub accesses : (k : ℕ) (r : Record) (d : Slot) (tag : ℕ) → k < count → slice_get rs k ≡ Some r →
      HasTag rs k r (get_or slots r.core d) tag → 0 < tag →
      access_place rs k r (get_or slots r.core d) < length (get_or slots r.core d).tagged.accesses.items

-- each of the first records has what it does in its core's slot, after what the core's records before it do
abbrev pub HasEffects : ImageData → ℕ → ℕ → List Record → ℕ → List Slot → Type 0
HasEffects image N parts rs count slots =
    (k : ℕ) (r : Record) (d : Slot) → k < count → slice_get rs k ≡ Some r →
    IsKeptAt parts (get_or slots r.core d).tagged (own_before rs r.core k)
    (effect_of image (core_after image r.core (core_at (flat_start image N) r.core) (take k rs)) r)
