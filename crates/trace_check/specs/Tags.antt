-- How what a core does is kept: a tag for each of its records, and what the accesses among them do.
use Rattle.std.specs.Prelude.{◌≡◌, ℕ, zero, suc, ◌%◌, Bool, true, false, if◌then◌else◌, List, [], map, filter, take, length, slice_get}
use Rattle.std.specs.Prelude.{Some}
use Rattle.rv_core.specs.declared.step.Want.{Want}
use Rattle.rv_core.specs.Core.{block_of, is_access}
use Rattle.rv_core.specs.Wanted.{wanted_address}
use Rattle.trace_check.specs.EffectData.{EffectData}
use Rattle.trace_check.specs.declared.tagged_effects.TaggedEffects.{TaggedEffects}

-- the block that it is an access to
abbrev pub wanted_block : Want → ℕ
wanted_block want = block_of (wanted_address want)

-- 0 for what is no access, and else one more than the number of its block's part
abbrev pub tag_by : ℕ → Want → ℕ
tag_by parts want = if is_access want then suc (wanted_block want % parts) else 0

-- whether it is an access's tag
abbrev pub of_access : ℕ → Bool
of_access zero = false
of_access (suc part) = true

abbrev pub KeepsNone : TaggedEffects → Type 0
KeepsNone kept = (kept.tags.items ≡ []) × (kept.accesses.items ≡ [])

-- what a core's records do is kept, with so many parts
pub record AreKept (parts : ℕ) (did : List EffectData) (kept : TaggedEffects) : Type 0 where
  pub tags : kept.tags.items ≡ map (λ effect. tag_by parts effect.want) did
  pub accesses : kept.accesses.items ≡ filter (λ effect. is_access effect.want) did

-- how many of the first k tags are of accesses
abbrev pub accesses_before : TaggedEffects → ℕ → ℕ
accesses_before kept k = length (filter of_access (take k kept.tags.items))

-- the core's record k does this: its tag stands at k, and itself, if it is an access, where as many accesses are before it
pub record IsKeptAt (parts : ℕ) (kept : TaggedEffects) (k : ℕ) (effect : EffectData) : Type 0 where
  pub tag : slice_get kept.tags.items k ≡ Some (tag_by parts effect.want)
  pub access : is_access effect.want ≡ true → slice_get kept.accesses.items (accesses_before kept k) ≡ Some effect
