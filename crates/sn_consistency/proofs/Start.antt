-- The start of a program, place by place.
use Rattle.std.proofs.Common.{◌≡◌, ℕ, zero, suc, ◌+◌, List, length, refl, ap, ◌∙◌, arith}
use Rattle.std.proofs.lemmas.List.{length_push}
use Rattle.sn_base.specs.Blocks.{ram_size, ram_start}
use Rattle.sn_base.specs.Image.{ImageData, SegmentData, bytes_from}
use Rattle.rv_core.specs.Core.{start_of}
use Rattle.rv_core.specs.Flat.{initial_memory, first_cores, flat_start}
use Rattle.sn_consistency.specs.Shows.{Shows, places_of}

length-bytes_from : (n : ℕ) (segments : List SegmentData) (address : ℕ) → length (bytes_from n segments address) ≡ n
length-bytes_from zero segments address = refl
length-bytes_from (suc n) segments address = ap suc (length-bytes_from n segments (address + 1))

length-first_cores : (n entry : ℕ) → length (first_cores n entry) ≡ n
length-first_cores zero entry = refl
length-first_cores (suc n) entry = length_push (first_cores n entry) (start_of n entry) ∙ omega (arith, length-first_cores n entry)

start_size : (image : ImageData) → length (initial_memory image) ≡ ram_size
unfolding initial_memory
start_size image = length-bytes_from ram_size image.segments ram_start

pub start_shows : (image : ImageData) (nodes : ℕ) →
    Shows nodes (flat_start image nodes) (places_of (flat_start image nodes))
start_shows image nodes = record {
  size = start_size image;
  count = length-first_cores nodes image.entry;
  memory = λ b. refl;
  core = λ n. refl;
  held = λ n b. refl;
}
