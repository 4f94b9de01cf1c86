-- A flat state of bytes and cores, and the same by places.
use Rattle.std.specs.Prelude.{◌≡◌, ℕ, List, [], ◌∷◌, length, ◌++◌}
use Rattle.rv_core.specs.declared.step.Record.{Record}
use Rattle.sn_base.specs.Blocks.{ram_size}
use Rattle.sn_base.specs.Image.{ImageData}
use Rattle.rv_core.specs.Flat.{FlatState, core_at}
use Rattle.rv_core.specs.Core.{bare, is_reserved}
use Rattle.sn_consistency.specs.Words.{block_in, puts}
use Rattle.sn_consistency.specs.Entries.{Entry, Places}

-- N cores and a whole memory, whose blocks, cores and reservations are those of F
pub record Shows (N : ℕ) (s : FlatState) (F : Places) : Type 0 where
  pub size : length s.memory ≡ ram_size
  pub count : length s.cores ≡ N
  pub memory : (b : ℕ) → block_in s.memory b ≡ F.content b
  pub core : (n : ℕ) → bare (core_at s n) ≡ F.core n
  pub held : (n b : ℕ) → is_reserved (core_at s n).reservation b ≡ F.held n b

-- a flat state by places, before anything was read
abbrev pub places_of : FlatState → Places
places_of s = record {
  core = λ n. bare (core_at s n);
  held = λ n b. is_reserved (core_at s n).reservation b;
  content = block_in s.memory;
  taken = λ n. [];
}

-- the records of entries
abbrev pub records : List Entry → List Record
records [] = []
records (e ∷ es) = e.did ∷ records es

-- the bytes that entries put out
abbrev pub outs : ImageData → List Entry → List ℕ
outs image [] = []
outs image (e ∷ es) = puts image e.found e.did ++ outs image es
