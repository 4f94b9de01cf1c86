-- A word that is written of cells reads as these cells.
use Rattle.std.proofs.Common.{◌≡◌, ℕ, ◌+◌, ◌*◌, ◌/◌, ◌%◌, ◌^◌, ◌<◌, List, [], ◌∷◌, arith, sym, ap, ◌∙◌, subst}
use Rattle.std.specs.Bool.{⊤}
use Rattle.std.proofs.Math.Nat.{mul-add-mod_self_right, mul_assoc, mod-eq_of_lt}
use Rattle.std.proofs.lemmas.Nat.{pow-add, field_of, shr_high, mul-add-lt, pow_pos, mod_below}
use Rattle.rv_decode.specs.Parts.{part}
use Rattle.rv_decode.specs.Table.{Cell, width, Reads, word_of_cells}
use Rattle.rv_decode.specs.Table.Cell.{bits, free}

-- each value has room in its bits
abbrev pub HasRoom : List Cell → Type 0
HasRoom [] = ⊤
HasRoom (bits n value ∷ cells) = (value < 2 ^ n) × HasRoom cells
HasRoom (free n value ∷ cells) = (value < 2 ^ n) × HasRoom cells

pub part-lt : (low size n : ℕ) → part low size n < 2 ^ size
part-lt low size n = mod_below (n / 2 ^ low) (2 ^ size) (pow_pos size)

-- bits above a part don't count
part-above : (low size high n : ℕ) → part low size (high * 2 ^ (size + low) + n) ≡ part low size n
part-above low size high n =
    sym (field_of (high * 2 ^ (size + low) + n) size low)
    ∙ ap (λ m. m / 2 ^ low) (mul-add-mod_self_right high (2 ^ (size + low)) n)
    ∙ field_of n size low

-- a number moved up by the bits of a cell and of those below it
moved : (size low high n : ℕ) → high * 2 ^ (size + low) + n ≡ high * 2 ^ size * 2 ^ low + n
moved size low high n = ap (λ p. high * p + n) (pow-add 2 size low) ∙ ap (λ p. p + n) (sym (mul_assoc high (2 ^ size) (2 ^ low)))

Reads-above : (cells : List Cell) (high word : ℕ) → Reads cells word → Reads cells (high * 2 ^ width cells + word)
Reads-above [] high word h = tt
Reads-above (bits n value ∷ cells) high word h = (
  part-above (width cells) n high word
      ∙ h.0,
  subst (Reads cells) (sym (moved n (width cells) high word)) (Reads-above cells (high * 2 ^ n) word h.1),
)
Reads-above (free n value ∷ cells) high word h =
    subst (Reads cells) (sym (moved n (width cells) high word)) (Reads-above cells (high * 2 ^ n) word h)

joined-lt : (n value low rest : ℕ) → value < 2 ^ n → rest < 2 ^ low → value * 2 ^ low + rest < 2 ^ (n + low)
joined-lt n value low rest v r = omega (arith, pow-add 2 n low, mul-add-lt value (2 ^ low) rest (2 ^ n) v r)

pub placed-lt : (cells : List Cell) → HasRoom cells → word_of_cells cells < 2 ^ width cells
placed-lt [] h = omega arith
placed-lt (bits n value ∷ cells) h = joined-lt n value (width cells) (word_of_cells cells) h.0 (placed-lt cells h.1)
placed-lt (free n value ∷ cells) h = joined-lt n value (width cells) (word_of_cells cells) h.0 (placed-lt cells h.1)

part-placed : (n value low rest : ℕ) → value < 2 ^ n → rest < 2 ^ low → part low n (value * 2 ^ low + rest) ≡ value
part-placed n value low rest v r = ap (λ m. m % 2 ^ n) (shr_high value low rest r) ∙ mod-eq_of_lt v

pub Reads-placed : (cells : List Cell) → HasRoom cells → Reads cells (word_of_cells cells)
Reads-placed [] h = tt
Reads-placed (bits n value ∷ cells) h = (
  part-placed n value (width cells) (word_of_cells cells) h.0 (placed-lt cells h.1),
  Reads-above cells value (word_of_cells cells) (Reads-placed cells h.1),
)
Reads-placed (free n value ∷ cells) h = Reads-above cells value (word_of_cells cells) (Reads-placed cells h.1)
