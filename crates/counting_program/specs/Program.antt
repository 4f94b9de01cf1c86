-- The program, as its words and as the image that they are.
use Rattle.std.specs.Prelude.{ℕ, true, false, List, [], ◌∷◌, length}
use Rattle.std.specs.List.{flat_map}
use Rattle.byteorder.specs.Endian.{little_bytes}
use Rattle.sn_base.specs.Blocks.{ram_start}
use Rattle.sn_base.specs.Image.{ImageData}

-- lui x5, 0x80001; addi x6, x0, 1; amoadd.w x7, x6, (x5); andi x10, x7, 63; addi x10, x10, 48; addi x17, x0, 1; ecall; and a jump
-- back to the third
abbrev pub counting_words : List ℕ
counting_words = 0x800012b7 ∷ 0x00100313 ∷ 0x0062a3af ∷ 0x03f3f513 ∷ 0x03050513 ∷ 0x00100893 ∷ 0x00000073 ∷ 0xfedff06f ∷ []

abbrev pub counting_code : List ℕ
counting_code = flat_map (λ word. little_bytes 4 word) counting_words

-- one executable segment from the first address of memory
abbrev pub counting_image : ImageData
counting_image = record {
  segments = record { start = ram_start; size = length counting_code; bytes = counting_code; write = false; exec = true } ∷ [];
  entry = ram_start;
}
