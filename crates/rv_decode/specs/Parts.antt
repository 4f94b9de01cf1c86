-- The parts of a word: `funct7 rs2 rs1 funct3 rd opcode` from the top, and the immediates of the manual's forms.
use Rattle.std.specs.Prelude.{ℕ, ◌+◌, ◌-◌, ◌*◌, ◌/◌, ◌%◌, ◌^◌, nat_lt, if◌then◌else◌, ℤ, pos, negsuc}
use Rattle.std.specs.Int.{w32, cast_unsigned}

-- so many bits of a number, from the bit `low` up
abbrev pub part : ℕ → ℕ → ℕ → ℕ
part low size word = word / 2 ^ low % 2 ^ size

abbrev pub opcode : ℕ → ℕ
opcode word = part 0 7 word

abbrev pub rd_of : ℕ → ℕ
rd_of word = part 7 5 word

abbrev pub funct3 : ℕ → ℕ
funct3 word = part 12 3 word

abbrev pub rs1_of : ℕ → ℕ
rs1_of word = part 15 5 word

abbrev pub rs2_of : ℕ → ℕ
rs2_of word = part 20 5 word

abbrev pub funct7 : ℕ → ℕ
funct7 word = part 25 7 word

-- the upper five bits of funct7; the lower two are aq and rl
abbrev pub funct5 : ℕ → ℕ
funct5 word = part 27 5 word

-- a number below twice `half`, whose highest bit is its sign
abbrev pub signed : ℕ → ℕ → ℤ
signed half n = if nat_lt n half then pos n else negsuc (2 * half - 1 - n)

-- a signed number modulo 2^32
abbrev pub twos : ℤ → ℕ
twos z = cast_unsigned w32 z

-- the immediates of the forms I, S, B, U and J
abbrev pub i_imm : ℕ → ℤ
i_imm word = signed 2048 (part 20 12 word)

abbrev pub s_imm : ℕ → ℤ
s_imm word = signed 2048 (part 25 7 word * 32 + part 7 5 word)

abbrev pub b_imm : ℕ → ℤ
b_imm word = signed 4096 (part 31 1 word * 4096 + part 7 1 word * 2048 + part 25 6 word * 32 + part 8 4 word * 2)

abbrev pub u_imm : ℕ → ℕ
u_imm word = part 12 20 word * 4096

abbrev pub j_imm : ℕ → ℤ
j_imm word = signed 1048576 (part 31 1 word * 1048576 + part 12 8 word * 4096 + part 20 1 word * 2048 + part 21 10 word * 2)
