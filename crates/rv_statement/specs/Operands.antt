-- Registers and numbers as they are written.
use Rattle.std.specs.Prelude.{ℕ, ◌+◌, ◌-◌, ◌*◌, Bool, true, false, ◌&&◌, ◌||◌, nat_eq, nat_le, nat_lt, if◌then◌else◌, ℤ, pos, neg_ℤ, List}
use Rattle.std.specs.Prelude.{[], ◌∷◌, length, take, drop, codes, Option, Some, None, option_map}
use Rattle.std.specs.Str.{bytes_eq}

-- the two names of a register, from x0 up
abbrev pub register_names : List (List ℕ × List ℕ)
register_names =
    (codes "x0", codes "zero") ∷ (codes "x1", codes "ra") ∷ (codes "x2", codes "sp") ∷ (codes "x3", codes "gp") ∷ (codes "x4", codes "tp")
    ∷ (codes "x5", codes "t0") ∷ (codes "x6", codes "t1") ∷ (codes "x7", codes "t2") ∷ (codes "x8", codes "s0") ∷ (codes "x9", codes "s1")
    ∷ (codes "x10", codes "a0") ∷ (codes "x11", codes "a1") ∷ (codes "x12", codes "a2") ∷ (codes "x13", codes "a3") ∷ (codes "x14", codes "a4")
    ∷ (codes "x15", codes "a5") ∷ (codes "x16", codes "a6") ∷ (codes "x17", codes "a7") ∷ (codes "x18", codes "s2") ∷ (codes "x19", codes "s3")
    ∷ (codes "x20", codes "s4") ∷ (codes "x21", codes "s5") ∷ (codes "x22", codes "s6") ∷ (codes "x23", codes "s7") ∷ (codes "x24", codes "s8")
    ∷ (codes "x25", codes "s9") ∷ (codes "x26", codes "s10") ∷ (codes "x27", codes "s11") ∷ (codes "x28", codes "t3") ∷ (codes "x29", codes "t4")
    ∷ (codes "x30", codes "t5") ∷ (codes "x31", codes "t6") ∷ []

abbrev pub is_named : List ℕ → List ℕ × List ℕ → Bool
is_named text names = bytes_eq text names.0 || bytes_eq text names.1

-- the first register of these names that the text names, where their first is this register's
abbrev pub register_from : ℕ → List (List ℕ × List ℕ) → List ℕ → Option ℕ
register_from number [] text = None
register_from number (names ∷ more) text =
    if is_named text names then Some number else register_from (number + 1) more text

-- the register that a text names; fp is s0
unfoldable pub register_of : List ℕ → Option ℕ
register_of text = if bytes_eq text (codes "fp") then Some 8 else register_from 0 register_names text

-- the value of a hexadecimal digit in either case, and 16 for any other byte
abbrev pub digit_value : ℕ → ℕ
digit_value byte =
    if nat_le 48 byte && nat_le byte 57 then byte - 48 else
    if nat_le 97 byte && nat_le byte 102 then byte - 97 + 10 else
    if nat_le 65 byte && nat_le byte 70 then byte - 65 + 10 else 16

-- the number that digits of this base are after those of a number so far
abbrev pub digits_from : ℕ → ℕ → List ℕ → Option ℕ
digits_from base number [] = Some number
digits_from base number (byte ∷ bytes) =
    if nat_lt (digit_value byte) base then digits_from base (number * base + digit_value byte) bytes else None

-- of 1 to 12 digits
unfoldable pub digits_of : ℕ → List ℕ → Option ℕ
digits_of base text = if nat_lt 0 (length text) && nat_le (length text) 12 then digits_from base 0 text else None

abbrev pub begins : List ℕ → List ℕ → Bool
begins front text = bytes_eq (take (length front) text) front

-- decimal digits with or without a leading `-`, or `0x` and hexadecimal digits
unfoldable pub number_of : List ℕ → Option ℤ
number_of text =
    if begins (codes "-") text then option_map (λ number. neg_ℤ (pos number)) (digits_of 10 (drop 1 text))
    else if begins (codes "0x") text then option_map pos (digits_of 16 (drop 2 text))
    else option_map pos (digits_of 10 text)

-- a letter or `_`
abbrev pub begins_name : ℕ → Bool
begins_name byte = nat_le 65 byte && nat_le byte 90 || nat_le 97 byte && nat_le byte 122 || nat_eq byte 95

-- a letter, a digit or `_`
abbrev pub in_name : ℕ → Bool
in_name byte = begins_name byte || nat_le 48 byte && nat_le byte 57

abbrev pub all_in_name : List ℕ → Bool
all_in_name [] = true
all_in_name (byte ∷ text) = in_name byte && all_in_name text

-- a label's name
abbrev pub is_name : List ℕ → Bool
is_name [] = false
is_name (byte ∷ text) = begins_name byte && all_in_name text
