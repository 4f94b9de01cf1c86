-- Numbers in lower-case hexadecimal digits, from the highest.
use Rattle.std.specs.Prelude.{ℕ, ◌+◌, ◌/◌, ◌%◌, nat_lt, if◌then◌else◌, List, [], ◌∷◌}

abbrev pub hex_digit : ℕ → ℕ
hex_digit digit = if nat_lt digit 10 then 48 + digit else 87 + digit

-- a byte's two digits
unfoldable pub hex_byte : ℕ → List ℕ
hex_byte byte = hex_digit (byte / 16 % 16) ∷ hex_digit (byte % 16) ∷ []

-- a word's eight digits
unfoldable pub hex_word : ℕ → List ℕ
hex_word word =
    hex_digit (word / 268435456 % 16) ∷ hex_digit (word / 16777216 % 16) ∷ hex_digit (word / 1048576 % 16) ∷ hex_digit (word / 65536 % 16)
    ∷ hex_digit (word / 4096 % 16) ∷ hex_digit (word / 256 % 16) ∷ hex_digit (word / 16 % 16) ∷ hex_digit (word % 16) ∷ []
