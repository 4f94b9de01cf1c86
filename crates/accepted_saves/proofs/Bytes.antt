-- Lists of bytes: memory is one, whatever is written there, and so a word that is seen has 32 bits.
use Rattle.std.proofs.Common.{ℕ, zero, suc, ◌+◌, ◌-◌, ◌/◌, ◌%◌, ◌*◌, ◌^◌, ◌<◌, List, [], ◌∷◌, ◌++◌, get_or, take, drop, length, arith, Option, Some, None}
use Rattle.std.specs.Int.{byte_at as byte_of, bytes_low_first}
use Rattle.std.specs.List.{All}
use Rattle.std.proofs.lemmas.List.Elements.{All-nil, All-cons, All-head, All-tail, All-append, All-take, All-drop}
use Rattle.byteorder.specs.Endian.{little_bytes}
use Rattle.byteorder.specs.Numbers.{little_from-lt}
use Rattle.sn_base.specs.Blocks.{ram_start, ram_size, bytes_of, stored_in}
use Rattle.sn_base.specs.Image.{ImageData, SegmentData, byte_at, bytes_from}
use Rattle.sn_base.specs.declared.block.Write.{Write}
use Rattle.rv_core.specs.declared.step.Want.{Want}
use Rattle.rv_core.specs.declared.step.Want.TheVariants.{Nothing, Load, Store, Amo, Lr, Sc, Input}
use Rattle.rv_core.specs.Flat.{initial_memory, memory_after_write, seen_by, word_at}
use Rattle.accepted_saves.specs.Bytes.{BeginsWithBytes}

abbrev pub IsByte : ℕ → Type 0
IsByte n = n < 256

abbrev pub AreBytes : List ℕ → Type 0
AreBytes bytes = All IsByte bytes

-- what holds of each item and past the last holds wherever one looks
pub look : {X : Type 0} (P : X → Type 0) (xs : List X) (i : ℕ) (past : X) → P past → All P xs → P (get_or xs i past)
look P [] i past p all = p
look P (x ∷ xs) zero past p all = All-head P x xs all
look P (x ∷ xs) (suc i) past p all = look P xs i past p (All-tail P x xs all)

-- both parts of a list have what the whole has

pub first_part : (xs ys : List ℕ) → AreBytes (xs ++ ys) → AreBytes xs
first_part [] ys all = All-nil IsByte
first_part (x ∷ xs) ys all =
    All-cons IsByte x xs (All-head IsByte x (xs ++ ys) all) (first_part xs ys (All-tail IsByte x (xs ++ ys) all))

pub last_part : (xs ys : List ℕ) → AreBytes (xs ++ ys) → AreBytes ys
last_part [] ys all = all
last_part (x ∷ xs) ys all = last_part xs ys (All-tail IsByte x (xs ++ ys) all)

-- memory, at first and after a write

bytes_there : (segments : List SegmentData) → ((address : ℕ) → byte_at segments address < 256) → (n address : ℕ) → AreBytes (bytes_from n segments address)
bytes_there segments all zero address = All-nil IsByte
bytes_there segments all (suc n) address =
    All-cons IsByte (byte_at segments address) (bytes_from n segments (address + 1)) (all address) (bytes_there segments all n (address + 1))

pub memory_begins : (image : ImageData) → BeginsWithBytes image → AreBytes (initial_memory image)
unfolding initial_memory
memory_begins image all = bytes_there image.segments all ram_size ram_start

byte_left : (n : ℕ) → n % 256 < 256
byte_left n = omega arith

byte_low : (i n : ℕ) → byte_of i n < 256
byte_low zero n = byte_left n
byte_low (suc i) n = byte_left (n / 256 ^ suc i)

bytes_low : (i n number : ℕ) → AreBytes (bytes_low_first i n number)
bytes_low i zero number = All-nil IsByte
bytes_low i (suc n) number =
    All-cons IsByte (byte_of i number) (bytes_low_first (suc i) n number) (byte_low i number) (bytes_low (suc i) n number)

stored : (old : List ℕ) (place : ℕ) (bytes : List ℕ) → AreBytes old → AreBytes bytes → AreBytes (stored_in old place bytes)
stored old place bytes all new =
    All-append IsByte (take place old ++ bytes) (drop (place + length bytes) old)
    (All-append IsByte (take place old) bytes (All-take IsByte place old all) new) (All-drop IsByte (place + length bytes) old all)

pub written : (memory : List ℕ) (write : Option Write) → AreBytes memory → AreBytes (memory_after_write memory write)
written memory None all = all
written memory (Some w) all =
    stored memory (w.address - ram_start) (little_bytes (bytes_of w.width) w.value) all (bytes_low 0 (bytes_of w.width) w.value)

-- a word that is seen

word_low : (memory : List ℕ) (address : ℕ) → AreBytes memory → word_at memory address < 2 ^ 32
word_low memory address all =
    let bytes : List ℕ = drop ((address - ram_start) / 4 * 4) memory in
    let low = little_from-lt 0 4 bytes (λ k. look IsByte bytes k 0 (omega arith) (All-drop IsByte ((address - ram_start) / 4 * 4) memory all)) in
    omega (arith, low)

pub seen_low : (want : Want) (memory : List ℕ) → AreBytes memory → seen_by want memory < 2 ^ 32
seen_low Nothing memory all = omega arith
seen_low (Load address) memory all = word_low memory address all
seen_low (Store address) memory all = omega arith
seen_low (Amo address) memory all = word_low memory address all
seen_low (Lr address) memory all = word_low memory address all
seen_low (Sc address) memory all = omega arith
seen_low Input memory all = omega arith
