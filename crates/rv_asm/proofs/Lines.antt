-- How the lines of a list of words join.
use Rattle.std.proofs.Common.{◌≡◌, ℕ, ◌+◌, ◌<◌, ◌≤◌, List, ◌++◌, length, get_or, drop, codes, append_assoc, append-nil}
use Rattle.std.proofs.lemmas.List.{drop_more, drop_all}
use Rattle.rv_asm.specs.Text.{word_text, dis_of}

-- one more line
pub dis_of-next : (text : List ℕ) (words : List ℕ) (i : ℕ) → i < length words → (text ++ (word_text (get_or words i 0) ++ codes "\n")) ++ dis_of (drop (i + 1) words) ≡ text ++ dis_of (drop i words)
unfolding dis_of
dis_of-next text words i inside = rw (drop_more words i 0 inside) (append_assoc text (word_text (get_or words i 0) ++ codes "\n") (dis_of (drop (i + 1) words)))

-- the end
pub dis_of-all : (text : List ℕ) (words : List ℕ) (i : ℕ) → length words ≤ i → text ++ dis_of (drop i words) ≡ text
unfolding dis_of
dis_of-all text words i outside = rw (drop_all i words outside) (append-nil text)
