-- How the table of registers is gone through.
use Rattle.std.proofs.Common.{◌≡◌, ℕ, ◌+◌, ◌<◌, true, false, List, [], length, map, get_or, drop, codes, Some, ap, sym, ◌∙◌}
use Rattle.std.proofs.lemmas.List.{drop_more, get_or-map}
use Rattle.std.specs.Str.{bytes_eq}
use Rattle.rv_statement.specs.Operands.{register_names, is_named, register_from, register_of}

pub register_from-found : (rows : List (List ℕ × List ℕ)) (number : ℕ) (text : List ℕ) → number < length rows →
    is_named text (get_or rows number ([], [])) ≡ true → register_from number (drop number rows) text ≡ Some number
register_from-found rows number text inside named = rw (drop_more rows number ([], []) inside, named)

pub register_from-next : (rows : List (List ℕ × List ℕ)) (number : ℕ) (text : List ℕ) → number < length rows →
    is_named text (get_or rows number ([], [])) ≡ false →
    register_from number (drop number rows) text ≡ register_from (number + 1) (drop (number + 1) rows) text
register_from-next rows number text inside other = rw (drop_more rows number ([], []) inside, other)

pub register_of-found : (number : ℕ) (text : List ℕ) → number < 32 → bytes_eq text (codes "fp") ≡ false → is_named text (get_or register_names number ([], [])) ≡ true → register_from number (drop number register_names) text ≡ register_from 0 register_names text → Some number ≡ register_of text
unfolding register_of
register_of-found number text inside other named same = rw other (sym (register_from-found register_names number text inside named) ∙ same)

-- a row of the program's own table, as it is seen
pub seen-at : {T : Type 0} (seen : T → List ℕ × List ℕ) (rows : List T) (number : ℕ) (d : T) → map seen rows ≡ register_names → number < length rows →
    seen (get_or rows number d) ≡ get_or register_names number ([], [])
seen-at seen rows number d same inside =
    sym (get_or-map seen rows number d ([], []) inside) ∙ ap (λ names. get_or names number ([], [])) same
