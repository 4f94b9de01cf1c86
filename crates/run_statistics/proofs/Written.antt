-- How lines go on.
use Rattle.std.proofs.Common.{◌≡◌, refl, ℕ, suc, ◌+◌, ◌<◌, ◌≤◌, List, [], ◌∷◌, ◌++◌, drop, length, get_or, ap, sym, ◌∙◌, append_assoc, append-nil, arith}
use Rattle.std.specs.Prelude.{slice_index, slice_index_or}
use Rattle.std.proofs.lemmas.List.{drop_more, drop_all}
use Rattle.run_statistics.specs.declared.recoveries.Recovery.{Recovery}
use Rattle.run_statistics.specs.declared.statistics.Statistics.{Statistics}
use Rattle.run_statistics.specs.Lines.{stat_line, named_lines, lines_of_node, node_lines, recovery_line, recovery_lines}

named-more : (names : List (List ℕ)) (numbers : List ℕ) (n k : ℕ) → k ≡ suc n →
    named_lines names numbers k ≡ named_lines names numbers n ++ stat_line (slice_index_or names n []) (slice_index numbers n)
unfolding named_lines
named-more names numbers n k e = ap (named_lines names numbers) e

-- one more number under its name
pub named-next : (start old new name : List ℕ) (names : List (List ℕ)) (numbers : List ℕ) (n value : ℕ) →
    old ≡ start ++ named_lines names numbers n → new ≡ old ++ stat_line name value → name ≡ slice_index_or names n [] →
    value ≡ slice_index numbers n → new ≡ start ++ named_lines names numbers (n + 1)
named-next start old new name names numbers n value had put is holds =
    put ∙ ap (λ t. t ++ stat_line name value) had ∙ append_assoc start (named_lines names numbers n) (stat_line name value)
    ∙ ap (λ t. start ++ (named_lines names numbers n ++ t))
    (ap (λ (t : List ℕ). stat_line t value) is ∙ ap (λ (t : ℕ). stat_line (slice_index_or names n []) t) holds)
    ∙ ap (λ t. start ++ t) (sym (named-more names numbers n (n + 1) (omega arith)))

node-more : (x : Statistics) (n k : ℕ) → k ≡ suc n → node_lines x k ≡ node_lines x n ++ lines_of_node x n
unfolding node_lines
node-more x n k e = ap (node_lines x) e

-- one more node
pub node-next : (start old new part : List ℕ) (x : Statistics) (n node : ℕ) → old ≡ start ++ node_lines x n → new ≡ old ++ part →
    part ≡ lines_of_node x node → node ≡ n → new ≡ start ++ node_lines x (n + 1)
node-next start old new part x n node had put is same =
    put ∙ ap (λ t. t ++ part) had ∙ append_assoc start (node_lines x n) part
    ∙ ap (λ t. start ++ (node_lines x n ++ t)) (is ∙ ap (lines_of_node x) same)
    ∙ ap (λ t. start ++ t) (sym (node-more x n (n + 1) (omega arith)))

recovery-more : (k : ℕ) (r : Recovery) (recoveries : List Recovery) →
    recovery_lines k (r ∷ recoveries) ≡ recovery_line k r ++ recovery_lines (k + 1) recoveries
unfolding recovery_lines
recovery-more k r recoveries = refl

-- one more recovery
pub recovery-next : (start old new part : List ℕ) (recoveries : List Recovery) (i k : ℕ) (r : Recovery) → i < length recoveries →
    r ≡ get_or recoveries i r → old ++ recovery_lines k (drop i recoveries) ≡ start → new ≡ old ++ part → part ≡ recovery_line k r →
    new ++ recovery_lines (k + 1) (drop (i + 1) recoveries) ≡ start
recovery-next start old new part recoveries i k r below is had put said =
    ap (λ t. t ++ recovery_lines (k + 1) (drop (i + 1) recoveries)) (put ∙ ap (λ t. old ++ t) said)
    ∙ append_assoc old (recovery_line k r) (recovery_lines (k + 1) (drop (i + 1) recoveries))
    ∙ ap (λ t. old ++ t) (sym (recovery-more k r (drop (i + 1) recoveries)))
    ∙ ap (λ t. old ++ recovery_lines k t)
    (ap (λ (t : Recovery). t ∷ drop (i + 1) recoveries) is ∙ sym (drop_more recoveries i r below))
    ∙ had

pub recovery-ends : (start old : List ℕ) (recoveries : List Recovery) (i k : ℕ) → length recoveries ≤ i →
    old ++ recovery_lines k (drop i recoveries) ≡ start → old ≡ start
unfolding recovery_lines
recovery-ends start old recoveries i k past had =
    sym (append-nil old) ∙ sym (ap (λ t. old ++ recovery_lines k t) (drop_all i recoveries past)) ∙ had
