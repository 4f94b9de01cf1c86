-- What a write into a line leaves.
use Rattle.std.proofs.Common.{◌≡◌, ℕ, ◌<◌, ◌≤◌, true, List, length, set, sym, ap, ◌∙◌, subst, ⊎_elim}
use Rattle.std.proofs.lemmas.Bool.{cases_lt}
use Rattle.std.proofs.lemmas.List.{get_or-set_same, get_or_past, set-set}
use Rattle.sn_base.specs.declared.block.Write.{Write}
use Rattle.atomicity_point.specs.Txn.{Open}
use Rattle.rv_core.specs.Core.{block_of}
use Rattle.sn_model.specs.declared.cache.Need.{Need}
use Rattle.sn_model.specs.declared.cache.LineState.TheVariants.{Modified}
use Rattle.sn_model.specs.Caches.{Line, no_line, is_present, line_at}
use Rattle.sn_model.specs.Access.{written_in}
use Rattle.mosi_cache.specs.Frames.{LinesData}
use Rattle.mosi_cache.specs.Probe.{cache_after_write}
use Rattle.mosi_cache.proofs.CompletedOrWaiting.{data_by}

absent : is_present no_line.state ≡ true → ⊥
absent h = cc

-- a block that has a line is one of the list
is_inside : (ls : List Line) (b : ℕ) → is_present (line_at ls b).state ≡ true → b < length ls
is_inside ls b h =
    ⊎_elim
    (λ (l : b < length ls). l)
    (λ (l : length ls ≤ b). absurd (absent (subst (λ (m : Line). is_present m.state ≡ true) (get_or_past ls b no_line l) h)))
    (cases_lt b (length ls))

abbrev rewritten : Line → Write → Line
rewritten m w = record { state = m.state; content = written_in m.content w }

stored-lines : (ls : List Line) (b : ℕ) (l : Line) (w : Write) → is_present (line_at ls b).state ≡ true →
    set (set ls b l) b (rewritten (line_at (set ls b l) b) w) ≡ set ls b (rewritten l w)
stored-lines ls b l w h =
    set-set ls b l (rewritten (line_at (set ls b l) b) w)
    ∙ ap (λ (m : Line). set ls b (rewritten m w)) (get_or-set_same ls b l no_line (is_inside ls b h))

pub store-done : (node nodes : ℕ) (need : Need) (a b : LinesData) (o : Open) (w : Write) (x : ℕ) (content : List ℕ) →
    b ≡ record a { lines = set a.lines x (record { state = Modified; content = content }) } →
    x ≡ block_of w.address → content ≡ written_in (line_at a.lines x).content w → is_present (line_at a.lines x).state ≡ true →
    data_by node nodes need b o ≡ cache_after_write (data_by node nodes need a o) w
store-done node nodes need a b o w x content e f g h =
    ap (λ (c : LinesData). data_by node nodes need c o) e
    ∙ ap (λ (k : List ℕ). data_by node nodes need (record a { lines = set a.lines x (record { state = Modified; content = k }) }) o) g
    ∙ ap (λ (ls : List Line). data_by node nodes need (record a { lines = ls }) o)
    (sym (stored-lines a.lines x (record { state = Modified; content = (line_at a.lines x).content }) w h))
    ∙ ap (λ (y : ℕ). data_by node nodes need (record a {
      lines = set (set a.lines y (record { state = Modified; content = (line_at a.lines y).content })) y
          (rewritten (line_at (set a.lines y (record { state = Modified; content = (line_at a.lines y).content })) y) w);
    }) o) f
