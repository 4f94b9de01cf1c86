-- The lines of the cores, and the group of an event.
use Rattle.std.proofs.Common.{◌≡◌, ℕ, suc, ◌+◌, ◌≤◌, true, List, [], ◌++◌, refl, sym, ap, subst, ◌∙◌, append_assoc, append-nil, arith}
use Rattle.std.specs.Prelude.{codes, Option, Some, IfSome}
use Rattle.std.proofs.lemmas.Bool.Decides.{nat_tests}
use Rattle.sn_base.specs.Config.{config_fits}
use Rattle.sn_base.specs.declared.config.Config.{Config}
use Rattle.sn_base.specs.declared.event.Event.{Event}
use Rattle.sn_base.specs.declared.event.Undo.{Undo}
use Rattle.sn_base.specs.declared.event.Answer.{Answer}
use Rattle.sn_base.specs.declared.event.Answer.TheVariants.{Recovered}
use Rattle.rv_core.specs.declared.state.CoreState.{CoreState}
use Rattle.rv_core.specs.Core.{bare}
use Rattle.rv_core.specs.Flat.{FlatState, core_at}
use Rattle.sn_text.specs.Text.{event_line, sent_lines, core_line}
use Rattle.due_events.specs.Machine.{MachineData, flat_of}
use Rattle.script_replay.specs.Pieces.{core_lines, cut_lines, recovered_lines, group_of}
use Rattle.script_replay.specs.Played.{group_now, IsAlone}

-- of a fitting configuration
pub some-nodes : (config : Config) → config_fits config ≡ true → 1 ≤ config.nodes
some-nodes config fits = grind (arith, nat_tests)

pub few-nodes : (config : Config) → config_fits config ≡ true → config.nodes ≤ 16
few-nodes config fits = grind (arith, nat_tests)

-- the value that is there
pub some-is : (found : Option ℕ) (value x : ℕ) → IfSome found (λ n. n ≡ x) → found ≡ Some value → value ≡ x
some-is found value x h e = let P : Option ℕ → Type 0 = λ t. IfSome t (λ n. n ≡ x) in subst P e h

-- a line doesn't show the reservation
core_line-bare : (before : List ℕ) (node : ℕ) (core : CoreState) → core_line before node (bare core) ≡ core_line before node core
unfolding core_line
core_line-bare before node core = refl

pub cores-none : (text before : List ℕ) (flat : FlatState) → text ≡ text ++ core_lines before flat 0
unfolding core_lines
cores-none text before flat = sym (append-nil text)

core_lines-more : (before : List ℕ) (flat : FlatState) (n m : ℕ) → m ≡ suc n →
    core_lines before flat m ≡ core_lines before flat n ++ core_line before n (core_at flat n)
unfolding core_lines
core_lines-more before flat n m e = rw e refl

-- one more core is written
pub cores-more : (text old new before : List ℕ) (v m : MachineData) (n node : ℕ) (core : CoreState) → v ≡ m → node ≡ n →
    core ≡ bare (core_at (flat_of v) node) → old ≡ text ++ core_lines before (flat_of m) n → new ≡ old ++ core_line before node core →
    new ≡ text ++ core_lines before (flat_of m) (n + 1)
cores-more text old new before v m n node core shown at is had put =
    put ∙ ap (λ t. t ++ core_line before node core) had
    ∙ append_assoc text (core_lines before (flat_of m) n) (core_line before node core)
    ∙ ap (λ t. text ++ (core_lines before (flat_of m) n ++ t))
    (ap (core_line before node) is ∙ core_line-bare before node (core_at (flat_of v) node)
    ∙ ap (λ (t : MachineData). core_line before node (core_at (flat_of t) node)) shown
    ∙ ap (λ k. core_line before k (core_at (flat_of m) k)) at)
    ∙ ap (λ t. text ++ t) (sym (core_lines-more before (flat_of m) n (n + 1) (omega arith)))

recovered_lines-there : (m : MachineData) (watch : Option ℕ) (answer : Answer) (undo : Undo) → answer ≡ Recovered undo →
    recovered_lines m.image m.config watch answer m.state ≡ cut_lines (codes "  ") (flat_of m) m.config.nodes watch
unfolding recovered_lines
recovered_lines-there m watch answer undo e = rw e refl

recovered_lines-other : (m : MachineData) (watch : Option ℕ) (answer : Answer) → ((undo : Undo) → answer ≡ Recovered undo → ⊥) →
    recovered_lines m.image m.config watch answer m.state ≡ []
unfolding recovered_lines
recovered_lines-other m watch (Recovered undo) h = absurd (h undo refl)
recovered_lines-other m watch _ h = refl

sent_lines-none : sent_lines [] ≡ []
unfolding sent_lines
sent_lines-none = refl

-- the first line, where all was cleared before
pub line-is : (m : MachineData) (event : Event) (answer : Answer) (cleared line : List ℕ) (place : ℕ) → cleared ≡ [] → place ≡ m.applied →
    line ≡ cleared ++ event_line place event answer → line ≡ event_line m.applied event answer
line-is m event answer cleared line place none at put =
    put ∙ ap (λ t. t ++ event_line place event answer) none ∙ ap (λ p. event_line p event answer) at

-- the group of a recovery, which sent nothing
pub group-recovered : (m : MachineData) (watch : Option ℕ) (event : Event) (answer : Answer) (undo : Undo) (text line : List ℕ) →
    answer ≡ Recovered undo → IsAlone answer m.sent → line ≡ event_line m.applied event answer →
    text ≡ line ++ cut_lines (codes "  ") (flat_of m) m.config.nodes watch → text ≡ group_now m watch event answer
unfolding group_of
group-recovered m watch event answer undo text line is alone first more =
    more ∙ ap (λ t. t ++ cut_lines (codes "  ") (flat_of m) m.config.nodes watch) first
    ∙ ap (λ t. event_line m.applied event answer ++ t) (sym (recovered_lines-there m watch answer undo is))
    ∙ ap (λ t. t ++ recovered_lines m.image m.config watch answer m.state)
    (sym (ap (λ t. event_line m.applied event answer ++ t) (ap sent_lines (alone undo is) ∙ sent_lines-none)
    ∙ append-nil (event_line m.applied event answer)))

-- and that of any other event
pub group-sent : (m : MachineData) (watch : Option ℕ) (event : Event) (answer : Answer) (text line : List ℕ) →
    ((undo : Undo) → answer ≡ Recovered undo → ⊥) → line ≡ event_line m.applied event answer → text ≡ line ++ sent_lines m.sent →
    text ≡ group_now m watch event answer
unfolding group_of
group-sent m watch event answer text line other first more =
    more ∙ ap (λ t. t ++ sent_lines m.sent) first
    ∙ sym (append-nil (event_line m.applied event answer ++ sent_lines m.sent))
    ∙ ap (λ t. (event_line m.applied event answer ++ sent_lines m.sent) ++ t) (sym (recovered_lines-other m watch answer other))
