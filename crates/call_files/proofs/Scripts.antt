-- The events of a script fit: the blocks that they name are of memory.
use Rattle.std.proofs.Common.{◌≡◌, ℕ, suc, ◌+◌, Bool, true, false, ◌&&◌, nat_lt, nat_le, if◌then◌else◌, List, [], ◌∷◌, All, Option, Some}
use Rattle.std.proofs.Common.{None, refl, subst, arith}
use Rattle.std.specs.Prelude.{Result, Ok, Err, codes, bytes_eq, ⊤}
use Rattle.sn_base.specs.Events.{event_fits, block_fits}
use Rattle.sn_base.specs.declared.event.Event.{Event}
use Rattle.sn_base.specs.declared.event.Event.TheVariants as event
use Rattle.sn_model.specs.Caches.{block_count}
use Rattle.sn_text.specs.declared.cause.Fault.{Fault}
use Rattle.sn_text.specs.declared.cause.Fault.TheVariants.{NotOfForm, NotThere}
use Rattle.sn_text.specs.declared.cause.ScriptCause.{ScriptCause}
use Rattle.sn_text.specs.declared.cause.ScriptCause.TheVariants.{TooMany}
use Rattle.sn_text.specs.Items.{most_items, is_skipped, items_and, with_item, items_from}
use Rattle.sn_text.specs.Script.{event_said, node_in, message_in, switch_in, parts_at_blank, evicted_at, eviction_by, given_to, input_by, begins, after}
use Rattle.sn_text.specs.Script.{event_of, script_of}
use Rattle.text_lines.specs.Lines.{lines_of}
use Rattle.consistent_cuts.specs.Runs.{AllFit}

-- the event that a line says, if any, names a block of memory
record IsGood (read : Result Event Fault) : Type 0 where
  fits : (e : Event) → read ≡ Ok e → block_fits e ≡ true

good-ok : (e : Event) → block_fits e ≡ true → IsGood (Ok e)
good-ok e h = record { fits = λ d is. let same : e ≡ d = cc in subst (λ t. block_fits t ≡ true) same h }

good-err : (fault : Fault) → IsGood (Err fault)
good-err fault = record { fits = λ d is. absurd cc }

good-if : (b : Bool) (x y : Result Event Fault) → IsGood x → IsGood y → IsGood (if b then x else y)
good-if true x y g h = g
good-if false x y g h = h

good-said : (event_with : ℕ → Event) (r : Result ℕ Fault) → ((n : ℕ) → block_fits (event_with n) ≡ true) → IsGood (event_said event_with r)
good-said event_with (Ok n) h = good-ok (event_with n) (h n)
good-said event_with (Err fault) h = good-err fault

good-evicted : (nodes : ℕ) (node block : Option ℕ) → IsGood (evicted_at nodes node block)
good-evicted nodes (Some node) (Some block) = by_test (nat_lt node nodes) (nat_lt block block_count) refl
  where
    by_test : (a b : Bool) → nat_lt block block_count ≡ b → IsGood (if a && b then Ok (event.Evict node block) else Err NotThere)
    by_test true true e = good-ok (event.Evict node block) e
    by_test true false e = good-err _
    by_test false b e = good-err _
good-evicted nodes (Some node) None = good-err _
good-evicted nodes None block = good-err _

good-eviction : (nodes : ℕ) (words : Option (List ℕ × List ℕ)) → IsGood (eviction_by nodes words)
good-eviction nodes None = good-err _
good-eviction nodes (Some words) = good-evicted nodes _ _

good-given : (nodes : ℕ) (node byte : Option ℕ) → IsGood (given_to nodes node byte)
good-given nodes (Some node) (Some byte) = good-if (nat_lt node nodes) _ _ (good-ok (event.Input node byte) refl) (good-err _)
good-given nodes (Some node) None = good-err _
good-given nodes None byte = good-err _

good-input : (nodes : ℕ) (words : Option (List ℕ × List ℕ)) → IsGood (input_by nodes words)
good-input nodes None = good-err _
good-input nodes (Some words) = good-given nodes _ _

good-line : (nodes : ℕ) (line : List ℕ) → IsGood (event_of nodes line)
unfolding event_of
good-line nodes line =
    good-if (bytes_eq line (codes "validate")) _ _ (good-ok event.Validate refl)
    (good-if (bytes_eq line (codes "recover")) _ _ (good-ok event.Recover refl)
    (good-if (begins (codes "step ") line) _ _ (good-said event.Step (node_in nodes (after (codes "step ") line)) (λ n. refl))
    (good-if (begins (codes "edge ") line) _ _ (good-said event.Edge (node_in nodes (after (codes "edge ") line)) (λ n. refl))
    (good-if (begins (codes "report ") line) _ _ (good-said event.Report (node_in nodes (after (codes "report ") line)) (λ n. refl))
    (good-if (begins (codes "hop ") line) _ _ (good-said event.Hop (message_in (after (codes "hop ") line)) (λ n. refl))
    (good-if (begins (codes "deliver ") line) _ _ (good-said event.Deliver (message_in (after (codes "deliver ") line)) (λ n. refl))
    (good-if (begins (codes "lose ") line) _ _ (good-said event.Lose (message_in (after (codes "lose ") line)) (λ n. refl))
    (good-if (begins (codes "kill ") line) _ _ (good-said event.Kill (switch_in nodes (after (codes "kill ") line)) (λ n. refl))
    (good-if (begins (codes "evict ") line) _ _ (good-eviction nodes (parts_at_blank (after (codes "evict ") line)))
    (good-if (begins (codes "input ") line) _ _ (good-input nodes (parts_at_blank (after (codes "input ") line))) (good-err NotOfForm)))))))))))

-- so do all of a script
abbrev AllGood : List Event → Type 0
AllGood [] = ⊤
AllGood (e ∷ events) = (block_fits e ≡ true) × AllGood events

followed-good : (e : Event) (full : Bool) (rest : Result (List Event) ScriptCause) (events : List Event) → block_fits e ≡ true →
    ((others : List Event) → rest ≡ Ok others → AllGood others) → (if full then Err TooMany else items_and (e ∷ []) rest) ≡ Ok events →
    AllGood events
followed-good e true rest events good h is = absurd cc
followed-good e false (Err cause) events good h is = absurd cc
followed-good e false (Ok others) events good h is =
    let same : e ∷ others ≡ events = cc in subst AllGood same (good, h others refl)

with_item-good : (line count : ℕ) (read : Result Event Fault) (rest : Result (List Event) ScriptCause) (events : List Event) → IsGood read →
    ((others : List Event) → rest ≡ Ok others → AllGood others) → with_item line count read rest ≡ Ok events → AllGood events
with_item-good line count (Ok e) rest events good h is = followed-good e (nat_le most_items count) rest events (good.fits e refl) h is
with_item-good line count (Err fault) rest events good h is = absurd cc

choose-good : (skip : Bool) (x y : Result (List Event) ScriptCause) (events : List Event) → (x ≡ Ok events → AllGood events) →
    (y ≡ Ok events → AllGood events) → (if skip then x else y) ≡ Ok events → AllGood events
choose-good true x y events g h is = g is
choose-good false x y events g h is = h is

items-good : (nodes line count : ℕ) (lines : List (List ℕ)) (events : List Event) →
    items_from (event_of nodes) line count lines ≡ Ok events → AllGood events
unfolding items_from
items-good nodes line count [] events is = let same : [] ≡ events = cc in subst AllGood same tt
items-good nodes line count (text ∷ lines) events is =
    choose-good (is_skipped text) _ _ events (items-good nodes (line + 1) count lines events)
    (with_item-good line count (event_of nodes text) (items_from (event_of nodes) (line + 1) (count + 1) lines) events
    (good-line nodes text) (items-good nodes (line + 1) (count + 1) lines)) is

all-fit : (nodes : ℕ) (events : List Event) → All (λ e. event_fits nodes e ≡ true) events → AllGood events → AllFit nodes events
all-fit nodes [] numbers good = tt
all-fit nodes (e ∷ events) numbers good = (
  record { numbers = numbers 0 e (omega arith); block = good.0 },
  all-fit nodes events (λ k d below. numbers (suc k) d (omega (arith, below))) good.1,
)

pub script-fits : (nodes : ℕ) (bytes : List ℕ) (events : List Event) → script_of nodes bytes ≡ Ok events →
    All (λ e. event_fits nodes e ≡ true) events → AllFit nodes events
script-fits nodes bytes events is numbers = all-fit nodes events numbers (items-good nodes 1 0 (lines_of bytes) events is)
