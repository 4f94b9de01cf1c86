-- How many records a recovery takes back of each node.
use Rattle.std.proofs.Common.{◌≡◌, ℕ, suc, ◌+◌, ◌<◌, ◌≤◌, Bool, true, false, cond, nat_eq, if◌then◌else◌, List, [], ◌∷◌, ◌++◌, drop, length, get_or}
use Rattle.std.proofs.Common.{refl, ap, sym, subst, ◌∙◌, arith}
use Rattle.std.specs.Prelude.{map, decimal}
use Rattle.std.proofs.lemmas.List.{drop_more, drop_all}
use Rattle.rv_core.specs.declared.step.Record.{Record}
use Rattle.sn_model.specs.Machine.{State, Retirement}
use Rattle.interval_list.specs.declared.Waiting.{Waiting}
use Rattle.machine_states.specs.Parts.{retirement_as}
use Rattle.state_parts.specs.Parts.{waiting_of}
use Rattle.state_json.specs.Json.{comma_after}
use Rattle.state_json.specs.Details.{taken_back_texts}
use Rattle.state_texts.proofs.Lists.{AreBehind}
use Rattle.state_lines.proofs.Added.{behind-one}

counted : (b : Bool) (r : Retirement) (rest : List Retirement) → length (cond b (r ∷ rest) rest) ≡ (if b then 1 else 0) + length rest
counted true r rest = omega arith
counted false r rest = omega arith

module _ (records : List (Waiting Record)) (i node : ℕ) where
  pub count-next : (count new : ℕ) (x : Waiting Record) → i < length records →
      new ≡ count + (if nat_eq (get_or records i x).entry.core node then 1 else 0) →
      new + length (waiting_of node (map retirement_as (drop (i + 1) records))) ≡ count + length (waiting_of node (map retirement_as (drop i records)))
  count-next count new x b step =
      let one = counted (nat_eq (get_or records i x).entry.core node) (retirement_as (get_or records i x))
      (waiting_of node (map retirement_as (drop (i + 1) records))) in
      rw (drop_more records i x b) (omega (arith, step, one))

  pub count-end : (count : ℕ) → length records ≤ i → count + length (waiting_of node (map retirement_as (drop i records))) ≡ count
  count-end count past = rw (drop_all i records past) (omega arith)

taken-more : (i m : ℕ) (s : State) → m ≡ suc i → taken_back_texts m s ≡ taken_back_texts i s ++ decimal (length (waiting_of i s.pending)) ∷ []
taken-more i m s e = rw e refl

pub taken-next : (start old comma new : List ℕ) (i : ℕ) (s : State) (others : Bool) → AreBehind start old (taken_back_texts i s) others →
    comma ≡ old ++ comma_after others → new ≡ comma ++ decimal (length (waiting_of i s.pending)) →
    AreBehind start new (taken_back_texts (i + 1) s) true
taken-next start old comma new i s others before e f =
    let next : i + 1 ≡ suc i = omega arith in
    subst (λ t. AreBehind start new t true) (sym (taken-more i (i + 1) s next))
    (behind-one start old comma new (decimal (length (waiting_of i s.pending))) (taken_back_texts i s) others before e f)
