-- How the texts of a node's records that wait go on, and how many of its bytes they have read.
use Rattle.std.proofs.Common.{◌≡◌, ℕ, ◌+◌, ◌<◌, ◌≤◌, Bool, true, false, cond, nat_eq, if◌then◌else◌, List, [], ◌∷◌, ◌++◌, drop, length, get_or}
use Rattle.std.proofs.Common.{refl, ap, sym, subst, ◌∙◌, append-nil, length-append, arith}
use Rattle.std.specs.Prelude.{map, option_to_list}
use Rattle.std.proofs.lemmas.List.{drop_more, drop_all}
use Rattle.rv_core.specs.declared.step.Record.{Record}
use Rattle.rv_core.specs.Execution.{in_of}
use Rattle.sn_model.specs.Instructions.{records_of}
use Rattle.interval_list.specs.declared.Waiting.{Waiting}
use Rattle.sn_machine.specs.Parts.{retirement_as}
use Rattle.state_parts.specs.Parts.{waiting_of}
use Rattle.state_json.specs.Json.{with_commas, IsAddedIf}
use Rattle.state_json.specs.Values.{record_text}
use Rattle.state_texts.proofs.Lists.{added-first}

module _ (start : List ℕ) (others : Bool) (records : List (Waiting Record)) (i node : ℕ) where
  pub waiting-next : (new : List ℕ) (some : Bool) (x : Waiting Record) → i < length records → x ≡ get_or records i x →
      IsAddedIf (nat_eq x.entry.core node) (record_text (retirement_as x)) start new others some →
      new ++ with_commas some (map record_text (waiting_of node (map retirement_as (drop (i + 1) records))))
      ≡ start ++ with_commas others (map record_text (waiting_of node (map retirement_as (drop i records))))
  waiting-next new some x b e found =
      let step = subst (λ (y : Waiting Record). IsAddedIf (nat_eq y.entry.core node) (record_text (retirement_as y)) start new others some) e found in
      added-first start new (record_text (retirement_as (get_or records i x)))
      (map record_text (waiting_of node (map retirement_as (drop (i + 1) records)))) (nat_eq (get_or records i x).entry.core node) others some step
      ∙ ap (λ t. start ++ with_commas others t) (chosen (nat_eq (get_or records i x).entry.core node))
      ∙ ap (λ t. start ++ with_commas others (map record_text (waiting_of node (map retirement_as t)))) (sym (drop_more records i x b))
    where
      chosen : (mine : Bool) →
          (if mine then record_text (retirement_as (get_or records i x))
          ∷ map record_text (waiting_of node (map retirement_as (drop (i + 1) records)))
          else map record_text (waiting_of node (map retirement_as (drop (i + 1) records))))
          ≡ map record_text (cond mine (retirement_as (get_or records i x) ∷ waiting_of node (map retirement_as (drop (i + 1) records)))
          (waiting_of node (map retirement_as (drop (i + 1) records))))
      chosen true = refl
      chosen false = refl

  pub waiting-end : length records ≤ i →
      start ++ with_commas others (map record_text (waiting_of node (map retirement_as (drop i records)))) ≡ start
  waiting-end past = rw (drop_all i records past) (append-nil start)

  pub reads-next : (count new : ℕ) (x : Waiting Record) → i < length records →
      new ≡ count + length (if nat_eq (get_or records i x).entry.core node then option_to_list (get_or records i x).entry.read else []) →
      new + length (in_of node (records_of (map retirement_as (drop (i + 1) records))))
      ≡ count + length (in_of node (records_of (map retirement_as (drop i records))))
  reads-next count new x b step =
      let both = length-append (if nat_eq (get_or records i x).entry.core node then option_to_list (get_or records i x).entry.read else [])
      (in_of node (records_of (map retirement_as (drop (i + 1) records)))) in
      rw (drop_more records i x b) (omega (arith, step, both))
