-- What a sink has of a piece that broke off.
use Rattle.std.proofs.Common.{◌≡◌, ℕ, List, ◌++◌, take, drop, ap, ◌∙◌, append_assoc}
use Rattle.std.specs.Prelude.{Option}
use Rattle.std.proofs.lemmas.List.{take-append-drop}
use Rattle.sn_io.specs.Outside.{followed_by}
use Rattle.sn_console.specs.Handed.{IsBegun}

pub IsBegun-take : (before piece after : List ℕ) (n : ℕ) (written writes : Option (List ℕ)) → before ++ piece ≡ after →
    writes ≡ followed_by written (take n piece) → IsBegun before after written writes
IsBegun-take before piece after n written writes grown put = record {
  more = take n piece;
  begun = record {
    rest = drop n piece;
    whole = append_assoc before (take n piece) (drop n piece) ∙ ap (λ t. before ++ t) (take-append-drop n piece) ∙ grown;
  };
  put = put;
}
