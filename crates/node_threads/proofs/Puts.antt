-- What a console has after one writing and another.
use Rattle.std.proofs.Common.{◌≡◌, ℕ, ◌+◌, ◌≤◌, ◌^◌, ◌-◌, min, List, [], ◌++◌, Option, Some, None, Result, Ok, Err, Bool, true, false}
use Rattle.std.proofs.Common.{is_err, OnOk, OnErr, refl, sym, ap, ◌∙◌, arith, append_assoc, append-nil}
use Rattle.sn_io.specs.declared.outside.Failed.{Failed}
use Rattle.sn_io.specs.Outside.{followed_by, Rose}
use Rattle.sn_console.specs.Handed.{IsFirstOf, IsHandedOn, IsBegun}
use Rattle.sn_console.proofs.FirstOf.{IsFirstOf-trans}
use Rattle.node_threads.specs.Finishes.{Put}

followed-append : (w : Option (List ℕ)) (xs ys : List ℕ) → followed_by (followed_by w xs) ys ≡ followed_by w (xs ++ ys)
followed-append None xs ys = refl
followed-append (Some w) xs ys = ap (λ t. Some t) (append_assoc w xs ys)

followed-nil : (w : Option (List ℕ)) → w ≡ followed_by w []
followed-nil None = refl
followed-nil (Some w) = ap (λ t. Some t) (sym (append-nil w))

pub written-none : (text : List ℕ) (w : Option (List ℕ)) → IsHandedOn text text w w
written-none text w = record { more = []; grown = append-nil text; put = followed-nil w }

pub written-then : (a b d : List ℕ) (u v w : Option (List ℕ)) → IsHandedOn a b u v → IsHandedOn b d v w → IsHandedOn a d u w
written-then a b d u v w h k = record {
  more = h.more ++ k.more;
  grown = sym (append_assoc a h.more k.more) ∙ ap (λ t. t ++ k.more) h.grown ∙ k.grown;
  put = k.put ∙ ap (λ t. followed_by t k.more) h.put ∙ followed-append u h.more k.more;
}

pub written-begun : (a b d : List ℕ) (u v w : Option (List ℕ)) → IsHandedOn a b u v → IsBegun b d v w → IsBegun a d u w
written-begun a b d u v w h k = record {
  more = h.more ++ k.more;
  begun = record {
    rest = k.begun.rest;
    whole = ap (λ t. t ++ k.begun.rest) (sym (append_assoc a h.more k.more) ∙ ap (λ t. t ++ k.more) h.grown) ∙ k.begun.whole;
  };
  put = k.put ∙ ap (λ t. followed_by t k.more) h.put ∙ followed-append u h.more k.more;
}

pub begun-first : (a b d : List ℕ) (u v : Option (List ℕ)) → IsBegun a b u v → IsFirstOf b d → IsBegun a d u v
begun-first a b d u v h first = record { more = h.more; begun = IsFirstOf-trans _ b d h.begun first; put = h.put }

-- a count that rose later rose
pub rose-later : (a b d : ℕ) → a ≤ b → Rose b d → Rose a d
rose-later a b d l rose = omega (arith, l, rose)

pub rose-before : (a b d : ℕ) → Rose a b → b ≤ d → Rose a d
rose-before a b d rose l = omega (arith, l, rose)

-- bytes that are the first of a text, where the sink failed
pub put-first : (r : Result (Unit {0}) Failed) (taken text : List ℕ) (before after : Option (List ℕ)) (was is : ℕ) → is_err r ≡ true →
    IsFirstOf taken text → Put r taken before after was is → Put r text before after was is
put-first (Ok done) taken text before after was is failed first put = absurd cc
put-first (Err e) taken text before after was is failed first put = (begun-first [] taken text before after put.0 first, put.1)

-- and one writing after another that was whole
pub put-then : (d r : Result (Unit {0}) Failed) (taken text : List ℕ) (before between after : Option (List ℕ)) (was mid is : ℕ) →
    is_err d ≡ false →
    OnOk r (IsHandedOn taken text between after) → OnErr r (IsBegun taken text between after) → mid ≤ is → OnErr r (Rose mid is) →
    Put d taken before between was mid → Put r text before after was is
put-then (Err e) r taken text before between after was mid is sound whole part later cause put = absurd cc
put-then (Ok done) (Ok more) taken text before between after was mid is sound whole part later cause put =
    (written-then [] taken text before between after put.0 whole, omega (arith, put.1, later))
put-then (Ok done) (Err e) taken text before between after was mid is sound whole part later cause put =
    (written-begun [] taken text before between after put.0 part, rose-later was mid is put.1 cause)
