-- How the texts of open transactions and of unready nodes go on.
use Rattle.std.proofs.Common.{◌≡◌, ℕ, suc, ◌+◌, Bool, false, if◌then◌else◌, List, [], ◌∷◌, ◌++◌, nat_eq, refl, sym, subst, arith}
use Rattle.std.specs.Prelude.{nat_le, slice_index}
use Rattle.sn_model.specs.Fabric.{Fabric, home_of, home_node}
use Rattle.sn_model.specs.Machine.{State}
use Rattle.state_json.specs.Details.{open_below, open_texts, unready_text, unready_texts}
use Rattle.state_texts.proofs.Lists.{AreBehind, none-behind}
use Rattle.state_lines.specs.Added.{AreAdded}
use Rattle.state_lines.proofs.Added.{behind-more}

-- those of one block
abbrev pub open_at : Fabric → ℕ → ℕ → ℕ → List (List ℕ)
open_at s block n k = if nat_eq (home_node s block) n then open_below k block (home_of s block).transaction else []

pub opens-none : (start : List ℕ) (s : Fabric) (n k : ℕ) → AreBehind start start (open_texts 0 s n k) false
unfolding open_texts
opens-none start s n k = none-behind start

opens-more : (i m : ℕ) (s : Fabric) (n k : ℕ) → m ≡ suc i → open_texts m s n k ≡ open_texts i s n k ++ open_at s i n k
unfolding open_texts
opens-more i m s n k e = rw e refl

pub opens-next : (start old new : List ℕ) (i block : ℕ) (s : Fabric) (n k : ℕ) (others some : Bool) → block ≡ i →
    AreBehind start old (open_texts i s n k) others → AreAdded (open_at s block n k) old new others some →
    AreBehind start new (open_texts (i + 1) s n k) some
opens-next start old new i block s n k others some e before found =
    let next : i + 1 ≡ suc i = omega arith in
    let step = subst (λ (b : ℕ). AreAdded (open_at s b n k) old new others some) e found in
    subst (λ t. AreBehind start new t some) (sym (opens-more i (i + 1) s n k next))
    (behind-more start old new (open_texts i s n k) (open_at s i n k) others some before step)

-- that of one node
abbrev pub unready_at : State → ℕ → List (List ℕ)
unready_at s n = if nat_le (slice_index s.reported n) s.fabric.point then unready_text s n (s.fabric.point + 1) ∷ [] else []

unready-more : (i m : ℕ) (s : State) → m ≡ suc i → unready_texts m s ≡ unready_texts i s ++ unready_at s i
unready-more i m s e = rw e refl

pub unready-next : (start old new : List ℕ) (i n : ℕ) (s : State) (others some : Bool) → n ≡ i → AreBehind start old (unready_texts i s) others →
    AreAdded (unready_at s n) old new others some → AreBehind start new (unready_texts (i + 1) s) some
unready-next start old new i n s others some e before found =
    let next : i + 1 ≡ suc i = omega arith in
    let step = subst (λ (x : ℕ). AreAdded (unready_at s x) old new others some) e found in
    subst (λ t. AreBehind start new t some) (sym (unready-more i (i + 1) s next))
    (behind-more start old new (unready_texts i s) (unready_at s i) others some before step)
