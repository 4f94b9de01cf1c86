-- How the texts of the entries go on that a recovery uses.
use Rattle.std.proofs.Common.{◌≡◌, ℕ, suc, ◌+◌, ◌<◌, ◌≤◌, Bool, true, false, ◌||◌, cond, if◌then◌else◌, List, [], ◌∷◌, ◌++◌, drop, length, get_or}
use Rattle.std.proofs.Common.{refl, ap, sym, subst, ◌∙◌, append-nil, arith}
use Rattle.std.specs.Prelude.{map, nat_le}
use Rattle.std.proofs.lemmas.List.{drop_more, drop_all}
use Rattle.sn_base.specs.declared.log.LogEntry.{LogEntry}
use Rattle.log_buffer.specs.Log.{entries_from}
use Rattle.sn_model.specs.Fabric.{node_at}
use Rattle.sn_model.specs.Machine.{State}
use Rattle.state_json.specs.Json.{with_commas, IsAddedIf}
use Rattle.state_json.specs.Details.{undone_text, undone_texts}
use Rattle.state_texts.proofs.Lists.{AreBehind, added-first}
use Rattle.state_lines.specs.Added.{are_some, AreAdded}
use Rattle.state_lines.proofs.Added.{behind-more}

-- the texts of those entries that are left
abbrev pub undone_from : ℕ → ℕ → List LogEntry → List (List ℕ)
undone_from point node entries = map (undone_text node) (entries_from point entries)

-- what is written so far, and these, are all
pub record AreLeft (start : List ℕ) (all : List (List ℕ)) (others : Bool) (text : List ℕ) (left : List (List ℕ)) (some : Bool) : Type 0 where
  pub written : text ++ with_commas some left ≡ start ++ with_commas others all
  pub known : (some || are_some left) ≡ (others || are_some all)

known-first : (added others some : Bool) (x : List ℕ) (rest : List (List ℕ)) → some ≡ (others || added) →
    (some || are_some rest) ≡ (others || are_some (if added then x ∷ rest else rest))
known-first true true some x rest e = rw e refl
known-first true false some x rest e = rw e refl
known-first false true some x rest e = rw e refl
known-first false false some x rest e = rw e refl

chosen : (b : Bool) (node : ℕ) (e : LogEntry) (rest : List LogEntry) →
    (if b then undone_text node e ∷ map (undone_text node) rest else map (undone_text node) rest) ≡ map (undone_text node) (cond b (e ∷ rest) rest)
chosen true node e rest = refl
chosen false node e rest = refl

module _ (start : List ℕ) (all : List (List ℕ)) (others : Bool) (point node : ℕ) (entries : List LogEntry) (i : ℕ) (x : LogEntry) (below : i < length entries) (is : get_or entries i x ≡ x) where
  left-is : undone_from point node (drop i entries)
      ≡ (if nat_le point x.interval then undone_text node x ∷ undone_from point node (drop (i + 1) entries)
      else undone_from point node (drop (i + 1) entries))
  left-is =
      ap (undone_from point node) (drop_more entries i x below ∙ ap (λ e. e ∷ drop (i + 1) entries) is)
      ∙ sym (chosen (nat_le point x.interval) node x (entries_from point (drop (i + 1) entries)))

  pub undone-next : (old new : List ℕ) (before some : Bool) → AreLeft start all others old (undone_from point node (drop i entries)) before →
      IsAddedIf (nat_le point x.interval) (undone_text node x) old new before some →
      AreLeft start all others new (undone_from point node (drop (i + 1) entries)) some
  undone-next old new before some h step = record {
    written =
        added-first old new (undone_text node x) (undone_from point node (drop (i + 1) entries)) (nat_le point x.interval) before some step
        ∙ ap (λ t. old ++ with_commas before t) (sym left-is) ∙ h.written;
    known =
        known-first (nat_le point x.interval) before some (undone_text node x) (undone_from point node (drop (i + 1) entries)) step.known
        ∙ ap (λ t. before || are_some t) (sym left-is) ∙ h.known;
  }

or-false : (b : Bool) → b ≡ (b || false)
or-false true = refl
or-false false = refl

-- none is left
pub undone-end : (start new : List ℕ) (all : List (List ℕ)) (point node : ℕ) (entries : List LogEntry) (i : ℕ) (others some : Bool) →
    length entries ≤ i → AreLeft start all others new (undone_from point node (drop i entries)) some → AreAdded all start new others some
undone-end start new all point node entries i others some past h =
    let none : undone_from point node (drop i entries) ≡ [] = ap (undone_from point node) (drop_all i entries past) in
    record {
      written = sym (append-nil new) ∙ ap (λ t. new ++ with_commas some t) (sym none) ∙ h.written;
      known = or-false some ∙ ap (λ t. some || are_some t) (sym none) ∙ h.known;
    }

pub undone-starts : (start : List ℕ) (all : List (List ℕ)) (others : Bool) → AreLeft start all others start all others
undone-starts start all others = record { written = refl; known = refl }

-- those of one node
abbrev pub undone_at : State → ℕ → List (List ℕ)
undone_at s n = undone_from s.fabric.point n (node_at s.fabric n).log

undone-more : (i m : ℕ) (s : State) → m ≡ suc i → undone_texts m s ≡ undone_texts i s ++ undone_at s i
undone-more i m s e = rw e refl

pub undone-nodes : (start old new : List ℕ) (i n : ℕ) (s : State) (others some : Bool) → n ≡ i → AreBehind start old (undone_texts i s) others →
    AreAdded (undone_at s n) old new others some → AreBehind start new (undone_texts (i + 1) s) some
undone-nodes start old new i n s others some e before found =
    let next : i + 1 ≡ suc i = omega arith in
    let step = subst (λ (x : ℕ). AreAdded (undone_at s x) old new others some) e found in
    subst (λ t. AreBehind start new t some) (sym (undone-more i (i + 1) s next))
    (behind-more start old new (undone_texts i s) (undone_at s i) others some before step)
