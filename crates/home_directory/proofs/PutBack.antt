-- A home after the holder of one block was put back, and after its transactions were closed.
use Rattle.std.proofs.Common.{◌≡◌, ◌≢◌, ℕ, zero, suc, ◌+◌, ◌*◌, ◌/◌, ◌%◌, ◌<◌, Bool, true, false, List, [], ◌∷◌, length, get_or, set, refl}
use Rattle.std.proofs.Common.{sym, ap, ◌∙◌, arith, get_or-set_same, get_or-set_other}
use Rattle.std.specs.Prelude.{nat_eq, if◌then◌else◌, map, Option}
use Rattle.std.proofs.lemmas.Bool.Decides.{nat_tests}
use Rattle.std.proofs.lemmas.Nat.{div-add-mod'}
use Rattle.sn_base.specs.declared.log.Old.{Old}
use Rattle.sn_base.specs.declared.log.Old.TheVariants.{NotOwned}
use Rattle.log_buffer.specs.Log.{is_home_side}
use Rattle.rollback.specs.Unwound.{contents_with_old}
use Rattle.sn_model.specs.Homes.{HomeEntry, Holder, Transaction}
use Rattle.sn_model.specs.Fabric.{no_entry}
use Rattle.home_directory.specs.Home.{HomeData, entry_of}
use Rattle.home_directory.specs.Open.{opens_from, with_open}
use Rattle.home_directory.specs.Restored.{entry_without_sharers, old_of, is_here, had, CanHave, with_holder}

-- the block of an old content that a home can have is its own
pub here-put : (home : HomeData) (block : ℕ) (old : Old) → is_home_side old ≡ true → CanHave home (contents_with_old true (had home) block old) →
    block % home.nodes ≡ home.node
here-put home block old side can = by_test (is_here home block) refl
  where
    put_here : (contents_with_old true (had home) block old) block ≡ NotOwned → old ≡ NotOwned
    put_here e = let s : nat_eq block block ≡ true = grind (arith, nat_tests) in grind (arith, nat_tests)

    by_test : (c : Bool) → is_here home block ≡ c → block % home.nodes ≡ home.node
    by_test true h = grind (arith, nat_tests)
    by_test false h = let n : old ≡ NotOwned = put_here (can block h) in absurd (grind arith)

one_place : (a b n : ℕ) → a % n ≡ b % n → a / n ≡ b / n → a ≡ b
one_place a b n r q =
    let e : a / n * n + a % n ≡ a = div-add-mod' a n in
    let f : b / n * n + b % n ≡ b = div-add-mod' b n in
    let g : a / n * n ≡ b / n * n = ap (λ (k : ℕ). k * n) q in
    omega arith

module _ (home : HomeData) (block : ℕ) (holder : Holder) (here : block % home.nodes ≡ home.node) (inside : block / home.nodes < length home.entries) where
  abbrev put : HomeEntry
  put = record (entry_of home block) { holder = holder }

  other_home : (b : ℕ) → nat_eq (b % home.nodes) home.node ≡ false → nat_eq block b ≡ true → ⊥
  other_home b h e =
      let q : block ≡ b = grind (arith, nat_tests) in let r : block % home.nodes ≡ b % home.nodes = ap (λ (k : ℕ). k % home.nodes) q in
      grind (arith, nat_tests)

  read_same : (b : ℕ) → nat_eq block b ≡ true → get_or (set home.entries (block / home.nodes) put) (b / home.nodes) no_entry ≡ put
  read_same b e =
      let q : block ≡ b = grind (arith, nat_tests) in
      ap (λ (k : ℕ). get_or (set home.entries (block / home.nodes) put) (k / home.nodes) no_entry) (sym q)
      ∙ get_or-set_same home.entries (block / home.nodes) put no_entry inside

  apart : (b : ℕ) → nat_eq (b % home.nodes) home.node ≡ true → nat_eq block b ≡ false → b / home.nodes ≢ block / home.nodes
  apart b h e q =
      let r : b % home.nodes ≡ block % home.nodes = grind (arith, nat_tests) in
      let s : b ≡ block = one_place b block home.nodes r q in
      grind (arith, nat_tests)

  had_step : (b : ℕ) (c t : Bool) → is_here home b ≡ c → nat_eq block b ≡ t →
      (if c then old_of (entry_of (with_holder home block holder) b).holder else NotOwned)
      ≡ (if t then old_of holder else if c then old_of (entry_of home b).holder else NotOwned)
  had_step b false false h e = refl
  had_step b false true h e = absurd (other_home b h e)
  had_step b true true h e = ap (λ (x : HomeEntry). old_of x.holder) (read_same b e)
  had_step b true false h e =
      ap (λ (x : HomeEntry). old_of x.holder)
      (get_or-set_other home.entries (block / home.nodes) (b / home.nodes) put no_entry (apart b h e))

  pub had-put : (b : ℕ) → had (with_holder home block holder) b ≡ (if nat_eq block b then old_of holder else had home b)
  had-put b = had_step b (is_here home b) (nat_eq block b) refl refl

-- the list of the open transactions

pub opens-put : (entries : List HomeEntry) (start place : ℕ) (other default : HomeEntry) → place < length entries →
    other.transaction ≡ (get_or entries place default).transaction →
    opens_from start (set entries place other) ≡ opens_from start entries
opens-put [] start place other default l e = absurd (omega arith)
opens-put (first ∷ entries) start zero other default l e =
    ap (λ (t : Option Transaction). with_open start t (opens_from (start + 1) entries)) e
opens-put (first ∷ entries) start (suc place) other default l e =
    ap (with_open start first.transaction) (opens-put entries (start + 1) place other default (omega arith) e)

pub opens-cleared : (entries : List HomeEntry) (start : ℕ) → opens_from start (map entry_without_sharers entries) ≡ []
opens-cleared [] start = refl
opens-cleared (first ∷ entries) start = opens-cleared entries (start + 1)
