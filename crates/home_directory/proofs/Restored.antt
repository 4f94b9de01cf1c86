-- A home that is put back to a checkpoint is the machine's restored home, entry by entry.
use Rattle.std.proofs.Common.{◌≡◌, ℕ, zero, suc, ◌+◌, ◌/◌, ◌%◌, ◌<◌, Bool, true, false, List, [], ◌∷◌, length, get_or, refl, sym, ap, ◌∙◌}
use Rattle.std.proofs.Common.{arith}
use Rattle.std.specs.Prelude.{nat_eq, nat_le, ◌&&◌, if◌then◌else◌, map, Option, Some, None, unwrap_or, ⊤}
use Rattle.std.specs.Option.{option_map}
use Rattle.std.proofs.lemmas.Bool.Decides.{nat_tests}
use Rattle.sn_base.specs.declared.log.Old.{Old}
use Rattle.sn_base.specs.declared.log.Old.TheVariants.{NotOwned, Owned, WasHome, WasCache}
use Rattle.log_buffer.specs.Log.{LogEntry, is_home_side, is_about, earlier, entry_at, old_at}
use Rattle.rollback.specs.Unwound.{content_unwound}
use Rattle.sn_model.specs.Homes.{HomeEntry, Holder, Itself, OfCache, Transaction, no_sharers}
use Rattle.sn_model.specs.Cuts.{named_by}
use Rattle.sn_model.specs.Fabric.{Fabric, home_of, no_entry}
use Rattle.sn_model.specs.PointEvents.{log_of_home, restored_homes}
use Rattle.home_directory.specs.Home.{HomeData, entry_of}
use Rattle.home_directory.specs.Restored.{entry_without_sharers, begun_restore, old_of, is_here, had, CanHave, Stays}

-- what a home has, it can have
pub can-had : (home : HomeData) → CanHave home (had home)
can-had home b other = rw other refl

-- an old content of the home's side

abbrev IsSided : Option LogEntry → Type 0
IsSided None = ⊤
IsSided (Some e) = is_home_side e.old ≡ true

earlier_sided : (e : LogEntry) (r : Option LogEntry) → is_home_side e.old ≡ true → IsSided r → is_home_side (earlier e r).old ≡ true
earlier_sided e None h g = h
earlier_sided e (Some f) h g = choice (nat_le e.interval f.interval)
  where
    choice : (t : Bool) → is_home_side (if t then e else f).old ≡ true
    choice true = h
    choice false = g

sided_step : (b k : ℕ) (e : LogEntry) (r : Option LogEntry) (c : Bool) → (is_about true b e && nat_le k e.interval) ≡ c → IsSided r →
    IsSided (if c then Some (earlier e r) else r)
sided_step b k e r true h g = earlier_sided e r (grind arith) g
sided_step b k e r false h g = g

sided : (log : List LogEntry) (b k : ℕ) → IsSided (entry_at log true b k)
sided [] b k = tt
sided (e ∷ log) b k = sided_step b k e (entry_at log true b k) (is_about true b e && nat_le k e.interval) refl (sided log b k)

-- the holder that it names

old_named : (old : Old) (holder : Holder) → is_home_side old ≡ true → old ≡ old_of (named_by (Some old) holder)
old_named NotOwned holder h = absurd (cc)
old_named (Owned content) holder h = absurd (cc)
old_named (WasHome content) holder h = refl
old_named (WasCache node) holder h = refl

named : (o : Option LogEntry) (holder : Holder) → IsSided o →
    unwrap_or (option_map (λ (e : LogEntry). e.old) o) (old_of holder) ≡ old_of (named_by (option_map (λ (e : LogEntry). e.old) o) holder)
named None holder h = refl
named (Some e) holder h = old_named e.old holder h

one_holder : (h g : Holder) → old_of h ≡ old_of g → h ≡ g
one_holder (Itself content) (Itself other) e = cc
one_holder (Itself content) (OfCache node) e = cc
one_holder (OfCache node) (Itself content) e = cc
one_holder (OfCache node) (OfCache other) e = cc

-- an entry by its three parts
pub entry_by : (x : HomeEntry) (holder : Holder) (sharers : List Bool) (transaction : Option Transaction) → x.holder ≡ holder →
    x.sharers ≡ sharers → x.transaction ≡ transaction →
    x ≡ record { holder = holder; sharers = sharers; transaction = transaction }
entry_by x holder sharers transaction h s t =
    ap (λ (y : Holder). record x { holder = y }) h
    ∙ ap (λ (y : List Bool). record x { holder = holder; sharers = y }) s
    ∙ ap (λ (y : Option Transaction). record { holder = holder; sharers = sharers; transaction = y }) t

pub cleared-at : (entries : List HomeEntry) (place : ℕ) →
    get_or (map entry_without_sharers entries) place no_entry ≡ entry_without_sharers (get_or entries place no_entry)
cleared-at [] place = refl
cleared-at (entry ∷ entries) zero = refl
cleared-at (entry ∷ entries) (suc place) = cleared-at entries place

pub length-cleared : (entries : List HomeEntry) → length (map entry_without_sharers entries) ≡ length entries
length-cleared [] = refl
length-cleared (entry ∷ entries) = ap suc (length-cleared entries)

-- the machine's entry at its place

abbrev restored_entry : List LogEntry → ℕ → ℕ → HomeEntry → HomeEntry
restored_entry log k b entry = record { holder = named_by (old_at log true b k) entry.holder; sharers = no_sharers; transaction = None }

restored-from : (s : Fabric) (k start : ℕ) (homes : List HomeEntry) (i : ℕ) → i < length homes →
    get_or (restored_homes s k start homes) i no_entry ≡ restored_entry (log_of_home s (start + i)) k (start + i) (get_or homes i no_entry)
restored-from s k start [] i l = absurd (omega arith)
restored-from s k start (entry ∷ homes) zero l =
    let e : start ≡ start + zero = omega arith in ap (λ (b : ℕ). restored_entry (log_of_home s b) k b entry) e
restored-from s k start (entry ∷ homes) (suc i) l =
    let e : start + 1 + i ≡ start + suc i = omega arith in
    restored-from s k (start + 1) homes i (omega arith) ∙ ap (λ (b : ℕ). restored_entry (log_of_home s b) k b (get_or homes i no_entry)) e

pub restored-at : (s : Fabric) (k b : ℕ) → b < length s.homes →
    get_or (restored_homes s k 0 s.homes) b no_entry ≡ restored_entry (log_of_home s b) k b (home_of s b)
restored-at s k b l =
    let e : 0 + b ≡ b = omega arith in
    restored-from s k 0 s.homes b l ∙ ap (λ (j : ℕ). restored_entry (log_of_home s j) k j (home_of s b)) e

-- a home that began to be put back, and into which a log was unwound
module _ (c d e : HomeData) (log : List LogEntry) (k : ℕ) (begun : d ≡ begun_restore c) (held : (b : ℕ) → had e b ≡ content_unwound log true k (had d) b) (stays : Stays d e) (b : ℕ) (here : b % c.nodes ≡ c.node) where
  nodes_are : e.nodes ≡ c.nodes
  nodes_are = stays.nodes ∙ ap (λ (x : HomeData). x.nodes) begun

  begun-here : is_here d b ≡ true
  begun-here = ap (λ (x : HomeData). is_here x b) begun ∙ same c.node here
    where
      same : (n : ℕ) → b % c.nodes ≡ n → nat_eq (b % c.nodes) n ≡ true
      same n h = grind (arith, nat_tests)

  last-here : is_here e b ≡ true
  last-here = ap (λ (j : ℕ). nat_eq (b % j) e.node) stays.nodes ∙ ap (λ (j : ℕ). nat_eq (b % d.nodes) j) stays.node ∙ begun-here

  entry-begun : entry_of d b ≡ entry_without_sharers (entry_of c b)
  entry-begun = ap (λ (x : HomeData). entry_of x b) begun ∙ cleared-at c.entries (b / c.nodes)

  had-begun : had d b ≡ old_of (entry_of c b).holder
  had-begun =
      ap (λ (t : Bool). if t then old_of (entry_of d b).holder else NotOwned) begun-here
      ∙ ap (λ (x : HomeEntry). old_of x.holder) entry-begun

  had-last : had e b ≡ old_of (entry_of e b).holder
  had-last = ap (λ (t : Bool). if t then old_of (entry_of e b).holder else NotOwned) last-here

  holder-last : (entry_of e b).holder ≡ named_by (old_at log true b k) (entry_of c b).holder
  holder-last = one_holder (entry_of e b).holder (named_by (old_at log true b k) (entry_of c b).holder)
      (sym had-last ∙ held b ∙ ap (unwrap_or (old_at log true b k)) had-begun
      ∙ named (entry_at log true b k) (entry_of c b).holder (sided log b k))

  place-last : b / e.nodes ≡ b / d.nodes
  place-last = ap (λ (j : ℕ). b / j) stays.nodes

  sharers-last : (entry_of e b).sharers ≡ no_sharers
  sharers-last =
      ap (λ (p : ℕ). (get_or e.entries p no_entry).sharers) place-last ∙ stays.sharers (b / d.nodes)
      ∙ ap (λ (x : HomeEntry). x.sharers) entry-begun

  transaction-last : (entry_of e b).transaction ≡ None
  transaction-last =
      ap (λ (p : ℕ). (get_or e.entries p no_entry).transaction) place-last ∙ stays.transactions (b / d.nodes)
      ∙ ap (λ (x : HomeEntry). x.transaction) entry-begun

  pub entry-restored : entry_of e b ≡ restored_entry log k b (entry_of c b)
  entry-restored =
      entry_by (entry_of e b)
      (named_by (old_at log true b k) (entry_of c b).holder) no_sharers None holder-last sharers-last transaction-last

-- so it is the machine's
pub restored-is : (s : Fabric) (c d e : HomeData) (k b : ℕ) → d ≡ begun_restore c →
    ((j : ℕ) → had e j ≡ content_unwound (log_of_home s b) true k (had d) j) → Stays d e →
    b % c.nodes ≡ c.node → home_of s b ≡ entry_of c b → b < length s.homes → entry_of e b ≡ get_or (restored_homes s k 0 s.homes) b no_entry
restored-is s c d e k b begun held stays here home l =
    entry-restored c d e (log_of_home s b) k begun held stays b here
    ∙ ap (restored_entry (log_of_home s b) k b) (sym home)
    ∙ sym (restored-at s k b l)

-- what an unwinding leaves, a home can have, where the log has nothing of blocks of other homes
pub unwound-can : (c d : HomeData) (log : List LogEntry) (k : ℕ) → d ≡ begun_restore c →
    ((b : ℕ) → is_here c b ≡ false → old_at log true b k ≡ None) → CanHave d (content_unwound log true k (had d))
unwound-can c d log k begun none b other =
    let h : is_here c b ≡ false = sym (ap (λ (x : HomeData). is_here x b) begun) ∙ other in
    ap (λ (o : Option Old). unwrap_or o (had d b)) (none b h) ∙ can-had d b other
