-- A core of the program stands at one of eight words, with what it needs there, and its step leaves it at the next.
use Rattle.std.proofs.Common.{◌≡◌, ◌≢◌, ◌⊎◌, inl, inr, ℕ, zero, suc, ◌+◌, ◌%◌, ◌^◌, ◌<◌, Bool, true, false, List, [], ◌∷◌, ◌++◌, length}
use Rattle.std.proofs.Common.{get_or, set, map, replicate, Option, Some, None, Ok, nat_eq, if◌then◌else◌, refl, sym, ap, ◌∙◌, subst, arith}
use Rattle.std.proofs.Common.{length-set, length-append}
use Rattle.std.proofs.Math.Nat.{mod-eq_of_lt}
use Rattle.std.proofs.Math.Seq.{get_or-append_seam}
use Rattle.std.specs.Prelude.{ℤ, pos, negsuc, slice_index}
use Rattle.std.proofs.lemmas.Bool.{cases_order}
use Rattle.std.proofs.lemmas.List.{get_or-set_same, get_or-set_other, get_or-map, get_or_append_left, length-map}
use Rattle.sn_base.specs.Blocks.{ram_start}
use Rattle.sn_base.specs.Image.{word_fetched}
use Rattle.sn_base.specs.declared.block.Width.TheVariants.{Word}
use Rattle.sn_base.specs.declared.block.Write.{Write}
use Rattle.rv_decode.specs.declared.instr.Instr.{Instr}
use Rattle.rv_decode.specs.declared.instr.Instr.TheVariants.{Lui, Jal, OpImm, Ecall, Amo}
use Rattle.rv_decode.specs.declared.operations.ImmOp.TheVariants.{Addi, Andi}
use Rattle.rv_decode.specs.declared.operations.AmoOp.TheVariants.{Amoadd}
use Rattle.rv_decode.specs.Decoded.{instruction_at}
use Rattle.rv_core.specs.declared.state.CoreState.{CoreState}
use Rattle.rv_core.specs.declared.state.End.TheVariants.{Exited}
use Rattle.rv_core.specs.declared.state.Cause.TheVariants.{UnknownCall}
use Rattle.rv_core.specs.declared.step.Record.{Record}
use Rattle.rv_core.specs.Access.{fault_of}
use Rattle.rv_core.specs.Arithmetic.{sum, as_word, amo_result}
use Rattle.rv_core.specs.Core.{start_of, register, core_with_trap, is_running, is_reserved, block_of, bare}
use Rattle.rv_core.specs.Execution.{state_after, end_of}
use Rattle.rv_core.specs.Flat.{FlatState, flat_start, first_cores, core_at, after_write, flat_step, next_by}
use Rattle.rv_core.specs.Step.{Next, becomes, writing, gets, jumps, put_out, took_in, unless_fault, instruction_of, does, does_next}
use Rattle.rv_core.specs.Step.{next_of}
use Rattle.counting_program.specs.Program.{counting_image}

-- where a core stands, by its program counter and its registers

abbrev pub HasWord : List ℕ → Type 0
HasWord x = slice_index x 5 ≡ 0x80001000

abbrev pub HasCall : List ℕ → Type 0
HasCall x = slice_index x 17 ≡ 1

pub data Stands (pc : ℕ) (x : List ℕ) : Type 0 where
  AtStart : (at : pc ≡ 0x80000000) → Stands pc x
  AtOne : (at : pc ≡ 0x80000004) (word : HasWord x) → Stands pc x
  AtAdd : (at : pc ≡ 0x80000008) (word : HasWord x) → Stands pc x
  AtMask : (at : pc ≡ 0x8000000c) (word : HasWord x) → Stands pc x
  AtDigit : (at : pc ≡ 0x80000010) (word : HasWord x) → Stands pc x
  AtNumber : (at : pc ≡ 0x80000014) (word : HasWord x) → Stands pc x
  AtCall : (at : pc ≡ 0x80000018) (word : HasWord x) (call : HasCall x) → Stands pc x
  AtJump : (at : pc ≡ 0x8000001c) (word : HasWord x) → Stands pc x

pub record IsCounting (core : CoreState) : Type 0 where
  pub runs : is_running core.end ≡ true
  pub room : length core.x ≡ 32
  pub stands : Stands core.pc core.x

-- the instruction of each word

abbrev IsAt : ℕ → Instr → Type 0
IsAt pc i = instruction_of (word_fetched counting_image.segments pc) ≡ Ok i

is_start : IsAt 0x80000000 (Lui 5 0x80001000)
unfolding instruction_at
is_start = refl

is_one : IsAt 0x80000004 (OpImm Addi 6 0 (pos 1))
unfolding instruction_at
is_one = refl

is_add : IsAt 0x80000008 (Amo Amoadd 7 5 6)
unfolding instruction_at
is_add = refl

is_mask : IsAt 0x8000000c (OpImm Andi 10 7 (pos 63))
unfolding instruction_at
is_mask = refl

is_digit : IsAt 0x80000010 (OpImm Addi 10 10 (pos 48))
unfolding instruction_at
is_digit = refl

is_number : IsAt 0x80000014 (OpImm Addi 17 0 (pos 1))
unfolding instruction_at
is_number = refl

is_call : IsAt 0x80000018 Ecall
unfolding instruction_at
is_call = refl

is_jump : IsAt 0x8000001c (Jal 0 (negsuc 19))
unfolding instruction_at
is_jump = refl

next-is : (core : CoreState) (seen : ℕ) (done : Bool) (read : Option ℕ) (pc : ℕ) (i : Instr) → core.pc ≡ pc → IsAt pc i →
    next_of counting_image core seen done read ≡ does counting_image i core seen done read
unfolding next_of
next-is core seen done read pc i h e =
    ap (λ p. does_next counting_image (instruction_of (word_fetched counting_image.segments p)) core seen done read) h
    ∙ ap (λ r. does_next counting_image r core seen done read) e

-- one step

kept : (x : List ℕ) (rd value : ℕ) → rd ≢ 5 → HasWord x → HasWord (set x rd value)
kept x rd value other word = get_or-set_other x rd 5 value 0 (λ e. other (sym e)) ∙ word

module _ (core : CoreState) (seen : ℕ) (done : Bool) (read : Option ℕ) (runs : is_running core.end ≡ true) (room : length core.x ≡ 32) where
  from : (pc : ℕ) (i : Instr) (next : Next) → core.pc ≡ pc → IsAt pc i → does counting_image i core seen done read ≡ next →
      IsCounting next.core →
      IsCounting (next_of counting_image core seen done read).core
  from pc i next h e d k = subst (λ (n : Next). IsCounting n.core) (sym (next-is core seen done read pc i h e ∙ d)) k

  -- a register is written, and the next word is next
  written : (rd value pc : ℕ) → Stands pc (set core.x rd value) → core.pc + 4 ≡ pc → pc < 2 ^ 32 →
      IsCounting (record core { pc = (core.pc + 4) % 2 ^ 32; x = set core.x rd value })
  written rd value pc stands e l = record {
    runs = runs;
    room = length-set core.x rd value ∙ room;
    stands = subst (λ p. Stands p (set core.x rd value)) (sym (ap (λ p. p % 2 ^ 32) e ∙ mod-eq_of_lt l)) stands;
  }

  step : Stands core.pc core.x → IsCounting (next_of counting_image core seen done read).core
  step (AtStart at) = from _ _ _ at is_start refl
      (written 5 0x80001000 0x80000004 (AtOne refl (get_or-set_same core.x 5 0x80001000 0 (omega (arith, room)))) (omega (arith, at))
      (omega arith))
  step (AtOne at word) = from _ _ _ at is_one refl
      (written 6 _ 0x80000008 (AtAdd refl (kept core.x 6 _ (omega arith) word)) (omega (arith, at)) (omega arith))
  step (AtAdd at word) = from _ _ _ at is_add
      (ap (λ a. unless_fault (fault_of counting_image Word true a) core
      (writing (gets core 7 seen) (register core 5) Word (amo_result Amoadd seen (register core 6)))) word)
      (written 7 seen 0x8000000c (AtMask refl (kept core.x 7 seen (omega arith) word)) (omega (arith, at)) (omega arith))
  step (AtMask at word) = from _ _ _ at is_mask refl
      (written 10 _ 0x80000010 (AtDigit refl (kept core.x 10 _ (omega arith) word)) (omega (arith, at)) (omega arith))
  step (AtDigit at word) = from _ _ _ at is_digit refl
      (written 10 _ 0x80000014 (AtNumber refl (kept core.x 10 _ (omega arith) word)) (omega (arith, at)) (omega arith))
  step (AtNumber at word) = from _ _ _ at is_number refl
      (written 17 1 0x80000018 (AtCall refl (kept core.x 17 1 (omega arith) word) (get_or-set_same core.x 17 1 0 (omega (arith, room))))
      (omega (arith, at)) (omega arith))
  step (AtCall at word call) = from _ _ _ at is_call
      (ap (λ a. if nat_eq a 1 then put_out core else if nat_eq a 2 then becomes (took_in core read)
      else if nat_eq a 93 then becomes (record core { end = Exited (register core 10) }) else becomes (core_with_trap core UnknownCall)) call)
      (record { runs = runs; room = room; stands = AtJump (ap (λ p. (p + 4) % 2 ^ 32) at) word })
  step (AtJump at word) = from _ _ _ at is_jump (ap (λ p. becomes (jumps core 0 (sum p (as_word (negsuc 19))))) at)
      (record { runs = runs; room = room; stands = AtAdd refl word })

pub counts_on : (core : CoreState) (seen : ℕ) (done : Bool) (read : Option ℕ) → IsCounting core →
    IsCounting (next_of counting_image core seen done read).core
counts_on core seen done read c = step core seen done read c.runs c.room c.stands

-- all cores of the flat machine

by_test : (test : Bool) (a b : CoreState) → IsCounting a → IsCounting b → IsCounting (if test then a else b)
by_test true a b first second = first
by_test false a b first second = second

counts_after : (w : Option Write) (core : CoreState) → IsCounting core → IsCounting (after_write w core)
counts_after None core c = c
counts_after (Some w) core c =
    by_test (is_reserved core.reservation (block_of w.address)) (bare core) core
    (record { runs = c.runs; room = c.room; stands = c.stands }) c

abbrev AllCount : List CoreState → Type 0
AllCount cores = (n : ℕ) (d : CoreState) → n < length cores → IsCounting (get_or cores n d)

all_after : (w : Option Write) (cores : List CoreState) (node : ℕ) (next : CoreState) → AllCount cores →
    (node < length cores → IsCounting next) → AllCount (set (map (after_write w) cores) node next)
all_after w cores node next all one n d l = go (cases_order n node)
  where
    count : length (set (map (after_write w) cores) node next) ≡ length cores
    count = length-set (map (after_write w) cores) node next ∙ length-map cores (after_write w)

    here : n < length cores
    here = omega (arith, l, count)

    other : n ≢ node → IsCounting (get_or (set (map (after_write w) cores) node next) n d)
    other ne =
        subst IsCounting (sym (get_or-set_other (map (after_write w) cores) node n next d ne ∙ get_or-map (after_write w) cores n d d here))
        (counts_after w (get_or cores n d) (all n d here))

    go : ((n ≡ node) ⊎ ((n < node) ⊎ (node < n))) → IsCounting (get_or (set (map (after_write w) cores) node next) n d)
    go (inl e) = let m : node < length (map (after_write w) cores) = omega (arith, e, here, length-map cores (after_write w)) in
        subst IsCounting (sym (ap (λ k. get_or (set (map (after_write w) cores) node next) k d) e
        ∙ get_or-set_same (map (after_write w) cores) node next d m)) (one (omega (arith, e, here)))
    go (inr (inl h)) = other (omega (arith, h))
    go (inr (inr h)) = other (omega (arith, h))

all_along : (records : List Record) (flat : FlatState) → AllCount flat.cores → AllCount (state_after counting_image flat records).cores
all_along [] flat all = all
all_along (r ∷ records) flat all =
    all_along records (flat_step counting_image flat r)
    (all_after _ flat.cores r.core _ all (λ l. counts_on (core_at flat r.core) r.seen r.sc_done r.read (all r.core (start_of 0 0) l)))

count_along : (records : List Record) (flat : FlatState) → length (state_after counting_image flat records).cores ≡ length flat.cores
count_along [] flat = refl
count_along (r ∷ records) flat =
    count_along records (flat_step counting_image flat r)
    ∙ length-set (map (after_write (next_by counting_image flat r).effect.write) flat.cores) r.core (next_by counting_image flat r).core
    ∙ length-map flat.cores (after_write (next_by counting_image flat r).effect.write)

-- the start

counts_first : (n : ℕ) → IsCounting (start_of n ram_start)
counts_first n = record { runs = refl; room = length-set (replicate 32 0) 10 n; stands = AtStart refl }

count_first : (nodes : ℕ) → length (first_cores nodes ram_start) ≡ nodes
count_first zero = refl
count_first (suc n) = omega (arith, length-append (first_cores n ram_start) (start_of n ram_start ∷ []), count_first n)

all_first : (nodes : ℕ) → AllCount (first_cores nodes ram_start)
all_first zero n d l = absurd (omega (arith, l))
all_first (suc k) n d l = go (cases_order n k) (λ h. all_first k n d h)
  where
    cores : List CoreState
    cores = first_cores k ram_start

    below : n < k → n < length cores
    below h = omega (arith, h, count_first k)

    go : ((n ≡ k) ⊎ ((n < k) ⊎ (k < n))) → (n < length cores → IsCounting (get_or cores n d)) →
        IsCounting (get_or (cores ++ start_of k ram_start ∷ []) n d)
    go (inl e) earlier = let i : n ≡ length cores = omega (arith, e, count_first k) in
        subst IsCounting (sym (ap (λ j. get_or (cores ++ start_of k ram_start ∷ []) j d) i
        ∙ get_or-append_seam cores (start_of k ram_start) [] d)) (counts_first k)
    go (inr (inl h)) earlier =
        subst IsCounting (sym (get_or_append_left cores (start_of k ram_start ∷ []) d n (below h))) (earlier (below h))
    go (inr (inr h)) earlier = absurd (omega (arith, h, l, length-append cores (start_of k ram_start ∷ []), count_first k))

pub none_ends : (nodes n : ℕ) (records : List Record) → n < nodes → is_running (core_at (end_of counting_image nodes records) n).end ≡ true
none_ends nodes n records l =
    (all_along records (flat_start counting_image nodes) (all_first nodes) n (start_of 0 0)
    (omega (arith, l, count_along records (flat_start counting_image nodes), count_first nodes))).runs
