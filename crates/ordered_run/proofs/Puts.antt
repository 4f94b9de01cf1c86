-- What the console has of a turn's bytes, after those of the turns before it.
use Rattle.std.proofs.Common.{◌≡◌, ℕ, ◌≤◌, List, ◌++◌, take, drop, length, Option, None, sym, ap, subst, ◌∙◌, arith, append_assoc}
use Rattle.std.proofs.Common.{length-append}
use Rattle.std.proofs.lemmas.List.{take-append-drop, take_at}
use Rattle.sn_io.specs.Outside.{followed_by}
use Rattle.sn_consistency.specs.Committed.{Begins}
use Rattle.sn_console.specs.Handed.{IsHandedOn, IsBegun}
use Rattle.sn_machine.specs.Machine.{MachineData}
use Rattle.node_run.proofs.Puts.{written-none, written-then, written-begun}
use Rattle.sink_pieces.specs.Pieces.{ends, after, Breaks, console_piece, HasBeginning, console_text}
use Rattle.sink_pieces.proofs.Begun.{console-after, console-begun, console_text-piece}

-- the bytes beyond the first so many of what is released
module _ (released text : List ℕ) (had : ℕ) (written writes : Option (List ℕ)) (is : text ≡ drop had released) where
  pub put-whole : ((r : Option (List ℕ)) → ends writes r ≡ after (ends written r) (console_piece text)) →
      IsHandedOn (take had released) released written writes
  put-whole put = record {
    more = drop had released;
    grown = take-append-drop had released;
    put = console-after (ends written None) (ends writes None) (console_piece text) (put None)
        ∙ ap (followed_by written) (console_text-piece text ∙ is);
  }

  pub put-begun : ((r : Option (List ℕ)) → Breaks (console_piece text) (ends written r) (ends writes r)) →
      IsBegun (take had released) released written writes
  put-begun broke =
      let b = broke None in
      let h : HasBeginning (console_text (console_piece text)) written writes =
      console-begun (console_piece text) b.whole b.rest b.piece b.count (ends written None) (ends writes None) b.all b.put in
      record {
        more = h.put;
        begun = record {
          rest = h.left;
          whole = append_assoc (take had released) h.put h.left
              ∙ ap (λ t. take had released ++ t) (h.whole ∙ console_text-piece text ∙ is) ∙ take-append-drop had released;
        };
        put = h.written;
      }

-- before the first turn, and after a turn that left the machine as it was
pub put-none : (released : List ℕ) (written : Option (List ℕ)) → IsHandedOn released released written written
put-none released written = written-none released written

pub put-same : (first : List ℕ) (m n : MachineData) (u v : Option (List ℕ)) → n ≡ m → IsHandedOn first m.state.released u v →
    IsHandedOn first n.state.released u v
put-same first m n u v is h = subst (λ (x : MachineData). IsHandedOn first x.state.released u v) (sym is) h

-- a turn that left these bytes released, after ones that did those
module _ (first before behind had_bytes : List ℕ) (had : ℕ) (u v w : Option (List ℕ)) (grows : Begins before behind) (bytes : had_bytes ≡ before) (count : had ≡ length had_bytes) where
  same : had ≡ length before
  same = count ∙ ap (λ (l : List ℕ). length l) bytes

  taken : take had behind ≡ before
  taken = ap (take had) grows.is ∙ take_at before grows.more had (sym same)

  pub had-few : had ≤ length behind
  had-few =
      let many = ap (λ (l : List ℕ). length l) grows.is in let all = length-append before grows.more in omega (arith, same, many, all)

  pub then-whole : IsHandedOn first before u v → IsHandedOn (take had behind) behind v w → IsHandedOn first behind u w
  then-whole h k = written-then first before behind u v w h (subst (λ (l : List ℕ). IsHandedOn l behind v w) taken k)

  pub then-begun : IsHandedOn first before u v → IsBegun (take had behind) behind v w → IsBegun first behind u w
  then-begun h k = written-begun first before behind u v w h (subst (λ (l : List ℕ). IsBegun l behind v w) taken k)
