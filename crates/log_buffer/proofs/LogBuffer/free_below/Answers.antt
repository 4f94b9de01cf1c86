use Rattle.std.proofs.Common.{◌≡◌, ◌∙◌, ◌≤◌, ℕ, List, ◌++◌, arith, length, take, ap}
use Rattle.std.proofs.lemmas.List.{take-append-le}
use Rattle.log_buffer.specs.Log.{entries_from}
use Rattle.log_buffer.specs.Index.{Stored, entries_of}
use Rattle.log_buffer.proofs.Entries.{IsLog-from}
use Rattle.log_buffer.proofs.LastPlace.{take-take}
use Rattle.log_buffer.proofs.LogBuffer.free_below.Goals as goal

-- the list is cut after the entries that stay
cut : (now new rest was old : List Stored) (w n k : ℕ) → now ≡ take w (take n (new ++ rest)) → w ≤ length new → w ≤ n →
    entries_of (take w new) ≡ entries_from k (entries_of old) → old ≡ was →
    (now ≡ take w new) × (entries_of now ≡ entries_from k (entries_of was))
cut now new rest was old w n k h l m e o =
    let t = h ∙ (take-take w n (new ++ rest) m ∙ take-append-le w new rest l) in
    (t, ap entries_of t ∙ (e ∙ ap (λ (ss : List Stored). entries_from k (entries_of ss)) o))

pub invariant_of-self : goal.invariant_of-self
invariant_of-self c =
    let e = cut _ _ _ c.self.inside.stored.items _ _ _ c.args.k c.truncate.ensures.items c.close_up-kept.ensures.within
    (omega arith) c.close_up-kept.ensures.kept c.as_mut_slice.ensures.value in
    record {
      log = rw e.1 (IsLog-from c.args.k (entries_of c.self.inside.stored.items) c.self.inside.limit c.self.invariant.log);
      index = rw e.0 c.close_up-kept.ensures.indexed;
      room = omega arith;
      few = c.self.invariant.few;
    }

pub returns : goal.returns
returns c =
    let e = cut _ _ _ c.self.inside.stored.items _ _ _ c.args.k c.truncate.ensures.items c.close_up-kept.ensures.within
    (omega arith) c.close_up-kept.ensures.kept c.as_mut_slice.ensures.value in
    rw (← c.self.view_is, e.1)
