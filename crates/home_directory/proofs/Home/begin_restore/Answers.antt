use Rattle.std.proofs.Common.{◌≡◌, length, sym, ap, ◌∙◌, arith}
use Rattle.home_directory.specs.Open.{opens_from}
use Rattle.home_directory.proofs.Restored.{length-cleared}
use Rattle.home_directory.proofs.PutBack.{opens-cleared}
use Rattle.home_directory.proofs.Listing.{cleared-begun}
use Rattle.home_directory.proofs.Home.begin_restore.Goals as goal

-- nothing is open
pub invariant_of-self : goal.invariant_of-self
invariant_of-self c =
    let e : length c.clear_entries.new.entries ≡ length c.self.inside.entries = ap length c.clear_entries.ensures
    ∙ length-cleared c.self.inside.entries in (
      record {
        inside = c.self.invariant.0.inside;
        few = c.self.invariant.0.few;
        filled = e ∙ c.self.invariant.0.filled;
      },
      c.clear-2.ensures.items ∙ sym (ap (opens_from 0) c.clear_entries.ensures ∙ opens-cleared c.self.inside.entries 0),
      omega (arith, e, c.self.invariant.2, c.clear-2.ensures.capacity),
      rw (c.clear.ensures, c.clear_entries.ensures) (cleared-begun c.self.inside.touched c.self.inside.entries c.self.invariant.3),
    )
