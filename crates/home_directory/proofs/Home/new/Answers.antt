use Rattle.std.proofs.Common.{false, length, ap, sym, ◌∙◌, arith}
use Rattle.std.proofs.lemmas.List.{length-replicate}
use Rattle.home_directory.specs.Home.{places_of}
use Rattle.home_directory.specs.Open.{opens_from}
use Rattle.home_directory.proofs.Starts.{length_entries, nothing_open, cleared_first}
use Rattle.home_directory.proofs.Home.new.Goals as goal

-- nothing is open at the start
pub invariant_of-result : goal.invariant_of-result
invariant_of-result c = (
  record {
    inside = c.requires.inside;
    few = c.requires.few;
    filled =
        ap length c.in_ok-entries.ensures ∙ length_entries (places_of c.args.node c.args.nodes) c.args.image.now c.args.node c.args.nodes;
  },
  c.in_ok-opens.ensures.items
      ∙ sym (ap (opens_from 0) c.in_ok-entries.ensures
      ∙ nothing_open (places_of c.args.node c.args.nodes) 0 c.args.image.now c.args.node c.args.nodes),
  omega (arith, c.in_ok-opens.ensures.capacity, c.len.ensures),
  record {
    whole = omega (arith, ap length c.in_ok-touched.ensures ∙ length-replicate c.len-2.result false, c.len-2.ensures);
    others =
        λ p k. rw c.in_ok-entries.ensures (cleared_first (places_of c.args.node c.args.nodes) c.args.image.now c.args.node c.args.nodes p);
  },
)
