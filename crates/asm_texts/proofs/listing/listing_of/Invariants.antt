use Rattle.std.proofs.Common.{◌≡◌, ◌+◌, ◌-◌, ◌*◌}
use Rattle.std.specs.Option.{is_some}
use Rattle.sn_base.specs.Blocks.{ram_start}
use Rattle.sn_base.specs.Image.{word_fetched}
use Rattle.asm_texts.specs.Texts.{first_lines}
use Rattle.asm_texts.proofs.listing.listing_of.Given as goal

abbrev pub invariant-places : goal.invariant-places
invariant-places l = record {
  written : l.text.items ≡ first_lines l.image.segments l.place;
  next : l.is_next ≡ is_some (word_fetched l.image.segments (ram_start + 4 * l.place - 4));
}
