use Rattle.std.proofs.Common.{◌≡◌, ℕ, ◌<◌, true}
use Rattle.sn_base.specs.declared.log.Old.TheVariants.{WasHome}
use Rattle.home_directory.specs.Restored.{is_here, had, Stays}
use Rattle.sn_fabric.specs.Resumed.{content_in}
use Rattle.sn_fabric.proofs.resuming.give_contents.Given as goal

-- the blocks before this one have their contents
abbrev pub invariant-numbers : goal.invariant-numbers
invariant-numbers l = record {
  held : (b : ℕ) → b < l.number → is_here l.home b ≡ true → had l.home b ≡ WasHome (content_in l.contents b);
  stays : Stays l.initial.home l.home;
}
