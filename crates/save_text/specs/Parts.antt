-- The parts of a save file, in their order.
use Rattle.std.specs.Prelude.{ℕ}
use Rattle.save_text.specs.declared.part.Part.{Part}
use Rattle.save_text.specs.declared.part.Part.TheVariants.{Top, Head, Config, Marks, Dead, Owners, Given, Committed, End}

-- how many parts stand before it
abbrev pub rank_of : Part → ℕ
rank_of Top = 0
rank_of Head = 1
rank_of Config = 2
rank_of Marks = 3
rank_of Dead = 4
rank_of Owners = 5
rank_of Given = 6
rank_of Committed = 7
rank_of End = 8
