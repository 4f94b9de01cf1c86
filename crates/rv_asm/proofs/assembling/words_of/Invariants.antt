use Rattle.std.proofs.Common.{◌≡◌, [], drop, map, vec_len}
use Rattle.rv_asm.specs.Assembly.{words_from}
use Rattle.rv_asm.specs.Lists.{place_in, item_seen}
use Rattle.rv_asm.proofs.assembling.words_of.Given as goal

abbrev pub invariant-items : goal.invariant-items
invariant-items l = record {
  same : words_from (place_in l.labels) l.words.items (map item_seen (drop l.item-index l.items))
      ≡ words_from (place_in l.labels) [] (map item_seen l.items);
  many : vec_len l.words ≡ l.item-index;
}
