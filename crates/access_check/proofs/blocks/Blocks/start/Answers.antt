use Rattle.std.proofs.Common.{◌≡◌, add-one, length, take, replicate, get_or, slice_get, Some, None, subst, sym, ap, ◌∙◌}
use Rattle.std.proofs.lemmas.Option.{slice_get-get_or}
use Rattle.access_check.specs.Legal.{memory_of, with_words, zeros}
use Rattle.std.proofs.lemmas.List.{length-replicate, get_or-replicate}
use Rattle.std.proofs.lemmas.List.Elements.{All-get_or}
use Rattle.access_check.specs.declared.access.StartWord.{StartWord}
use Rattle.access_check.specs.Accesses.{IsFittingWord}
use Rattle.access_check.specs.Blocks.{Shows, Stands}
use Rattle.access_check.proofs.Starts.{words_more, word_size, zero_stands, zero_cell, zeros_size}
use Rattle.access_check.proofs.blocks.Blocks.start.Goals as goal

pub words-init : goal.words-init
words-init c =
    let cells = c.in_ok-cells.cells.items in
    let all = c.in_ok-cells.ensures.items_if_clones_equal (λ y h. h) ∙ ap (replicate 65536) c.zero.ensures in
    record {
      wide = ap length all ∙ length-replicate 65536 zero_cell;
      size = zeros_size;
      shows = record {
        cells = λ b d l. subst (λ xs. Stands (get_or xs b d) ((memory_of zeros).blocks b)) (sym all)
            (subst (λ x. Stands x ((memory_of zeros).blocks b)) (sym (get_or-replicate 65536 b zero_cell d l)) (zero_stands b l));
        reserved = λ n d l. get_or-replicate 16 n None d l;
      };
    }

pub words-preserved : goal.words-preserved
words-preserved c =
    let xs = c.args.words.now in
    let k = c.words.place in
    let d : StartWord = record { address = 0; word = 0 } in
    let w = get_or xs k d in
    let e : slice_get xs k ≡ Some w = slice_get-get_or xs k d c.words-test.true in
    let fits : IsFittingWord w = All-get_or IsFittingWord xs k d c.words-test.true c.requires in
    let more = words_more zeros xs k w e in
    let bytes = with_words zeros (take k xs) in
    record {
      wide = c.put.ensures.wide;
      size = rw add-one (ap length more ∙ word_size bytes w.address w.word c.words.invariant.size fits);
      shows = rw add-one (subst (λ x. Shows c.put.new.self (memory_of x)) (sym more) (c.put.ensures.shows bytes c.words.invariant.size c.words.invariant.shows));
    }
