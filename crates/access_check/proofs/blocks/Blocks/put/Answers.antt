use Rattle.std.proofs.Common.{◌≡◌, ◌-◌, ◌%◌, ◌<◌, length, get_or, refl, ap, ◌∙◌, arith}
use Rattle.std.proofs.lemmas.List.{get_or_default}
use Rattle.byteorder.specs.Endian.{little_bytes}
use Rattle.sn_base.specs.Blocks.{ram_start, stored_in}
use Rattle.rv_core.specs.Core.{block_of}
use Rattle.access_check.specs.declared.cell.Cell.{Cell}
use Rattle.access_check.proofs.Starts.{put_shows}
use Rattle.access_check.proofs.blocks.Blocks.put.Goals as goal

pub returns-clause-shows : goal.returns-clause-shows
returns-clause-shows c = λ bytes e s.
    let k = block_of c.args.word.now.address in
    let items = c.args.self.now.cells.items in
    let old = c.index_mut.result.now in
    let cell : Cell = record { content = c.store.new.self; intact = old.intact } in
    let wide = c.requires.wide in
    let fits = c.requires.fits in
    let room : k < length items = omega (arith, wide, fits.1) in
    let found : old ≡ get_or items k cell = c.index_mut.ensures.value ∙ get_or_default items k old cell room in
    let bytes_of_word = little_bytes 4 c.args.word.now.word in
    put_shows c.args.self.now _ cell bytes c.args.word.now.address c.args.word.now.word e fits wide s
    (c.store.ensures ∙ ap (λ i. stored_in old.content i bytes_of_word) c.offset-place.ensures.same
    ∙ ap (λ x. stored_in x.content ((c.args.word.now.address - ram_start) % 64) bytes_of_word) found)
    (ap (λ x. x.intact) found) refl refl
