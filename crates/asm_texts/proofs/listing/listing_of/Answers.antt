use Rattle.std.proofs.Common.{◌≡◌, ℕ, ◌+◌, ◌-◌, ◌*◌, Bool, Option, List, ◌++◌, sym, ap, ◌∙◌, arith}
use Rattle.std.specs.Option.{is_some}
use Rattle.sn_base.specs.Blocks.{ram_start}
use Rattle.sn_base.specs.Image.{word_fetched}
use Rattle.asm_texts.specs.Texts.{lines_at, first_lines}
use Rattle.asm_texts.proofs.Steps.{lines-none, lines-more, lines-all}
use Rattle.asm_texts.proofs.listing.listing_of.Goals as goal

pub places-init : goal.places-init
places-init c = record {
  written = c.new-text.ensures.items ∙ sym (lines-none c.args.image.now.segments);
  next = c.is_some-is_next.ensures ∙ ap is_some c.fetch.ensures;
}

pub places-preserved : goal.places-preserved
places-preserved c =
    let segments = c.args.image.now.segments in
    let place = c.places.place in
    let here : ℕ = ram_start + 4 * place in
    let same : ram_start + 4 * (place + 1) - 4 ≡ ram_start + 4 * place = omega arith in
    record {
      written =
          c.in_ok-add_lines.ensures
          ∙ ap (λ (t : List ℕ). t ++ lines_at c.places.is_next here c.fetch-word.result) c.places.invariant.written
          ∙ ap (λ (b : Bool). first_lines segments place ++ lines_at b here c.fetch-word.result) c.places.invariant.next
          ∙ ap (λ (w : Option ℕ). first_lines segments place
          ++ lines_at (is_some (word_fetched segments (here - 4))) here w) c.fetch-word.ensures
          ∙ sym (lines-more segments place);
      next =
          c.is_some-is_next-in-places.ensures ∙ ap is_some c.fetch-word.ensures ∙ ap (λ (a : ℕ). is_some (word_fetched segments a)) (sym same);
    }

pub returns : goal.returns
returns c =
    c.places.invariant.written
    ∙ lines-all c.args.image.now.segments c.places.place (omega (arith, c.places-test.false, c.places.auto.place-end))
