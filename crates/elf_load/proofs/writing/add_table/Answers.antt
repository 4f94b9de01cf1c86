use Rattle.std.proofs.Common.{arith, ◌+◌, ◌++◌, ◌∙◌, ap, sym, subst, drop, ℕ, List}
use Rattle.sn_base.specs.Image.{SegmentData, IsSegment}
use Rattle.elf_load.specs.Writing.{table_from, header_bytes}
use Rattle.elf_load.proofs.Written.{table-step}
use Rattle.elf_load.proofs.writing.add_table.Goals as goal

pub segments-preserved : goal.segments-preserved
segments-preserved c =
    let rest = drop (c.segments.segment-index + 1) c.args.segments.now in
    let s = c.segment-item.result in
    let good = subst (λ (t : SegmentData). IsSegment t) (sym c.segment-item.is)
    (c.requires.each c.segments.segment-index s c.segments-test.true) in
    record {
      same =
          ap (λ (l : List ℕ). l ++ table_from rest (c.segments.place + c.file_size-place.result)) c.in_ok-add_header.ensures
          ∙ ap (λ (n : ℕ). (c.segments.file.items ++ header_bytes s c.segments.place)
          ++ table_from rest (c.segments.place + n)) c.file_size-place.ensures
          ∙ table-step c.segments.file.items c.args.segments.now c.segments.segment-index s s c.segments.place c.segments-test.true c.segment-item.is
          ∙ c.segments.invariant.same;
      near = omega (arith, good.filled, good.above, good.below, c.file_size-place.ensures, c.segments.invariant.near);
    }
