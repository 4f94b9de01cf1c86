use Rattle.std.proofs.Common.{◌≡◌, ◌+◌, ◌*◌, ◌%◌, ◌<◌, [], ◌∷◌, ◌++◌, ap, sym, ◌∙◌, arith}
use Rattle.sn_base.specs.Blocks.{stored_in}
use Rattle.sn_base.specs.Image.{byte_at, bytes_from}
use Rattle.sn_base.proofs.Bytes.{bytes_more, stored_more, whole_stored}
use Rattle.sn_base.proofs.content.given_content.Goals as goal

-- one byte more is there
pub bytes-preserved : goal.bytes-preserved
bytes-preserved c =
    let i : c.bytes.place < 64 = omega arith in
    let m : c.from-in-bytes.result % 256 ≡ c.byte-byte.result = omega arith in
    let v : c.from-in-bytes.result % 256 ≡ byte_at c.args.image.now.segments (2147483648 + 64 * c.from.result + c.bytes.place) = m
    ∙ c.byte-byte.ensures in
    let s : c.store.new.self ≡ stored_in c.bytes.content c.bytes.place (c.from-in-bytes.result % 256 ∷ []) = c.store.ensures in
    record {
      whole = rw s (whole_stored c.bytes.content c.bytes.place _ c.bytes.invariant.whole i);
      same = rw s
          (stored_more c.bytes.content c.bytes.place (c.from-in-bytes.result % 256) (omega arith)
          ∙ ap (λ xs. xs ++ (c.from-in-bytes.result % 256) ∷ []) c.bytes.invariant.same
          ∙ ap (λ b. bytes_from c.bytes.place c.args.image.now.segments (2147483648 + 64 * c.from.result) ++ b ∷ []) v
          ∙ sym (bytes_more c.bytes.place c.args.image.now.segments (2147483648 + 64 * c.from.result)));
    }
