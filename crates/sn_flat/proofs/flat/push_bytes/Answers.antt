use Rattle.std.proofs.Common.{◌≡◌, suc, ◌+◌, [], ◌∷◌, ◌++◌, arith, ap, ◌∙◌, append_assoc}
use Rattle.sn_base.specs.Image.{byte_at, bytes_from}
use Rattle.sn_flat.proofs.Bytes.{bytes_from-push}
use Rattle.sn_flat.proofs.flat.push_bytes.Goals as goal

pub bytes-preserved : goal.bytes-preserved
bytes-preserved c =
    let e : suc c.bytes.place ≡ c.bytes.place + 1 = omega arith in
    c.in_ok-push.ensures.items
    ∙ ap (λ bytes. bytes ++ c.byte.result ∷ []) c.bytes.invariant
    ∙ ap (λ byte. (c.args.memory.now.items ++ bytes_from c.bytes.place c.args.image.now.segments c.args.start) ++ byte ∷ []) c.byte.ensures
    ∙ append_assoc c.args.memory.now.items (bytes_from c.bytes.place c.args.image.now.segments c.args.start)
    (byte_at c.args.image.now.segments (c.args.start + c.bytes.place) ∷ [])
    ∙ ap (λ bytes. c.args.memory.now.items ++ bytes) (bytes_from-push c.bytes.place c.args.image.now.segments c.args.start)
    ∙ ap (λ n. c.args.memory.now.items ++ bytes_from n c.args.image.now.segments c.args.start) e
