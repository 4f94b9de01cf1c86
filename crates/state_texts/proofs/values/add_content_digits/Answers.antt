use Rattle.state_texts.proofs.Registers.{digits-none, digits-next}
use Rattle.state_texts.proofs.values.add_content_digits.Goals as goal

pub bytes-init : goal.bytes-init
bytes-init c = digits-none c.args.text.now.items c.args.content.now

pub bytes-preserved : goal.bytes-preserved
bytes-preserved c =
    digits-next c.args.text.now.items c.bytes.text.items _ c.args.content.now c.bytes.place c.byte_at.result c.bytes.invariant
    c.in_ok-add_digits.ensures c.byte_at.ensures
