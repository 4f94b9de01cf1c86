use Rattle.std.proofs.Common.{◌≡◌, false, sym, ap, ◌∙◌}
use Rattle.sn_model.specs.declared.look.Look.TheVariants.{Sends}
use Rattle.sn_model.specs.HomeRows.{noted_by_home}
use Rattle.home_directory.specs.Serving.{lacks_room}
use Rattle.home_directory.proofs.Verdicts.{looks_done}
use Rattle.home_directory.proofs.receive.look_by.Goals as goal

-- the row is done, and sends as many
pub returns : goal.returns
returns c =
    let k : lacks_room c.args.log.now (noted_by_home c.args.entry.now c.args.now c.args.message.now.tag c.args.row.now)
    c.args.message.now.block ≡ false = cc in
    ap Sends c.count_sends.ensures
    ∙ looks_done c.args.now c.args.message.now c.args.asked.now c.args.log.now c.args.entry.now c.args.row.now
    c.lacks_room.ensures.good.within (sym c.waits.ensures ∙ c.if-waits.false) c.requires k
