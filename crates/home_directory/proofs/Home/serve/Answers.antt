use Rattle.std.proofs.Common.{sym, ap, ◌∙◌}
use Rattle.sn_model.specs.declared.rows.HomeRow.{HomeRow}
use Rattle.home_directory.specs.Home.{with_entry}
use Rattle.home_directory.specs.Receipt.{Verdict, left_by}
use Rattle.home_directory.specs.Serving.{at_block, reply_of, verdict_for}
use Rattle.home_directory.proofs.Verdicts.{busy_of, lacks_of, same_home, served}
use Rattle.home_directory.proofs.Home.serve.Goals as goal

-- a refusal leaves the home as it is

pub returns-in-HomeBusy-clause-home : goal.returns-in-HomeBusy-clause-home
returns-in-HomeBusy-clause-home c =
    let v = busy_of (verdict_for c.args.log.now.limit (at_block c.args.self.now c.args.log.now c.args.message.now.block) c.args.now c.args.message.now c.args.asked.now)
    (sym c.look_at-row.ensures.look ∙ c.in-HomeBusy.is) in
    rw v (same_home c.args.self.now c.args.message.now.block)

pub returns-in-LogFull-clause-home : goal.returns-in-LogFull-clause-home
returns-in-LogFull-clause-home c =
    let v = lacks_of (verdict_for c.args.log.now.limit (at_block c.args.self.now c.args.log.now c.args.message.now.block) c.args.now c.args.message.now c.args.asked.now)
    (sym c.look_at-row.ensures.look ∙ c.in-LogFull.is) in
    rw v (same_home c.args.self.now c.args.message.now.block)

-- a row that is done leaves what the verdict says

pub returns-in-Sends-clause-home : goal.returns-in-Sends-clause-home
returns-in-Sends-clause-home c =
    let w = served c.args.log.now.limit (at_block c.args.self.now c.args.log.now c.args.message.now.block) c.args.now c.args.message.now c.args.asked.now c.in-Sends.field-0
    (sym c.look_at-row.ensures.look ∙ c.in-Sends.is) in
    c.carry_out.ensures.home
    ∙ ap (λ (x : HomeRow). with_entry c.args.self.now c.args.message.now.block
    (reply_of c.args.self.now c.args.log.now c.args.now c.args.message.now x).after.entry) c.look_at-row.ensures.row
    ∙ ap (λ (v : Verdict). with_entry c.args.self.now c.args.message.now.block (left_by (at_block c.args.self.now c.args.log.now c.args.message.now.block) v).entry) (sym w.verdict)

pub returns-in-Sends-clause-log : goal.returns-in-Sends-clause-log
returns-in-Sends-clause-log c =
    let w = served c.args.log.now.limit (at_block c.args.self.now c.args.log.now c.args.message.now.block) c.args.now c.args.message.now c.args.asked.now c.in-Sends.field-0
    (sym c.look_at-row.ensures.look ∙ c.in-Sends.is) in
    c.carry_out.ensures.log
    ∙ ap (λ (x : HomeRow). record c.args.log.now {
      entries = (reply_of c.args.self.now c.args.log.now c.args.now c.args.message.now x).after.log;
    }) c.look_at-row.ensures.row
    ∙ ap (λ (v : Verdict). record c.args.log.now { entries = (left_by (at_block c.args.self.now c.args.log.now c.args.message.now.block) v).log }) (sym w.verdict)
