use Rattle.std.proofs.Common.{sym, subst}
use Rattle.sn_model.specs.declared.rows.HomeRow.{HomeRow}
use Rattle.sn_model.specs.HomeRows.{home_reply}
use Rattle.home_directory.specs.Receipt.{entry_as_it_is}
use Rattle.home_directory.specs.Serving.{IsRowDone}
use Rattle.home_directory.proofs.receive.do_row.Goals as goal

pub returns-in-ReadAtHome-clause-did : goal.returns-in-ReadAtHome-clause-did
returns-in-ReadAtHome-clause-did c =
    subst (λ (b : HomeRow). IsRowDone (entry_as_it_is c.read_at_home.new.entry c.args.log.now.entries) c.read_at_home.result
    (home_reply (entry_as_it_is c.args.entry.now c.args.log.now.entries) c.args.message.now.block c.args.now c.args.message.now.tag
    c.args.message.now.from b)) (sym c.in-ReadAtHome.is) (c.read_at_home.ensures c.args.log.now.entries)

pub returns-in-ReadAtOwner-clause-did : goal.returns-in-ReadAtOwner-clause-did
returns-in-ReadAtOwner-clause-did c =
    subst (λ (b : HomeRow). IsRowDone (entry_as_it_is c.read_at_owner.new.entry c.args.log.now.entries) c.read_at_owner.result
    (home_reply (entry_as_it_is c.args.entry.now c.args.log.now.entries) c.args.message.now.block c.args.now c.args.message.now.tag
    c.args.message.now.from b)) (sym c.in-ReadAtOwner.is) (c.read_at_owner.ensures c.args.log.now.entries)

pub returns-in-MoveOwnership-clause-did : goal.returns-in-MoveOwnership-clause-did
returns-in-MoveOwnership-clause-did c =
    subst (λ (b : HomeRow). IsRowDone (entry_as_it_is c.move_ownership.new.entry c.args.log.now.entries) c.move_ownership.result
    (home_reply (entry_as_it_is c.args.entry.now c.args.log.now.entries) c.args.message.now.block c.args.now c.args.message.now.tag
    c.args.message.now.from b)) (sym c.in-MoveOwnership.is) (c.move_ownership.ensures c.args.log.now.entries)

pub returns-in-Upgrade-clause-did : goal.returns-in-Upgrade-clause-did
returns-in-Upgrade-clause-did c =
    subst (λ (b : HomeRow). IsRowDone (entry_as_it_is c.upgrade.new.entry c.args.log.now.entries) c.upgrade.result
    (home_reply (entry_as_it_is c.args.entry.now c.args.log.now.entries) c.args.message.now.block c.args.now c.args.message.now.tag
    c.args.message.now.from b)) (sym c.in-Upgrade.is) (c.upgrade.ensures c.args.log.now.entries)

pub returns-in-PutBegins-clause-did : goal.returns-in-PutBegins-clause-did
returns-in-PutBegins-clause-did c =
    subst (λ (b : HomeRow). IsRowDone (entry_as_it_is c.put_begins.new.entry c.args.log.now.entries) c.put_begins.result
    (home_reply (entry_as_it_is c.args.entry.now c.args.log.now.entries) c.args.message.now.block c.args.now c.args.message.now.tag
    c.args.message.now.from b)) (sym c.in-PutBegins.is) (c.put_begins.ensures c.args.log.now.entries)

pub returns-in-PutIsStale-clause-did : goal.returns-in-PutIsStale-clause-did
returns-in-PutIsStale-clause-did c =
    subst (λ (b : HomeRow). IsRowDone (entry_as_it_is c.args.entry.now c.args.log.now.entries) c.put_is_stale.result
    (home_reply (entry_as_it_is c.args.entry.now c.args.log.now.entries) c.args.message.now.block c.args.now c.args.message.now.tag
    c.args.message.now.from b)) (sym c.in-PutIsStale.is) (c.put_is_stale.ensures c.args.entry.now c.args.log.now.entries)
