use Rattle.std.proofs.Common.{sym, subst}
use Rattle.sn_model.specs.declared.rows.CacheRow.{CacheRow}
use Rattle.mosi_cache.specs.Rows.{reply_of, IsRowDone}
use Rattle.mosi_cache.proofs.cache.Cache.carry_out.Goals as goal

pub returns-in-ForwardRead-clause-done : goal.returns-in-ForwardRead-clause-done
returns-in-ForwardRead-clause-done c =
    subst (λ (b : CacheRow). IsRowDone c.args.self.now c.forward_read.new.self c.forward_read.result
    (reply_of c.args.self.now c.args.log.now c.args.now c.args.message.now b)) (sym c.in-ForwardRead.is) (c.forward_read.ensures c.args.log.now.entries)

pub returns-in-ForwardWrite-clause-done : goal.returns-in-ForwardWrite-clause-done
returns-in-ForwardWrite-clause-done c =
    subst (λ (b : CacheRow). IsRowDone c.args.self.now c.forward_write.new.self c.forward_write.result
    (reply_of c.args.self.now c.args.log.now c.args.now c.args.message.now b)) (sym c.in-ForwardWrite.is) (c.forward_write.ensures.done c.args.log.now.entries)

pub returns-in-Invalidate-clause-done : goal.returns-in-Invalidate-clause-done
returns-in-Invalidate-clause-done c =
    subst (λ (b : CacheRow). IsRowDone c.args.self.now c.invalidate.new.self c.invalidate.result
    (reply_of c.args.self.now c.args.log.now c.args.now c.args.message.now b)) (sym c.in-Invalidate.is) (c.invalidate.ensures c.args.log.now.entries)

pub returns-in-PutGo-clause-done : goal.returns-in-PutGo-clause-done
returns-in-PutGo-clause-done c =
    subst (λ (b : CacheRow). IsRowDone c.args.self.now c.put_go.new.self c.put_go.result
    (reply_of c.args.self.now c.args.log.now c.args.now c.args.message.now b)) (sym c.in-PutGo.is) (c.put_go.ensures.done c.args.log.now.entries)

pub returns-in-PutDone-clause-done : goal.returns-in-PutDone-clause-done
returns-in-PutDone-clause-done c =
    subst (λ (b : CacheRow). IsRowDone c.args.self.now c.put_done.new.self c.put_done.result
    (reply_of c.args.self.now c.args.log.now c.args.now c.args.message.now b)) (sym c.in-PutDone.is) (c.put_done.ensures c.args.log.now.entries)
