use Rattle.std.proofs.Common.{◌≡◌, ℕ, nat_le, List, length, Some, sym, ap, subst, ◌∙◌}
use Rattle.shared_machine.specs.Machine.{MachineData}
use Rattle.shared_machine.specs.Shared.{LockedData, refusal_of}
use Rattle.node_threads.specs.Finishes.{Put}
use Rattle.node_threads.proofs.Finishing.{run-of, finish-kept, ends-of, drained-ok}
use Rattle.node_threads.proofs.run.finish.Goals as goal

pub returns-clause-run : goal.returns-clause-run
returns-clause-run g c =
    run-of c.audit-count.new.self g.L.RunName.began c.end-machine.result.machine c.end-machine.result.journal.items
    c.end-machine.result.answers.items
    c.end-machine.ensures.kept c.end-machine.ensures.began c.end-machine.ensures.same.0 c.end-machine.ensures.same.1
    c.end-machine.ensures.same.2

pub returns-clause-ends : goal.returns-clause-ends
returns-clause-ends g c = λ before was h.
    let shown : c.released.result.now ≡ c.end-machine.result.machine.state.released =
    c.released.ensures ∙ ap (λ (m : MachineData). m.state.released) c.recovered.ensures.shown in
    ends-of g.L.RunName.began c.end-machine.result.journal.items c.end-machine.result.machine.state.released before
    (g.C.Sink.written c.put_rest-put.new.console) was (g.C.Sink.faults c.put_rest-put.new.console)
    c.put_rest-put.result c.close-closed.result c.finish_after.result c.finish_after.ensures
    (λ sound. finish-kept c.audit-count.new.self g.L.RunName.began c.end-machine.result.journal.items c.close-closed.result
    c.end-machine.ensures.kept c.end-machine.ensures.began c.end-machine.ensures.same.1
    (subst (λ (s : LockedData). refusal_of s.driver s.machine (nat_le s.budget (length s.journal)) ≡ Some c.close-closed.result)
    (sym c.audit-count.ensures.same.0)
    (c.close-closed.ensures.finish (drained-ok c.args.drained c.put_rest-put.result c.put_rest-put.ensures.failed sound))))
    (subst (λ (t : List ℕ). Put c.put_rest-put.result t before (g.C.Sink.written c.put_rest-put.new.console) was
    (g.C.Sink.faults c.put_rest-put.new.console)) shown
    (c.put_rest-put.ensures.put before was h))
