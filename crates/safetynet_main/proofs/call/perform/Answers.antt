use Rattle.safetynet_main.proofs.CallLaws.{follows-check, follows-judge}
use Rattle.safetynet_main.proofs.JobEnds.{follows-replay, follows-replay_counted, follows-replay_accesses, follows-states, follows-roll}
use Rattle.safetynet_main.proofs.JobEnds.{follows-run, follows-threads, follows-watch, follows-order, follows-counted, follows-seeds}
use Rattle.safetynet_main.proofs.JobEnds.{nothing-replay, nothing-states, nothing-roll, nothing-run, nothing-seeds}
use Rattle.safetynet_main.proofs.JobEnds.{cause-replay, cause-states, cause-roll, cause-run, cause-seeds}
use Rattle.safetynet_main.proofs.Saves.{follows-save, follows-resume}
use Rattle.safetynet_main.proofs.call.perform.Goals as goal

pub returns-in-Replay-clause-follows : goal.returns-in-Replay-clause-follows
returns-in-Replay-clause-follows g c =
    follows-replay _ c.args.job c.replay_status.result _ _ _ _ c.in-Replay.job c.replay.result c.in-Replay.is c.replay_status.ensures.done
    c.replay_status.ensures.sink c.replay_status.ensures.memory c.replay.ensures.ok
    c.replay.ensures.sink

pub returns-in-Replay-clause-nothing : goal.returns-in-Replay-clause-nothing
returns-in-Replay-clause-nothing g c =
    nothing-replay c.replay.result c.replay_status.result _ _ _ _ c.replay_status.ensures.done c.replay_status.ensures.sink c.replay.ensures.memory

pub returns-in-Replay-clause-cause : goal.returns-in-Replay-clause-cause
returns-in-Replay-clause-cause g c = cause-replay c.replay.result c.replay_status.result _ c.replay_status.ensures.done
    c.replay_status.ensures.memory c.replay.ensures.cause

pub returns-in-Counted-clause-follows : goal.returns-in-Counted-clause-follows
returns-in-Counted-clause-follows g c =
    follows-replay_counted _ c.args.job c.replay_status-in-Counted.result _ _ _ _ c.in-Counted.job c.replay_counted.result c.in-Counted.is
    c.replay_status-in-Counted.ensures.done c.replay_status-in-Counted.ensures.sink c.replay_status-in-Counted.ensures.memory
    c.replay_counted.ensures.ok
    c.replay_counted.ensures.sink

pub returns-in-Counted-clause-nothing : goal.returns-in-Counted-clause-nothing
returns-in-Counted-clause-nothing g c =
    nothing-replay c.replay_counted.result c.replay_status-in-Counted.result _ _ _ _ c.replay_status-in-Counted.ensures.done
    c.replay_status-in-Counted.ensures.sink c.replay_counted.ensures.memory

pub returns-in-Counted-clause-cause : goal.returns-in-Counted-clause-cause
returns-in-Counted-clause-cause g c = cause-replay c.replay_counted.result c.replay_status-in-Counted.result _
    c.replay_status-in-Counted.ensures.done c.replay_status-in-Counted.ensures.memory c.replay_counted.ensures.cause

pub returns-in-Accesses-clause-follows : goal.returns-in-Accesses-clause-follows
returns-in-Accesses-clause-follows g c =
    follows-replay_accesses _ c.args.job c.replay_status-in-Accesses.result _ _ _ _ c.in-Accesses.job c.replay_accesses.result c.in-Accesses.is
    c.replay_status-in-Accesses.ensures.done c.replay_status-in-Accesses.ensures.sink c.replay_status-in-Accesses.ensures.memory
    c.replay_accesses.ensures.ok
    c.replay_accesses.ensures.sink

pub returns-in-Accesses-clause-nothing : goal.returns-in-Accesses-clause-nothing
returns-in-Accesses-clause-nothing g c =
    nothing-replay c.replay_accesses.result c.replay_status-in-Accesses.result _ _ _ _ c.replay_status-in-Accesses.ensures.done
    c.replay_status-in-Accesses.ensures.sink c.replay_accesses.ensures.memory

pub returns-in-Accesses-clause-cause : goal.returns-in-Accesses-clause-cause
returns-in-Accesses-clause-cause g c = cause-replay c.replay_accesses.result c.replay_status-in-Accesses.result _
    c.replay_status-in-Accesses.ensures.done c.replay_status-in-Accesses.ensures.memory c.replay_accesses.ensures.cause

pub returns-in-States-clause-follows : goal.returns-in-States-clause-follows
returns-in-States-clause-follows g c =
    follows-states _ c.args.job c.states_status.result _ _ _ _ c.in-States.job c.replay_states.result c.in-States.is c.states_status.ensures.done
    c.states_status.ensures.sink c.states_status.ensures.memory c.replay_states.ensures.ok
    c.replay_states.ensures.sink

pub returns-in-States-clause-nothing : goal.returns-in-States-clause-nothing
returns-in-States-clause-nothing g c =
    nothing-states _ _ c.args.job c.in-States.job c.replay_states.result c.states_status.result _ _ _ _ _ c.in-States.is
    c.states_status.ensures.done c.states_status.ensures.sink c.states_status.ensures.memory
    c.replay_states.ensures.memory

pub returns-in-States-clause-cause : goal.returns-in-States-clause-cause
returns-in-States-clause-cause g c = cause-states c.replay_states.result c.states_status.result _ c.states_status.ensures.done
    c.states_status.ensures.memory c.replay_states.ensures.cause

pub returns-in-Roll-clause-follows : goal.returns-in-Roll-clause-follows
returns-in-Roll-clause-follows g c =
    follows-roll _ c.args.job c.roll_status.result _ _ _ _ c.in-Roll.job c.roll.result c.in-Roll.is c.roll_status.ensures.done
    c.roll_status.ensures.sink c.roll_status.ensures.memory c.roll.ensures.ok
    c.roll.ensures.sink

pub returns-in-Roll-clause-nothing : goal.returns-in-Roll-clause-nothing
returns-in-Roll-clause-nothing g c =
    nothing-roll c.roll.result c.roll_status.result _ _ _ _ c.roll_status.ensures.done c.roll_status.ensures.sink c.roll.ensures.memory

pub returns-in-Roll-clause-cause : goal.returns-in-Roll-clause-cause
returns-in-Roll-clause-cause g c = cause-roll c.roll.result c.roll_status.result _ c.roll_status.ensures.done c.roll_status.ensures.memory
    c.roll.ensures.cause

pub returns-in-Run-clause-follows : goal.returns-in-Run-clause-follows
returns-in-Run-clause-follows g c =
    follows-run _ c.args.job c.run_status.result _ _ _ _ _ c.in-Run.job c.run.result c.in-Run.is c.run_status.ensures.done
    c.run_status.ensures.sink c.run_status.ensures.memory c.run.ensures.ok
    c.run.ensures.sink

pub returns-in-Run-clause-nothing : goal.returns-in-Run-clause-nothing
returns-in-Run-clause-nothing g c =
    nothing-run c.run.result c.run_status.result _ _ _ _ c.run_status.ensures.done c.run_status.ensures.sink c.run.ensures.memory

pub returns-in-Run-clause-cause : goal.returns-in-Run-clause-cause
returns-in-Run-clause-cause g c = cause-run c.run.result c.run_status.result _ c.run_status.ensures.done c.run_status.ensures.memory
    c.run.ensures.cause

pub returns-in-CountedByThreads-clause-follows : goal.returns-in-CountedByThreads-clause-follows
returns-in-CountedByThreads-clause-follows g c =
    follows-threads _ c.args.job c.run_status-in-CountedByThreads.result _ _ _ _ _ c.in-CountedByThreads.job c.run_counted_by_threads.result
    c.in-CountedByThreads.is c.run_status-in-CountedByThreads.ensures.done c.run_status-in-CountedByThreads.ensures.sink
    c.run_status-in-CountedByThreads.ensures.memory c.run_counted_by_threads.ensures.ok
    c.run_counted_by_threads.ensures.sink

pub returns-in-CountedByThreads-clause-nothing : goal.returns-in-CountedByThreads-clause-nothing
returns-in-CountedByThreads-clause-nothing g c =
    nothing-run c.run_counted_by_threads.result c.run_status-in-CountedByThreads.result _ _ _ _ c.run_status-in-CountedByThreads.ensures.done
    c.run_status-in-CountedByThreads.ensures.sink c.run_counted_by_threads.ensures.memory

pub returns-in-CountedByThreads-clause-cause : goal.returns-in-CountedByThreads-clause-cause
returns-in-CountedByThreads-clause-cause g c = cause-run c.run_counted_by_threads.result c.run_status-in-CountedByThreads.result _
    c.run_status-in-CountedByThreads.ensures.done c.run_status-in-CountedByThreads.ensures.memory c.run_counted_by_threads.ensures.cause

pub returns-in-Monitor-clause-follows : goal.returns-in-Monitor-clause-follows
returns-in-Monitor-clause-follows g c =
    follows-watch _ c.args.job c.run_status-in-Monitor.result _ _ _ _ _ c.in-Monitor.job c.monitor.result c.in-Monitor.is
    c.run_status-in-Monitor.ensures.done c.run_status-in-Monitor.ensures.sink c.run_status-in-Monitor.ensures.memory c.monitor.ensures.ok
    c.monitor.ensures.sink

pub returns-in-Monitor-clause-nothing : goal.returns-in-Monitor-clause-nothing
returns-in-Monitor-clause-nothing g c =
    nothing-run c.monitor.result c.run_status-in-Monitor.result _ _ _ _ c.run_status-in-Monitor.ensures.done c.run_status-in-Monitor.ensures.sink
    c.monitor.ensures.memory

pub returns-in-Monitor-clause-cause : goal.returns-in-Monitor-clause-cause
returns-in-Monitor-clause-cause g c = cause-run c.monitor.result c.run_status-in-Monitor.result _ c.run_status-in-Monitor.ensures.done
    c.run_status-in-Monitor.ensures.memory c.monitor.ensures.cause

pub returns-in-OrderedRun-clause-follows : goal.returns-in-OrderedRun-clause-follows
returns-in-OrderedRun-clause-follows g c =
    follows-order _ c.args.job c.run_status-in-OrderedRun.result _ _ _ _ _ c.in-OrderedRun.job c.in-OrderedRun.order c.run-in-OrderedRun.result
    c.in-OrderedRun.is c.run_status-in-OrderedRun.ensures.done c.run_status-in-OrderedRun.ensures.sink c.run_status-in-OrderedRun.ensures.memory
    c.run-in-OrderedRun.ensures.ok
    c.run-in-OrderedRun.ensures.sink

pub returns-in-OrderedRun-clause-nothing : goal.returns-in-OrderedRun-clause-nothing
returns-in-OrderedRun-clause-nothing g c =
    nothing-run c.run-in-OrderedRun.result c.run_status-in-OrderedRun.result _ _ _ _ c.run_status-in-OrderedRun.ensures.done
    c.run_status-in-OrderedRun.ensures.sink c.run-in-OrderedRun.ensures.memory

pub returns-in-OrderedRun-clause-cause : goal.returns-in-OrderedRun-clause-cause
returns-in-OrderedRun-clause-cause g c = cause-run c.run-in-OrderedRun.result c.run_status-in-OrderedRun.result _
    c.run_status-in-OrderedRun.ensures.done c.run_status-in-OrderedRun.ensures.memory c.run-in-OrderedRun.ensures.cause

pub returns-in-CountedRun-clause-follows : goal.returns-in-CountedRun-clause-follows
returns-in-CountedRun-clause-follows g c =
    follows-counted _ c.args.job c.run_status-in-CountedRun.result _ _ _ _ _ c.in-CountedRun.job c.in-CountedRun.order c.run_counted.result
    c.in-CountedRun.is c.run_status-in-CountedRun.ensures.done c.run_status-in-CountedRun.ensures.sink c.run_status-in-CountedRun.ensures.memory
    c.run_counted.ensures.ok
    c.run_counted.ensures.sink

pub returns-in-CountedRun-clause-nothing : goal.returns-in-CountedRun-clause-nothing
returns-in-CountedRun-clause-nothing g c =
    nothing-run c.run_counted.result c.run_status-in-CountedRun.result _ _ _ _ c.run_status-in-CountedRun.ensures.done
    c.run_status-in-CountedRun.ensures.sink c.run_counted.ensures.memory

pub returns-in-CountedRun-clause-cause : goal.returns-in-CountedRun-clause-cause
returns-in-CountedRun-clause-cause g c = cause-run c.run_counted.result c.run_status-in-CountedRun.result _
    c.run_status-in-CountedRun.ensures.done c.run_status-in-CountedRun.ensures.memory c.run_counted.ensures.cause

pub returns-in-Seeds-clause-follows : goal.returns-in-Seeds-clause-follows
returns-in-Seeds-clause-follows g c =
    follows-seeds _ c.args.job c.seeds_status.result _ _ _ _ c.in-Seeds.job c.run_seeds.result c.in-Seeds.is c.seeds_status.ensures.done
    c.seeds_status.ensures.sink c.seeds_status.ensures.memory c.run_seeds.ensures.ok
    c.run_seeds.ensures.sink

pub returns-in-Seeds-clause-nothing : goal.returns-in-Seeds-clause-nothing
returns-in-Seeds-clause-nothing g c =
    nothing-seeds _ c.args.job c.in-Seeds.job c.run_seeds.result c.seeds_status.result _ _ _ c.in-Seeds.is c.seeds_status.ensures.done
    c.seeds_status.ensures.sink c.seeds_status.ensures.memory
    c.run_seeds.ensures.memory

pub returns-in-Seeds-clause-cause : goal.returns-in-Seeds-clause-cause
returns-in-Seeds-clause-cause g c = cause-seeds c.run_seeds.result c.seeds_status.result _ c.seeds_status.ensures.done
    c.seeds_status.ensures.memory c.run_seeds.ensures.cause

pub returns-in-Check-clause-follows : goal.returns-in-Check-clause-follows
returns-in-Check-clause-follows g c = λ m.
    follows-check _ c.args.job c.in-Check.job c.check.result _ _ _ _ c.in-Check.is
    (λ given. c.check.ensures.follows m given (g.C.Sink.faults c.args.console.now) (g.C.Sink.faults c.args.console.now)
    (g.C.Sink.written c.args.console.now))

pub returns-in-Judge-clause-follows : goal.returns-in-Judge-clause-follows
returns-in-Judge-clause-follows g c = λ m.
    follows-judge _ c.args.job c.in-Judge.list c.judge.result _ _ _ _ c.in-Judge.is
    (λ given. c.judge.ensures.follows m given (g.C.Sink.faults c.args.console.now) (g.C.Sink.faults c.args.console.now)
    (g.C.Sink.written c.args.console.now))

pub returns-in-Save-clause-follows : goal.returns-in-Save-clause-follows
returns-in-Save-clause-follows g c =
    follows-save _ c.args.job c.replay_status-in-Save.result _ _ _ _ c.in-Save.job c.replay_saved.result c.in-Save.is
    c.replay_status-in-Save.ensures.done c.replay_status-in-Save.ensures.sink c.replay_status-in-Save.ensures.memory
    c.replay_saved.ensures.ok
    c.replay_saved.ensures.sink

pub returns-in-Save-clause-nothing : goal.returns-in-Save-clause-nothing
returns-in-Save-clause-nothing g c =
    nothing-replay c.replay_saved.result c.replay_status-in-Save.result _ _ _ _ c.replay_status-in-Save.ensures.done
    c.replay_status-in-Save.ensures.sink c.replay_saved.ensures.memory

pub returns-in-Save-clause-cause : goal.returns-in-Save-clause-cause
returns-in-Save-clause-cause g c = cause-replay c.replay_saved.result c.replay_status-in-Save.result _
    c.replay_status-in-Save.ensures.done c.replay_status-in-Save.ensures.memory c.replay_saved.ensures.cause

pub returns-in-Resume-clause-follows : goal.returns-in-Resume-clause-follows
returns-in-Resume-clause-follows g c =
    follows-resume _ c.args.job c.replay_status-in-Resume.result _ _ _ _ c.in-Resume.job c.replay_resumed.result c.in-Resume.is
    c.replay_status-in-Resume.ensures.done c.replay_status-in-Resume.ensures.sink c.replay_status-in-Resume.ensures.memory
    c.replay_resumed.ensures.ok
    c.replay_resumed.ensures.sink

pub returns-in-Resume-clause-nothing : goal.returns-in-Resume-clause-nothing
returns-in-Resume-clause-nothing g c =
    nothing-replay c.replay_resumed.result c.replay_status-in-Resume.result _ _ _ _ c.replay_status-in-Resume.ensures.done
    c.replay_status-in-Resume.ensures.sink c.replay_resumed.ensures.memory

pub returns-in-Resume-clause-cause : goal.returns-in-Resume-clause-cause
returns-in-Resume-clause-cause g c = cause-replay c.replay_resumed.result c.replay_status-in-Resume.result _
    c.replay_status-in-Resume.ensures.done c.replay_status-in-Resume.ensures.memory c.replay_resumed.ensures.cause
