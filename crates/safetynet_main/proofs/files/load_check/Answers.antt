use Rattle.std.proofs.Common.{refl, string_bytes}
use Rattle.std.specs.Prelude.{Ok, Err}
use Rattle.call_files.specs.Fetches.{Fetches}
use Rattle.safetynet_main.specs.Call.{trace_plan}
use Rattle.safetynet_main.proofs.Loading.{loads-refused, loads-check}
use Rattle.safetynet_main.proofs.files.load_check.Goals as goal

pub returns-in-Err-clause-loads : goal.returns-in-Err-clause-loads
returns-in-Err-clause-loads g c = λ no.
    loads-refused (Fetches g.S.Store.files g.S.Store.sure g.S.Store.faults g.S.Store.gave) _ _
    (trace_plan c.args.asked.now.nodes (string_bytes c.args.asked.now.trace)) c.in-Err.status c.as_str.result.now _ refl
    c.as_str.ensures.value (c.in-Err.ensures.found (λ m. no cc))

pub returns-in-Err-fetch_trace-clause-loads : goal.returns-in-Err-fetch_trace-clause-loads
returns-in-Err-fetch_trace-clause-loads g c = λ no.
    loads-check (Fetches g.S.Store.files g.S.Store.sure g.S.Store.faults g.S.Store.gave) c.in-Ok.program _ _ _ c.args.asked.now.nodes
    (Err c.in-Err-fetch_trace.status) (Err c.in-Err-fetch_trace.status)
    c.as_str.result.now c.as_str-2.result.now _ _ c.as_str.ensures.value c.as_str-2.ensures.value
    (c.in-Ok.ensures.found (λ m. cc)) (c.in-Err-fetch_trace.ensures.found (λ m. no cc)) refl

pub returns-in-Ok-fetch_trace-clause-loads : goal.returns-in-Ok-fetch_trace-clause-loads
returns-in-Ok-fetch_trace-clause-loads g c = λ no.
    loads-check (Fetches g.S.Store.files g.S.Store.sure g.S.Store.faults g.S.Store.gave) c.in-Ok.program _ _ _ c.args.asked.now.nodes
    (Ok c.in-Ok-fetch_trace.trace) _ c.as_str.result.now c.as_str-2.result.now _ _ c.as_str.ensures.value c.as_str-2.ensures.value
    (c.in-Ok.ensures.found (λ m. cc)) (c.in-Ok-fetch_trace.ensures.found (λ m. cc)) refl
