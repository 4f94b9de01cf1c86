use Rattle.std.proofs.Common.{refl, ap}
use Rattle.std.specs.Prelude.{Err}
use Rattle.safetynet_main.proofs.Demos.{follows-demo, follows-demo_broken}
use Rattle.safetynet_main.proofs.demo.demo.Goals as goal

pub returns-in-Ok-clause-follows : goal.returns-in-Ok-clause-follows
returns-in-Ok-clause-follows g c = λ no. follows-demo c.args.size _ _ _ _ _ _ refl c.in-Ok.ensures.ok

pub returns-in-Err-Sink-clause-follows : goal.returns-in-Err-Sink-clause-follows
returns-in-Err-Sink-clause-follows g c = λ no.
    follows-demo_broken c.args.size _ _ _ _ _ _ refl (c.in-Err-Sink.ensures.sink (ap (λ t. Err t) c.in-Err-Sink.field-0-is))
