-- What is told of an event that is no step.
use Rattle.std.specs.Prelude.{ℕ, List, []}
use Rattle.sn_base.specs.declared.event.Event.{Event}
use Rattle.sn_base.specs.declared.event.Event.TheVariants.{Report, Validate, Recover}
use Rattle.sn_base.specs.declared.event.Answer.{Answer}
use Rattle.sn_model.specs.Machine.{State}
use Rattle.state_json.specs.Details.{of_report, of_validation, of_recovery}

abbrev pub found_text : State → Event → Answer → List ℕ
found_text s (Report n) answer = of_report s n answer
found_text s Validate answer = of_validation s answer
found_text s Recover answer = of_recovery s answer
found_text s _ answer = []
