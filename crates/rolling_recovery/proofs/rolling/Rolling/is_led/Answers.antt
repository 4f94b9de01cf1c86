use Rattle.std.proofs.Common.{List, subst}
use Rattle.rolling_recovery.specs.declared.controls.Control.{Control}
use Rattle.rolling_recovery.specs.Invariant.{HasCalls}
use Rattle.rolling_recovery.specs.Recovered.{IsLedTo}
use Rattle.rolling_recovery.specs.Rolling.{RollingData}
use Rattle.rolling_recovery.proofs.Led.{IsWhole, led-to}
use Rattle.rolling_recovery.proofs.rolling.Rolling.is_led.Goals as goal

pub returns : goal.returns
returns c =
    let whole : IsWhole c.recovered.result = record {
      count = c.is_cut.ensures.nodes;
      some = c.is_cut.ensures.some;
      few = c.is_cut.ensures.few;
      homes = c.is_cut.ensures.homes;
      cut = c.is_cut.ensures.cut;
      back = c.is_cut.ensures.back;
    } in
    subst (λ (r : RollingData). (calls : List Control) × HasCalls r calls × IsLedTo r calls) c.self.view_is
    (c.self.invariant.calls, c.self.invariant.led, led-to _ c.self.invariant.calls (subst IsWhole c.recovered.ensures.shown whole) c.self.invariant.led)
