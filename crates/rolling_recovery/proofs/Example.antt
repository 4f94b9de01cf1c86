-- What comes of the example.
use Rattle.std.proofs.Common.{◌≡◌, refl, ap, take}
use Rattle.std.specs.Prelude.{position, not}
use Rattle.sn_machine.specs.Machine.{MachineData}
use Rattle.rolling_recovery.specs.Example.{IsLedThrough, after_first}

pub led-through : (m : MachineData) → m.config.nodes ≡ 2 → IsLedThrough m
led-through m two = record {
  repeated = refl;
  again = refl;
  sent = refl;
  gone = refl;
  before = refl;
  late = refl;
  noted = ap (λ n. position not (take n (after_first 12 m).noted)) two;
}
