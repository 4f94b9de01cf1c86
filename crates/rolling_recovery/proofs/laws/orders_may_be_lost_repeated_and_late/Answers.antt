use Rattle.rolling_recovery.proofs.Example.{led-through}
use Rattle.rolling_recovery.proofs.laws.orders_may_be_lost_repeated_and_late.Goals as goal

pub returns : goal.returns
returns c = λ m two. led-through m two
