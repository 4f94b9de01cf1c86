use Rattle.rolling_recovery.proofs.Led.{each-led}
use Rattle.rolling_recovery.proofs.laws.each_recovery_is_the_cut.Goals as goal

pub returns : goal.returns
returns c = λ m events calls run s fit. each-led m events calls run s fit
