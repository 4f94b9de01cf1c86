-- What a walk of a list keeps of it.
use Rattle.std.specs.Prelude.{◌≡◌, ℕ, ◌<◌, true, List, length, get_or, slice_get, None, IfSome}
use Rattle.sn_base.specs.declared.event.Event.{Event}
use Rattle.sn_base.specs.Events.{event_fits}
use Rattle.sn_driver.specs.declared.found.Found.{Found}

-- how many events there are, all events of so many nodes; and the first 4
pub record HasFound (nodes : ℕ) (events : List Event) (found : Found) : Type 0 where
  pub count : found.count ≡ length events
  pub size : length found.first ≡ 4
  pub first : (k : ℕ) → k < 4 → get_or found.first k None ≡ slice_get events k
  pub fits : (k : ℕ) → k < 4 → IfSome (get_or found.first k None) (λ event. event_fits nodes event ≡ true)
