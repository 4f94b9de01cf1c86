-- A due event fits the machine, where the rules are ones for its nodes, and events with one more that fits.
use Rattle.std.proofs.Common.{◌≡◌, true, ℕ, ◌*◌, ◌<◌, List, [], ◌∷◌, ◌++◌, Option, Some, None, IfSome, refl}
use Rattle.std.proofs.lemmas.Bool.{lt-ltb}
use Rattle.sn_base.specs.Image.{ImageData}
use Rattle.sn_base.specs.declared.config.Config.{Config}
use Rattle.sn_base.specs.declared.event.Event.{Event}
use Rattle.sn_base.specs.declared.event.Event.TheVariants.{Kill}
use Rattle.sn_base.specs.declared.rules.Rules.{Rules}
use Rattle.sn_base.specs.Rules.{AreRules}
use Rattle.sn_model.specs.Caches.{block_count}
use Rattle.sn_model.specs.Machine.{State}
use Rattle.run_journals.specs.ConsistentCutsRuns.{EventFits, AllFit}
use Rattle.run_journals.specs.Numbers.{Numbers}
use Rattle.run_journals.specs.Due.{due_of}
use Rattle.run_journals.proofs.EachDue.{HoldsOfEach, due_of-holds}

kill_fits : (nodes : ℕ) (kill : Option (ℕ × ℕ)) → IfSome kill (λ rule. rule.0 < 2 * nodes) →
    IfSome kill (λ rule. EventFits nodes (Kill rule.0))
kill_fits nodes None h = h
kill_fits nodes (Some rule) h = record { numbers = lt-ltb rule.0 (2 * nodes) h; block = refl }

each_fits : (rules : Rules) (nodes : ℕ) → AreRules rules nodes → HoldsOfEach rules nodes (EventFits nodes)
each_fits rules nodes ruled = record {
  hop = λ id. record { numbers = refl; block = refl };
  deliver = λ id. record { numbers = refl; block = refl };
  lose = λ id. record { numbers = refl; block = refl };
  step = λ n h. record { numbers = lt-ltb n nodes h; block = refl };
  edge = λ n h. record { numbers = lt-ltb n nodes h; block = refl };
  report = λ n h. record { numbers = lt-ltb n nodes h; block = refl };
  evict = λ n block h b. record { numbers = lt-ltb n nodes h; block = lt-ltb block block_count b };
  validate = record { numbers = refl; block = refl };
  recover = record { numbers = refl; block = refl };
  kill = kill_fits nodes rules.kill ruled.kill;
}

pub due-fits : (rules : Rules) (image : ImageData) (config : Config) (s : State) (x : Numbers) (worker pick : ℕ) (event : Event) →
    AreRules rules config.nodes → worker < config.nodes → due_of rules image config s x worker pick ≡ Some event →
    EventFits config.nodes event
due-fits rules image config s x worker pick event ruled h due =
    due_of-holds rules image config s x (EventFits config.nodes) (each_fits rules config.nodes ruled) worker pick event h due

pub all_fit-push : (nodes : ℕ) (events : List Event) (event : Event) → AllFit nodes events → EventFits nodes event →
    AllFit nodes (events ++ event ∷ [])
all_fit-push nodes [] event h fits = (fits, tt)
all_fit-push nodes (first ∷ events) event h fits = (h.0, all_fit-push nodes events event h.1 fits)
