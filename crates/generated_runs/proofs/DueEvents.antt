-- Where no rule kills a switch, a due event does not either, and the nodes and the block that it names are there.
use Rattle.std.proofs.Common.{◌≡◌, false, ℕ, ◌<◌, Option, Some, None, IfSome, refl, sym, subst}
use Rattle.std.proofs.lemmas.Bool.{lt-ltb}
use Rattle.sn_base.specs.Image.{ImageData}
use Rattle.sn_base.specs.declared.config.Config.{Config}
use Rattle.sn_base.specs.declared.event.Event.{Event}
use Rattle.sn_base.specs.declared.event.Event.TheVariants.{Kill}
use Rattle.sn_base.specs.declared.rules.Rules.{Rules}
use Rattle.sn_model.specs.Caches.{block_count}
use Rattle.sn_model.specs.Machine.{State}
use Rattle.consistent_cuts.specs.Runs.{EventFits}
use Rattle.due_events.specs.Numbers.{Numbers}
use Rattle.due_events.specs.Due.{due_of}
use Rattle.due_events.proofs.EachDue.{HoldsOfEach, due_of-holds}
use Rattle.generated_runs.proofs.DeadStays.{is_kill}

pub record IsGood (nodes : ℕ) (event : Event) : Type 0 where
  pub spares : is_kill event ≡ false
  pub fits : EventFits nodes event

each_good : (rules : Rules) (nodes : ℕ) → rules.kill ≡ None → HoldsOfEach rules nodes (IsGood nodes)
each_good rules nodes none = record {
  hop = λ id. record { spares = refl; fits = record { numbers = refl; block = refl } };
  deliver = λ id. record { spares = refl; fits = record { numbers = refl; block = refl } };
  lose = λ id. record { spares = refl; fits = record { numbers = refl; block = refl } };
  step = λ n h. record { spares = refl; fits = record { numbers = lt-ltb n nodes h; block = refl } };
  edge = λ n h. record { spares = refl; fits = record { numbers = lt-ltb n nodes h; block = refl } };
  report = λ n h. record { spares = refl; fits = record { numbers = lt-ltb n nodes h; block = refl } };
  evict = λ n block h b. record { spares = refl; fits = record { numbers = lt-ltb n nodes h; block = lt-ltb block block_count b } };
  validate = record { spares = refl; fits = record { numbers = refl; block = refl } };
  recover = record { spares = refl; fits = record { numbers = refl; block = refl } };
  kill = subst (λ (kill : Option (ℕ × ℕ)). IfSome kill (λ rule. IsGood nodes (Kill rule.0))) (sym none) tt;
}

pub due_good : (rules : Rules) (image : ImageData) (config : Config) (s : State) (x : Numbers) (worker pick : ℕ) (event : Event) →
    worker < config.nodes → rules.kill ≡ None → due_of rules image config s x worker pick ≡ Some event → IsGood config.nodes event
due_good rules image config s x worker pick event h none due =
    due_of-holds rules image config s x (IsGood config.nodes) (each_good rules config.nodes none) worker pick event h due
