-- How many records of each node wait, from event to event.
use Rattle.std.proofs.Common.{◌≡◌, ℕ, false, List, [], ◌∷◌, ◌++◌, refl, ap, sym, ◌∙◌}
use Rattle.sn_base.specs.declared.event.Event.{Event}
use Rattle.sn_base.specs.declared.event.Event.TheVariants.{Step, Evict, Edge, Hop, Deliver, Lose, Kill, Report, Validate, Recover, Input}
use Rattle.sn_base.specs.declared.event.Answer.{Answer}
use Rattle.sn_base.specs.declared.event.Answer.TheVariants.{Retired, Missed, Waits, NeedsEvict, LogFull, NetFull, Ended, Evicted, PutBegun}
use Rattle.sn_base.specs.declared.event.Answer.TheVariants.{NotCached, PutOpen, MissOpen, Edged, CheckpointsFull, Hopped, LostInDead}
use Rattle.sn_base.specs.declared.event.Answer.TheVariants.{Arrived, NotArrived, NoMessage, Delivered, Held, HomeBusy, Lost, Killed}
use Rattle.sn_base.specs.declared.event.Answer.TheVariants.{AlreadyDead, Reported, Validated, NotReady, Recovered, CutOff, Given, NoInput}
use Rattle.sn_model.specs.Machine.{Retirement}
use Rattle.sn_model.specs.Instructions.{records_of}
use Rattle.run_statistics.specs.Numbers.{with_more, with_one_each, no_numbers}
use Rattle.run_statistics.specs.Records.{nodes_of}
use Rattle.run_statistics.specs.Instructions.{waiting_by_node, waiting_after}
use Rattle.run_statistics.proofs.Pending.{may_change, calm}

pub one_each-behind : (numbers places : List ℕ) (n : ℕ) →
    with_one_each numbers (places ++ n ∷ []) ≡ with_more (with_one_each numbers places) n 1
one_each-behind numbers [] n = refl
one_each-behind numbers (place ∷ places) n = one_each-behind (with_more numbers place 1) places n

nodes-behind : (pending : List Retirement) (r : Retirement) →
    nodes_of (records_of (pending ++ r ∷ [])) ≡ nodes_of (records_of pending) ++ r.did.core ∷ []
nodes-behind [] r = refl
nodes-behind (x ∷ pending) r = ap (λ t. x.did.core ∷ t) (nodes-behind pending r)

waiting-behind : (pending : List Retirement) (r : Retirement) →
    waiting_by_node (pending ++ r ∷ []) ≡ with_more (waiting_by_node pending) r.did.core 1
waiting-behind pending r =
    ap (with_one_each no_numbers) (nodes-behind pending r) ∙ one_each-behind no_numbers (nodes_of (records_of pending)) r.did.core

-- what waits after an event is by what waited before it, where an instruction that retired is behind those
module _ (before after : List Retirement) (waiting : List ℕ) (had : waiting ≡ waiting_by_node before) where
  same : after ≡ before → waiting ≡ waiting_by_node after
  same e = had ∙ ap waiting_by_node (sym e)

  retired : (n : ℕ) (r : Retirement) → r.did.core ≡ n → after ≡ before ++ r ∷ [] → with_more waiting n 1 ≡ waiting_by_node after
  retired n r is e =
      ap (λ t. with_more t n 1) had ∙ ap (λ k. with_more (waiting_by_node before) k 1) (sym is)
      ∙ sym (waiting-behind before r) ∙ ap waiting_by_node (sym e)

  pub waiting-follows : (event : Event) (a : Answer) (next : ℕ → Retirement) → ((n : ℕ) → (next n).did.core ≡ n) →
      (may_change event a ≡ false → after ≡ before) → ((n : ℕ) → event ≡ Step n → a ≡ Retired → after ≡ before ++ next n ∷ []) →
      waiting_after waiting event a after ≡ waiting_by_node after
  waiting-follows (Step n) Retired next own stays retires = retired n (next n) (own n) (retires n refl refl)
  waiting-follows (Evict n block) Retired next own stays retires = same (stays refl)
  waiting-follows (Edge n) Retired next own stays retires = same (stays refl)
  waiting-follows (Hop id) Retired next own stays retires = same (stays refl)
  waiting-follows (Deliver id) Retired next own stays retires = same (stays refl)
  waiting-follows (Lose id) Retired next own stays retires = same (stays refl)
  waiting-follows (Kill switch) Retired next own stays retires = same (stays refl)
  waiting-follows (Report n) Retired next own stays retires = same (stays refl)
  waiting-follows Validate Retired next own stays retires = same (stays refl)
  waiting-follows Recover Retired next own stays retires = same (stays refl)
  waiting-follows (Input n byte) Retired next own stays retires = same (stays refl)
  waiting-follows event Missed next own stays retires = same (stays (calm event Missed refl refl refl))
  waiting-follows event Waits next own stays retires = same (stays (calm event Waits refl refl refl))
  waiting-follows event NeedsEvict next own stays retires = same (stays (calm event NeedsEvict refl refl refl))
  waiting-follows event LogFull next own stays retires = same (stays (calm event LogFull refl refl refl))
  waiting-follows event NetFull next own stays retires = same (stays (calm event NetFull refl refl refl))
  waiting-follows event Ended next own stays retires = same (stays (calm event Ended refl refl refl))
  waiting-follows event Evicted next own stays retires = same (stays (calm event Evicted refl refl refl))
  waiting-follows event PutBegun next own stays retires = same (stays (calm event PutBegun refl refl refl))
  waiting-follows event NotCached next own stays retires = same (stays (calm event NotCached refl refl refl))
  waiting-follows event PutOpen next own stays retires = same (stays (calm event PutOpen refl refl refl))
  waiting-follows event MissOpen next own stays retires = same (stays (calm event MissOpen refl refl refl))
  waiting-follows event (Edged k) next own stays retires = same (stays (calm event (Edged k) refl refl refl))
  waiting-follows event CheckpointsFull next own stays retires = same (stays (calm event CheckpointsFull refl refl refl))
  waiting-follows event Hopped next own stays retires = same (stays (calm event Hopped refl refl refl))
  waiting-follows event LostInDead next own stays retires = same (stays (calm event LostInDead refl refl refl))
  waiting-follows event Arrived next own stays retires = same (stays (calm event Arrived refl refl refl))
  waiting-follows event NotArrived next own stays retires = same (stays (calm event NotArrived refl refl refl))
  waiting-follows event NoMessage next own stays retires = same (stays (calm event NoMessage refl refl refl))
  waiting-follows event Delivered next own stays retires = same (stays (calm event Delivered refl refl refl))
  waiting-follows event Held next own stays retires = same (stays (calm event Held refl refl refl))
  waiting-follows event HomeBusy next own stays retires = same (stays (calm event HomeBusy refl refl refl))
  waiting-follows event Lost next own stays retires = same (stays (calm event Lost refl refl refl))
  waiting-follows event Killed next own stays retires = same (stays (calm event Killed refl refl refl))
  waiting-follows event AlreadyDead next own stays retires = same (stays (calm event AlreadyDead refl refl refl))
  waiting-follows event (Reported k) next own stays retires = same (stays (calm event (Reported k) refl refl refl))
  waiting-follows event (Validated k) next own stays retires = refl
  waiting-follows event (NotReady n) next own stays retires = same (stays (calm event (NotReady n) refl refl refl))
  waiting-follows event (Recovered undo) next own stays retires = refl
  waiting-follows event (CutOff a b) next own stays retires = same (stays (calm event (CutOff a b) refl refl refl))
  waiting-follows event Given next own stays retires = same (stays (calm event Given refl refl refl))
  waiting-follows event NoInput next own stays retires = same (stays (calm event NoInput refl refl refl))
