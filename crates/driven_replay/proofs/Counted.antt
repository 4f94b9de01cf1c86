-- What a driver has counted of events, one after another.
use Rattle.std.proofs.Common.{◌≡◌, ℕ, ◌+◌, List, [], ◌∷◌, ◌++◌, length, refl, arith}
use Rattle.sn_base.specs.Image.{ImageData}
use Rattle.sn_base.specs.declared.config.Config.{Config}
use Rattle.sn_base.specs.declared.event.Event.{Event}
use Rattle.sn_base.specs.declared.event.Event.TheVariants.{Step, Evict, Edge, Hop, Deliver, Lose, Kill, Report, Validate, Recover, Input}
use Rattle.sn_base.specs.declared.event.Answer.{Answer}
use Rattle.sn_base.specs.declared.event.Answer.TheVariants.{Retired, Missed, Waits, NeedsEvict, LogFull, NetFull, Ended, Evicted, PutBegun, NotCached, PutOpen, MissOpen, Edged, CheckpointsFull, Hopped, LostInDead, Arrived, NotArrived, NoMessage, Delivered, Held, HomeBusy, Lost, Killed, AlreadyDead, Reported, Validated, NotReady, Recovered, CutOff, Given, NoInput}
use Rattle.sn_model.specs.Machine.{State, start_of}
use Rattle.sn_model.specs.Step.{step_of, state_after}
use Rattle.consistent_cuts.specs.Headline.{state_of_run}
use Rattle.due_events.specs.Numbers.{Numbers, first_numbers, with_retired, with_edge, with_report, with_answer, numbers_with_event, numbers_after}
use Rattle.due_events.specs.Runs.{numbers_along}
use Rattle.driven_replay.specs.Dues.{numbers_of}

along-last : (image : ImageData) (config : Config) (s : State) (x : Numbers) (done : List Event) (event : Event) →
    numbers_along image config s x (done ++ event ∷ [])
    ≡ numbers_after (numbers_along image config s x done) event (step_of image config (state_after image config s done) event).answer
along-last image config s x [] event = refl
along-last image config s x (first ∷ done) event =
    along-last image config (step_of image config s first).state (numbers_after x first (step_of image config s first).answer) done event

pub numbers-last : (image : ImageData) (config : Config) (done : List Event) (event : Event) →
    numbers_of image config (done ++ event ∷ [])
    ≡ numbers_after (numbers_of image config done) event (step_of image config (state_of_run image config done) event).answer
numbers-last image config done event = along-last image config (start_of image config.nodes) first_numbers done event

-- an answer leaves the number of events
retired-done : (x : Numbers) (event : Event) → (with_retired x event).done ≡ x.done
retired-done x (Step n) = refl
retired-done x (Evict n b) = refl
retired-done x (Edge n) = refl
retired-done x (Hop id) = refl
retired-done x (Deliver id) = refl
retired-done x (Lose id) = refl
retired-done x (Kill switch) = refl
retired-done x (Report n) = refl
retired-done x Validate = refl
retired-done x Recover = refl
retired-done x (Input n byte) = refl

edge-done : (x : Numbers) (event : Event) → (with_edge x event).done ≡ x.done
edge-done x (Step n) = refl
edge-done x (Evict n b) = refl
edge-done x (Edge n) = refl
edge-done x (Hop id) = refl
edge-done x (Deliver id) = refl
edge-done x (Lose id) = refl
edge-done x (Kill switch) = refl
edge-done x (Report n) = refl
edge-done x Validate = refl
edge-done x Recover = refl
edge-done x (Input n byte) = refl

report-done : (x : Numbers) (event : Event) (k : ℕ) → (with_report x event k).done ≡ x.done
report-done x (Step n) k = refl
report-done x (Evict n b) k = refl
report-done x (Edge n) k = refl
report-done x (Hop id) k = refl
report-done x (Deliver id) k = refl
report-done x (Lose id) k = refl
report-done x (Kill switch) k = refl
report-done x (Report n) k = refl
report-done x Validate k = refl
report-done x Recover k = refl
report-done x (Input n byte) k = refl

answer-done : (x : Numbers) (event : Event) (answer : Answer) → (with_answer x event answer).done ≡ x.done
answer-done x event Retired = retired-done x event
answer-done x event Missed = refl
answer-done x event Waits = refl
answer-done x event NeedsEvict = refl
answer-done x event LogFull = refl
answer-done x event NetFull = refl
answer-done x event Ended = refl
answer-done x event Evicted = refl
answer-done x event PutBegun = refl
answer-done x event NotCached = refl
answer-done x event PutOpen = refl
answer-done x event MissOpen = refl
answer-done x event (Edged k) = edge-done x event
answer-done x event CheckpointsFull = refl
answer-done x event Hopped = refl
answer-done x event LostInDead = refl
answer-done x event Arrived = refl
answer-done x event NotArrived = refl
answer-done x event NoMessage = refl
answer-done x event Delivered = refl
answer-done x event Held = refl
answer-done x event HomeBusy = refl
answer-done x event Lost = refl
answer-done x event Killed = refl
answer-done x event AlreadyDead = refl
answer-done x event (Reported k) = report-done x event k
answer-done x event (Validated k) = refl
answer-done x event (NotReady n) = refl
answer-done x event (Recovered undo) = refl
answer-done x event (CutOff a b) = refl
answer-done x event Given = refl
answer-done x event NoInput = refl

pub one-more : (x : Numbers) (event : Event) (answer : Answer) → (numbers_after x event answer).done ≡ x.done + 1
one-more x event answer = answer-done (numbers_with_event x event) event answer

along-done : (image : ImageData) (config : Config) (s : State) (x : Numbers) (done : List Event) →
    (numbers_along image config s x done).done ≡ x.done + length done
along-done image config s x [] = omega arith
along-done image config s x (first ∷ done) =
    let more = one-more x first (step_of image config s first).answer in
    let rest = along-done image config (step_of image config s first).state (numbers_after x first (step_of image config s first).answer) done in
    omega (arith, more, rest)

pub numbers-done : (image : ImageData) (config : Config) (done : List Event) → (numbers_of image config done).done ≡ length done
numbers-done image config done =
    let counts : (numbers_of image config done).done ≡ 0 + length done = along-done image config (start_of image config.nodes) first_numbers done in
    omega (arith, counts)
