-- What is given to the nodes along a run are bytes, where the events give bytes.
use Rattle.std.proofs.Common.{◌≡◌, ℕ, zero, suc, ◌+◌, ◌-◌, ◌<◌, Bool, true, false, List, [], ◌∷◌, ◌++◌, map, set, refl, sym, subst, if◌then◌else◌, nat_eq, Option, Some, None}
use Rattle.std.specs.Prelude.{filter, length}
use Rattle.std.specs.List.{All, range_with_len}
use Rattle.std.proofs.lemmas.List.Elements.{All-nil, All-cons, All-head, All-tail, All-append, All-set, All-push, All-map, All-filter}
use Rattle.sn_base.specs.Image.{ImageData}
use Rattle.sn_base.specs.declared.config.Config.{Config}
use Rattle.sn_base.specs.declared.event.Answer.TheVariants.{NetFull, CheckpointsFull, Edged, Validated}
use Rattle.sn_base.specs.declared.event.Event.{Event}
use Rattle.sn_base.specs.declared.event.Event.TheVariants as event
use Rattle.route_plan.specs.Routes.{first_cut_off}
use Rattle.sn_model.specs.declared.net.News.{News}
use Rattle.sn_model.specs.declared.net.News.TheVariants as told
use Rattle.sn_model.specs.Fabric.{Fabric, node_at, with_node, step_refused, step_with_answer}
use Rattle.sn_model.specs.Net.{is_full, sending}
use Rattle.sn_model.specs.NodeEvents.{checkpoint_limit, after_edge, step_of_eviction}
use Rattle.sn_model.specs.NetEvents.{step_of_delivery}
use Rattle.sn_model.specs.PointEvents.{advances, recovers, fabric_restored_to, living_switches}
use Rattle.sn_model.specs.Machine.{State, Processor, processor_at, first_processor, first_processors}
use Rattle.sn_model.specs.Instructions.{MachineStep, step_of_retirement, step_of_instruction}
use Rattle.sn_model.specs.MachineEvents.{validates, unready_node, state_after_news, with_checkpoint, restored_rest, restored_processor, restored_processors, edges, commits, restores}
use Rattle.sn_model.specs.Step.{step_of, state_after}
use Rattle.sn_model.proofs.EachStep.{each_step}
use Rattle.sn_saved.specs.Resumed.{flat_resumed, processor_resumed}
use Rattle.sn_saved.specs.Saved.{given_from, given_to}
use Rattle.sn_text.specs.Written.{HasNumbers}
use Rattle.consistent_cuts.specs.Origins.{Origin, Start, Resumed, state_at, reached_from}
use Rattle.accepted_saves.specs.Bytes.{WasGivenBytes}
use Rattle.accepted_saves.proofs.Bytes.{IsByte, AreBytes, look}

abbrev IsGiven : Processor → Type 0
IsGiven p = AreBytes p.given

abbrev pub AreGiven : List Processor → Type 0
AreGiven ps = All IsGiven ps

abbrev pub IsPair : ℕ × ℕ → Type 0
IsPair byte = byte.1 < 256

restored_given : (fabric : Fabric) (k n : ℕ) (ps : List Processor) → AreGiven ps → AreGiven (restored_processors fabric k n ps)
restored_given fabric k n [] all = All-nil IsGiven
restored_given fabric k n (p ∷ ps) all =
    All-cons IsGiven (restored_processor p (node_at fabric n).known k) (restored_processors fabric k (n + 1) ps)
    (All-head IsGiven p ps all) (restored_given fabric k (n + 1) ps (All-tail IsGiven p ps all))

-- an event
module _ (image : ImageData) (config : Config) (s : State) (all : AreGiven s.processors) where
  abbrev Keeps : MachineStep → Type 0
  Keeps x = AreGiven x.state.processors

  one : (n : ℕ) → AreBytes (processor_at s n).given
  one n = look IsGiven s.processors n (first_processor 0 0) (All-nil IsByte) all

  -- another processor in a node's place, to which the same was given
  same : (n : ℕ) (p : Processor) → p.given ≡ (processor_at s n).given → AreGiven (set s.processors n p)
  same n p e = All-set IsGiven s.processors n p (subst AreBytes (sym e) (one n)) all

  heard : (news : Option News) → AreGiven (state_after_news s news).processors
  heard None = all
  heard (Some (told.LostCopy n block)) = same n _ refl
  heard (Some (told.Ready n k)) = all
  heard (Some (told.Advance n k)) = same n _ refl

  retired : (n : ℕ) → Keeps (step_of_retirement image s n)
  retired n = same n _ refl

  stepped : (n : ℕ) → Keeps (step_of_instruction image config s n)
  stepped n = each_step image config s n Keeps (retired n) (λ block need. all) all all all

  edged : (n : ℕ) (full : Bool) → Keeps (edges s n (if full then step_refused s.fabric CheckpointsFull
      else step_with_answer (with_node s.fabric n (after_edge (node_at s.fabric n))) (Edged ((node_at s.fabric n).now + 1))))
  edged n true = all
  edged n false = same n (with_checkpoint (processor_at s n)) refl

  committing : (full : Bool) → Keeps (commits s (if full then step_refused s.fabric NetFull
      else sending (record s.fabric { point = s.fabric.point + 1 }) 0 0 (advances (s.fabric.point + 1) 0 s.fabric.nodes) (Validated (s.fabric.point + 1))))
  committing true = all
  committing false = all

  validating : (unready : Option ℕ) → Keeps (validates s unready)
  validating (Some n) = all
  validating None = committing (is_full s.fabric (length s.fabric.nodes))

  restoring : (cut : Option (ℕ × ℕ)) → Keeps (restores s (recovers s.fabric s.fabric.point cut))
  unfolding restored_rest fabric_restored_to
  restoring (Some pair) = all
  restoring None = restored_given s.fabric s.fabric.point 0 s.processors all

  given_more : (n byte : ℕ) → byte < 256 →
      AreGiven (set s.processors n (record (processor_at s n) { given = (processor_at s n).given ++ byte ∷ [] }))
  given_more n byte low =
      All-set IsGiven s.processors n (record (processor_at s n) { given = (processor_at s n).given ++ byte ∷ [] })
      (All-push IsByte (processor_at s n).given byte (one n) low) all

  event_gives : (e : Event) → HasNumbers e → Keeps (step_of image config s e)
  unfolding step_of
  event_gives (event.Step n) h = stepped n
  event_gives (event.Evict n block) h = heard (step_of_eviction s.fabric n block).told
  event_gives (event.Edge n) h = edged n (nat_eq ((node_at s.fabric n).now - (node_at s.fabric n).known) checkpoint_limit)
  event_gives (event.Hop id) h = all
  event_gives (event.Deliver id) h = heard (step_of_delivery config s.fabric id).told
  event_gives (event.Lose id) h = all
  event_gives (event.Kill switch) h = all
  event_gives (event.Report n) h = all
  event_gives event.Validate h = validating (unready_node s)
  event_gives event.Recover h = restoring (first_cut_off (living_switches s.fabric))
  event_gives (event.Input n byte) h = given_more n byte h

-- a run
run_gives : (image : ImageData) (config : Config) (s : State) (events : List Event) → All HasNumbers events → AreGiven s.processors →
    AreGiven (state_after image config s events).processors
run_gives image config s [] numbers all = all
run_gives image config s (event ∷ events) numbers all =
    run_gives image config (step_of image config s event).state events (All-tail HasNumbers event events numbers)
    (event_gives image config s all event (All-head HasNumbers event events numbers))

-- where a run begins

none_given : (n entry : ℕ) → AreGiven (first_processors n entry)
none_given zero entry = All-nil IsGiven
none_given (suc n) entry =
    All-push IsGiven (first_processors n entry) (first_processor n entry) (none_given n entry) (All-nil IsByte)

bytes_given : (given : List (ℕ × ℕ)) (n : ℕ) → All IsPair given → AreBytes (given_to given n)
bytes_given given n all =
    All-map IsByte (λ (byte : ℕ × ℕ). byte.1) (filter (λ (byte : ℕ × ℕ). nat_eq byte.0 n) given)
    (All-filter (λ (byte : ℕ × ℕ). nat_eq byte.0 n) IsPair given all)

origin_given : (image : ImageData) (config : Config) (origin : Origin) → WasGivenBytes origin → AreGiven (state_at image config origin).processors
origin_given image config Start given = none_given config.nodes image.entry
origin_given image config (Resumed saved) given =
    All-map IsGiven (processor_resumed (flat_resumed image saved) saved.given) (range_with_len 0 saved.config.nodes)
    (λ k d l. bytes_given saved.given _ given)

-- so what is given to each node, and what is saved of that
module _ (image : ImageData) (config : Config) (origin : Origin) (events : List Event) (given : WasGivenBytes origin) (numbers : All HasNumbers events) where
  pub reached_given : AreGiven (reached_from image config origin events).processors
  reached_given = run_gives image config (state_at image config origin) events numbers (origin_given image config origin given)

  pub node_given : (n : ℕ) → AreBytes (processor_at (reached_from image config origin events) n).given
  node_given n = one image config (reached_from image config origin events) reached_given n

pub pairs_given : (n : ℕ) (ps : List Processor) → AreGiven ps → All IsPair (given_from n ps)
pairs_given n [] all = All-nil IsPair
pairs_given n (p ∷ ps) all =
    All-append IsPair (map (λ (byte : ℕ). (n, byte)) p.given) (given_from (n + 1) ps)
    (All-map IsPair (λ (byte : ℕ). (n, byte)) p.given (All-head IsGiven p ps all))
    (pairs_given (n + 1) ps (All-tail IsGiven p ps all))
