-- The replay of a generated run on a fresh machine is the one of its definition.
use Rattle.std.proofs.Common.{◌≡◌, ℕ, ◌≤◌, List, length, refl, sym, ap, ◌∙◌, subst, arith}
use Rattle.sn_base.specs.Image.{ImageData}
use Rattle.sn_base.specs.declared.config.Config.{Config}
use Rattle.sn_base.specs.declared.event.Event.{Event}
use Rattle.sn_base.specs.declared.rules.Rules.{Rules}
use Rattle.rand_pcg.specs.Lcg.{Lcg}
use Rattle.sn_model.specs.Machine.{State, start_of}
use Rattle.sn_machine.specs.Machine.{MachineData}
use Rattle.due_events.specs.Numbers.{Numbers, first_numbers}
use Rattle.sn_driver.specs.Driver.{DriverData}
use Rattle.counting_program.specs.Program.{counting_image}
use Rattle.script_replay.specs.declared.job.Showing.{Showing}
use Rattle.script_replay.specs.declared.job.Replay.{Replay}
use Rattle.script_replay.specs.Played.{MayBegin, IsWatchable, IsAtStart}
use Rattle.script_replay.specs.Scheduled.{replay_of}
use Rattle.generated_runs.specs.Generated.{GeneratedData, generated_config, generated_events, generated_replay, generator_of}
use Rattle.generated_runs.specs.Generated.{still_due, IsFresh}
use Rattle.generated_runs.proofs.Running.{all_whole}

abbrev pub with_parts : ℕ → Numbers → Lcg → GeneratedData
with_parts size x g = record { numbers = x; turn = 0; left = size; generator = g }

abbrev pub first_data : ℕ → GeneratedData
first_data size = with_parts size first_numbers (generator_of size)

-- a run that has just begun
pub new_is : (size : ℕ) (driver : DriverData) (g : Lcg) (rules : Rules) → driver ≡ record { rules = rules; nodes = 4; numbers = first_numbers } →
    g ≡ generator_of size → with_parts size driver.numbers g ≡ first_data size
new_is size driver g rules made seeded =
    ap (λ (d : DriverData). with_parts size d.numbers g) made ∙ ap (λ (h : Lcg). with_parts size first_numbers h) seeded

-- the events that are left on a machine of a run that has just begun
abbrev pub left_of : GeneratedData → MachineData → List Event
left_of g m = still_due m.image m.config m.state g.numbers g.left g.turn g.generator

module _ (size : ℕ) (g : GeneratedData) (m : MachineData) (new : g ≡ first_data size) (fresh : IsFresh m) where
  pub left_first : left_of g m ≡ generated_events size
  left_first =
      ap (λ (t : GeneratedData). left_of t m) new
      ∙ ap (λ (i : ImageData). still_due i m.config m.state first_numbers size 0 (generator_of size)) fresh.image
      ∙ ap (λ (c : Config). still_due counting_image c m.state first_numbers size 0 (generator_of size)) fresh.config
      ∙ ap (λ (s : State). still_due counting_image generated_config s first_numbers size 0 (generator_of size)) fresh.state

  pub replay_is : (showing : Showing) → replay_of m showing (left_of g m) ≡ generated_replay size showing
  replay_is showing =
      let with_ : ImageData → Config → List Event → Replay = λ i c events. record { program = i; config = c; showing = showing; script = events } in
      ap (λ (i : ImageData). with_ i m.config (left_of g m)) fresh.image
      ∙ ap (λ (c : Config). with_ counting_image c (left_of g m)) fresh.config
      ∙ ap (λ (t : List Event). with_ counting_image generated_config t) left_first

  pub may_begin : (showing : Showing) → size ≤ 1000000 → IsWatchable showing.watch → MayBegin (replay_of m showing (left_of g m))
  may_begin showing few watched =
      subst MayBegin (sym (replay_is showing)) (record {
        run = record { fits = refl; events_fit = (all_whole size).fit };
        few = omega (arith, (all_whole size).count, few);
        watched = watched;
      })

  pub is_ready : size ≤ m.spare → IsAtStart m m.image m.config (length (left_of g m))
  is_ready room = record {
    program = refl;
    sizes = refl;
    start =
        fresh.state ∙ ap (λ (i : ImageData). start_of i 4) (sym fresh.image)
        ∙ ap (λ (c : Config). start_of m.image c.nodes) (sym fresh.config);
    new = fresh.new;
    room = omega (arith, room, (all_whole size).count, ap length left_first);
  }

  pub it_serves : m.config.nodes ≡ 4
  it_serves = ap (λ (c : Config). c.nodes) fresh.config
