-- What the probes are told of lines: each event as it is done, at its place, also one that is taken back later.
use Rattle.std.specs.Prelude.{◌+◌, List, [], ◌∷◌, map, length}
use Rattle.sn_base.specs.Image.{ImageData}
use Rattle.sn_base.specs.declared.config.Config.{Config}
use Rattle.sn_base.specs.declared.event.Event.{Event}
use Rattle.sn_model.specs.Step.{step_of}
use Rattle.consistent_cuts.specs.Headline.{state_of_run}
use Rattle.line_source.specs.Lines.{LineRead}
use Rattle.sn_probe.specs.Probes.{Meter, told_of}
use Rattle.driven_replay.specs.declared.job.Said.{Said}
use Rattle.driven_replay.specs.declared.job.Said.TheVariants.{Does}
use Rattle.driven_replay.specs.Said.{said_by, done_after}

-- probes that are told of a line, where these events are done
abbrev pub told_by : ImageData → Config → List Event → Said → List Meter → List Meter
told_by image config done (Does event) probes =
    map (told_of (length done + 1) event (step_of image config (state_of_run image config done) event).answer) probes
told_by image config done _ probes = probes

-- and of all these lines
abbrev pub told_along : ImageData → Config → List Event → List LineRead → List Meter → List Meter
told_along image config done [] probes = probes
told_along image config done (line ∷ lines) probes = let said = said_by config.nodes line in
    told_along image config (done_after done said) lines (told_by image config done said probes)
