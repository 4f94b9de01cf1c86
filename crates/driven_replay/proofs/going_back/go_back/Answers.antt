use Rattle.script_replay.proofs.Fits.{all_fit-take}
use Rattle.driven_replay.proofs.going_back.go_back.Goals as goal

pub led_by-requires-clause-fit : goal.led_by-requires-clause-fit
led_by-requires-clause-fit c =
    rw (c.first.ensures, c.config-config.ensures.same) (all_fit-take c.args.machine.now.config.nodes c.args.kept.now c.args.events c.requires.fit)
