use Rattle.std.proofs.Common.{◌≡◌, Bool, Option, Some, None, sym, ap, subst, ◌∙◌}
use Rattle.std.specs.Prelude.{IfSome}
use Rattle.sn_base.specs.declared.block.Write.{Write}
use Rattle.rv_core.specs.declared.step.Want.{Want}
use Rattle.rv_core.specs.Step.{want_of, next_of, does_next}
use Rattle.rv_core.specs.Wanted.{WriteFits, wanted_address}
use Rattle.rv_core.proofs.CoreLaws.{write_fits}
use Rattle.trace_check.proofs.core_replay.take.Goals as goal

placed : (want : Want) (done : Bool) (write : Option Write) → WriteFits want done write → IfSome write (λ w. w.address ≡ wanted_address want)
placed want done None f = tt
placed want done (Some w) f = f.1

-- a core writes where it wants to
pub new-requires : goal.new-requires
unfolding next_of
new-requires c =
    let image = c.args.image.now in
    let core = c.args.state.now in
    let r = c.args.taken.now in
    let did = c.finish_by-effect.result in
    let e : did ≡ (next_of image core r.seen r.sc_done r.read).effect = c.finish_by-effect.ensures.effect ∙ ap (λ i. (does_next image i core r.seen r.sc_done r.read).effect) c.requires.instruction in
    subst (λ want. IfSome did.write (λ w. w.address ≡ wanted_address want)) (sym c.requires.want)
    (placed (want_of image core) r.sc_done did.write (subst (λ x. WriteFits (want_of image core) r.sc_done x.write) (sym e) (write_fits image core r.seen r.sc_done r.read)))
