use Rattle.sn_resume.proofs.Putting.{put_says, same_text}
use Rattle.sn_resume.proofs.lines.put.Goals as goal

pub returns : goal.returns
returns g c =
    same_text _ _ _ _ _ _ _ c.bytes.ensures
    (put_says _ _ _ _ _ c.put.result c.put.ensures.whole c.put.ensures.part c.put.ensures.later c.put.ensures.cause)
