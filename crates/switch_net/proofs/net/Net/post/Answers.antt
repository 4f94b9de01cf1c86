use Rattle.switch_net.proofs.Nets.{net-next, net-push}
use Rattle.switch_net.proofs.net.Net.post.Goals as goal

pub invariant_of-self : goal.invariant_of-self
invariant_of-self c = (net-next _ c.self.invariant.0, c.self.invariant.1)

pub invariant_of-self-2 : goal.invariant_of-self-2
invariant_of-self-2 c =
    rw c.push.ensures (
      net-push _ _ c.self.invariant.0 (rw (← c.self.view_is) at c.requires.room) (rw (← c.self.view_is) at c.requires.number)
          (record {
            from = rw (← c.self.view_is) at c.requires.sender;
            to = rw (← c.self.view_is) at c.requires.receiver;
            living = c.enter-at.ensures.living;
          }),
      c.self.invariant.1,
    )
