use Rattle.std.proofs.Common.{◌≡◌, drop}
use Rattle.sn_saved.specs.Saved.{given_to}
use Rattle.save_text.proofs.reads.next_given.Given as goal

-- none of the bytes that were passed is the node's
abbrev pub invariant-bytes : goal.invariant-bytes
invariant-bytes l = given_to (drop l.place l.given) l.node ≡ given_to (drop l.from l.given) l.node
