use Rattle.std.proofs.Common.{arith, ◌+◌}
use Rattle.sn_io.proofs.Reading.{all-taken}
use Rattle.sn_io.proofs.file_store.read_past.Goals as goal

pub returns-in_ok-read_to_end-in-None-clause-read :
    goal.returns-in_ok-read_to_end-in-None-clause-read
returns-in_ok-read_to_end-in-None-clause-read g c =
    all-taken (g.F.Read.remaining c.args.file) c.args.into.now.items c.read_to_end-in-None.new.buf.items (c.args.limit + 1)
    c.requires.empty (omega (arith, c.len.ensures, c.len.type_inv, c.in-None.ensures)) c.in_ok-read_to_end-in-None.ensures.bytes
