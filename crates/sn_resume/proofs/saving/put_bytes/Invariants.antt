use Rattle.std.proofs.Common.{◌<◌, take}
use Rattle.std.specs.Prelude.{flat_map, map}
use Rattle.std.specs.List.{All}
use Rattle.save_text.specs.Text.{given_line}
use Rattle.sn_resume.proofs.Parts.{bytes_from}
use Rattle.sn_resume.proofs.Putting.{IsLeft}
use Rattle.sn_resume.proofs.saving.put_bytes.Given as goal

abbrev pub invariant-bytes : goal.invariant-bytes
invariant-bytes g l = record {
  put :
      IsLeft (flat_map given_line (map (λ byte. (l.node, byte)) l.bytes)) (bytes_from l.node l.bytes l.byte-index)
      (g.R.Sink.written l.initial.sink) (g.R.Sink.written l.sink) (g.R.Sink.faults l.initial.sink) (g.R.Sink.faults l.sink);
  numbers : All (λ byte. byte < 256) (take l.byte-index l.bytes);
}
