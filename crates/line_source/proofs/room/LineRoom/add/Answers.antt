use Rattle.std.proofs.Common.{◌≡◌, ◌≤◌, List, ℕ, ◌++◌, ◌-◌, ◌∙◌, length, take, ap, refl, rules}
use Rattle.line_source.specs.Reading.{kept_of}
use Rattle.line_source.specs.declared.room.TheConstants.{ROOM}
use Rattle.line_source.proofs.Begun.{added-is}
use Rattle.line_source.proofs.room.LineRoom.add.Goals as goal

pub returns : goal.returns
returns c =
    let few : length c.self.inside.bytes.items ≤ ROOM = search rules in
    let count : c.len-free.result ≡ length c.self.inside.bytes.items = search rules in
    let longer : c.extend_from_slice.new.self.items ≡ c.self.inside.bytes.items ++ take c.min.result c.args.piece.now = search rules in
    longer
    ∙ added-is c.self.inside.bytes.items c.args.piece.now _ c.min.result (ROOM - c.len-free.result) few
    (ap (λ n. ROOM - n) count) c.min.ensures refl
    ∙ ap (λ (s : List ℕ). kept_of (s ++ c.args.piece.now)) c.self.view_is
