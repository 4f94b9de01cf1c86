use Rattle.std.proofs.Common.{Bool, ◌≡◌, ◌+◌, ◌<◌, ◌≤◌, ◌∙◌, false, length, ap, arith}
use Rattle.log_buffer.specs.Log.{LogData, is_home_side, has_entry, logged_to}
use Rattle.log_buffer.specs.Index.{entries_of, newest_of}
use Rattle.log_buffer.proofs.Entries.{IsLog-push}
use Rattle.log_buffer.proofs.Indexed.{puts, entries_of-push, IsIndexed-push}
use Rattle.log_buffer.proofs.LogBuffer.note.Goals as goal

-- the new entry is the latest of its side and block, and its place the last
pub invariant_of-self : goal.invariant_of-self
invariant_of-self c =
    let v = ap (λ (x : LogData). x.entries) c.self.view_is in
    let w = ap (λ (x : LogData). x.limit) c.self.view_is in
    let a : has_entry c.args.self.now.entries c.args.interval (is_home_side c.args.old) c.args.block ≡ false = cc in
    let m : length c.args.self.now.entries < c.args.self.now.limit = c.requires.room a in
    let b : has_entry (entries_of c.self.inside.stored.items) c.args.interval (is_home_side c.args.old) c.args.block ≡ false = cc in
    let n : length (entries_of c.self.inside.stored.items) < c.self.inside.limit = rw (v, w) m in
    let l : logged_to (entries_of c.self.inside.stored.items)
    (is_home_side c.args.old) c.args.block ≤ c.args.interval + 1 = rw v c.requires.latest in
    rw (c.push.ensures.items, c.unwrap.ensures) (record {
      log = rw (entries_of-push c.self.inside.stored.items _) (IsLog-push _ _ _ _ _ c.self.invariant.log n b l);
      index =
          IsIndexed-push c.self.inside.stored.items _ _ c.len-place.result c.self.inside.newest c.put.new.self c.self.invariant.index c.of-older.ensures.small
          (c.of-older.ensures.place ∙ ap (λ (t : Bool). newest_of c.self.inside.newest t c.args.block) c.is_home_side-home_side.ensures)
          (omega arith)
          (puts c.self.inside.newest c.put.new.self
          (record { interval = c.args.interval; block = c.args.block; old = c.args.old }) c.is_home_side-home_side.result _
          c.is_home_side-home_side.ensures c.put.ensures.places);
      room = omega arith;
      few = c.self.invariant.few;
    })
