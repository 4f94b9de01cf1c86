use Rattle.std.proofs.Common.{◌≡◌, ℕ, ◌<◌, false, length, get_or, sym, ap, ◌∙◌, subst, arith, length-set}
use Rattle.std.proofs.lemmas.List.{get_or_read}
use Rattle.sn_model.specs.Homes.{HomeEntry}
use Rattle.sn_model.specs.HomeRows.{home_reply}
use Rattle.sn_model.specs.Fabric.{no_entry}
use Rattle.home_directory.specs.Home.{HomeData, entry_of}
use Rattle.home_directory.specs.Receipt.{entry_as_it_is}
use Rattle.home_directory.specs.Serving.{is_over}
use Rattle.home_directory.specs.Open.{opens_after}
use Rattle.home_directory.proofs.Opens.{short_is, relisted_is}
use Rattle.home_directory.proofs.Listing.{cleared-touched}
use Rattle.home_directory.proofs.Verdicts.{has_room}
use Rattle.home_directory.proofs.Home.carry_out.Goals as goal

-- the place has room in the list
pub relist-requires : goal.relist-requires
relist-requires c =
    let n = ap (λ (h : HomeData). length h.entries) c.self.view_is in
    let l : c.place-place.result < length c.self.inside.entries = rw n c.place-place.ensures.inside in
    let q = short_is c.self.inside.entries c.place-place.result l in
    record { room = rw c.self.invariant.1 (omega (arith, q, c.self.invariant.2)) }

-- the list follows the entry
pub invariant_of-self : goal.invariant_of-self
invariant_of-self c =
    let n = ap (λ (h : HomeData). length h.entries) c.self.view_is in
    let l : c.place-place.result < length c.self.inside.entries = rw n c.place-place.ensures.inside in
    let s : length _ ≡ length c.self.inside.entries = length-set c.self.inside.entries c.place-place.result c.do_row-step.new.entry in (
      record {
        inside = c.self.invariant.0.inside;
        few = c.self.invariant.0.few;
        filled = s ∙ c.self.invariant.0.filled;
      },
      c.relist.ensures.listed
          ∙ ap (λ o. opens_after c.place-place.result o c.self.inside.opens.items) c.begun-begun.ensures
          ∙ ap (opens_after c.place-place.result _) c.self.invariant.1
          ∙ relisted_is c.self.inside.entries c.place-place.result c.do_row-step.new.entry l,
      omega (arith, s, c.self.invariant.2, c.relist.ensures.room),
      rw c.touch.ensures
          (cleared-touched c.self.inside.touched c.self.inside.entries c.place-place.result c.do_row-step.new.entry l c.self.invariant.3),
    )

-- the log has the room
pub do_row-step-requires-clause-room : goal.do_row-step-requires-clause-room
do_row-step-requires-clause-room c =
    let n = ap (λ (h : HomeData). length h.entries) c.self.view_is in
    let l : c.place-place.result < length c.self.inside.entries = rw n c.place-place.ensures.inside in
    let e : c.at_mut-entry.result.now ≡ entry_of c.args.self.now c.args.message.now.block =
    get_or_read c.self.inside.entries c.place-place.result c.at_mut-entry.result.now l c.at_mut-entry.ensures.value no_entry
    ∙ ap (λ (h : HomeData). get_or h.entries c.place-place.result no_entry) c.self.view_is
    ∙ ap (λ (k : ℕ). get_or c.args.self.now.entries k no_entry) c.place-place.ensures.place in
    has_room c.args.log.now c.at_mut-entry.result.now c.args.message.now.block c.args.now c.args.message.now.tag c.args.message.now.from
    c.args.row.now
    (subst (λ (x : HomeEntry). is_over c.args.log.now (home_reply (entry_as_it_is x c.args.log.now.entries) c.args.message.now.block c.args.now
    c.args.message.now.tag c.args.message.now.from c.args.row.now) ≡ false) (sym e) c.requires.room)
