use Rattle.std.proofs.Common.{◌≡◌, ◌<◌, length, ap, sym, ◌∙◌, arith, length-set}
use Rattle.std.proofs.lemmas.List.{get_or_default}
use Rattle.sn_model.specs.Homes.{HomeEntry}
use Rattle.sn_model.specs.Fabric.{no_entry}
use Rattle.home_directory.specs.Home.{HomeData}
use Rattle.home_directory.proofs.PutBack.{opens-put}
use Rattle.home_directory.proofs.Listing.{cleared-put}
use Rattle.home_directory.proofs.Home.put_cache.Goals as goal

-- what is open stays
pub invariant_of-self : goal.invariant_of-self
invariant_of-self c =
    let l : c.place-place.result < length c.self.inside.entries = rw
    (ap (λ (h : HomeData). length h.entries) c.self.view_is) c.place-place.ensures.inside in
    let same = c.entry.view_is ∙ c.at_mut-entry.ensures.value
    ∙ get_or_default c.self.inside.entries c.place-place.result c.at_mut-entry.result.now no_entry l in
    let s : length _ ≡ length c.self.inside.entries = length-set c.self.inside.entries c.place-place.result _ in (
      record { inside = c.self.invariant.0.inside; few = c.self.invariant.0.few; filled = s ∙ c.self.invariant.0.filled },
      c.self.invariant.1
          ∙ sym (opens-put c.self.inside.entries 0 c.place-place.result _ c.at_mut-entry.result.now l
          (ap (λ (x : HomeEntry). x.transaction) (c.entry.view_is ∙ c.at_mut-entry.ensures.value))),
      omega (arith, s, c.self.invariant.2),
      cleared-put c.self.inside.touched c.self.inside.entries c.place-place.result _ l (ap (λ (x : HomeEntry). x.sharers) same)
          (ap (λ (x : HomeEntry). x.transaction) same) c.self.invariant.3,
    )
