use Rattle.std.proofs.Common.{◌≡◌, ℕ, List, [], ◌<◌, true, false, length, take, get_or, ap, sym, subst, ◌∙◌, arith}
use Rattle.std.specs.Prelude.{nat_eq}
use Rattle.std.proofs.Math.Seq.{take-length}
use Rattle.std.proofs.lemmas.Bool.Decides.{nat_tests}
use Rattle.std.proofs.lemmas.List.{get_or_default, get_or_read}
use Rattle.sn_base.specs.declared.log.Old.TheVariants.{Owned}
use Rattle.rollback.specs.Unwound.{contents_with_old}
use Rattle.mosi_cache.specs.PartsFit.{stays-same, stays-along}
use Rattle.mosi_cache.specs.Controller.{CacheData}
use Rattle.mosi_cache.specs.Restored.{held_of, HeldFits, StaysAsItIs}
use Rattle.sn_fabric.specs.Resumed.{content_in, held_with}
use Rattle.sn_fabric.proofs.GivenBack.{put_here, put_elsewhere, has_room, nothing_held, given_back}
use Rattle.sn_fabric.proofs.resuming.give_owned.Goals as goal
use Rattle.sn_fabric.proofs.resuming.give_owned.Goals.{then-eq, else-eq}

pub owners-init : goal.owners-init
owners-init c = record {
  held = nothing_held c.args.cache.now c.args.contents.now c.args.owners.now c.args.node c.requires.empty;
  room = λ map fits. fits;
  stays = stays-same c.args.cache.now;
}

pub put_back-requires : goal.put_back-requires
put_back-requires c =
    let l : c.owners.place < length c.args.owners.now = omega (arith, c.owners-test.true) in
    let o = get_or c.args.owners.now c.owners.place c.index-owners-place.result in
    let p = get_or c.args.owners.now c.owners.place c.index-owners-place-in-owners.result in
    let same : p ≡ o = get_or_default c.args.owners.now c.owners.place c.index-owners-place-in-owners.result c.index-owners-place.result l in
    let own : nat_eq p.1 c.args.node ≡ true = let a = c.if-eq.true in let b = c.eq.ensures in grind (arith, nat_tests) in
    let inside : c.from.result < length c.args.contents.now = omega (arith, c.from.ensures, c.number.ensures.small, c.requires.all) in
    let content : c.index-contents-from.result ≡ content_in c.args.contents.now o.0 =
    get_or_read c.args.contents.now c.from.result c.index-contents-from.result inside c.index-contents-from.is []
    ∙ ap (λ (n : ℕ). content_in c.args.contents.now n) (c.from.ensures ∙ c.number.ensures.same) in
    subst (λ (v : List ℕ). HeldFits c.owners.cache (contents_with_old false (held_of c.owners.cache) o.0 (Owned v))) (sym content)
    (has_room c.args.contents.now c.args.owners.now c.args.node c.owners.place c.index-owners-place.result c.requires.order l
    c.args.cache.now c.owners.cache (ap (λ (x : ℕ × ℕ). nat_eq x.1 c.args.node) (sym same) ∙ own) c.requires.room c.owners.invariant.room
    c.owners.invariant.held)

pub owners-preserved : goal.owners-preserved
owners-preserved c =
    let l : c.owners.place < length c.args.owners.now = omega (arith, c.owners-test.true) in
    let o = get_or c.args.owners.now c.owners.place c.index-owners-place.result in
    let p = get_or c.args.owners.now c.owners.place c.index-owners-place-in-owners.result in
    let same : p ≡ o = get_or_default c.args.owners.now c.owners.place c.index-owners-place-in-owners.result c.index-owners-place.result l in
    elim c.if-eq.branch [
      | then-eq w ↦
          let own : nat_eq p.1 c.args.node ≡ true = let a = w.if-eq.true in let b = c.eq.ensures in grind (arith, nat_tests) in
          let inside : w.from.result < length c.args.contents.now = omega (arith, w.from.ensures, w.number.ensures.small, c.requires.all) in
          let content : w.index-contents-from.result ≡ content_in c.args.contents.now o.0 =
          get_or_read c.args.contents.now w.from.result w.index-contents-from.result inside w.index-contents-from.is []
          ∙ ap (λ (n : ℕ). content_in c.args.contents.now n) (w.from.ensures ∙ w.number.ensures.same) in
          record {
            held =
                λ b. ap (λ (x : CacheData). held_of x b) w.cache-is ∙ w.put_back.ensures.held b
                ∙ ap (λ (v : List ℕ). contents_with_old false (held_of c.owners.cache) o.0 (Owned v) b) content
                ∙ put_here c.args.contents.now c.args.owners.now c.args.node c.owners.place c.index-owners-place.result c.requires.order l
                (ap (λ (x : ℕ × ℕ). nat_eq x.1 c.args.node) (sym same) ∙ own) (held_of c.owners.cache) c.owners.invariant.held b;
            room =
                λ map fits. subst (λ (x : CacheData). HeldFits x map) (sym w.cache-is)
                (w.put_back.ensures.room map (c.owners.invariant.room map fits));
            stays =
                subst (StaysAsItIs c.args.cache.now) (sym w.cache-is)
                (stays-along c.args.cache.now c.owners.cache w.put_back.new.self c.owners.invariant.stays w.put_back.ensures.stays);
          }
      | else-eq w ↦
          let other : nat_eq p.1 c.args.node ≡ false = let a = w.if-eq.false in let b = c.eq.ensures in grind (arith, nat_tests) in
          record {
            held =
                λ b. ap (λ (x : CacheData). held_of x b) w.cache-is
                ∙ put_elsewhere c.args.contents.now c.args.owners.now c.args.node c.owners.place c.index-owners-place.result c.requires.order l
                (ap (λ (x : ℕ × ℕ). nat_eq x.1 c.args.node) (sym same) ∙ other) (held_of c.owners.cache) c.owners.invariant.held b;
            room = λ map fits. subst (λ (x : CacheData). HeldFits x map) (sym w.cache-is) (c.owners.invariant.room map fits);
            stays = subst (StaysAsItIs c.args.cache.now) (sym w.cache-is) c.owners.invariant.stays;
          }
    ]

pub returns : goal.returns
returns c =
    let e : c.owners.place ≡ length c.args.owners.now = omega (arith, c.owners-test.false, c.owners.auto.place-end) in
    let all : take c.owners.place c.args.owners.now ≡ c.args.owners.now = ap (λ (n : ℕ). take n c.args.owners.now) e ∙ take-length c.args.owners.now in
    given_back c.args.cache.now c.owners.cache c.args.contents.now c.args.owners.now c.args.node c.requires.empty c.owners.invariant.stays
    (λ b. c.owners.invariant.held b ∙ ap (λ (xs : List (ℕ × ℕ)). held_with c.args.contents.now xs c.args.node b) all)
