use Rattle.std.proofs.Common.{◌≡◌, ℕ, List, ◌+◌, ◌%◌, ◌<◌, ◌∙◌, [], false, take, ap, refl, arith, length, get_or}
use Rattle.std.specs.Prelude.{nat_le}
use Rattle.std.proofs.lemmas.Bool.Decides.{nat_tests}
use Rattle.std.proofs.lemmas.List.{get_or_read}
use Rattle.sn_saved.specs.Saved.{owned_in}
use Rattle.save_text.proofs.Counted.{count_at, full-later, counts-more, counted-rows, counted-long, none-counted, none-long, none-rows}
use Rattle.save_text.proofs.sets.first_full.Goals as goal

pub owners-init : goal.owners-init
owners-init c =
    let e = c.no_counts-taken.ensures in
    record {
      same = refl;
      long = ap (λ (t : List (List ℕ)). length t) e ∙ none-long;
      rows = λ n l. ap (λ (t : List (List ℕ)). length (get_or t n [])) e ∙ none-rows n l;
      counts = λ n s nl sl. ap (λ (t : List (List ℕ)). count_at t n s) e ∙ none-counted n s nl sl;
    }

pub owners-preserved : goal.owners-preserved
owners-preserved c =
    let l : c.owners.place < length c.args.owners.now = omega arith in
    let node = c.node_of-node.result in
    let place = c.set_of-set.result in
    let o : ℕ × ℕ = get_or c.args.owners.now c.owners.place c.index-owners-place.result in
    let en : node ≡ (get_or c.args.owners.now c.owners.place c.index-owners-place.result).1 =
    c.node_of-node.ensures.node ∙ ap (λ (x : ℕ × ℕ). x.1) c.index-owners-place.is in
    let es : place ≡ (get_or c.args.owners.now c.owners.place c.index-owners-place.result).0 % c.args.config.now.sets =
    c.set_of-set.ensures.set
    ∙ ap (λ (x : ℕ × ℕ). x.0 % c.args.config.now.sets)
    (get_or_read c.args.owners.now c.owners.place c.index-owners-place-in-owners.result l c.index-owners-place-in-owners.is c.index-owners-place.result) in
    let few = c.node_of-node.ensures.few in
    let low = c.set_of-set.ensures.few in
    let long = c.owners.invariant.long in
    let row = c.owners.invariant.rows node few in
    let ln : node < length c.owners.taken = omega (arith, few, long) in
    let ls : place < length (get_or c.owners.taken node []) = omega (arith, low, row) in
    let k = c.owners.invariant.counts node place few low in
    let p = ap (λ (n : ℕ). owned_in (take c.owners.place c.args.owners.now) c.args.config.now.sets n place) en in
    let q = ap (λ (s : ℕ). owned_in (take c.owners.place c.args.owners.now) c.args.config.now.sets
    (get_or c.args.owners.now c.owners.place c.index-owners-place.result).1 s) es in
    let w = c.if-taken-node.false in
    let room : nat_le c.args.config.now.ways (owned_in (take c.owners.place c.args.owners.now) c.args.config.now.sets
    (get_or c.args.owners.now c.owners.place c.index-owners-place.result).1
    ((get_or c.args.owners.now c.owners.place c.index-owners-place.result).0 % c.args.config.now.sets)) ≡ false =
    grind (arith, nat_tests, k, p, q, w) in
    record {
      same = full-later c.args.owners.now c.owners.place c.index-owners-place.result l c.args.config.now room ∙ c.owners.invariant.same;
      long = counted-long c.owners.taken node place (count_at c.owners.taken node place + 1) ln ls ∙ long;
      rows = λ n nl. counted-rows c.owners.taken node place (count_at c.owners.taken node place + 1) ln ls n ∙ c.owners.invariant.rows n nl;
      counts =
          counts-more c.args.owners.now c.owners.place c.args.config.now.sets c.index-owners-place.result l c.owners.taken node place en es ln ls
          c.owners.invariant.counts;
    }
