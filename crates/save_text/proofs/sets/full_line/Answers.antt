use Rattle.std.proofs.Common.{◌≡◌, ℕ, List, ◌+◌, ◌∙◌, [], ap}
use Rattle.std.specs.Prelude.{Some, option_map}
use Rattle.sn_saved.specs.Saved.{Saved, full_from, first_full}
use Rattle.save_text.specs.Judged.{dead_count, line_of_owner}
use Rattle.save_text.proofs.sets.full_line.Goals as goal

pub returns : goal.returns
returns c =
    let owners : c.as_slice.result.now ≡ c.args.saved.now.owners = c.as_slice.ensures.value ∙ ap (λ (s : Saved). s.owners) c.saved.view_is in
    let place : Some c.in_ok-place.place ≡ first_full c.args.saved.now =
    c.in_ok-place.ensures.place
    ∙ (ap (λ (xs : List (ℕ × ℕ)). full_from c.saved.inside.config [] 0 xs) owners
    ∙ ap (λ (s : Saved). full_from s.config [] 0 c.args.saved.now.owners) c.saved.view_is) in
    let line : c.line_of_owner.result ≡ line_of_owner c.args.saved.now c.in_ok-place.place =
    c.line_of_owner.ensures ∙ ap (λ (s : Saved). 4 + dead_count s.marks.dead + c.in_ok-place.place) c.saved.view_is in
    ap (λ (n : ℕ). Some n) line ∙ ap (option_map (line_of_owner c.args.saved.now)) place
