use Rattle.std.proofs.Common.{◌≡◌, ℕ, suc, zero, Bool, true, false, Option, None, replicate, length, get_or, List, refl, ap, ◌∙◌}
use Rattle.std.specs.Prelude.{if◌then◌else◌}
use Rattle.std.proofs.lemmas.List.{length-replicate}
use Rattle.log_buffer.proofs.places.Newest.new.Goals as goal

nowhere_at : (n b : ℕ) → ◌≡◌ {A = Option ℕ} (get_or (replicate n None) b None) None
nowhere_at zero b = refl
nowhere_at (suc n) zero = refl
nowhere_at (suc n) (suc b) = nowhere_at n b

nowhere_of : (s : Bool) (hs cs : List (Option ℕ)) (n b : ℕ) → hs ≡ replicate n None → cs ≡ replicate n None →
    get_or (if s then hs else cs) b None ≡ None
nowhere_of true hs cs n b h k = ap (λ (xs : List (Option ℕ)). get_or xs b None) h ∙ nowhere_at n b
nowhere_of false hs cs n b h k = ap (λ (xs : List (Option ℕ)). get_or xs b None) k ∙ nowhere_at n b

filled : (xs : List (Option ℕ)) (n : ℕ) → xs ≡ replicate n None → length xs ≡ n
filled xs n e = ap length e ∙ length-replicate n None

-- each table has a place for each block
pub invariant_of-result : goal.invariant_of-result
invariant_of-result c = record {
  home_blocks = filled c.in_ok-home.home 65536 c.in_ok-home.ensures;
  cache_blocks = filled c.in_ok-cache.cache 65536 c.in_ok-cache.ensures;
}

pub returns : goal.returns
returns c = λ s b. nowhere_of s c.in_ok-home.home c.in_ok-cache.cache 65536 b c.in_ok-home.ensures c.in_ok-cache.ensures
