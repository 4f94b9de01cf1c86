-- How many frames of a set blocks of memory take, where each that takes one of one cache takes one of another.
use Rattle.std.proofs.Common.{◌≡◌, ℕ, zero, suc, ◌<◌, ◌%◌, true, false, sym, subst, arith}
use Rattle.sn_model.specs.Caches.{Cache, takes_frame, block_count, frames_below, frames_taken}
use Rattle.mosi_cache.specs.PartsFit.{TakesFewerBelow, fewer-below}
use Rattle.sn_model.proofs.Taken.{strict_step}

strict_below : (n : ℕ) (c d : Cache) (sets x : ℕ) → TakesFewerBelow n c d → takes_frame d x ≡ true → takes_frame c x ≡ false → x < n →
    frames_below n c sets (x % sets) < frames_below n d sets (x % sets)
strict_below zero c d sets x h v w l = absurd (omega arith)
strict_below (suc n) c d sets x h v w l =
    let s =
    strict_step n x sets (frames_below n c sets (x % sets)) (frames_below n d sets (x % sets)) (takes_frame c n) (takes_frame d n)
    (fewer-below n c d sets (x % sets) (λ b m. h b (omega arith)))
    (λ m. let t : frames_below n c sets (x % sets) < frames_below n d sets (x % sets) = strict_below n c d sets x
    (λ b k. h b (omega arith)) v w m in omega arith)
    l (h n (omega arith))
    (λ e. subst (λ (b : ℕ). takes_frame d b ≡ true) (sym e) v)
    (λ e. subst (λ (b : ℕ). takes_frame c b ≡ false) (sym e) w) in
    omega (arith, s)

-- where a block takes a frame of the other alone, the one takes fewer of its set
pub strictly-within : (c d : Cache) (sets x : ℕ) → TakesFewerBelow block_count c d → takes_frame d x ≡ true → takes_frame c x ≡ false →
    x < block_count → frames_taken c sets x < frames_taken d sets x
unfolding frames_taken
strictly-within c d sets x h v w l = strict_below block_count c d sets x h v w l
