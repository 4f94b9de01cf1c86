-- A new miss: its block has a frame, or its set has one free.
use Rattle.std.proofs.Common.{◌≡◌, ℕ, ◌+◌, ◌<◌, ◌≤◌, ◌%◌, Bool, true, false, not, ◌&&◌, ◌||◌, subst, ⊎_elim, arith, nat_eq, nat_le}
use Rattle.std.proofs.Common.{if◌then◌else◌, Some}
use Rattle.std.proofs.lemmas.Bool.{cases_Bool}
use Rattle.std.proofs.lemmas.Bool.Decides.{nat_tests}
use Rattle.sn_base.specs.declared.config.Config.{Config}
use Rattle.sn_model.specs.Caches.{Cache, Miss, line_of, is_present, misses_on, frames_taken}
use Rattle.sn_model.proofs.Taken.{TakesFewer, taken-more, taken-of-set}
use Rattle.fabric_bounds.specs.Bounds.{CacheFits}
use Rattle.fabric_bounds.proofs.Steps.{fewer_fits}

one_more : (sets ways x y i j : ℕ) → i ≤ j + (if nat_eq (x % sets) (y % sets) then 1 else 0) → j ≤ ways → (x % sets ≡ y % sets → j < ways) →
    i ≤ ways
one_more sets ways x y i j h f l = grind (arith, nat_tests)

is_free : (p : Bool) (ways taken : ℕ) → p ≡ false → (not p && nat_le ways taken) ≡ false → taken < ways
is_free p ways taken e h = grind (arith, nat_tests)

new_or_old : (p m e : Bool) → (p || e) ≡ true → ((p || m) || e) ≡ true
new_or_old p m e h = grind arith

had_one : (p m e : Bool) → (e ≡ true → p ≡ true) → (p || e) ≡ true → (p || m) ≡ true
had_one p m e h k = grind arith

module _ (config : Config) (c : Cache) (miss : Miss) (fits : CacheFits config c) where
  abbrev missing : Cache
  missing = record c { miss = Some miss }

  has_line : is_present (line_of c miss.block).state ≡ true → TakesFewer missing c
  has_line p b =
      had_one (is_present (line_of c b).state) (misses_on c.miss b) (nat_eq miss.block b)
      (λ e. subst (λ x. is_present (line_of c x).state ≡ true) (equal e) p)
    where
      equal : nat_eq miss.block b ≡ true → miss.block ≡ b
      equal e = grind (arith, nat_tests)

  finds_room : frames_taken c config.sets miss.block < config.ways → CacheFits config missing
  finds_room l y =
      one_more config.sets config.ways miss.block y (frames_taken missing config.sets y) (frames_taken c config.sets y)
      (taken-more missing c config.sets miss.block y
      (λ b. new_or_old (is_present (line_of c b).state) (misses_on c.miss b) (nat_eq miss.block b)))
      (fits y) (λ e. subst (λ k. k < config.ways) (taken-of-set c config.sets miss.block y e) l)

  pub miss_fits : (not (is_present (line_of c miss.block).state) && nat_le config.ways (frames_taken c config.sets miss.block)) ≡ false →
      CacheFits config missing
  miss_fits h = ⊎_elim
      (λ (p : is_present (line_of c miss.block).state ≡ true). fewer_fits config missing c (has_line p) fits)
      (λ (p : is_present (line_of c miss.block).state ≡ false). finds_room
      (is_free (is_present (line_of c miss.block).state) config.ways (frames_taken c config.sets miss.block) p h))
      (cases_Bool (is_present (line_of c miss.block).state))
