-- What the answer to a probe says of the frames.
use Rattle.std.proofs.Common.{◌≡◌, ℕ, ◌<◌, Bool, true, false, not, ◌&&◌, refl, arith, length}
use Rattle.std.specs.Prelude.{nat_le, nat_lt, if◌then◌else◌}
use Rattle.std.proofs.lemmas.Bool.Decides.{nat_tests}
use Rattle.log_buffer.specs.Log.{LogData}
use Rattle.sn_model.specs.declared.cache.Need.{Need}
use Rattle.sn_model.specs.declared.cache.Need.TheVariants.{Read, Write}
use Rattle.sn_model.specs.Caches.{line_of, is_present, is_writable_state, puts_on, frames_taken}
use Rattle.mosi_cache.specs.declared.step.AccessProbe.TheVariants.{Ready, Waits, Miss, NeedsEvict, LogFull}
use Rattle.mosi_cache.specs.Controller.{CacheData}
use Rattle.mosi_cache.specs.Probe.{probe_by, log_with}

by_test : (full : Bool) (n w : ℕ) → nat_le w n ≡ full → (if full then NeedsEvict else Miss) ≡ Miss → n < w
by_test true n w e h = cc
by_test false n w e h = grind (arith, nat_tests)

read_step : (a : Bool) (p : Bool) (n w : ℕ) →
    (if a then Waits else (if p then Ready else (if not p && nat_le w n then NeedsEvict else Miss))) ≡ Miss → p ≡ false → n < w
read_step true p n w h i = cc
read_step false true n w h i = cc
read_step false false n w h i = by_test (nat_le w n) n w refl h

write_step : (a v f : Bool) (p : Bool) (n w : ℕ) →
    (if a then Waits else (if v then (if f then LogFull else Ready) else (if not p && nat_le w n then NeedsEvict else Miss))) ≡ Miss →
    p ≡ false → n < w
write_step true v f p n w h i = cc
write_step false true true p n w h i = cc
write_step false true false p n w h i = cc
write_step false false f true n w h i = cc
write_step false false f false n w h i = by_test (nat_le w n) n w refl h

-- where a miss may begin on a block without a line, its set has a frame
pub miss-fits : (d : CacheData) (log : LogData) (block now : ℕ) (need : Need) → probe_by d log block now need ≡ Miss →
    is_present (line_of d.cache block).state ≡ false → frames_taken d.cache d.sets block < d.ways
miss-fits d log block now Read h i =
    read_step (puts_on d.cache.put block) (is_present (line_of d.cache block).state) (frames_taken d.cache d.sets block) d.ways h i
miss-fits d log block now Write h i =
    write_step (puts_on d.cache.put block) (is_writable_state (line_of d.cache block).state)
    (nat_lt log.limit (length (log_with d log.entries block now)))
    (is_present (line_of d.cache block).state) (frames_taken d.cache d.sets block) d.ways h i
