-- What a node's calls leave and answer, in its own words.
use Rattle.std.specs.Prelude.{ℕ, ◌+◌, ◌-◌, Bool, nat_eq, if◌then◌else◌, List, Option, Some, None}
use Rattle.sn_base.specs.declared.event.Answer.{Answer}
use Rattle.sn_base.specs.declared.event.Answer.TheVariants.{Edged, CheckpointsFull, Retired, Waits, NeedsEvict, LogFull, NetFull, Missed}
use Rattle.sn_base.specs.declared.event.Answer.TheVariants.{PutBegun}
use Rattle.sn_base.specs.declared.log.Old.{Old}
use Rattle.sn_base.specs.declared.log.Old.TheVariants.{NotOwned, Owned, WasHome, WasCache}
use Rattle.ckpt_clock.specs.Clock.{ClockData}
use Rattle.sn_model.specs.declared.home.Owner.{Owner}
use Rattle.sn_model.specs.declared.home.Owner.TheVariants.{Home, Cache}
use Rattle.mosi_cache.specs.declared.step.AccessProbe.{AccessProbe}
use Rattle.mosi_cache.specs.declared.step.AccessProbe.TheVariants.{Ready, Waits as HasToWait, Miss, NeedsEvict as HasNoFrame}
use Rattle.mosi_cache.specs.declared.step.AccessProbe.TheVariants.{LogFull as HasNoRoom}
use Rattle.sn_base.specs.declared.limits.TheConstants.{CHECKPOINTS}

-- whether a clock has as many checkpoints above the known point as it may
abbrev pub is_full : ClockData → Bool
is_full c = nat_eq (c.interval - c.known) CHECKPOINTS

-- a clock after an edge, and the answer to it
abbrev pub clock_after_edge : ClockData → ClockData
clock_after_edge c = if is_full c then c else record c { interval = c.interval + 1 }

abbrev pub edge_answer : ClockData → Answer
edge_answer c = if is_full c then CheckpointsFull else Edged (c.interval + 1)

-- the answer to an access without an open miss, by what the cache says of it and whether the network is full
abbrev pub access_answer : AccessProbe → Bool → Answer
access_answer Ready full = Retired
access_answer HasToWait full = Waits
access_answer HasNoFrame full = NeedsEvict
access_answer HasNoRoom full = LogFull
access_answer Miss full = if full then NetFull else Missed

-- the answer to an eviction, by what the cache says of it and whether the network is full
abbrev pub evict_answer : Answer → Bool → Answer
evict_answer PutBegun full = if full then NetFull else PutBegun
evict_answer answer full = answer

-- the owner at a cut, by the home's old content at or after it and the owner now
abbrev pub owner_by : Option Old → Owner → Owner
owner_by None owner = owner
owner_by (Some NotOwned) owner = owner
owner_by (Some (Owned content)) owner = owner
owner_by (Some (WasHome content)) owner = Home
owner_by (Some (WasCache node)) owner = Cache node

-- the content that a home noted, where an old content is one
abbrev pub noted_content : Option Old → Option (List ℕ)
noted_content None = None
noted_content (Some NotOwned) = None
noted_content (Some (Owned content)) = None
noted_content (Some (WasHome content)) = Some content
noted_content (Some (WasCache node)) = None
