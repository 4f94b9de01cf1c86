mod Base
mod NetSends
mod Rising
mod NetShape
mod NetEvents
pub mod Receivers
pub mod InFlight
mod CacheSeen
mod CacheSends
mod CacheRows
mod CacheMisses
mod CacheApart
mod CacheElsewhere
mod CacheConditions
mod HomeSeen
mod HomeRows
mod HomeElsewhere
mod HomeConditions
mod HomeOutcomes
mod NodeSeen
mod NodeAccess
mod NodeOther
pub mod Recovery
pub mod Holders
mod KeptCommon
mod KeptNet
mod KeptHome
mod KeptNode
mod KeptEvict
mod KeptAccess
pub mod Retirements
pub mod Finished
mod KeptOwn
mod KeptReport
pub mod KeptStart
pub mod KeptResumed
mod CacheOutcomes
mod KeptCache
pub mod KeptEvents
pub mod RowsMet
pub mod EachOutcome
pub mod NodesStay
pub mod Told
pub mod Reports
pub mod Served
pub mod ToldOf
