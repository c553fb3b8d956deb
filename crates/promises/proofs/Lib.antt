-- The promises.
pub mod Worked
pub mod Messages
mod MemoryLaws
pub mod Merges
pub mod SampleMerges
mod PeerRuns
pub mod Requests
pub mod LentRuns
pub mod Arriving
mod HeldLaws
pub mod RequestList
mod FirstHeldLaws
mod ListedLaws
pub mod Why
pub mod Details
pub mod Spans
pub mod Serving
pub mod Following
pub mod Walking
mod BelongLaws
pub mod Accepting
mod FieldLaws
pub mod RoundTrips
pub mod Turning
pub mod Elements
pub mod Arrived
pub mod SampleArrived
pub mod Strings
pub mod BadByte
pub mod Feeds
pub mod Hashing
