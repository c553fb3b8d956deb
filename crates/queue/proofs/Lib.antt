pub mod ShareLaws
pub mod QueueLaws
pub mod CallLaws
pub mod PeerLaws
pub mod Unchanged
