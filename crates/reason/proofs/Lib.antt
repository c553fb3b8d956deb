-- Laws of the record of a name.
pub mod LookupLaws
pub mod FindLaws
pub mod BestLaws
pub mod PeerLaws
pub mod WhyLaws
