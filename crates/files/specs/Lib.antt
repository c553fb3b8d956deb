pub mod Mode
pub mod StandIn
