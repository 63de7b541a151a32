pub mod Bands
pub mod LaneLines
pub mod NameLines
