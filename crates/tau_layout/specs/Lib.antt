pub mod Lanes
pub mod Plans
pub mod Inner
pub mod Paths
