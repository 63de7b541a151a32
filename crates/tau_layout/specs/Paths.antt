pub mod Senders
pub mod Spots
pub mod Near
pub mod Guides
pub mod Paths
pub mod Inner
