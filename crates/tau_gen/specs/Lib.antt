pub mod Hop
pub mod Generated
