pub mod Notes
pub mod Endings
pub mod Looks
pub mod Inner
