pub mod Looks
pub mod Causes
pub mod Inner
