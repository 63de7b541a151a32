pub mod LineLemmas
pub mod GridLemmas
pub mod Joining
pub mod Writing
