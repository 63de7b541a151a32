pub mod Decisions
pub mod Texts
pub mod Inner
pub mod Chains
pub mod Links
