pub mod Least
pub mod Decisions
pub mod DecisionKinds
pub mod Inner
