pub mod DecisionLaws
pub mod FittingLaws
pub mod NamedPoints
pub mod Views
pub mod Laws
pub mod Kept
pub mod Changes
pub mod Inner
