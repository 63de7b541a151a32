pub mod Exact
pub mod Members
pub mod Order
pub mod Reach
pub mod ReachLaws
