pub mod Faults
pub mod Ends
pub mod Visits
pub mod Laws
pub mod Inner
