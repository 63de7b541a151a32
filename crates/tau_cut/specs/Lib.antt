pub mod Consistent
pub mod Cuts
pub mod KeptStates
pub mod Texts
pub mod Laws
pub mod Inner
