pub mod Status
pub mod Effects
pub mod Output
pub mod Texts
pub mod Ends
pub mod Inner
