pub mod Legality
pub mod Families
pub mod Inner
