pub mod Points
pub mod Uniqueness
pub mod Agreement
pub mod Stepping
pub mod Tables
pub mod Reading
pub mod Bounds
