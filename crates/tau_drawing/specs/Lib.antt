pub mod Lanes
pub mod Marks
pub mod Messages
pub mod States
