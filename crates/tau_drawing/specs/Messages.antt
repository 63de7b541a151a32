pub mod Titles
pub mod Arrows
pub mod Messages
pub mod Inner
