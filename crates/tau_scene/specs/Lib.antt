pub mod Words
pub mod Timelines
pub mod Looks
pub mod Causes
pub mod Notes
