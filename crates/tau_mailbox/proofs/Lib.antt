pub mod Blocks
pub mod Consistency
pub mod Counting
pub mod Leaving
pub mod Lists
pub mod Rooms
pub mod Search
