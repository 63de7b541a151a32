pub mod Going
pub mod Kept
pub mod Resumed
pub mod Found
