pub mod Clean
pub mod Doomed
pub mod Freedom
pub mod Kept
pub mod Kinds
pub mod Latest
pub mod Noting
pub mod Spreading
