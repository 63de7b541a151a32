pub mod Adding
pub mod Closing
pub mod Listed
pub mod Marks
