pub mod Laws
pub mod Logs
pub mod Numbered
pub mod Searching
pub mod Walks
pub mod Wanting
