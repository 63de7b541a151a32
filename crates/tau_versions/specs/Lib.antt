pub mod Numbers
pub mod Logs
pub mod Search
pub mod Roots
