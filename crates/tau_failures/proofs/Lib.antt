pub mod DueLemmas
pub mod Steps
pub mod Ends
