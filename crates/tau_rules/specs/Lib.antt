pub mod Records
pub mod System
pub mod Answers
pub mod KnownJobs
pub mod Inner
