mod Raised
pub mod ByNumber
pub mod Known
pub mod Latest
pub mod Newborns
pub mod Taking
pub mod Telling
pub mod Deciding
pub mod Facts
pub mod Meeting
pub mod Positions
pub mod Filters
pub mod Ranges
