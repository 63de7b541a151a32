pub mod Filters
pub mod Membership
pub mod PointOrder
pub mod Reach
pub mod Searches
pub mod SortedLists
pub mod Spans
pub mod Tables
