-- What contracts of inner functions say; no clause of a public call rests on these.
pub mod Counting
pub mod Ordered
pub mod Telling
pub mod Claiming
pub mod Dealing
