-- What contracts of inner functions say; public calls cite of these what Readings cites of them alone.
pub mod Scopes
pub mod Wanted
pub mod Passing
pub mod Defined
pub mod Build
pub mod Building
pub mod Fitting
