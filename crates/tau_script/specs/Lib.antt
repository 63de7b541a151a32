pub mod Cursors
pub mod Scripts
pub mod Openings
pub mod Laws
