pub mod Coming
pub mod Keeping
pub mod Legality
pub mod Revival
pub mod Cursors
