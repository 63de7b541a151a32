pub mod Passing
pub mod Same
pub mod Determined
pub mod SoundOpenings
pub mod Decided
pub mod Existing
