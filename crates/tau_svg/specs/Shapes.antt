pub mod Windows
pub mod Grids
pub mod Shapes
pub mod Fixed
pub mod Each
