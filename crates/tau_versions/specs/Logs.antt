pub mod Known
pub mod Laws
pub mod Reading
pub mod Takes
pub mod Told
pub mod Versions
