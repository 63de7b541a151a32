pub mod Errors
pub mod Found
pub mod Gates
pub mod Laws
pub mod Places
pub mod Records
pub mod Room
pub mod Disk
