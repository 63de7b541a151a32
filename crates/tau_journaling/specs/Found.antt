pub mod Faults
pub mod Reviving
