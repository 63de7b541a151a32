pub mod Adapters
pub mod Faults
pub mod Feed
pub mod Got
pub mod Put
pub mod Store
