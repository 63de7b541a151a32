pub mod Laws
pub mod Revival
