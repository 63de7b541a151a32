pub mod Laws
pub mod Standing
pub mod Reading
pub mod Inner
