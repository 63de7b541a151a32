pub mod Code
pub mod Expr
pub mod Behaviour
pub mod Parts
pub mod Sound
pub mod Checks
pub mod Inner
