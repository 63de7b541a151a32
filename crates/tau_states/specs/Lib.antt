pub mod Opening
pub mod Effects
pub mod Table
pub mod Answers
pub mod Laws
