pub mod Headings
pub mod Said
pub mod Chains
pub mod Asking
pub mod Pictures
pub mod Markup
pub mod Laws
pub mod Inner
