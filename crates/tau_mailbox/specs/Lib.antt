pub mod Consistent
pub mod Letters
pub mod MailState
pub mod Order
pub mod Parts
