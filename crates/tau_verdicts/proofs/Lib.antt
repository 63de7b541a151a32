pub mod Cleanness
pub mod Doomed
pub mod Lasting
pub mod Lists
pub mod Receipts
pub mod Spreads
pub mod Steps
pub mod Telling
