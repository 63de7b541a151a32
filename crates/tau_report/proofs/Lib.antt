pub mod Prefixes
pub mod Counting
pub mod Surveys
pub mod SavedRows
pub mod RowTexts
pub mod Uniqueness
