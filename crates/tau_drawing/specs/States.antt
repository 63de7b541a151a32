pub mod Names
pub mod StateLines
pub mod StripLines
pub mod EndLines
pub mod Inner
