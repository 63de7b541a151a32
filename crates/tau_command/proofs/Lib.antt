pub mod MatchLemmas
pub mod NumberLemmas
pub mod OptionLemmas
pub mod PassingLemmas
pub mod RangeLemmas
pub mod StormLemmas
