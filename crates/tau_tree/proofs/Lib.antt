pub mod DistinctLemmas
pub mod EachLemmas
pub mod ExprLemmas
pub mod FieldLemmas
pub mod RuleLemmas
pub mod SameLemmas
pub mod SoundLemmas
pub mod SplitLemmas
