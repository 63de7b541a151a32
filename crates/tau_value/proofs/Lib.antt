pub mod AnswerLemmas
pub mod MeaningLemmas
pub mod NameLemmas
pub mod NumberLemmas
pub mod ReadingLemmas
pub mod ValueLemmas
pub mod WrittenLemmas
