pub mod StepFormLemmas
pub mod TellsLemmas
pub mod RowLemmas
pub mod KindLemmas
pub mod StepLemmas
pub mod LoopLemmas
pub mod LawLemmas
