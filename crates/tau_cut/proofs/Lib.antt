pub mod KeepLemmas
pub mod MarkLemmas
pub mod CutLemmas
pub mod OneCut
pub mod KeptLemmas
pub mod LineLemmas
