pub mod OutputLemmas
pub mod StatusLemmas
pub mod WriteLemmas
pub mod TextLemmas
pub mod KeepLemmas
pub mod ResumeLemmas
pub mod EndLemmas
