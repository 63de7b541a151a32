-- What contracts of inner functions say; no clause of a public call rests on these.
pub mod Cuts
pub mod Resting
pub mod Showing
