-- What contracts of inner functions say; no clause of a public call rests on these.
pub mod Rows
pub mod Dependents
pub mod Linking
