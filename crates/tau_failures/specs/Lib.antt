pub mod Dues
pub mod LegalRun
