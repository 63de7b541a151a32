pub mod WordLemmas
pub mod StartLemmas
pub mod HopLemmas
pub mod SoundLemmas
