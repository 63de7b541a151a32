pub mod CourseLemmas
pub mod FrameLemmas
pub mod ImmediateLemmas
pub mod MachineLemmas
pub mod SameLemmas
pub mod ScopeLemmas
pub mod ValueRules
pub mod KnownLemmas
