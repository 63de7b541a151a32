pub mod StepForms
pub mod FormLaws
pub mod Kinds
pub mod Meaning
pub mod Faults
pub mod Laws
pub mod Inner
