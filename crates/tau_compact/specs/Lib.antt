pub mod Pruning
pub mod PruningLaws
