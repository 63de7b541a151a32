pub mod OpenTurns
pub mod Flight
pub mod ScriptedRun
pub mod Inner
