pub mod Facts
pub mod Names
pub mod RunsLemmas
pub mod ScriptLemmas
