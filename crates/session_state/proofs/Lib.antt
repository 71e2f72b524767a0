pub mod CommandLemmas
pub mod EndsLemmas
pub mod Facts
pub mod Names
pub mod StateLemmas
pub mod Written
