pub mod CallerLemmas
pub mod EntryLemmas
