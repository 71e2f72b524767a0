pub mod CarryLemmas
pub mod Facts
pub mod FileLemmas
pub mod LoadingLemmas
pub mod Names
pub mod ReadingLemmas
