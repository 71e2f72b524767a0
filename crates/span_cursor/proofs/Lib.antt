pub mod EntryLemmas
pub mod TupleLemmas
pub mod SpanLemmas
pub mod ReadLemmas
pub mod PrintLemmas
