pub mod EvalLemmas
pub mod PartLemmas
pub mod NamedLemmas
pub mod CutLemmas
pub mod WordLemmas
pub mod PrefixLemmas
pub mod MeaningLemmas
