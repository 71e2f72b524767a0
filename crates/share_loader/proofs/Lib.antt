pub mod ByteLemmas
pub mod WordLemmas
pub mod SymbolLemmas
pub mod CostLemmas
pub mod BlockLemmas
pub mod SharerLemmas
