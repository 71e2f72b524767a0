pub mod Counters
pub mod CounterLemmas
pub mod StackLemmas
pub mod GatherLemmas
pub mod BlockLemmas
pub mod PairLemmas
pub mod LevelLemmas
