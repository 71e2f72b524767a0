pub mod TreeLemmas
pub mod NodesLemmas
pub mod JoinLemmas
pub mod ShapeLemmas
pub mod KeptLemmas
pub mod RankLemmas
pub mod CompactionLemmas
