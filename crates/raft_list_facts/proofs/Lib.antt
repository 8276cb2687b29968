pub mod KeyBaseLemmas
