pub mod Place
pub mod Rising
pub mod RisingLaws
pub mod Nodes
pub mod Quorum
pub mod QuorumLaws
