pub mod GrantedLemmas
pub mod GivenLemmas
pub mod PeerLemmas
pub mod AcceptedLemmas
pub mod OwnLemmas
pub mod FirstLemmas
