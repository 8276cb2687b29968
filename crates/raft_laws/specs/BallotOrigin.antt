-- Where an entry comes from, and what the events of one node leave alone.
use Rattle.std.specs.Prelude.{◌≡◌, ℕ, List, ◌∷◌, ◌++◌, length, IsTrue}
use Rattle.raft_laws.specs.BallotLogs.{BallotEntry}
use Rattle.raft_laws.specs.BallotWorld.{BallotGroup, BallotWorld, BallotEvent, FoundGroup, StandForElection, TakeRequest}
use Rattle.raft_laws.specs.BallotWorld.{RaiseVote, WinElection, WriteEntry, CommitPlace, SendEntries, TakeEntries, CutForEntries}
use Rattle.raft_laws.specs.BallotWorld.{CutForSnapshot, CutForConflict, ForgetCommitted, is_ballot_leader, ballot_run}

-- one of the events wrote the entry at this place, at the leader of its ballot
pub record IsBallotWritten (g : BallotGroup) (events : List BallotEvent) (w : BallotWorld) (place : ℕ) (x : BallotEntry) : Type 0 where
  pub early : List BallotEvent
  pub late : List BallotEvent
  pub node : ℕ
  pub split : events ≡ early ++ WriteEntry node x.payload ∷ late
  pub leads : IsTrue (is_ballot_leader g node ((ballot_run g early w).node node))
  pub ballot : ((ballot_run g early w).node node).ballot ≡ x.ballot
  pub next : length ((ballot_run g early w).node node).log ≡ place

-- the node that an event is at
abbrev pub actor : BallotEvent → ℕ
actor (FoundGroup n) = n
actor (StandForElection n b) = n
actor (TakeRequest k n) = n
actor (RaiseVote n b c) = n
actor (WinElection n) = n
actor (WriteEntry n payload) = n
actor (CommitPlace n place) = n
actor (SendEntries n start count commit) = n
actor (TakeEntries k n) = n
actor (CutForEntries k n) = n
actor (CutForSnapshot k n) = n
actor (CutForConflict k n) = n
actor (ForgetCommitted n commit) = n
