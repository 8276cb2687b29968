-- One schedule, in which an entry is settled.
use Rattle.std.specs.Prelude.{◌%◌, List, [], ◌∷◌}
use Rattle.raft_state.specs.declared.entry.EntryPayload.TheVariants.{Normal}
use Rattle.raft_laws.specs.BallotLogs.{BallotEntry}
use Rattle.raft_laws.specs.BallotWorld.{BallotGroup, BallotEvent, FoundGroup, StandForElection, TakeRequest, WinElection, WriteEntry, SendEntries, TakeEntries, CommitPlace, CutForSnapshot}

abbrev pub three_ballot_nodes : BallotGroup
three_ballot_nodes = record { voters = (1 ∷ 2 ∷ 3 ∷ []) ∷ []; owner = λ b. b % 4; first = Normal (7 ∷ []) }

-- node 1 stands, node 2 grants and takes what node 1 wrote
abbrev pub one_round : List BallotEvent
one_round =
    FoundGroup 1 ∷ FoundGroup 2 ∷ StandForElection 1 1 ∷ TakeRequest 0 2 ∷ WinElection 1 ∷ WriteEntry 1 (Normal (5
    ∷ [])) ∷ SendEntries 1 0 2 0 ∷ TakeEntries 0 2 ∷ CommitPlace 1 1 ∷ []

abbrev pub both_entries : List BallotEntry
both_entries = record { ballot = 0; payload = Normal (7 ∷ []) } ∷ record { ballot = 1; payload = Normal (5 ∷ []) } ∷ []

-- node 2 accepts what is settled under ballot 1, leads under 2 and writes what is never settled, and then cuts its log
-- down for node 3's snapshot, before it has that: it no longer holds what it accepted
abbrev pub one_drop : List BallotEvent
one_drop =
    FoundGroup 1 ∷ FoundGroup 2 ∷ FoundGroup 3 ∷ StandForElection 1 1 ∷ TakeRequest 0 2 ∷ WinElection 1 ∷ WriteEntry 1 (Normal (5 ∷ [])) ∷ SendEntries 1 0 2 0 ∷ TakeEntries 0 2
    ∷ TakeEntries 0 3 ∷ StandForElection 2 2 ∷ TakeRequest 0 1 ∷ WinElection 2 ∷ WriteEntry 2 (Normal (6 ∷ [])) ∷ StandForElection 3 3 ∷ TakeRequest 0 1 ∷ WinElection 3
    ∷ WriteEntry 3 (Normal (8 ∷ [])) ∷ SendEntries 3 0 3 0 ∷ TakeEntries 0 1 ∷ CommitPlace 3 2 ∷ SendEntries 3 0 3 3 ∷ CutForSnapshot 0 2 ∷ []
