use Rattle.raft_laws.proofs.WorldOrigins as laws
use Rattle.raft_laws.proofs.WorldRecorded as histories
use Rattle.raft_laws.proofs.origins.entries_were_asked_for.Goals as goal

pub returns-clause-origin : goal.returns-clause-origin
returns-clause-origin c = laws.entries_were_asked_for

pub returns-clause-one_place : goal.returns-clause-one_place
returns-clause-one_place c = laws.one_place_for_an_event

pub returns-clause-recorded : goal.returns-clause-recorded
returns-clause-recorded c = histories.asked_is_recorded
