use Rattle.std.specs.Prelude.{◌++◌}
use Rattle.raft_laws.proofs.Histories.{histories-join}
use Rattle.raft_laws.proofs.WorldStart.{founded}
use Rattle.raft_laws.proofs.GroupList.{is_list, list_grows, goes_on}
use Rattle.raft_laws.specs.GroupWorld.{new_world}
use Rattle.raft_laws.proofs.one_list.settled_entries_stand_on_one_list.Goals as goal

pub returns-clause-list : goal.returns-clause-list
returns-clause-list c = λ ids rs end h.
    let f = founded ids h.node_ids rs end h.replays in is_list f.membership f.some end f.is

pub returns-clause-grows : goal.returns-clause-grows
returns-clause-grows c = λ ids rs more middle end h on.
    list_grows middle end (goes_on more middle end on)
    (founded ids h.node_ids rs middle h.replays)
    (founded ids h.node_ids (rs ++ more) end (histories-join rs more (new_world ids) middle end h.replays on))
