use Rattle.std.specs.Prelude.{◌++◌, take}
use Rattle.std.proofs.Common.{ap, sym, ◌∙◌, subst}
use Rattle.raft_group_step.specs.StoredGroup.{held}
use Rattle.raft_group_step.specs.SnapshotRequest.{place_above}
use Rattle.raft_laws.specs.BallotLists.{AgreeBelow}
use Rattle.raft_laws.specs.GroupWorld.{new_world}
use Rattle.raft_laws.specs.OneList.{IsGroupHistory}
use Rattle.raft_laws.specs.Settled.{group_list}
use Rattle.raft_laws.proofs.BallotAgreement.{agree_more, agree_sym, agree_trans}
use Rattle.raft_laws.proofs.Histories.{histories-join}
use Rattle.raft_laws.proofs.WorldStart.{founded}
use Rattle.raft_laws.proofs.GroupList.{goes_on, list_grows}
use Rattle.raft_laws.proofs.Committed.{applied_agrees, same_front}
use Rattle.raft_laws.proofs.one_list.equal_places_mean_equal_lists.Goals as goal

pub returns : goal.returns
returns c = λ ids rs more middle end h on one other s t is also same.
    let join = histories-join rs more (new_world ids) middle end h.replays on in
    let later : IsGroupHistory ids (rs ++ more) end = record { node_ids = h.node_ids; replays = join } in
    let grows = list_grows middle end (goes_on more middle end on) (founded ids h.node_ids rs middle h.replays) (founded ids h.node_ids (rs ++ more) end join) in
    let a = applied_agrees ids rs middle h one s is in
    let b = applied_agrees ids (rs ++ more) end later other t also in
    let b' : AgreeBelow (place_above s.applied) (held t.stored) (group_list end) = subst (λ o. AgreeBelow (place_above o) (held t.stored) (group_list end)) (sym same) b in
    same_front (place_above s.applied) (held s.stored) (held t.stored) (agree_trans (agree_more a grows) (agree_sym b'))
    ∙ ap (λ o. take (place_above o) (held t.stored)) same
