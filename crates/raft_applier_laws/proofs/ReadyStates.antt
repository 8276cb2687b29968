-- What members and appliers ask of their states, histories give.
use Rattle.std.specs.Prelude.{◌≡◌, ℕ, List, refl}
use Rattle.std.proofs.Common.{sym, ap, ◌∙◌, ⊎_elim}
use Rattle.raft_group_step.specs.StoredGroup.{StoredGroup}
use Rattle.raft_group_step.specs.GroupState.{state_of}
use Rattle.raft_group_step.specs.GroupEvent.{Open}
use Rattle.raft_group_step.specs.GroupStep.{group_step}
use Rattle.raft_laws.specs.GroupWorld.{Down, GroupWorld, Recorded as GroupRecorded, Up}
use Rattle.raft_laws.specs.OneList.{IsGroupHistory}
use Rattle.raft_laws.specs.VotesRise.{stored_of}
use Rattle.raft_laws.proofs.ReadyStates.{snapshot_ready}
use Rattle.raft_headline.proofs.NodeFacts.{snapshot_size}
use Rattle.raft_headline.proofs.StepRuns.{all_among, left_stored, open_applies}
use Rattle.raft_member.proofs.HistoryLemmas.{lawful_at, openable_at}
use Rattle.raft_applier.specs.Following.{HasWholeSnapshot}
use Rattle.raft_applier.proofs.Steps.{opening_is_step}
use Rattle.raft_cluster_laws.proofs.EventKept.{candidates_stand}
use Rattle.raft_cluster_laws.proofs.StepFacts.{built, front, grows, leading, not_open, own_vote, rising, whole}
use Rattle.raft_step_laws.proofs.TokenLists.{opens_none}
use Rattle.raft_applier_laws.specs.Ready.{DownCandidatesAreReady, DownNodesAreReady, UpCandidatesAreReady, UpNodesAreReady}

pub up_ready : UpNodesAreReady
up_ready ids rs w h n s is = record {
  lawful = lawful_at ids rs w h n s is;
  membership = λ last. snapshot_ready ids rs w h n s is last;
  steps = λ e ge here taken. record {
    taken = taken;
    own_vote = own_vote ids rs w h n s is;
    leading = leading ids rs w h n s is;
    opens = opens_none s ge (not_open ids rs w h n s is e ge here taken);
    rising = rising ids rs w h n s is ge;
    grows = grows ids rs w h n s is e ge here taken;
    front = front ids rs w h n s is e ge here taken;
    whole = λ x f. whole ids rs w h n s is e ge here taken x f;
    built = λ on. built ids rs w h n s is e ge here taken on;
  };
}

-- an opening stores no snapshot
opened_whole : (ids : List ℕ) (rs : List GroupRecorded) (w : GroupWorld) → IsGroupHistory ids rs w → (n : ℕ) (st : StoredGroup) → w.nodes n ≡ Down st → HasWholeSnapshot (group_step n (state_of st) Open).state
opened_whole ids rs w h n st is x f =
    let q = group_step n (state_of st) Open in
    ⊎_elim
    (λ a. absurd ((open_applies n st).snapshots x a))
    (λ old. snapshot_size ids rs w h n st x (ap stored_of is) old)
    (all_among q.commands st x (ap (λ (y : StoredGroup). y.snapshot) (sym (left_stored n (state_of st) Open)) ∙ f))

pub down_ready : DownNodesAreReady
down_ready ids rs w h n st is =
    let whole_then = opened_whole ids rs w h n st is in
    record { openable = openable_at ids rs w h n st is; whole = whole_then; step = opening_is_step n st refl whole_then }

pub up_candidates_ready : UpCandidatesAreReady
up_candidates_ready rules ids fit h candidates history kept n s has =
    let at = candidates_stand rules ids fit h candidates history kept n (Up s) has in
    let up = up_ready ids at.group (at.end).world at.is_history n s at.node in
    record { lawful = up.lawful; membership = up.membership; steps = λ e ge here taken. up.steps e ge (at.scenes e ∙ here) taken }

pub down_candidates_ready : DownCandidatesAreReady
down_candidates_ready rules ids fit h candidates history kept n st has =
    let at = candidates_stand rules ids fit h candidates history kept n (Down st) has in
    down_ready ids at.group (at.end).world at.is_history n st at.node
