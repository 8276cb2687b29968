-- What the words of a step leave as it was: the role, what is stored, the first place of the log.
use Rattle.std.specs.Prelude.{◌≡◌, ℕ, Bool, true, false, if◌then◌else◌, List, [], ◌∷◌, Option, Some, None, is_some, refl}
use Rattle.raft_values.specs.declared.vote.Vote.{Vote}
use Rattle.raft_values.specs.declared.log_id.LogId.{LogId}
use Rattle.raft_group_step.specs.Values.{Entry, vote_lt}
use Rattle.raft_group_step.specs.StoredGroup.{Snapshot, CutFrom, entry_at, first_place, has_id_in_log, id_of}
use Rattle.raft_group_step.specs.Message.{AppendFields}
use Rattle.raft_group_step.specs.GroupState.{Lead, Role, Follower, Candidate, Leader, is_leader}
use Rattle.raft_group_step.specs.StepResult.{StepResult, renew, step_down, store, store_vote, take_over}
use Rattle.raft_group_step.specs.Peer.{is_kept_for_peers}
use Rattle.raft_group_step.specs.Lead.{commit_as_leader, purge_as_wished, purge_up_to, remove_up_to, with_wish}
use Rattle.raft_group_step.specs.Elect.{ask}
use Rattle.raft_group_step.specs.AppendRequest.{above_committed, cut_at, cut_from, joined, missing_entries, put_entries}
use Rattle.raft_group_step.specs.SnapshotRequest.{cut_other, install_unless, place_above}

-- whichever it is
pub either : (P : StepResult → Type 0) (b : Bool) (x y : StepResult) → P x → P y → P (if b then x else y)
either P true x y h k = h
either P false x y h k = k

-- the same, where each may use what was tested
pub either_by : (P : StepResult → Type 0) (b : Bool) (x y : StepResult) → (b ≡ true → P x) → (b ≡ false → P y) → P (if b then x else y)
either_by P true x y h k = h refl
either_by P false x y h k = k refl

-- a role that leads is that of a leader
pub leads_if : (role : Role) → is_leader role ≡ true → (lead : Lead) × (role ≡ Leader lead)
leads_if Follower h = cc h
leads_if (Candidate granters) h = cc h
leads_if (Leader lead) h = (lead, refl)

-- ---- the end of an event

pub commit_keeps_stored : (own : ℕ) (role : Role) (r : StepResult) → (commit_as_leader own role r).state.stored ≡ r.state.stored
commit_keeps_stored own Follower r = refl
commit_keeps_stored own (Candidate granters) r = refl
commit_keeps_stored own (Leader lead) r = refl

pub commit_keeps_role : (own : ℕ) (role : Role) (r : StepResult) → (commit_as_leader own role r).state.role ≡ r.state.role
commit_keeps_role own Follower r = refl
commit_keeps_role own (Candidate granters) r = refl
commit_keeps_role own (Leader lead) r = refl

pub removing_keeps_role : (id : Option (LogId ℕ)) (r : StepResult) → (remove_up_to id r).state.role ≡ r.state.role
removing_keeps_role None r = refl
removing_keeps_role (Some id) r = refl

pub purge_keeps_role : (role : Role) (wish : Option ℕ) (r : StepResult) → (purge_as_wished role wish r).state.role ≡ r.state.role
purge_keeps_role Follower wish r = refl
purge_keeps_role (Candidate granters) wish r = refl
purge_keeps_role (Leader lead) None r = refl
purge_keeps_role (Leader lead) (Some place) r =
    let wished = with_wish None r in
    either (λ q. q.state.role ≡ r.state.role) (is_kept_for_peers place lead.peers) r (purge_up_to place wished)
    refl (removing_keeps_role (id_of (entry_at r.state.stored place)) wished)

-- ---- requests

pub ask_state : (own : ℕ) (ns : List ℕ) (r : StepResult) → (ask own ns r).state ≡ r.state
ask_state own [] r = refl
ask_state own (n ∷ ns) r = ask_state own ns _

-- ---- what comes from another leader

pub take_over_keeps_committed : (vote : Vote ℕ) (r : StepResult) → (take_over vote r).state.committed ≡ r.state.committed
take_over_keeps_committed vote r =
    either (λ q. q.state.committed ≡ r.state.committed) (vote_lt r.state.stored.vote vote) (store_vote vote (step_down r)) (renew r) refl refl

pub cut_keeps_role : (place : ℕ) (r : StepResult) → (cut_from place r).state.role ≡ r.state.role
cut_keeps_role place r =
    either (λ q. q.state.role ≡ r.state.role) (is_some (entry_at r.state.stored place)) (store (CutFrom place) r) r refl refl

pub cut_keeps_first : (place : ℕ) (r : StepResult) → first_place (cut_from place r).state.stored ≡ first_place r.state.stored
cut_keeps_first place r =
    either (λ q. first_place q.state.stored ≡ first_place r.state.stored) (is_some (entry_at r.state.stored place)) (store (CutFrom place) r) r refl refl

pub cut_at_keeps_role : (previous : Option (LogId ℕ)) (r : StepResult) → (cut_at previous r).state.role ≡ r.state.role
cut_at_keeps_role None r = refl
cut_at_keeps_role (Some id) r = cut_keeps_role id.index r

pub put_keeps_role : (es : List Entry) (r : StepResult) → (put_entries es r).state.role ≡ r.state.role
put_keeps_role [] r = refl
put_keeps_role (e ∷ es) r = cut_keeps_role e.log_id.index r

pub joined_keeps_role : (own peer : ℕ) (m : AppendFields) (b : Bool) (r : StepResult) → (joined own peer m b r).state.role ≡ r.state.role
joined_keeps_role own peer m true r = put_keeps_role (missing_entries r.state.stored (above_committed r.state.committed m.entries)) r
joined_keeps_role own peer m false r = cut_at_keeps_role m.previous r

pub cut_other_keeps_role : (last : LogId ℕ) (r : StepResult) → (cut_other last r).state.role ≡ r.state.role
cut_other_keeps_role last r =
    let cut = cut_from (place_above r.state.committed) r in
    let there = is_some (entry_at r.state.stored last.index) in
    either (λ q. q.state.role ≡ r.state.role) (has_id_in_log r.state.stored last) r (if there then cut else r) refl
    (either (λ q. q.state.role ≡ r.state.role) there cut r (cut_keeps_role (place_above r.state.committed) r) refl)

pub installing_keeps_role : (b : Bool) (x : Snapshot) (r : StepResult) → (install_unless b x r).state.role ≡ r.state.role
installing_keeps_role true x r = refl
installing_keeps_role false x r = cut_other_keeps_role x.last r
