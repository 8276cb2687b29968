-- A node without tokens: each part of a step leaves it so.
use Rattle.std.specs.Prelude.{◌≡◌, ℕ, ◌==◌, ◌&&◌, cond, not, is_some, Bool, true, false, List, [], ◌∷◌, ◌++◌, filter, Option, Some, None, refl}
use Rattle.std.proofs.Common.{ap, ap₂, ◌∙◌, append-nil}
use Rattle.raft_values.specs.declared.vote.Vote.{Vote}
use Rattle.raft_values.specs.declared.log_id.LogId.{LogId}
use Rattle.raft_values.specs.LogId.{place_of}
use Rattle.raft_quorums.specs.Quorum.{is_quorum}
use Rattle.raft_state.specs.declared.entry.EntryPayload.TheVariants.{Blank}
use Rattle.std.specs.List.{list_any}
use Rattle.raft_group_step.specs.Values.{Entry, has_id, is_written_by, vote_eq, vote_lt}
use Rattle.raft_group_step.specs.StoredGroup.{Snapshot, CutFrom, RemoveUpTo, SetSnapshot, StartAfter, entry_at, has_id_in_log, id_of, snapshot_last}
use Rattle.raft_group_step.specs.Message.{AppendFields, ReplyFields, ReplyResult, Success, PartialSuccess, Conflict, HigherVote}
use Rattle.raft_group_step.specs.Peer.{is_answer_to, is_kept_for_peers}
use Rattle.raft_group_step.specs.GroupState.{GroupState, Role, Follower, Candidate, Leader, Untold, state_of}
use Rattle.raft_group_step.specs.StepResult.{StepResult, append, apply_up_to, in_role, is_within, later_place, renew, step_down, store, store_vote, take_over, tokens_of, unchanged}
use Rattle.raft_group_step.specs.Lead.{begin_lead, commit_as_leader, committed_vote, configs_in_force, lead_if, new_lead, peer_of, purge_as_wished, purge_up_to, remove_up_to, with_grant, with_wish}
use Rattle.raft_group_step.specs.Elect.{ask, elect_step, other_voters, stand}
use Rattle.raft_group_step.specs.VoteRequest.{judged}
use Rattle.raft_group_step.specs.VoteReply.{counted, take_over_greater}
use Rattle.raft_group_step.specs.AppendRequest.{above_committed, cut_at, cut_from, heard, is_held, joined, missing_entries, put_entries}
use Rattle.raft_group_step.specs.SnapshotRequest.{cut_other, install_unless, offered, place_above}
use Rattle.raft_group_step.specs.Reply.{answered, reply_step, with_higher_vote}
use Rattle.raft_group_step.specs.Opening.{drop_stale_log, is_joined_to, opening_step}
use Rattle.raft_group_step.specs.GroupStep.{finished}
use Rattle.raft_group_step.proofs.Words.{either}
use Rattle.raft_laws.proofs.StepTokens.{frames_same}
use Rattle.raft_step_laws.proofs.Sending.{finished_adds}

module _ (lost : List ℕ) where
  -- nothing is told or waits, and these stay unknown
  pub record Without (r : StepResult) : Type 0 where
    pub untold : r.state.untold ≡ []
    pub told : r.told ≡ []
    pub unknown : r.unknown ≡ lost

  pub same_without : (r q : StepResult) → q.state.untold ≡ r.state.untold → q.told ≡ r.told → q.unknown ≡ r.unknown → Without r → Without q
  same_without r q e f g h = record { untold = e ∙ h.untold; told = f ∙ h.told; unknown = g ∙ h.unknown }

  pub down_without : (r : StepResult) → Without r → Without (step_down r)
  down_without r h =
      record {
        untold = refl;
        told = h.told;
        unknown = ap₂ (λ xs ys. xs ++ tokens_of ys) h.unknown h.untold ∙ append-nil lost;
      }

  apply_without : (place : Option ℕ) (r : StepResult) → Without r → Without (apply_up_to place r)
  apply_without place r h =
      let due : Untold → Bool = λ x. is_within x.place (later_place r.state.committed place) in
      record {
        untold = ap (filter (λ x. not (due x))) h.untold;
        told = ap₂ (λ xs ys. xs ++ filter due ys) h.told h.untold;
        unknown = h.unknown;
      }

  -- ---- elections

  begin_without : (r : StepResult) → Without r → Without (begin_lead r)
  begin_without r h =
      let q = in_role (Leader (new_lead r.state.stored)) (store_vote (committed_vote r.state.stored.vote) r) in
      let k = same_without r q refl refl refl h in
      either Without (list_any (is_written_by q.state.stored.vote.leader_id) q.state.stored.log) q (append Blank q) k
      (same_without q (append Blank q) refl refl refl k)

  lead_if_without : (b : Bool) (r : StepResult) → Without r → Without (lead_if b r)
  lead_if_without true r h = begin_without r h
  lead_if_without false r h = h

  grant_without : (n : ℕ) (role : Role) (r : StepResult) → Without r → Without (with_grant n role r)
  grant_without n Follower r h = h
  grant_without n (Candidate granters) r h =
      let granted = cond (has_id granters n) granters (granters ++ n ∷ []) in
      lead_if_without (is_quorum (configs_in_force r.state.stored) (has_id granted)) (in_role (Candidate granted) r)
      (same_without r _ refl refl refl h)
  grant_without n (Leader lead) r h = h

  ask_without : (own : ℕ) (ns : List ℕ) (r : StepResult) → Without r → Without (ask own ns r)
  ask_without own [] r h = h
  ask_without own (n ∷ ns) r h = ask_without own ns _ (same_without r _ refl refl refl h)

  -- once the node gave up what it was
  pub elect_without : (own : ℕ) (r : StepResult) → Without (step_down r) → Without (elect_step own r)
  elect_without own r h =
      grant_without own (stand own r).state.role (stand own r)
      (ask_without own (other_voters own r.state.stored) _ (same_without (step_down r) _ refl refl refl h))

  -- ---- votes

  took_without : (v : Vote ℕ) (r : StepResult) → Without r → Without (take_over v r)
  took_without v r h =
      either Without (vote_lt r.state.stored.vote v) (store_vote v (step_down r)) (renew r)
      (same_without (step_down r) _ refl refl refl (down_without r h))
      (same_without r (renew r) refl refl refl h)

  pub greater_without : (v : Vote ℕ) (r : StepResult) → Without r → Without (take_over_greater v r)
  greater_without v r h =
      either Without (vote_lt r.state.stored.vote v) (store_vote v (step_down r)) r
      (same_without (step_down r) _ refl refl refl (down_without r h))
      h

  pub judged_without : (own peer : ℕ) (v : Vote ℕ) (b : Bool) (r : StepResult) → Without r → Without (judged own peer v b r)
  judged_without own peer v true r h = same_without (take_over v r) _ refl refl refl (took_without v r h)
  judged_without own peer v false r h = same_without r _ refl refl refl h

  pub counted_without : (peer : ℕ) (b : Bool) (v : Vote ℕ) (r : StepResult) → Without r → Without (counted peer b v r)
  counted_without peer true v r h = grant_without peer r.state.role r h
  counted_without peer false v r h = greater_without v r h

  -- ---- entries and snapshots of a leader

  cut_without : (i : ℕ) (r : StepResult) → Without r → Without (cut_from i r)
  cut_without i r h =
      either Without (is_some (entry_at r.state.stored i)) (store (CutFrom i) r) r (same_without r _ refl refl refl h) h

  cut_at_without : (id : Option (LogId ℕ)) (r : StepResult) → Without r → Without (cut_at id r)
  cut_at_without None r h = h
  cut_at_without (Some id) r h = cut_without id.index r h

  put_without : (es : List Entry) (r : StepResult) → Without r → Without (put_entries es r)
  put_without [] r h = h
  put_without (e ∷ es) r h = same_without (cut_from e.log_id.index r) _ refl refl refl (cut_without e.log_id.index r h)

  pub joined_without : (own peer : ℕ) (a : AppendFields) (b : Bool) (r : StepResult) → Without r → Without (joined own peer a b r)
  joined_without own peer a true r h =
      let fresh = missing_entries r.state.stored (above_committed r.state.committed a.entries) in
      same_without _ _ refl refl refl (apply_without _ _ (put_without fresh r h))
  joined_without own peer a false r h = same_without (cut_at a.previous r) _ refl refl refl (cut_at_without a.previous r h)

  pub heard_without : (own peer : ℕ) (a : AppendFields) (b : Bool) (r : StepResult) → Without r → Without (heard own peer a b r)
  heard_without own peer a true r h = same_without r _ refl refl refl h
  heard_without own peer a false r h =
      let taken = take_over a.vote r in
      joined_without own peer a (is_held taken.state.stored taken.state.committed a.previous) taken (took_without a.vote r h)

  other_without : (last : LogId ℕ) (r : StepResult) → Without r → Without (cut_other last r)
  other_without last r h =
      either Without (has_id_in_log r.state.stored last) r _ h
      (either Without (is_some (entry_at r.state.stored last.index)) _ r (cut_without (place_above r.state.committed) r h) h)

  pub unless_without : (b : Bool) (x : Snapshot) (r : StepResult) → Without r → Without (install_unless b x r)
  unless_without true x r h = h
  unless_without false x r h =
      apply_without (Some x.last.index) (store (RemoveUpTo x.last) (store (SetSnapshot x) (cut_other x.last r)))
      (same_without (cut_other x.last r) _ refl refl refl (other_without x.last r h))

  pub offered_without : (own peer : ℕ) (v : Vote ℕ) (id : ℕ) (x : Snapshot) (b : Bool) (r : StepResult) → Without r → Without (offered own peer v id x b r)
  offered_without own peer v id x true r h = same_without r _ refl refl refl h
  offered_without own peer v id x false r h =
      let taken = take_over v r in
      same_without _ _ refl refl refl
      (unless_without (is_within x.last.index taken.state.committed) x taken (took_without v r h))

  -- ---- replies

  answered_without : (peer : ℕ) (m : ReplyFields) (role : Role) (r : StepResult) → Without r → Without (answered peer m role r)
  answered_without peer m Follower r h = h
  answered_without peer m (Candidate granters) r h = h
  answered_without peer m (Leader lead) r h =
      either Without (vote_eq m.vote r.state.stored.vote && is_answer_to m (peer_of lead peer).outstanding) _ r
      (same_without r _ refl refl refl h) h

  higher_without : (o : ReplyResult) (r : StepResult) → Without r → Without (with_higher_vote o r)
  higher_without Success r h = h
  higher_without (PartialSuccess last) r h = h
  higher_without Conflict r h = h
  higher_without (HigherVote v) r h = greater_without v r h

  pub reply_without : (peer : ℕ) (m : ReplyFields) (r : StepResult) → Without r → Without (reply_step peer m r)
  reply_without peer m r h =
      let judged = with_higher_vote m.outcome r in
      answered_without peer m judged.state.role judged (higher_without m.outcome r h)

  -- ---- openings

  drop_without : (last : Option (LogId ℕ)) (r : StepResult) → Without r → Without (drop_stale_log last r)
  drop_without None r h = h
  drop_without (Some last) r h =
      either Without (is_joined_to r.state.stored last) r (store (StartAfter last) r) h (same_without r _ refl refl refl h)

  pub opening_without : (own : ℕ) (s : GroupState) → Without (unchanged (state_of s.stored)) → Without (opening_step own s.stored)
  opening_without own s h =
      let last = snapshot_last s.stored in
      let placed = apply_up_to (place_of last) (drop_stale_log last (unchanged (state_of s.stored))) in
      let k = apply_without (place_of last) (drop_stale_log last (unchanged (state_of s.stored))) (drop_without last (unchanged (state_of s.stored)) h) in
      let vote = placed.state.stored.vote in
      either Without (vote.committed && vote.leader_id.node_id == own) (in_role (Leader (new_lead placed.state.stored)) placed) placed
      (same_without placed _ refl refl refl k) k

  -- ---- the end of an event

  commit_without : (own : ℕ) (role : Role) (r : StepResult) → Without r → Without (commit_as_leader own role r)
  commit_without own Follower r h = h
  commit_without own (Candidate granters) r h = h
  commit_without own (Leader lead) r h = apply_without _ r h

  remove_without : (id : Option (LogId ℕ)) (r : StepResult) → Without r → Without (remove_up_to id r)
  remove_without None r h = h
  remove_without (Some id) r h = same_without r (store (RemoveUpTo id) r) refl refl refl h

  purge_without : (role : Role) (wish : Option ℕ) (r : StepResult) → Without r → Without (purge_as_wished role wish r)
  purge_without Follower wish r h = h
  purge_without (Candidate granters) wish r h = h
  purge_without (Leader lead) None r h = h
  purge_without (Leader lead) (Some place) r h =
      let wished = with_wish None r in
      either Without (is_kept_for_peers place lead.peers) r (purge_up_to place wished) h
      (remove_without (id_of (entry_at r.state.stored place)) wished (same_without r wished refl refl refl h))

  pub finished_without : (own : ℕ) (before : Option ℕ) (r : StepResult) → Without r → Without (finished own before r)
  finished_without own before r h =
      let committed = commit_as_leader own r.state.role r in
      let purged = purge_as_wished committed.state.role committed.state.wish committed in
      let k = purge_without committed.state.role committed.state.wish committed (commit_without own r.state.role r h) in
      let on = frames_same own before purged in
      record {
        untold = on.untold ∙ k.untold;
        told = on.told ∙ k.told;
        unknown = (finished_adds own before r).unknown ∙ h.unknown;
      }
