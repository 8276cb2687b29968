-- What a leader is still to purge lies within its snapshot, however far that reaches, after each kind of event.
use Rattle.std.specs.Prelude.{◌≡◌, ℕ, ◌+◌, ◌<◌, ◌≤◌, ◌&&◌, min, cond, Bool, true, false, List, [], ◌∷◌, ◌++◌, Option, Some, None, is_none, is_some, option_map, refl}
use Rattle.std.proofs.Common.{sym, ap, ◌∙◌, subst, arith}
use Rattle.raft_values.specs.declared.vote.Vote.{Vote}
use Rattle.raft_values.specs.declared.log_id.LogId.{LogId}
use Rattle.raft_quorums.specs.Quorum.{is_quorum}
use Rattle.raft_group_step.specs.Values.{ChangeMembers, Entry, has_id, LoggedMembership}
use Rattle.raft_group_step.specs.StoredGroup.{Snapshot, CutFrom, entry_at, has_id_in_log}
use Rattle.raft_group_step.specs.Message.{AppendFields, ReplyFields, ReplyResult, Success, PartialSuccess, Conflict, HigherVote}
use Rattle.raft_group_step.specs.Peer.{PeerState}
use Rattle.raft_group_step.specs.GroupState.{GroupState, Lead, Role, Follower, Candidate, Leader}
use Rattle.raft_group_step.specs.StepResult.{StepResult, in_role, send, store, step_down, take_over, later_place, is_within}
use Rattle.raft_group_step.specs.Lead.{configs_in_force, other_ids, remove_up_to, with_wish, begin_lead, lead_if, with_grant, commit_as_leader, purge_as_wished}
use Rattle.raft_group_step.specs.Frames.{lacks_entries, notice, send_request, serve, serve_as, serve_all, with_frames, has_grown}
use Rattle.raft_group_step.specs.Elect.{elect_step, stand, other_voters}
use Rattle.raft_group_step.specs.VoteRequest.{judged}
use Rattle.raft_group_step.specs.VoteReply.{take_over_greater, counted}
use Rattle.raft_group_step.specs.AppendRequest.{cut_from, cut_at, put_entries, joined, heard}
use Rattle.raft_group_step.specs.SnapshotRequest.{place_above, cut_other, install, install_unless, offered}
use Rattle.raft_group_step.specs.Reply.{answered, with_higher_vote, reply_step}
use Rattle.raft_group_step.specs.MembershipStep.{append_changed}
use Rattle.raft_group_step.specs.Heartbeat.{send_notices, beat_as}
use Rattle.raft_group_step.specs.Lost.{lost_as}
use Rattle.raft_group_step.specs.PurgeTrigger.{purge_as, purge_within}
use Rattle.raft_group_step.proofs.Words.{either, ask_state, take_over_keeps_committed}
use Rattle.raft_laws.proofs.BallotAgreement.{same_some}

-- the greater of two places within the snapshot is within it
later_wish : (n : ℕ) (o : Option ℕ) (place : ℕ) → ((k : ℕ) → o ≡ Some k → k < n) → place < n → (k : ℕ) → later_place o (Some place) ≡ Some k → k < n
later_wish n None place h l k e = subst (λ j. j < n) (same_some e) l
later_wish n (Some a) place h l k e = let b = h a refl in subst (λ j. j < n) (same_some e) (omega arith)

module _ (reach : Option Snapshot → ℕ) where
  -- what is still to be purged lies below the end of the snapshot
  abbrev pub IsReached : GroupState → Type 0
  IsReached s = (place : ℕ) → s.wish ≡ Some place → place < reach s.stored.snapshot

  abbrev pub StaysReached : StepResult → Type 0
  StaysReached r = IsReached r.state

  -- there is no wish
  pub no_wish : (r : StepResult) → r.state.wish ≡ None → StaysReached r
  no_wish r none place e = absurd (let f : None ≡ Some place = sym none ∙ e in cc)

  pub down_wish : (r : StepResult) → StaysReached (step_down r)
  down_wish r = no_wish (step_down r) refl

  pub take_over_wish : (v : Vote ℕ) (r : StepResult) → StaysReached r → StaysReached (take_over v r)
  take_over_wish v r h = either StaysReached _ _ _ (down_wish r) h

  greater_wish : (v : Vote ℕ) (r : StepResult) → StaysReached r → StaysReached (take_over_greater v r)
  greater_wish v r h = either StaysReached _ _ _ (down_wish r) h

  -- ---- elections

  begin_wish : (r : StepResult) → StaysReached r → StaysReached (begin_lead r)
  begin_wish r h = either StaysReached _ _ _ h h

  lead_if_wish : (b : Bool) (r : StepResult) → StaysReached r → StaysReached (lead_if b r)
  lead_if_wish true r h = begin_wish r h
  lead_if_wish false r h = h

  grant_wish : (n : ℕ) (role : Role) (r : StepResult) → StaysReached r → StaysReached (with_grant n role r)
  grant_wish n Follower r h = h
  grant_wish n (Candidate granters) r h =
      let granted = cond (has_id granters n) granters (granters ++ n ∷ []) in
      lead_if_wish (is_quorum (configs_in_force r.state.stored) (has_id granted)) (in_role (Candidate granted) r) h
  grant_wish n (Leader lead) r h = h

  pub elect_wish : (own : ℕ) (r : StepResult) → StaysReached (elect_step own r)
  elect_wish own r =
      grant_wish own (stand own r).state.role (stand own r)
      (subst IsReached (sym (ask_state own (other_voters own r.state.stored) _)) (down_wish r))

  pub judged_wish : (own peer : ℕ) (v : Vote ℕ) (b : Bool) (r : StepResult) → StaysReached r → StaysReached (judged own peer v b r)
  judged_wish own peer v true r h = take_over_wish v r h
  judged_wish own peer v false r h = h

  pub counted_wish : (peer : ℕ) (b : Bool) (v : Vote ℕ) (r : StepResult) → StaysReached r → StaysReached (counted peer b v r)
  counted_wish peer true v r h = grant_wish peer r.state.role r h
  counted_wish peer false v r h = greater_wish v r h

  -- ---- entries

  cut_wish : (i : ℕ) (r : StepResult) → StaysReached r → StaysReached (cut_from i r)
  cut_wish i r h = either StaysReached _ _ _ h h

  put_wish : (es : List Entry) (r : StepResult) → StaysReached r → StaysReached (put_entries es r)
  put_wish [] r h = h
  put_wish (e ∷ es) r h = cut_wish e.log_id.index r h

  cut_at_wish : (id : Option (LogId ℕ)) (r : StepResult) → StaysReached r → StaysReached (cut_at id r)
  cut_at_wish None r h = h
  cut_at_wish (Some id) r h = cut_wish id.index r h

  joined_wish : (own peer : ℕ) (a : AppendFields) (b : Bool) (r : StepResult) → StaysReached r → StaysReached (joined own peer a b r)
  joined_wish own peer a true r h = put_wish _ r h
  joined_wish own peer a false r h = cut_at_wish a.previous r h

  pub heard_wish : (own peer : ℕ) (a : AppendFields) (b : Bool) (r : StepResult) → StaysReached r → StaysReached (heard own peer a b r)
  heard_wish own peer a true r h = h
  heard_wish own peer a false r h = joined_wish own peer a _ (take_over a.vote r) (take_over_wish a.vote r h)

  -- ---- answers

  higher_wish : (o : ReplyResult) (r : StepResult) → StaysReached r → StaysReached (with_higher_vote o r)
  higher_wish Success r h = h
  higher_wish (PartialSuccess last) r h = h
  higher_wish Conflict r h = h
  higher_wish (HigherVote v) r h = greater_wish v r h

  answered_wish : (peer : ℕ) (reply : ReplyFields) (role : Role) (r : StepResult) → StaysReached r → StaysReached (answered peer reply role r)
  answered_wish peer reply Follower r h = h
  answered_wish peer reply (Candidate granters) r h = h
  answered_wish peer reply (Leader lead) r h = either StaysReached _ _ _ h h

  pub reply_wish : (peer : ℕ) (reply : ReplyFields) (r : StepResult) → StaysReached r → StaysReached (reply_step peer reply r)
  reply_wish peer reply r h =
      answered_wish peer reply (with_higher_vote reply.outcome r).state.role (with_higher_vote reply.outcome r)
      (higher_wish reply.outcome r h)

  -- ---- snapshots

  -- the snapshot goes on for at least as long as the one before
  pub longer_wish : (r : StepResult) (o : Option Snapshot) → reach r.state.stored.snapshot ≤ reach o → StaysReached r → (place : ℕ) → r.state.wish ≡ Some place → place < reach o
  longer_wish r o l h place e = let k = h place e in omega arith

  cut_other_wish : (last : LogId ℕ) (r : StepResult) → StaysReached r → StaysReached (cut_other last r)
  cut_other_wish last r h =
      either StaysReached (has_id_in_log r.state.stored last) r (cond (is_some (entry_at r.state.stored last.index)) (cut_from (place_above r.state.committed) r) r) h
      (either StaysReached (is_some (entry_at r.state.stored last.index)) (cut_from (place_above r.state.committed) r) r (cut_wish _ r h) h)

  abbrev SameSnapshot : StepResult → StepResult → Type 0
  SameSnapshot r q = q.state.stored.snapshot ≡ r.state.stored.snapshot

  cut_other_same : (last : LogId ℕ) (r : StepResult) → (cut_other last r).state.stored.snapshot ≡ r.state.stored.snapshot
  cut_other_same last r =
      let there = entry_at r.state.stored last.index in
      let place = place_above r.state.committed in
      either (SameSnapshot r) (has_id_in_log r.state.stored last) r (cond (is_some there) (cut_from place r) r) refl
      (either (SameSnapshot r) (is_some there) (cut_from place r) r
      (either (SameSnapshot r) (is_some (entry_at r.state.stored place)) (store (CutFrom place) r) r refl refl) refl)

  install_wish : (x : Snapshot) (r : StepResult) → reach r.state.stored.snapshot ≤ reach (Some x) → StaysReached r → StaysReached (install x r)
  install_wish x r l h =
      longer_wish (cut_other x.last r) (Some x)
      (subst (λ o. reach o ≤ reach (Some x)) (sym (cut_other_same x.last r)) l)
      (cut_other_wish x.last r h)

  unless_wish : (b : Bool) (x : Snapshot) (r : StepResult) → (b ≡ false → reach r.state.stored.snapshot ≤ reach (Some x)) → StaysReached r → StaysReached (install_unless b x r)
  unless_wish true x r l h = h
  unless_wish false x r l h = install_wish x r (l refl) h

  take_over_same : (v : Vote ℕ) (r : StepResult) → (take_over v r).state.stored.snapshot ≡ r.state.stored.snapshot
  take_over_same v r = either (λ q. q.state.stored.snapshot ≡ r.state.stored.snapshot) _ _ _ refl refl

  -- a snapshot that is installed goes past what is committed
  pub offered_wish : (own peer : ℕ) (v : Vote ℕ) (id : ℕ) (x : Snapshot) (b : Bool) (r : StepResult) → (is_within x.last.index r.state.committed ≡ false → reach r.state.stored.snapshot ≤ reach (Some x)) → StaysReached r → StaysReached (offered own peer v id x b r)
  offered_wish own peer v id x true r l h = h
  offered_wish own peer v id x false r l h =
      unless_wish (is_within x.last.index (take_over v r).state.committed) x (take_over v r)
      (λ e.
      subst (λ o. reach o ≤ reach (Some x)) (sym (take_over_same v r))
      (l (ap (is_within x.last.index) (sym (take_over_keeps_committed v r)) ∙ e)))
      (take_over_wish v r h)

  -- ---- calls

  pub changed_wish : (o : Option LoggedMembership) (change : ChangeMembers) (token : ℕ) (r : StepResult) → StaysReached r → StaysReached (append_changed o change token r)
  changed_wish None change token r h = h
  changed_wish (Some x) change token r h = h

  notices_wish : (own : ℕ) (lead : Lead) (ns : List ℕ) (r : StepResult) → StaysReached r → StaysReached (send_notices own lead ns r)
  notices_wish own lead [] r h = h
  notices_wish own lead (n ∷ ns) r h = notices_wish own lead ns _ h

  pub beat_wish : (own : ℕ) (role : Role) (r : StepResult) → StaysReached r → StaysReached (beat_as own role r)
  beat_wish own Follower r h = h
  beat_wish own (Candidate granters) r h = h
  beat_wish own (Leader lead) r h = notices_wish own lead (other_ids own r.state.stored) r h

  pub lost_wish : (peer : ℕ) (role : Role) (r : StepResult) → StaysReached r → StaysReached (lost_as peer role r)
  lost_wish peer Follower r h = h
  lost_wish peer (Candidate granters) r h = h
  lost_wish peer (Leader lead) r h = either StaysReached _ _ _ h h

  remove_wish : (o : Option (LogId ℕ)) (r : StepResult) → StaysReached r → StaysReached (remove_up_to o r)
  remove_wish None r h = h
  remove_wish (Some id) r h = h

  purge_as_wish : (place : ℕ) (role : Role) (r : StepResult) → place < reach r.state.stored.snapshot → StaysReached r → StaysReached (purge_as place role r)
  purge_as_wish place Follower r l h = remove_wish _ r h
  purge_as_wish place (Candidate granters) r l h = remove_wish _ r h
  purge_as_wish place (Leader lead) r l h =
      either StaysReached _ _ _ h (later_wish (reach r.state.stored.snapshot) r.state.wish place h l)

  pub purge_within_wish : (place : ℕ) (o : Option Snapshot) (r : StepResult) → r.state.stored.snapshot ≡ o → ((x : Snapshot) → o ≡ Some x → reach (Some x) ≡ x.last.index + 1) → StaysReached r → StaysReached (purge_within place (option_map (λ (x : Snapshot). x.last) o) r)
  purge_within_wish place None r is size h = h
  purge_within_wish place (Some x) r is size h =
      let n = size x refl in
      purge_as_wish (min place x.last.index) r.state.role r
      (subst (λ o. min place x.last.index < reach o) (sym is) (omega arith)) h

  -- ---- the end of an event

  commit_wish : (own : ℕ) (role : Role) (r : StepResult) → StaysReached r → StaysReached (commit_as_leader own role r)
  commit_wish own Follower r h = h
  commit_wish own (Candidate granters) r h = h
  commit_wish own (Leader lead) r h = h

  wished_wish : (role : Role) (wish : Option ℕ) (r : StepResult) → StaysReached r → StaysReached (purge_as_wished role wish r)
  wished_wish Follower wish r h = h
  wished_wish (Candidate granters) wish r h = h
  wished_wish (Leader lead) None r h = h
  wished_wish (Leader lead) (Some place) r h =
      either StaysReached _ _ _ h (remove_wish _ (with_wish None r) (no_wish (with_wish None r) refl))

  request_wish : (own : ℕ) (p : PeerState) (lead : Lead) (o : Option Snapshot) (r : StepResult) → StaysReached r → StaysReached (send_request own p lead o r)
  request_wish own p lead None r h = h
  request_wish own p lead (Some x) r h = either StaysReached _ _ _ h h

  serve_wish : (own : ℕ) (b : Bool) (p : PeerState) (lead : Lead) (r : StepResult) → StaysReached r → StaysReached (serve own b p lead r)
  serve_wish own b p lead r h =
      let told = cond b (send own p.peer (notice r.state p) r) r in
      either StaysReached (is_none p.outstanding && lacks_entries r.state.stored p) (send_request own p lead r.state.stored.snapshot r) told
      (request_wish own p lead _ r h) (either StaysReached b (send own p.peer (notice r.state p) r) r h h)

  serve_as_wish : (own : ℕ) (b : Bool) (n : ℕ) (role : Role) (r : StepResult) → StaysReached r → StaysReached (serve_as own b n role r)
  serve_as_wish own b n Follower r h = h
  serve_as_wish own b n (Candidate granters) r h = h
  serve_as_wish own b n (Leader lead) r h = serve_wish own b _ lead r h

  serve_all_wish : (own : ℕ) (b : Bool) (ns : List ℕ) (r : StepResult) → StaysReached r → StaysReached (serve_all own b ns r)
  serve_all_wish own b [] r h = h
  serve_all_wish own b (n ∷ ns) r h = serve_all_wish own b ns _ (serve_as_wish own b n r.state.role r h)

  pub committed_wish : (own : ℕ) (r : StepResult) → StaysReached r → StaysReached (commit_as_leader own r.state.role r)
  committed_wish own r h = commit_wish own r.state.role r h

  pub purged_wish : (r : StepResult) → StaysReached r → StaysReached (purge_as_wished r.state.role r.state.wish r)
  purged_wish r h = wished_wish r.state.role r.state.wish r h

  pub frames_wish : (own : ℕ) (before : Option ℕ) (r : StepResult) → StaysReached r → StaysReached (with_frames own before r)
  frames_wish own before r h = serve_all_wish own (has_grown before r.state.committed) (other_ids own r.state.stored) r h
