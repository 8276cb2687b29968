-- What is stored as a snapshot after a step of a node that leads on.
use Rattle.std.specs.Prelude.{◌≡◌, ◌⊎◌, ℕ, ◌+◌, ◌++◌, is_none, ◌==◌, ◌&&◌, is_some, nat_lt, Bool, true, false, List, [], ◌∷◌, Option, Some, None, refl}
use Rattle.std.proofs.Common.{inl, inr, sym, ap, ◌∙◌, subst, ⊎_elim}
use Rattle.std.proofs.lemmas.Bool.{and_parts}
use Rattle.std.specs.List.{list_any}
use Rattle.raft_values.specs.declared.vote.Vote.{Vote}
use Rattle.raft_values.specs.declared.log_id.LogId.{LogId}
use Rattle.raft_values.specs.Vote.{vote_of}
use Rattle.raft_values.specs.LogId.{log_id_of, place_of}
use Rattle.raft_state.specs.declared.entry.EntryPayload.TheVariants.{Blank, Membership as Members}
use Rattle.raft_group_step.specs.Values.{ChangeMembers, Entry, LoggedMembership, entry_of, is_written_by, vote_eq, vote_lt}
use Rattle.raft_group_step.specs.StoredGroup.{Snapshot, StoringCommand, MakeGroup, SetVote, CutFrom, PutEntries, RemoveUpTo, SetSnapshot, StartAfter, entry_at, first_place, has_id_in_log, id_of, membership_in_force, snapshot_last}
use Rattle.raft_group_step.specs.Message.{MessageBody, VoteRequest, VoteReply, AppendRequest, AppendReply, SnapshotRequest, SnapshotReply, AppendFields, ReplyFields, ReplyResult, Success, PartialSuccess, Conflict, HigherVote}
use Rattle.raft_group_step.specs.Peer.{PeerState, is_answer_to, is_kept_for_peers}
use Rattle.raft_group_step.specs.GroupState.{GroupState, Lead, Role, Follower, Candidate, Leader, is_leader, state_of}
use Rattle.raft_group_step.specs.declared.group_call.GroupCall.TheVariants.{Initialize, Elect, Propose, ChangeMembership, Heartbeat, Lost, TriggerSnapshot, TriggerPurge}
use Rattle.raft_group_step.specs.GroupEvent.{GroupCall, GroupEvent, AddGroup, Call, Receive, Open}
use Rattle.raft_group_step.specs.StepResult.{RefusalReason, StepResult, append, apply_up_to, in_role, is_within, later_place, renew, send, step_down, store, store_vote, take_over, unchanged}
use Rattle.raft_group_step.specs.Lead.{commit_as_leader, committed_vote, lead_if, new_lead, other_ids, peer_of, purge_as_wished, purge_up_to, remove_up_to, with_grant, with_wish}
use Rattle.raft_group_step.specs.Frames.{has_grown, lacks_entries, notice, send_entries, send_request, send_snapshot, serve_all, serve_as}
use Rattle.raft_group_step.specs.Elect.{ask, elect_step, other_voters, stand}
use Rattle.raft_group_step.specs.VoteRequest.{judged, may_grant}
use Rattle.raft_group_step.specs.VoteReply.{counted, take_over_greater}
use Rattle.raft_group_step.specs.AppendRequest.{cut_at, cut_from, heard, is_held, joined, put_entries}
use Rattle.raft_group_step.specs.SnapshotRequest.{cut_other, install_unless, offered, place_above}
use Rattle.raft_group_step.specs.Reply.{answered, reply_step, with_higher_vote}
use Rattle.raft_group_step.specs.MembershipStep.{append_changed}
use Rattle.raft_group_step.specs.Heartbeat.{beat_as, send_notices}
use Rattle.raft_group_step.specs.Lost.{lost_as}
use Rattle.raft_group_step.specs.SnapshotTrigger.{snapshot_at, snapshot_of_applied, snapshot_trigger_step, store_snapshot_at}
use Rattle.raft_group_step.specs.PurgeTrigger.{purge_as, purge_within}
use Rattle.raft_group_step.specs.Opening.{drop_stale_log, is_joined_to, opening_step}
use Rattle.raft_group_step.specs.Refusal.{has_known_snapshot, is_of_leader, is_sound, refusal_of}
use Rattle.raft_group_step.specs.GroupStep.{begun, call_step, event_step, finished, group_step, message_step, step_unless}
use Rattle.raft_group_step.proofs.Words.{either, either_by, installing_keeps_role}
use Rattle.raft_laws.proofs.BallotSafe.{Among, among_at}
use Rattle.raft_laws.proofs.Counts.{contains_at}
use Rattle.raft_laws.proofs.WorldRuns.{among_either}
use Rattle.raft_laws.proofs.StepMessages.{message_passed, of_leader}
use Rattle.raft_laws.proofs.VoteRanks.{same_vote}
use Rattle.raft_step_laws.specs.Tokens.{HasItsOwnVote, leads_on}
use Rattle.raft_step_laws.proofs.Sending.{finished_adds}
use Rattle.raft_step_laws.proofs.Telling.{seeks}
use Rattle.raft_snapshot_laws.specs.Snapshots.{ComesOf, IsOfApplied, LeadersBuildSnapshots, StoredSnapshotsCome}

-- ---- what the words of a step store

no_vote : (v : Vote ℕ) (x : Snapshot) → SetVote v ≡ SetSnapshot x → ⊥
no_vote v x e = cc

no_cut : (i : ℕ) (x : Snapshot) → CutFrom i ≡ SetSnapshot x → ⊥
no_cut i x e = cc

no_put : (i : ℕ) (es : List Entry) (x : Snapshot) → PutEntries i es ≡ SetSnapshot x → ⊥
no_put i es x e = cc

no_removal : (id : LogId ℕ) (x : Snapshot) → RemoveUpTo id ≡ SetSnapshot x → ⊥
no_removal id x e = cc

no_start : (id : LogId ℕ) (x : Snapshot) → StartAfter id ≡ SetSnapshot x → ⊥
no_start id x e = cc

no_group_made : (x : Snapshot) → MakeGroup ≡ SetSnapshot x → ⊥
no_group_made x e = cc

module _ (P Q : Snapshot → Type 0) where
  -- the stored snapshot, if there is one, is a P, and each that a command stores is a Q
  record Has (r : StepResult) : Type 0 where
    now : (x : Snapshot) → r.state.stored.snapshot ≡ Some x → P x
    set : (x : Snapshot) → Among (SetSnapshot x) r.commands → Q x

  same : (r q : StepResult) → q.state.stored.snapshot ≡ r.state.stored.snapshot → q.commands ≡ r.commands → Has r → Has q
  same r q e f h = record {
    now = λ x is. h.now x (sym e ∙ is);
    set = λ x a. h.set x (subst (λ cs. Among (SetSnapshot x) cs) f a);
  }

  -- one more command, which stores no snapshot
  adds : (c : StoringCommand) → ((x : Snapshot) → c ≡ SetSnapshot x → ⊥) → (r q : StepResult) → q.state.stored.snapshot ≡ r.state.stored.snapshot → q.commands ≡ r.commands ++ c ∷ [] → Has r → Has q
  adds c other r q e f h = record {
    now = λ x is. h.now x (sym e ∙ is);
    set = λ x a.
        ⊎_elim
        (λ old. h.set x old)
        (λ here. ⊎_elim (λ is. absurd (other x (sym is))) (λ none. absurd none) here)
        (among_either (SetSnapshot x) r.commands (c ∷ []) (subst (λ cs. Among (SetSnapshot x) cs) f a));
  }

  took_has : (v : Vote ℕ) (r : StepResult) → Has r → Has (take_over v r)
  took_has v r h =
      either Has (vote_lt r.state.stored.vote v) (store_vote v (step_down r)) (renew r)
      (adds (SetVote v) (no_vote v) r _ refl refl h) (same r _ refl refl h)

  greater_has : (v : Vote ℕ) (r : StepResult) → Has r → Has (take_over_greater v r)
  greater_has v r h =
      either Has (vote_lt r.state.stored.vote v) (store_vote v (step_down r)) r (adds (SetVote v) (no_vote v) r _ refl refl h) h

  cut_has : (i : ℕ) (r : StepResult) → Has r → Has (cut_from i r)
  cut_has i r h = either Has (is_some (entry_at r.state.stored i)) (store (CutFrom i) r) r (adds (CutFrom i) (no_cut i) r _ refl refl h) h

  cut_at_has : (id : Option (LogId ℕ)) (r : StepResult) → Has r → Has (cut_at id r)
  cut_at_has None r h = h
  cut_at_has (Some id) r h = cut_has id.index r h

  put_has : (es : List Entry) (r : StepResult) → Has r → Has (put_entries es r)
  put_has [] r h = h
  put_has (e ∷ es) r h =
      adds (PutEntries e.log_id.index (e ∷ es)) (no_put e.log_id.index (e ∷ es)) (cut_from e.log_id.index r) _ refl refl (cut_has e.log_id.index r h)

  joined_has : (own peer : ℕ) (a : AppendFields) (b : Bool) (r : StepResult) → Has r → Has (joined own peer a b r)
  joined_has own peer a true r h = same (put_entries _ r) _ refl refl (put_has _ r h)
  joined_has own peer a false r h = same (cut_at a.previous r) _ refl refl (cut_at_has a.previous r h)

  heard_has : (own peer : ℕ) (a : AppendFields) (b : Bool) (r : StepResult) → Has r → Has (heard own peer a b r)
  heard_has own peer a true r h = same r _ refl refl h
  heard_has own peer a false r h =
      let taken = take_over a.vote r in
      joined_has own peer a (is_held taken.state.stored taken.state.committed a.previous) taken (took_has a.vote r h)

  judged_has : (own peer : ℕ) (v : Vote ℕ) (b : Bool) (r : StepResult) → Has r → Has (judged own peer v b r)
  judged_has own peer v true r h = same (take_over v r) _ refl refl (took_has v r h)
  judged_has own peer v false r h = same r _ refl refl h

  led_has : (b : Bool) (r : StepResult) → Has r → Has (lead_if b r)
  led_has true r h =
      let v = committed_vote r.state.stored.vote in
      let q = in_role (Leader (new_lead r.state.stored)) (store_vote v r) in
      let led : Has q = adds (SetVote v) (no_vote v) r q refl refl h in
      either Has (list_any (is_written_by q.state.stored.vote.leader_id) q.state.stored.log) q (append Blank q) led
      (adds _ (no_put _ _) q _ refl refl led)
  led_has false r h = h

  granted_has : (peer : ℕ) (role : Role) (r : StepResult) → Has r → Has (with_grant peer role r)
  granted_has peer Follower r h = h
  granted_has peer (Candidate granters) r h = led_has _ (in_role _ r) (same r _ refl refl h)
  granted_has peer (Leader lead) r h = h

  counted_has : (peer : ℕ) (b : Bool) (v : Vote ℕ) (r : StepResult) → Has r → Has (counted peer b v r)
  counted_has peer true v r h = granted_has peer r.state.role r h
  counted_has peer false v r h = greater_has v r h

  answered_has : (peer : ℕ) (m : ReplyFields) (role : Role) (r : StepResult) → Has r → Has (answered peer m role r)
  answered_has peer m Follower r h = h
  answered_has peer m (Candidate granters) r h = h
  answered_has peer m (Leader lead) r h =
      either Has (vote_eq m.vote r.state.stored.vote && is_answer_to m (peer_of lead peer).outstanding) _ r (same r _ refl refl h) h

  higher_has : (o : ReplyResult) (r : StepResult) → Has r → Has (with_higher_vote o r)
  higher_has Success r h = h
  higher_has (PartialSuccess last) r h = h
  higher_has Conflict r h = h
  higher_has (HigherVote v) r h = greater_has v r h

  reply_has : (peer : ℕ) (m : ReplyFields) (r : StepResult) → Has r → Has (reply_step peer m r)
  reply_has peer m r h =
      let judged = with_higher_vote m.outcome r in answered_has peer m judged.state.role judged (higher_has m.outcome r h)

  ask_has : (own : ℕ) (ns : List ℕ) (r : StepResult) → Has r → Has (ask own ns r)
  ask_has own [] r h = h
  ask_has own (n ∷ ns) r h = ask_has own ns _ (same r _ refl refl h)

  elected_has : (own : ℕ) (r : StepResult) → Has r → Has (elect_step own r)
  elected_has own r h =
      let vote = vote_of (r.state.stored.vote.leader_id.term + 1) own false in
      let stood : Has (stand own r) =
      ask_has own (other_voters own r.state.stored) _ (adds (SetVote vote) (no_vote vote) r _ refl refl h)
      in
      granted_has own (stand own r).state.role (stand own r) stood

  changed_has : (o : Option LoggedMembership) (change : ChangeMembers) (token : ℕ) (r : StepResult) → Has r → Has (append_changed o change token r)
  changed_has None change token r h = h
  changed_has (Some m) change token r h = adds _ (no_put _ _) r _ refl refl h

  notices_has : (own : ℕ) (lead : Lead) (ns : List ℕ) (r : StepResult) → Has r → Has (send_notices own lead ns r)
  notices_has own lead [] r h = h
  notices_has own lead (n ∷ ns) r h = notices_has own lead ns _ (same r _ refl refl h)

  beat_has : (own : ℕ) (role : Role) (r : StepResult) → Has r → Has (beat_as own role r)
  beat_has own Follower r h = h
  beat_has own (Candidate granters) r h = h
  beat_has own (Leader lead) r h = notices_has own lead (other_ids own r.state.stored) r h

  lost_has : (peer : ℕ) (role : Role) (r : StepResult) → Has r → Has (lost_as peer role r)
  lost_has peer Follower r h = h
  lost_has peer (Candidate granters) r h = h
  lost_has peer (Leader lead) r h = either Has (is_some (peer_of lead peer).outstanding) _ r (same r _ refl refl h) h

  remove_has : (id : Option (LogId ℕ)) (r : StepResult) → Has r → Has (remove_up_to id r)
  remove_has None r h = h
  remove_has (Some id) r h = adds (RemoveUpTo id) (no_removal id) r _ refl refl h

  purge_has : (place : ℕ) (role : Role) (r : StepResult) → Has r → Has (purge_as place role r)
  purge_has place Follower r h = remove_has (id_of (entry_at r.state.stored place)) r h
  purge_has place (Candidate granters) r h = remove_has (id_of (entry_at r.state.stored place)) r h
  purge_has place (Leader lead) r h =
      either Has (nat_lt place (first_place r.state.stored)) r (with_wish (later_place r.state.wish (Some place)) r) h
      (same r _ refl refl h)

  within_has : (place : ℕ) (last : Option (LogId ℕ)) (r : StepResult) → Has r → Has (purge_within place last r)
  within_has place None r h = h
  within_has place (Some last) r h = purge_has _ r.state.role r h

  dropped_has : (last : Option (LogId ℕ)) (r : StepResult) → Has r → Has (drop_stale_log last r)
  dropped_has None r h = h
  dropped_has (Some last) r h =
      either Has (is_joined_to r.state.stored last) r (store (StartAfter last) r) h (adds (StartAfter last) (no_start last) r _ refl refl h)

  opened_has : (own : ℕ) (s : GroupState) → Has (unchanged (state_of s.stored)) → Has (opening_step own s.stored)
  opened_has own s h =
      let last = snapshot_last s.stored in
      let dropped = drop_stale_log last (unchanged (state_of s.stored)) in
      let placed = apply_up_to (place_of last) dropped in
      let vote = placed.state.stored.vote in
      let kept : Has placed = same dropped placed refl refl (dropped_has last (unchanged (state_of s.stored)) h) in
      either Has (vote.committed && vote.leader_id.node_id == own) (in_role (Leader (new_lead placed.state.stored)) placed) placed
      (same placed _ refl refl kept) kept

  -- ---- the end of an event

  entries_has : (own : ℕ) (p : PeerState) (lead : Lead) (r : StepResult) → Has r → Has (send_entries own p lead r)
  entries_has own p lead r h = same r _ refl refl h

  request_has : (own : ℕ) (p : PeerState) (lead : Lead) (o : Option Snapshot) (r : StepResult) → Has r → Has (send_request own p lead o r)
  request_has own p lead None r h = entries_has own p lead r h
  request_has own p lead (Some x) r h =
      either Has (nat_lt p.search (first_place r.state.stored)) (send_snapshot own p lead x r) (send_entries own p lead r)
      (same r _ refl refl h) (entries_has own p lead r h)

  serve_has : (own : ℕ) (news : Bool) (n : ℕ) (role : Role) (r : StepResult) → Has r → Has (serve_as own news n role r)
  serve_has own news n Follower r h = h
  serve_has own news n (Candidate granters) r h = h
  serve_has own news n (Leader lead) r h =
      let p = peer_of lead n in
      either Has (is_none p.outstanding && lacks_entries r.state.stored p) (send_request own p lead r.state.stored.snapshot r) _
      (request_has own p lead r.state.stored.snapshot r h)
      (either Has news (send own p.peer (notice r.state p) r) r (same r _ refl refl h) h)

  serve_all_has : (own : ℕ) (news : Bool) (ns : List ℕ) (r : StepResult) → Has r → Has (serve_all own news ns r)
  serve_all_has own news [] r h = h
  serve_all_has own news (n ∷ ns) r h = serve_all_has own news ns _ (serve_has own news n r.state.role r h)

  commit_has : (own : ℕ) (role : Role) (r : StepResult) → Has r → Has (commit_as_leader own role r)
  commit_has own Follower r h = h
  commit_has own (Candidate granters) r h = h
  commit_has own (Leader lead) r h = same r _ refl refl h

  wished_has : (role : Role) (wish : Option ℕ) (r : StepResult) → Has r → Has (purge_as_wished role wish r)
  wished_has Follower wish r h = h
  wished_has (Candidate granters) wish r h = h
  wished_has (Leader lead) None r h = h
  wished_has (Leader lead) (Some place) r h =
      let wished = with_wish None r in
      either Has (is_kept_for_peers place lead.peers) r (purge_up_to place wished) h
      (remove_has (id_of (entry_at r.state.stored place)) wished (same r _ refl refl h))

  finished_has : (own : ℕ) (before : Option ℕ) (r : StepResult) → Has r → Has (finished own before r)
  finished_has own before r h =
      let committed = commit_as_leader own r.state.role r in
      let purged = purge_as_wished committed.state.role committed.state.wish committed in
      serve_all_has own (has_grown before purged.state.committed) (other_ids own purged.state.stored) purged
      (wished_has committed.state.role committed.state.wish committed (commit_has own r.state.role r h))

  -- ---- calls and messages but for those that store a snapshot

  plain_call_has : (own : ℕ) (call : GroupCall) (r : StepResult) → (call ≡ TriggerSnapshot → ⊥) → Has r → Has (call_step own call r)
  plain_call_has own (Initialize m) r other h =
      elected_has own (store (PutEntries 0 (entry_of (log_id_of 0 0 0) (Members m) ∷ [])) r) (adds _ (no_put _ _) r _ refl refl h)
  plain_call_has own Elect r other h = elected_has own r h
  plain_call_has own (Propose command token) r other h = adds _ (no_put _ _) r _ refl refl h
  plain_call_has own (ChangeMembership change token) r other h = changed_has (membership_in_force r.state.stored) change token r h
  plain_call_has own Heartbeat r other h = beat_has own r.state.role r h
  plain_call_has own (Lost peer) r other h = lost_has peer r.state.role r h
  plain_call_has own TriggerSnapshot r other h = absurd (other refl)
  plain_call_has own (TriggerPurge place) r other h = within_has place (snapshot_last r.state.stored) r h

  -- a snapshot that is installed is the one that the message brings
  other_has : (last : LogId ℕ) (r : StepResult) → Has r → Has (cut_other last r)
  other_has last r h =
      either Has (has_id_in_log r.state.stored last) r _ h
      (either Has (is_some (entry_at r.state.stored last.index)) _ r (cut_has (place_above r.state.committed) r h) h)

  stored_has : (y : Snapshot) (r q : StepResult) → q.state.stored.snapshot ≡ Some y → q.commands ≡ r.commands ++ SetSnapshot y ∷ [] → P y → Q y → Has r → Has q
  stored_has y r q e f p z h = record {
    now = λ x is. subst P (let g : Some y ≡ Some x = sym e ∙ is in let k : y ≡ x = cc in k) p;
    set = λ x a.
        ⊎_elim
        (λ old. h.set x old)
        (λ here. ⊎_elim (λ is. subst Q (let k : y ≡ x = cc in k) z) (λ none. absurd none) here)
        (among_either (SetSnapshot x) r.commands (SetSnapshot y ∷ []) (subst (λ cs. Among (SetSnapshot x) cs) f a));
  }

  unless_has : (b : Bool) (y : Snapshot) (r : StepResult) → P y → Q y → Has r → Has (install_unless b y r)
  unless_has true y r p z h = h
  unless_has false y r p z h =
      let cut = cut_other y.last r in
      let put = store (SetSnapshot y) cut in
      adds (RemoveUpTo y.last) (no_removal y.last) put _ refl refl (stored_has y cut put refl refl p z (other_has y.last r h))

  offered_has : (own peer : ℕ) (v : Vote ℕ) (id : ℕ) (y : Snapshot) (b : Bool) (r : StepResult) → P y → Q y → Has r → Has (offered own peer v id y b r)
  offered_has own peer v id y true r p z h = same r _ refl refl h
  offered_has own peer v id y false r p z h =
      let taken = take_over v r in
      let b = is_within y.last.index taken.state.committed in
      same (install_unless b y taken) _ refl refl (unless_has b y taken p z (took_has v r h))

  message_has : (own peer : ℕ) (b : MessageBody) (r : StepResult) → ((v : Vote ℕ) (id : ℕ) (y : Snapshot) → b ≡ SnapshotRequest v id y → P y × Q y) → Has r → Has (message_step own peer b r)
  message_has own peer (VoteRequest v last) r brings h = judged_has own peer v (may_grant r.state v last) r h
  message_has own peer (VoteReply v granted last) r brings h = counted_has peer (granted && vote_eq v r.state.stored.vote) v r h
  message_has own peer (AppendRequest a) r brings h = heard_has own peer a (vote_lt a.vote r.state.stored.vote) r h
  message_has own peer (AppendReply a) r brings h = reply_has peer a r h
  message_has own peer (SnapshotRequest v id y) r brings h =
      let b = brings v id y refl in offered_has own peer v id y (vote_lt v r.state.stored.vote) r b.0 b.1 h
  message_has own peer (SnapshotReply a) r brings h = reply_has peer a r h

  -- a snapshot that is asked for is the one of what is applied
  asked_has : (own : ℕ) (s : GroupState) (r : StepResult) → r.state.applied ≡ s.applied → r.state.stored ≡ s.stored → ((y : Snapshot) → IsOfApplied s y → P y × Q y) → Has r → Has (snapshot_trigger_step r)
  asked_has own s r e f builds h = by_applied r.state.applied refl
    where
      by_id : (place : ℕ) (o : Option (LogId ℕ)) → r.state.applied ≡ Some place → id_of (entry_at r.state.stored place) ≡ o → Has (store_snapshot_at o r)
      by_id place None is at = h
      by_id place (Some last) is at =
          let y = snapshot_at r.state.stored last in
          let built : IsOfApplied s y = record {
            place = place;
            last = last;
            applied = sym e ∙ is;
            stands = ap (λ st. id_of (entry_at st place)) (sym f) ∙ at;
            built = ap (λ st. snapshot_at st last) f;
          } in
          let b = builds y built in
          stored_has y r _ refl refl b.0 b.1 h

      by_applied : (o : Option ℕ) → r.state.applied ≡ o → Has (snapshot_of_applied o r)
      by_applied None is = h
      by_applied (Some place) is = either Has _ r _ h (by_id place (id_of (entry_at r.state.stored place)) is refl)

-- ---- what a step stores

module _ (own : ℕ) (s : GroupState) where
  abbrev Any : Snapshot → Type 0
  Any x = Unit {0}

  fresh : (Q : Snapshot → Type 0) (r : StepResult) → r.commands ≡ [] → Has Any Q r
  fresh Q r e = record { now = λ x is. tt; set = λ x a. absurd (subst (λ cs. Among (SetSnapshot x) cs) e a) }

  call_sets : (now : ℕ) (call : GroupCall) → Has Any (IsOfApplied s) (call_step own call (begun now s))
  call_sets now (Initialize m) = plain_call_has Any (IsOfApplied s) own (Initialize m) (begun now s) (λ e. cc) (fresh _ (begun now s) refl)
  call_sets now Elect = plain_call_has Any (IsOfApplied s) own Elect (begun now s) (λ e. cc) (fresh _ (begun now s) refl)
  call_sets now (Propose command token) =
      plain_call_has Any (IsOfApplied s) own (Propose command token) (begun now s) (λ e. cc) (fresh _ (begun now s) refl)
  call_sets now (ChangeMembership change token) =
      plain_call_has Any (IsOfApplied s) own (ChangeMembership change token) (begun now s) (λ e. cc) (fresh _ (begun now s) refl)
  call_sets now Heartbeat = plain_call_has Any (IsOfApplied s) own Heartbeat (begun now s) (λ e. cc) (fresh _ (begun now s) refl)
  call_sets now (Lost peer) = plain_call_has Any (IsOfApplied s) own (Lost peer) (begun now s) (λ e. cc) (fresh _ (begun now s) refl)
  call_sets now TriggerSnapshot =
      asked_has Any (IsOfApplied s) own s (begun now s) refl refl (λ y is. (tt, is)) (fresh _ (begun now s) refl)
  call_sets now (TriggerPurge place) =
      plain_call_has Any (IsOfApplied s) own (TriggerPurge place) (begun now s) (λ e. cc) (fresh _ (begun now s) refl)

  event_sets : (e : GroupEvent) → Has Any (ComesOf s e) (event_step own s e)
  event_sets AddGroup =
      adds Any (ComesOf s AddGroup) MakeGroup no_group_made (unchanged s) _ refl refl (fresh _ (unchanged s) refl)
  event_sets (Call call now) = call_sets now call
  event_sets (Receive peer m now) =
      message_has Any (ComesOf s (Receive peer m now)) own peer m.body (begun now s) (λ v id y is. (tt, (v, id, is))) (fresh _ (begun now s) refl)
  event_sets Open = opened_has Any (ComesOf s Open) own s (fresh _ (unchanged (state_of s.stored)) refl)

  step_sets : (e : GroupEvent) (why : Option RefusalReason) → Has Any (ComesOf s e) (step_unless why own s e)
  step_sets e (Some why) = fresh _ _ refl
  step_sets e None = finished_has Any (ComesOf s e) own s.committed (event_step own s e) (event_sets e)

pub stored_come : StoredSnapshotsCome
stored_come own s e x has =
    let cs = (group_step own s e).commands in
    let at = contains_at cs (SetSnapshot x) has in
    (step_sets own s e (refusal_of own s e)).set x (among_at cs at.0 (SetSnapshot x) at.1)

-- ---- what a node that leads on has

module _ (own : ℕ) (s : GroupState) where
  abbrev Comes : Snapshot → Type 0
  Comes x = (s.stored.snapshot ≡ Some x) ⊎ IsOfApplied s x

  abbrev Keeps : StepResult → Type 0
  Keeps r = Has Comes (Any own s) r

  had : (r : StepResult) → r.state.stored.snapshot ≡ s.stored.snapshot → Keeps r
  had r e = record { now = λ x f. inl (sym e ∙ f); set = λ x a. tt }

  call_keeps : (now : ℕ) (call : GroupCall) → Keeps (call_step own call (begun now s))
  call_keeps now (Initialize m) = plain_call_has Comes (Any own s) own (Initialize m) (begun now s) (λ e. cc) (had (begun now s) refl)
  call_keeps now Elect = plain_call_has Comes (Any own s) own Elect (begun now s) (λ e. cc) (had (begun now s) refl)
  call_keeps now (Propose command token) =
      plain_call_has Comes (Any own s) own (Propose command token) (begun now s) (λ e. cc) (had (begun now s) refl)
  call_keeps now (ChangeMembership change token) =
      plain_call_has Comes (Any own s) own (ChangeMembership change token) (begun now s) (λ e. cc) (had (begun now s) refl)
  call_keeps now Heartbeat = plain_call_has Comes (Any own s) own Heartbeat (begun now s) (λ e. cc) (had (begun now s) refl)
  call_keeps now (Lost peer) = plain_call_has Comes (Any own s) own (Lost peer) (begun now s) (λ e. cc) (had (begun now s) refl)
  call_keeps now TriggerSnapshot =
      asked_has Comes (Any own s) own s (begun now s) refl refl (λ y is. (inr is, tt)) (had (begun now s) refl)
  call_keeps now (TriggerPurge place) =
      plain_call_has Comes (Any own s) own (TriggerPurge place) (begun now s) (λ e. cc) (had (begun now s) refl)

  -- another leader's vote that isn't below the own one is greater, so the lead is given up
  took_follows : (v : Vote ℕ) (r : StepResult) → r.state.stored.vote ≡ s.stored.vote → vote_lt v s.stored.vote ≡ false → (v ≡ s.stored.vote → ⊥) → (take_over v r).state.role ≡ Follower
  took_follows v r e low other =
      either_by (λ q. q.state.role ≡ Follower) (vote_lt r.state.stored.vote v) (store_vote v (step_down r)) (renew r)
      (λ t. refl)
      (λ t. absurd (other (sym (same_vote s.stored.vote v (ap (λ w. vote_lt w v) (sym e) ∙ t) low))))

  not_led : {Z : Type 0} (t : GroupState) → is_leader t.role ≡ false → leads_on s t ≡ true → Z
  not_led t off on =
      let parts = and_parts (is_leader s.role) (is_leader t.role && vote_eq s.stored.vote t.stored.vote) on in
      let rest = and_parts (is_leader t.role) (vote_eq s.stored.vote t.stored.vote) parts.1 in
      absurd (let f : false ≡ true = sym off ∙ rest.0 in cc)

  offered_keeps : (now peer : ℕ) (v : Vote ℕ) (id : ℕ) (x : Snapshot) (b : Bool) → vote_lt v s.stored.vote ≡ b → (v ≡ s.stored.vote → ⊥)
      → leads_on s (finished own s.committed (offered own peer v id x b (begun now s))).state ≡ true → Keeps (offered own peer v id x b (begun now s))
  offered_keeps now peer v id x true low other on = had _ refl
  offered_keeps now peer v id x false low other on =
      let r = begun now s in
      let taken = take_over v r in
      let b = is_within x.last.index taken.state.committed in
      let q = offered own peer v id x false r in
      let follows : is_leader q.state.role ≡ false = ap is_leader (installing_keeps_role b x taken ∙ took_follows v r refl low other) in
      not_led (finished own s.committed q).state ((finished_adds own s.committed q).leads ∙ follows) on

  message_keeps : (now peer : ℕ) (b : MessageBody) → (peer ≡ own → ⊥) → is_sound own peer s.stored b ≡ true → HasItsOwnVote own s
      → leads_on s (finished own s.committed (message_step own peer b (begun now s))).state ≡ true → Keeps (message_step own peer b (begun now s))
  message_keeps now peer (VoteRequest v last) stranger sound mine on =
      message_has Comes (Any own s) own peer (VoteRequest v last) (begun now s) (λ w i z f. absurd (let g : VoteRequest v last ≡ SnapshotRequest w i z = f in cc)) (had (begun now s) refl)
  message_keeps now peer (VoteReply v granted last) stranger sound mine on =
      message_has Comes (Any own s) own peer (VoteReply v granted last) (begun now s) (λ w i z f. absurd (let g : VoteReply v granted last ≡ SnapshotRequest w i z = f in cc)) (had (begun now s) refl)
  message_keeps now peer (AppendRequest a) stranger sound mine on =
      message_has Comes (Any own s) own peer (AppendRequest a) (begun now s) (λ w i z f. absurd (let g : AppendRequest a ≡ SnapshotRequest w i z = f in cc)) (had (begun now s) refl)
  message_keeps now peer (AppendReply a) stranger sound mine on =
      message_has Comes (Any own s) own peer (AppendReply a) (begun now s) (λ w i z f. absurd (let g : AppendReply a ≡ SnapshotRequest w i z = f in cc)) (had (begun now s) refl)
  message_keeps now peer (SnapshotRequest v id x) stranger sound mine on =
      let parts = and_parts (is_of_leader peer v) (has_known_snapshot (membership_in_force s.stored) x.membership) sound in
      let foreign : v.leader_id.node_id ≡ own → ⊥ = (of_leader peer stranger v parts.0).1 in
      let led = and_parts (is_leader s.role) _ on in
      let own_vote : s.stored.vote.leader_id.node_id ≡ own = mine (seeks s.role led.0) in
      offered_keeps now peer v id x (vote_lt v s.stored.vote) refl
      (λ same_one. foreign (ap (λ (w : Vote ℕ). w.leader_id.node_id) same_one ∙ own_vote)) on
  message_keeps now peer (SnapshotReply a) stranger sound mine on =
      message_has Comes (Any own s) own peer (SnapshotReply a) (begun now s) (λ w i z f. absurd (let g : SnapshotReply a ≡ SnapshotRequest w i z = f in cc)) (had (begun now s) refl)

  event_keeps : (e : GroupEvent) → HasItsOwnVote own s → refusal_of own s e ≡ None → leads_on s (finished own s.committed (event_step own s e)).state ≡ true → Keeps (event_step own s e)
  event_keeps AddGroup mine taken on = had _ refl
  event_keeps (Call call now) mine taken on = call_keeps now call
  event_keeps (Receive peer m now) mine taken on =
      let p = message_passed own s peer m now taken in
      message_keeps now peer m.body p.stranger p.sound mine on
  event_keeps Open mine taken on = opened_has Comes (Any own s) own s (had (unchanged (state_of s.stored)) refl)

  step_keeps : (e : GroupEvent) → HasItsOwnVote own s → refusal_of own s e ≡ None → leads_on s (group_step own s e).state ≡ true → Keeps (group_step own s e)
  step_keeps e mine taken on =
      subst (λ o. Keeps (step_unless o own s e)) (sym taken)
      (finished_has Comes (Any own s) own s.committed (event_step own s e)
      (event_keeps e mine taken (sym (ap (λ o. leads_on s (step_unless o own s e).state) taken) ∙ on)))

pub leaders_build : LeadersBuildSnapshots
leaders_build own s e mine taken on x is = (step_keeps own s e mine taken on).now x is
