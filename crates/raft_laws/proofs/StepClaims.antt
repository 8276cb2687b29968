-- How much each step says to be committed: no more than it knew, was told, or commits itself; and what a leader
-- knows of its peers was replied.
use Rattle.std.specs.Prelude.{◌≡◌, ℕ, ◌+◌, ◌≤◌, ◌&&◌, ◌==◌, min, nat_lt, cond, Bool, true, false, List, [], ◌∷◌, ◌++◌, length, take, Option, Some, None, is_none, is_some, refl}
use Rattle.std.specs.List.{list_any}
use Rattle.std.proofs.Common.{sym, ap, ◌∙◌, subst, arith, ⊎_elim, length-take}
use Rattle.std.proofs.lemmas.Bool.{and_parts, cond_both}
use Rattle.raft_values.specs.declared.vote.Vote.{Vote}
use Rattle.raft_values.specs.declared.log_id.LogId.{LogId}
use Rattle.raft_values.specs.LogId.{next_place, place_of}
use Rattle.raft_values.specs.Vote.{vote_of}
use Rattle.raft_quorums.specs.Quorum.{is_quorum}
use Rattle.raft_state.specs.declared.entry.EntryPayload.TheVariants.{Blank, Membership as Members}
use Rattle.raft_group_step.specs.Values.{after_change, ChangeMembers, Entry, EntryPayload, has_id, is_written_by, LoggedMembership, vote_eq, vote_lt}
use Rattle.raft_group_step.specs.StoredGroup.{StoringCommand, MakeGroup, SetVote, PutEntries, CutFrom, RemoveUpTo, SetSnapshot, StartAfter, Snapshot, after_storing, prefix_of, snapshot_last, end_place, entry_at, first_place, has_id_in_log, id_of, held}
use Rattle.raft_group_step.specs.Message.{Message, MessageBody, VoteRequest, VoteReply, AppendRequest, AppendReply, SnapshotRequest, SnapshotReply, AppendFields, ReplyFields, ReplyResult, Success, PartialSuccess, Conflict, HigherVote, last_sent}
use Rattle.raft_group_step.specs.Peer.{PeerState, is_answer_to, is_kept_for_peers, new_peer, with_peer}
use Rattle.raft_group_step.specs.GroupState.{Lead, Role, Follower, Candidate, Leader}
use Rattle.raft_group_step.specs.StepResult.{StepResult, append, apply_up_to, in_role, is_within, later_place, renew, send, step_down, store, store_vote, take_over}
use Rattle.raft_group_step.specs.Lead.{append_blank, committed_vote, configs_in_force, lead_if, new_lead, other_ids, peer_of, purge_as_wished, purge_up_to, remove_up_to, with_grant, with_wish}
use Rattle.raft_group_step.specs.Frames.{committed_id, has_grown, lacks_entries, notice, send_entries, send_request, send_snapshot, serve_all, serve_as, with_frames, with_peer_state}
use Rattle.raft_group_step.specs.Elect.{ask, elect_step, other_voters, stand}
use Rattle.raft_group_step.specs.Propose.{append_with_token}
use Rattle.raft_group_step.specs.MembershipStep.{append_changed}
use Rattle.raft_group_step.specs.VoteRequest.{judged}
use Rattle.raft_group_step.specs.VoteReply.{counted, take_over_greater}
use Rattle.raft_group_step.specs.AppendRequest.{above_committed, cut_at, cut_from, heard, joined, lesser_place, missing_entries, put_entries}
use Rattle.raft_group_step.specs.SnapshotRequest.{cut_other, install, install_unless, offered, place_above}
use Rattle.raft_group_step.specs.Reply.{accepted_up_to, after_answer, answered, ended, is_part_of, reply_step, with_higher_vote}
use Rattle.raft_group_step.specs.Heartbeat.{beat_as, send_notices}
use Rattle.raft_group_step.specs.Lost.{lost_as}
use Rattle.raft_group_step.specs.PurgeTrigger.{purge_as, purge_within}
use Rattle.raft_group_step.specs.SnapshotTrigger.{snapshot_at, snapshot_of_applied, store_snapshot_at}
use Rattle.raft_group_step.specs.Opening.{drop_stale_log, is_joined_to, resume_lead}
use Rattle.raft_group_step.proofs.Words.{either, either_by}
use Rattle.raft_laws.specs.Settled.{accepted_last}
use Rattle.raft_laws.proofs.BallotSafe.{Among}
use Rattle.raft_laws.proofs.VoteRanks.{vote_eq_same}
use Rattle.raft_laws.proofs.Tracking.{among_last}
use Rattle.raft_laws.proofs.TrackReplies.{peer_of_is, peer_or_is, with_peer_is}

-- how far a message says that is committed
abbrev pub ClaimWithin : ℕ → MessageBody → Type 0
ClaimWithin limit (VoteRequest vote last) = Unit {0}
ClaimWithin limit (VoteReply vote granted last) = Unit {0}
ClaimWithin limit (AppendRequest a) = next_place a.committed ≤ limit
ClaimWithin limit (AppendReply r) = Unit {0}
ClaimWithin limit (SnapshotRequest vote id x) = length x.«prefix» ≤ limit
ClaimWithin limit (SnapshotReply r) = Unit {0}

-- how far a snapshot goes that is stored
abbrev pub CommandWithin : ℕ → StoringCommand → Type 0
CommandWithin limit MakeGroup = Unit {0}
CommandWithin limit (SetVote vote) = Unit {0}
CommandWithin limit (PutEntries place entries) = Unit {0}
CommandWithin limit (CutFrom place) = Unit {0}
CommandWithin limit (RemoveUpTo id) = Unit {0}
CommandWithin limit (SetSnapshot x) = length x.«prefix» ≤ limit
CommandWithin limit (StartAfter id) = Unit {0}

-- what a leader knows to be accepted was replied, under its vote
abbrev pub Known : (Vote ℕ → ℕ → LogId ℕ → Type 0) → Vote ℕ → Role → Type 0
Known Replied vote Follower = Unit {0}
Known Replied vote (Candidate granters) = Unit {0}
Known Replied vote (Leader lead) = (p : PeerState) → Among p lead.peers → (id : LogId ℕ) → p.matched ≡ Some id → Replied vote p.peer id

module _ (limit : ℕ) (Replied : Vote ℕ → ℕ → LogId ℕ → Type 0) where
  abbrev pub Claims : StepResult → Type 0
  Claims r =
      (place_above r.state.committed ≤ limit)
      × (length (prefix_of r.state.stored.snapshot) ≤ limit)
      × ((x : Message) → Among x r.messages → ClaimWithin limit x.body)
      × ((c : StoringCommand) → Among c r.commands → CommandWithin limit c)
      × Known Replied r.state.stored.vote r.state.role

  more_commands : (cs : List StoringCommand) (c : StoringCommand) → CommandWithin limit c → ((d : StoringCommand) → Among d cs → CommandWithin limit d) → (d : StoringCommand) → Among d (cs ++ c ∷ []) → CommandWithin limit d
  more_commands cs c l h d a = ⊎_elim (λ b. h d b) (λ e. subst (CommandWithin limit) (sym e) l) (among_last d c cs a)

  more_messages : (xs : List Message) (x : Message) → ClaimWithin limit x.body → ((y : Message) → Among y xs → ClaimWithin limit y.body) → (y : Message) → Among y (xs ++ x ∷ []) → ClaimWithin limit y.body
  more_messages xs x l h y a = ⊎_elim (λ b. h y b) (λ e. subst (λ z. ClaimWithin limit z.body) (sym e) l) (among_last y x xs a)

  pub sent_claims : (own peer : ℕ) (b : MessageBody) (r : StepResult) → ClaimWithin limit b → Claims r → Claims (send own peer b r)
  sent_claims own peer b r l h =
      (h.0, h.1, more_messages r.messages (record { sender = own; addressee = peer; body = b }) l h.2, h.3, h.4)

  pub stored_claims : (c : StoringCommand) (r : StepResult) → CommandWithin limit c → length (prefix_of (after_storing c r.state.stored).snapshot) ≤ limit → Known Replied (after_storing c r.state.stored).vote r.state.role → Claims r → Claims (store c r)
  stored_claims c r l n k h = (h.0, n, h.2, more_commands r.commands c l h.3, k)

  -- ---- votes

  voted_claims : (v : Vote ℕ) (r : StepResult) → Claims r → Claims (store_vote v (step_down r))
  voted_claims v r h = (h.0, h.1, h.2, more_commands r.commands (SetVote v) tt h.3, tt)

  taken_claims : (v : Vote ℕ) (r : StepResult) → Claims r → Claims (take_over v r)
  taken_claims v r h =
      either Claims (vote_lt r.state.stored.vote v) (store_vote v (step_down r)) (renew r) (voted_claims v r h) h

  greater_claims : (v : Vote ℕ) (r : StepResult) → Claims r → Claims (take_over_greater v r)
  greater_claims v r h =
      either Claims (vote_lt r.state.stored.vote v) (store_vote v (step_down r)) r (voted_claims v r h) h

  pub append_claims : (p : EntryPayload) (r : StepResult) → Claims r → Claims (append p r)
  append_claims p r h = (h.0, h.1, h.2, more_commands r.commands _ tt h.3, h.4)

  blank_claims : (r : StepResult) → Claims r → Claims (append_blank r)
  blank_claims r h =
      either Claims (list_any (is_written_by r.state.stored.vote.leader_id) r.state.stored.log) r (append Blank r) h (append_claims Blank r h)

  led_claims : (b : Bool) (r : StepResult) → Claims r → Claims (lead_if b r)
  led_claims true r h =
      blank_claims (in_role (Leader (new_lead r.state.stored)) (store_vote (committed_vote r.state.stored.vote) r))
      (h.0, h.1, h.2, more_commands r.commands (SetVote (committed_vote r.state.stored.vote)) tt h.3, λ p a. absurd a)
  led_claims false r h = h

  grant_claims : (n : ℕ) (role : Role) (r : StepResult) → Claims r → Claims (with_grant n role r)
  grant_claims n Follower r h = h
  grant_claims n (Candidate granters) r h =
      let granted = cond (has_id granters n) granters (granters ++ n ∷ []) in
      led_claims (is_quorum (configs_in_force r.state.stored) (has_id granted)) (in_role (Candidate granted) r) (h.0, h.1, h.2, h.3, tt)
  grant_claims n (Leader lead) r h = h

  ask_claims : (own : ℕ) (ns : List ℕ) (r : StepResult) → Claims r → Claims (ask own ns r)
  ask_claims own [] r h = h
  ask_claims own (n ∷ ns) r h = ask_claims own ns _ (sent_claims own n _ r tt h)

  pub elect_claims : (own : ℕ) (r : StepResult) → Claims r → Claims (elect_step own r)
  elect_claims own r h =
      let stood = stand own r in
      let vote = vote_of (r.state.stored.vote.leader_id.term + 1) own false in
      grant_claims own stood.state.role stood
      (ask_claims own (other_voters own r.state.stored) (in_role (Candidate []) (store_vote vote (step_down r))) (voted_claims vote r h))

  pub judged_claims : (own peer : ℕ) (v : Vote ℕ) (b : Bool) (r : StepResult) → Claims r → Claims (judged own peer v b r)
  judged_claims own peer v true r h = sent_claims own peer _ (take_over v r) tt (taken_claims v r h)
  judged_claims own peer v false r h = sent_claims own peer _ r tt h

  pub counted_claims : (peer : ℕ) (b : Bool) (v : Vote ℕ) (r : StepResult) → Claims r → Claims (counted peer b v r)
  counted_claims peer true v r h = grant_claims peer r.state.role r h
  counted_claims peer false v r h = greater_claims v r h

  -- ---- entries

  pub applied_claims : (place : Option ℕ) (r : StepResult) → place_above place ≤ limit → Claims r → Claims (apply_up_to place r)
  applied_claims place r l h = (later r.state.committed place h.0 l, h.1, h.2, h.3, h.4)
    where
      later : (a b : Option ℕ) → place_above a ≤ limit → place_above b ≤ limit → place_above (later_place a b) ≤ limit
      later None b p q = q
      later (Some a) None p q = p
      later (Some a) (Some b) p q = omega arith

  cut_claims : (i : ℕ) (r : StepResult) → Claims r → Claims (cut_from i r)
  cut_claims i r h =
      either Claims (is_some (entry_at r.state.stored i)) (store (CutFrom i) r) r (h.0, h.1, h.2, more_commands r.commands (CutFrom i) tt h.3, h.4) h

  put_claims : (es : List Entry) (r : StepResult) → Claims r → Claims (put_entries es r)
  put_claims [] r h = h
  put_claims (e ∷ es) r h =
      let cut = cut_from e.log_id.index r in
      let k : Claims cut = cut_claims e.log_id.index r h in
      (k.0, k.1, k.2, more_commands cut.commands (PutEntries e.log_id.index (e ∷ es)) tt k.3, k.4)

  cut_at_claims : (id : Option (LogId ℕ)) (r : StepResult) → Claims r → Claims (cut_at id r)
  cut_at_claims None r h = h
  cut_at_claims (Some id) r h = cut_claims id.index r h

  joined_claims : (own peer : ℕ) (a : AppendFields) (b : Bool) (r : StepResult) → next_place a.committed ≤ limit → Claims r → Claims (joined own peer a b r)
  joined_claims own peer a true r l h =
      let fresh = missing_entries r.state.stored (above_committed r.state.committed a.entries) in
      let last = place_of (last_sent a.previous a.entries) in
      let upto = lesser_place (place_of a.committed) last in
      let put = put_entries fresh r in
      sent_claims own peer _ (apply_up_to upto put) tt (applied_claims upto put (lesser a.committed last l) (put_claims fresh r h))
    where
      lesser : (o : Option (LogId ℕ)) (b : Option ℕ) → next_place o ≤ limit → place_above (lesser_place (place_of o) b) ≤ limit
      lesser None b l = omega arith
      lesser (Some id) None l = omega arith
      lesser (Some id) (Some b) l = omega arith
  joined_claims own peer a false r l h = sent_claims own peer _ (cut_at a.previous r) tt (cut_at_claims a.previous r h)

  pub heard_claims : (own peer : ℕ) (a : AppendFields) (b : Bool) (r : StepResult) → next_place a.committed ≤ limit → Claims r → Claims (heard own peer a b r)
  heard_claims own peer a true r l h = sent_claims own peer _ r tt h
  heard_claims own peer a false r l h = joined_claims own peer a _ (take_over a.vote r) l (taken_claims a.vote r h)

  -- ---- snapshots

  cut_other_claims : (last : LogId ℕ) (r : StepResult) → Claims r → Claims (cut_other last r)
  cut_other_claims last r h =
      let cut = cut_from (place_above r.state.committed) r in
      either Claims (has_id_in_log r.state.stored last) r (cond (is_some (entry_at r.state.stored last.index)) cut r) h
      (either Claims (is_some (entry_at r.state.stored last.index)) cut r (cut_claims _ r h) h)

  install_claims : (x : Snapshot) (r : StepResult) → length x.«prefix» ≤ limit → x.last.index + 1 ≤ limit → Claims r → Claims (install x r)
  install_claims x r l m h =
      let cut = cut_other x.last r in
      let k : Claims cut = cut_other_claims x.last r h in
      let stored = store (SetSnapshot x) cut in
      let one : Claims stored = (k.0, l, k.2, more_commands cut.commands (SetSnapshot x) l k.3, k.4) in
      let removed = store (RemoveUpTo x.last) stored in
      applied_claims (Some x.last.index) removed m (one.0, one.1, one.2, more_commands stored.commands (RemoveUpTo x.last) tt one.3, one.4)

  unless_claims : (b : Bool) (x : Snapshot) (r : StepResult) → length x.«prefix» ≤ limit → x.last.index + 1 ≤ limit → Claims r → Claims (install_unless b x r)
  unless_claims true x r l m h = h
  unless_claims false x r l m h = install_claims x r l m h

  pub offered_claims : (own peer : ℕ) (v : Vote ℕ) (id : ℕ) (x : Snapshot) (b : Bool) (r : StepResult) → length x.«prefix» ≤ limit → x.last.index + 1 ≤ limit → Claims r → Claims (offered own peer v id x b r)
  offered_claims own peer v id x true r l m h = sent_claims own peer _ r tt h
  offered_claims own peer v id x false r l m h =
      let taken = take_over v r in
      let covered = is_within x.last.index taken.state.committed in
      sent_claims own peer _ (install_unless covered x taken) tt (unless_claims covered x taken l m (taken_claims v r h))

  pub shot_claims : (o : Option ℕ) (r : StepResult) → ((applied : ℕ) (id : LogId ℕ) → o ≡ Some applied → id_of (entry_at r.state.stored applied) ≡ Some id → id.index + 1 ≤ limit) → Claims r → Claims (snapshot_of_applied o r)
  shot_claims None r l h = h
  shot_claims (Some applied) r l h =
      either Claims (nat_lt applied (next_place (snapshot_last r.state.stored))) r (store_snapshot_at (id_of (entry_at r.state.stored applied)) r) h
      (go (id_of (entry_at r.state.stored applied)) refl)
    where
      size : (k : ℕ) (xs : List Entry) → length (take k xs) ≤ k
      size k xs = omega (arith, length-take k xs)

      go : (id : Option (LogId ℕ)) → id_of (entry_at r.state.stored applied) ≡ id → Claims (store_snapshot_at id r)
      go None e = h
      go (Some id) e =
          let m = l applied id refl e in
          let s = size (id.index + 1) (held r.state.stored) in
          let n : length (snapshot_at r.state.stored id).«prefix» ≤ limit = omega arith in
          (h.0, n, h.2, more_commands r.commands (SetSnapshot (snapshot_at r.state.stored id)) n h.3, h.4)

  -- ---- peers

  with_known : (vote : Vote ℕ) (lead : Lead) (p : PeerState) → Known Replied vote (Leader lead) → ((id : LogId ℕ) → p.matched ≡ Some id → Replied vote p.peer id) → Known Replied vote (Leader (record lead { peers = with_peer p lead.peers }))
  with_known vote lead p h k = λ q a id e.
      ⊎_elim
      (λ same. subst (λ x. x.matched ≡ Some id → Replied vote x.peer id) (sym same) (k id) e)
      (λ old. h q old id e)
      (with_peer_is p lead.peers q a)

  pub known_peer : (vote : Vote ℕ) (lead : Lead) (n : ℕ) → Known Replied vote (Leader lead) → (id : LogId ℕ) → (peer_of lead n).matched ≡ Some id → Replied vote (peer_of lead n).peer id
  known_peer vote lead n h id e =
      ⊎_elim
      (λ new. absurd (let no : None ≡ Some id = sym (ap (λ (p : PeerState). p.matched) new) ∙ e in cc))
      (λ a. h (peer_of lead n) a.1 id e)
      (peer_or_is (new_peer lead.began n) lead.peers)

  -- the peer as it is after something, of which no more is known
  peer_claims : (p : PeerState) (lead : Lead) (r : StepResult) → r.state.role ≡ Leader lead → ((id : LogId ℕ) → p.matched ≡ Some id → Replied r.state.stored.vote p.peer id) → Claims r → Claims (with_peer_state p lead r)
  peer_claims p lead r is k h =
      (h.0, h.1, h.2, h.3, with_known r.state.stored.vote lead p (subst (Known Replied r.state.stored.vote) is h.4) k)

  pub lost_claims : (peer : ℕ) (role : Role) (r : StepResult) → r.state.role ≡ role → Claims r → Claims (lost_as peer role r)
  lost_claims peer Follower r is h = h
  lost_claims peer (Candidate granters) r is h = h
  lost_claims peer (Leader lead) r is h =
      let p = peer_of lead peer in
      either Claims (is_some p.outstanding) (with_peer_state (ended p) lead r) r
      (peer_claims (ended p) lead r is (λ id e. known_peer r.state.stored.vote lead peer (subst (Known Replied r.state.stored.vote) is h.4) id e) h)
      h

  -- a reply, which was sent
  higher_claims : (o : ReplyResult) (r : StepResult) → Claims r → Claims (with_higher_vote o r)
  higher_claims Success r h = h
  higher_claims (PartialSuccess last) r h = h
  higher_claims Conflict r h = h
  higher_claims (HigherVote v) r h = greater_claims v r h

  abbrev pub ReplyKnown : ℕ → ReplyFields → Type 0
  ReplyKnown peer reply =
      (id : LogId ℕ) → accepted_last reply.outcome reply.last ≡ Some id → Replied reply.vote peer id

  answer_known : (peer : ℕ) (reply : ReplyFields) (vote : Vote ℕ) (lead : Lead) → reply.vote ≡ vote → Known Replied vote (Leader lead) → (o : ReplyResult) → ((id : LogId ℕ) → accepted_last o reply.last ≡ Some id → Replied reply.vote peer id) → (id : LogId ℕ) → (after_answer (peer_of lead peer) reply o).matched ≡ Some id → Replied vote (after_answer (peer_of lead peer) reply o).peer id
  answer_known peer reply vote lead same h Success k id e =
      subst (λ n. Replied vote n id) (sym (peer_of_is lead peer)) (subst (λ (v : Vote ℕ). Replied v peer id) same (k id e))
  answer_known peer reply vote lead same h (PartialSuccess last) k id e =
      cond_both (is_part_of (peer_of lead peer) reply last) (accepted_up_to last (peer_of lead peer)) (ended (peer_of lead peer))
      (λ q. q.matched ≡ Some id → Replied vote q.peer id)
      (λ t e. subst (λ n. Replied vote n id) (sym (peer_of_is lead peer)) (subst (λ (v : Vote ℕ). Replied v peer id) same (k id e)))
      (λ t e. known_peer vote lead peer h id e)
      e
  answer_known peer reply vote lead same h Conflict k id e = known_peer vote lead peer h id e
  answer_known peer reply vote lead same h (HigherVote v) k id e = known_peer vote lead peer h id e

  answered_claims : (peer : ℕ) (reply : ReplyFields) → ReplyKnown peer reply → (role : Role) (r : StepResult) → r.state.role ≡ role → Claims r → Claims (answered peer reply role r)
  answered_claims peer reply k Follower r is h = h
  answered_claims peer reply k (Candidate granters) r is h = h
  answered_claims peer reply k (Leader lead) r is h =
      let p = peer_of lead peer in
      either_by Claims (vote_eq reply.vote r.state.stored.vote && is_answer_to reply p.outstanding) (with_peer_state (after_answer p reply reply.outcome) lead r) r
      (λ t.
      let parts = and_parts (vote_eq reply.vote r.state.stored.vote) (is_answer_to reply p.outstanding) t in
      let same = vote_eq_same reply.vote r.state.stored.vote parts.0 in
      peer_claims (after_answer p reply reply.outcome) lead r is
      (answer_known peer reply r.state.stored.vote lead same (subst (Known Replied r.state.stored.vote) is h.4) reply.outcome k)
      h)
      (λ t. h)

  pub reply_claims : (peer : ℕ) (reply : ReplyFields) (r : StepResult) → ReplyKnown peer reply → Claims r → Claims (reply_step peer reply r)
  reply_claims peer reply r k h =
      let judged = with_higher_vote reply.outcome r in
      answered_claims peer reply k judged.state.role judged refl (higher_claims reply.outcome r h)

  -- ---- calls

  pub token_claims : (p : EntryPayload) (token : ℕ) (r : StepResult) → Claims r → Claims (append_with_token p token r)
  token_claims p token r h =
      let place = end_place r.state.stored in
      append_claims p (record r { state = record r.state { untold = r.state.untold ++ record { token = token; place = place } ∷ [] } }) h

  pub changed_claims : (o : Option LoggedMembership) (change : ChangeMembers) (token : ℕ) (r : StepResult) → Claims r → Claims (append_changed o change token r)
  changed_claims None change token r h = h
  changed_claims (Some x) change token r h = token_claims (Members (after_change x.membership change)) token r h

  notices_claims : (own : ℕ) (lead : Lead) (ns : List ℕ) (r : StepResult) → next_place (committed_id r.state) ≤ limit → Claims r → Claims (send_notices own lead ns r)
  notices_claims own lead [] r l h = h
  notices_claims own lead (n ∷ ns) r l h = notices_claims own lead ns _ l (sent_claims own n (notice r.state (peer_of lead n)) r l h)

  pub beat_claims : (own : ℕ) (role : Role) (r : StepResult) → next_place (committed_id r.state) ≤ limit → Claims r → Claims (beat_as own role r)
  beat_claims own Follower r l h = h
  beat_claims own (Candidate granters) r l h = h
  beat_claims own (Leader lead) r l h = notices_claims own lead (other_ids own r.state.stored) r l h

  remove_claims : (o : Option (LogId ℕ)) (r : StepResult) → Claims r → Claims (remove_up_to o r)
  remove_claims None r h = h
  remove_claims (Some id) r h = (h.0, h.1, h.2, more_commands r.commands (RemoveUpTo id) tt h.3, h.4)

  purge_as_claims : (place : ℕ) (role : Role) (r : StepResult) → Claims r → Claims (purge_as place role r)
  purge_as_claims place Follower r h = remove_claims (id_of (entry_at r.state.stored place)) r h
  purge_as_claims place (Candidate granters) r h = remove_claims (id_of (entry_at r.state.stored place)) r h
  purge_as_claims place (Leader lead) r h =
      either Claims (nat_lt place (first_place r.state.stored)) r (with_wish (later_place r.state.wish (Some place)) r) h h

  pub purge_within_claims : (place : ℕ) (o : Option (LogId ℕ)) (r : StepResult) → Claims r → Claims (purge_within place o r)
  purge_within_claims place None r h = h
  purge_within_claims place (Some last) r h = purge_as_claims (min place last.index) r.state.role r h

  -- ---- the opening

  pub stale_claims : (o : Option (LogId ℕ)) (r : StepResult) → Claims r → Claims (drop_stale_log o r)
  stale_claims None r h = h
  stale_claims (Some last) r h =
      either Claims (is_joined_to r.state.stored last) r (store (StartAfter last) r) h
      (h.0, h.1, h.2, more_commands r.commands (StartAfter last) tt h.3, h.4)

  pub resumed_claims : (own : ℕ) (r : StepResult) → Claims r → Claims (resume_lead own r)
  resumed_claims own r h =
      either Claims (r.state.stored.vote.committed && (r.state.stored.vote.leader_id.node_id == own)) (in_role (Leader (new_lead r.state.stored)) r) r
      (h.0, h.1, h.2, h.3, λ p a. absurd a)
      h

  -- ---- the end of an event

  wished_claims : (role : Role) (wish : Option ℕ) (r : StepResult) → Claims r → Claims (purge_as_wished role wish r)
  wished_claims Follower wish r h = h
  wished_claims (Candidate granters) wish r h = h
  wished_claims (Leader lead) None r h = h
  wished_claims (Leader lead) (Some place) r h =
      let none = with_wish None r in
      either Claims (is_kept_for_peers place lead.peers) r (purge_up_to place none) h
      (remove_claims (id_of (entry_at r.state.stored place)) none h)

  -- what is sent says no more than what is committed
  abbrev Says : StepResult → Type 0
  Says r = (next_place (committed_id r.state) ≤ limit) × Claims r

  entries_claims : (own : ℕ) (n : ℕ) (lead : Lead) (r : StepResult) → r.state.role ≡ Leader lead → Says r → Says (send_entries own (peer_of lead n) lead r)
  entries_claims own n lead r is h =
      let p = peer_of lead n in
      let k = subst (Known Replied r.state.stored.vote) is (h.1).4 in
      let one = h.1 in (
        h.0,
        (one.0, one.1, more_messages r.messages _ h.0 one.2, one.3, with_known r.state.stored.vote lead _ k (λ id e. known_peer r.state.stored.vote lead n k id e)),
      )

  snapshot_claims : (own : ℕ) (n : ℕ) (lead : Lead) (x : Snapshot) (r : StepResult) → r.state.role ≡ Leader lead → length x.«prefix» ≤ limit → Says r → Says (send_snapshot own (peer_of lead n) lead x r)
  snapshot_claims own n lead x r is l h =
      let p = peer_of lead n in
      let k = subst (Known Replied r.state.stored.vote) is (h.1).4 in
      let one = h.1 in (
        h.0,
        (one.0, one.1, more_messages r.messages _ l one.2, one.3, with_known r.state.stored.vote lead _ k (λ id e. known_peer r.state.stored.vote lead n k id e)),
      )

  request_claims : (own : ℕ) (n : ℕ) (lead : Lead) (o : Option Snapshot) (r : StepResult) → r.state.role ≡ Leader lead → r.state.stored.snapshot ≡ o → Says r → Says (send_request own (peer_of lead n) lead o r)
  request_claims own n lead None r is same h = entries_claims own n lead r is h
  request_claims own n lead (Some x) r is same h =
      either Says (nat_lt (peer_of lead n).search (first_place r.state.stored)) (send_snapshot own (peer_of lead n) lead x r) (send_entries own (peer_of lead n) lead r)
      (snapshot_claims own n lead x r is (subst (λ o. length (prefix_of o) ≤ limit) same (h.1).1) h)
      (entries_claims own n lead r is h)

  serve_as_claims : (own : ℕ) (news : Bool) (n : ℕ) (role : Role) (r : StepResult) → r.state.role ≡ role → Says r → Says (serve_as own news n role r)
  serve_as_claims own news n Follower r is h = h
  serve_as_claims own news n (Candidate granters) r is h = h
  serve_as_claims own news n (Leader lead) r is h =
      let p = peer_of lead n in
      let told = send own p.peer (notice r.state p) r in
      let said : Says told = (h.0, sent_claims own p.peer (notice r.state p) r h.0 h.1) in
      either Says (is_none p.outstanding && lacks_entries r.state.stored p) (send_request own p lead r.state.stored.snapshot r) (cond news told r)
      (request_claims own n lead r.state.stored.snapshot r is refl h)
      (either Says news told r said h)

  serve_claims : (own : ℕ) (news : Bool) (ns : List ℕ) (r : StepResult) → Says r → Says (serve_all own news ns r)
  serve_claims own news [] r h = h
  serve_claims own news (n ∷ ns) r h =
      serve_claims own news ns (serve_as own news n r.state.role r) (serve_as_claims own news n r.state.role r refl h)

  pub frames_claims : (own : ℕ) (before : Option ℕ) (r : StepResult) → next_place (committed_id r.state) ≤ limit → Claims r → Claims (with_frames own before r)
  frames_claims own before r l h =
      (serve_claims own (has_grown before r.state.committed) (other_ids own r.state.stored) r (l, h)).1

  pub purged_claims : (r : StepResult) → Claims r → Claims (purge_as_wished r.state.role r.state.wish r)
  purged_claims r h = wished_claims r.state.role r.state.wish r h

-- ---- a greater limit

pub claim_more : (n k : ℕ) → n ≤ k → (b : MessageBody) → ClaimWithin n b → ClaimWithin k b
claim_more n k le (VoteRequest vote last) h = tt
claim_more n k le (VoteReply vote granted last) h = tt
claim_more n k le (AppendRequest a) h = omega arith
claim_more n k le (AppendReply r) h = tt
claim_more n k le (SnapshotRequest vote id x) h = omega arith
claim_more n k le (SnapshotReply r) h = tt

command_more : (n k : ℕ) → n ≤ k → (c : StoringCommand) → CommandWithin n c → CommandWithin k c
command_more n k le MakeGroup h = tt
command_more n k le (SetVote vote) h = tt
command_more n k le (PutEntries place entries) h = tt
command_more n k le (CutFrom place) h = tt
command_more n k le (RemoveUpTo id) h = tt
command_more n k le (SetSnapshot x) h = omega arith
command_more n k le (StartAfter id) h = tt

pub more_claims : (n : ℕ) (Replied : Vote ℕ → ℕ → LogId ℕ → Type 0) (r : StepResult) (k : ℕ) → n ≤ k → Claims n Replied r → Claims k Replied r
more_claims n Replied r k le h =
    (omega (arith, h.0), omega (arith, h.1), λ x a. claim_more n k le x.body (h.2 x a), λ c a. command_more n k le c (h.3 c a), h.4)
