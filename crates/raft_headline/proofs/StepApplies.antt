-- What a step applies, and the snapshots that it stores: what was committed stays so, and what is committed is applied.
use Rattle.std.specs.Prelude.{◌≡◌, ◌⊎◌, ℕ, ◌+◌, ◌≤◌, Bool, true, false, List, [], ◌∷◌, ◌++◌, if◌then◌else◌, Option, Some, None, refl}
use Rattle.std.proofs.Common.{inl, inr, sym, ap, ◌∙◌, subst, arith, ⊎_elim}
use Rattle.raft_values.specs.declared.vote.Vote.{Vote}
use Rattle.raft_values.specs.Vote.{vote_of}
use Rattle.raft_values.specs.declared.log_id.LogId.{LogId}
use Rattle.raft_values.specs.LogId.{log_id_of, place_of}
use Rattle.raft_state.specs.declared.entry.EntryPayload.TheVariants.{Membership as Members}
use Rattle.raft_group_step.specs.Values.{ChangeMembers, Entry, LoggedMembership, entry_of, has_id}
use Rattle.raft_group_step.specs.StoredGroup.{StoredGroup, Snapshot, StoringCommand, CutFrom, PutEntries, SetVote, StartAfter, entry_at, id_of, snapshot_last}
use Rattle.raft_group_step.specs.Message.{MessageBody, VoteRequest, VoteReply, AppendRequest, AppendReply, SnapshotRequest, SnapshotReply, AppendFields, ReplyFields, ReplyResult, Success, PartialSuccess, Conflict, HigherVote}
use Rattle.raft_group_step.specs.Peer.{PeerState}
use Rattle.raft_group_step.specs.GroupState.{GroupState, Lead, Role, Follower, Candidate, Leader, state_of}
use Rattle.raft_group_step.specs.declared.group_call.GroupCall.TheVariants.{Initialize, Elect, Propose, ChangeMembership, Heartbeat, Lost, TriggerSnapshot, TriggerPurge}
use Rattle.raft_group_step.specs.GroupEvent.{GroupCall}
use Rattle.raft_group_step.specs.StepResult.{StepResult, apply_up_to, in_role, later_place, step_down, store, store_vote, take_over, unchanged}
use Rattle.raft_group_step.specs.Elect.{ask, elect_step, other_voters, stand}
use Rattle.raft_group_step.specs.VoteRequest.{judged, may_grant}
use Rattle.raft_group_step.specs.VoteReply.{counted, take_over_greater}
use Rattle.raft_group_step.specs.AppendRequest.{above_committed, cut_at, cut_from, heard, joined, missing_entries, put_entries}
use Rattle.raft_group_step.specs.SnapshotRequest.{cut_other, install_unless, offered, place_above}
use Rattle.raft_group_step.specs.Reply.{answered, reply_step, with_higher_vote}
use Rattle.raft_group_step.specs.MembershipStep.{append_changed}
use Rattle.raft_group_step.specs.Heartbeat.{beat_as, send_notices}
use Rattle.raft_group_step.specs.Lost.{lost_as}
use Rattle.raft_group_step.specs.Lead.{begin_lead, commit_as_leader, committed_vote, lead_if, new_lead, other_ids, purge_as_wished, remove_up_to, with_grant, with_wish}
use Rattle.raft_group_step.specs.Frames.{has_grown, send_request, serve, serve_all, serve_as}
use Rattle.raft_group_step.specs.SnapshotTrigger.{snapshot_at, snapshot_of_applied, store_snapshot_at}
use Rattle.raft_group_step.specs.PurgeTrigger.{purge_as, purge_within}
use Rattle.raft_group_step.specs.Opening.{drop_stale_log, opening_step}
use Rattle.raft_group_step.specs.GroupStep.{call_step, finished, message_step}
use Rattle.raft_group_step.proofs.Words.{either}
use Rattle.raft_laws.proofs.BallotSafe.{Among}
use Rattle.raft_headline.specs.Machines.{snapshot_in, snapshots_of, with_snapshot}

-- ---- places

pub above_later : (a b : Option ℕ) → place_above a ≤ place_above (later_place a b)
above_later None b = omega arith
above_later (Some a) None = omega arith
above_later (Some a) (Some b) = omega arith

-- ---- the snapshots of a command more

first_or : (o : Option Snapshot) (xs ys : List Snapshot) (x : Snapshot) → (Among x xs → Among x ys ⊎ (o ≡ Some x)) → Among x (with_snapshot o xs) → Among x (with_snapshot o ys) ⊎ (o ≡ Some x)
first_or None xs ys x f a = f a
first_or (Some y) xs ys x f a = ⊎_elim (λ e. inl (inl e)) (λ b. ⊎_elim (λ c. inl (inr c)) (λ e. inr e) (f b)) a

last_snapshot : (o : Option Snapshot) (x : Snapshot) → Among x (with_snapshot o []) → o ≡ Some x
last_snapshot None x a = absurd a
last_snapshot (Some y) x a = ⊎_elim (λ e. ap Some (sym e)) (λ none. absurd none) a

more_snapshots : (cs : List StoringCommand) (c : StoringCommand) (x : Snapshot) → Among x (snapshots_of (cs ++ c ∷ [])) → Among x (snapshots_of cs) ⊎ (snapshot_in c ≡ Some x)
more_snapshots [] c x a = inr (last_snapshot (snapshot_in c) x a)
more_snapshots (d ∷ cs) c x a = go (snapshot_in d) (more_snapshots cs c x) a
  where
    go : (o : Option Snapshot) → (Among x (snapshots_of (cs ++ c ∷ [])) → Among x (snapshots_of cs) ⊎ (snapshot_in c ≡ Some x))
        → Among x (with_snapshot o (snapshots_of (cs ++ c ∷ []))) → Among x (with_snapshot o (snapshots_of cs)) ⊎ (snapshot_in c ≡ Some x)
    go None f b = f b
    go (Some y) f b = ⊎_elim (λ e. inl (inl e)) (λ rest. ⊎_elim (λ t. inl (inr t)) (λ e. inr e) (f rest)) b

-- ---- the words of steps

module _ (c : ℕ) (P : Snapshot → Type 0) where
  -- at least so much is committed, all of that is applied, and each snapshot that is stored is so
  pub record Applies (r : StepResult) : Type 0 where
    pub grows : c ≤ place_above r.state.committed
    pub applied : r.state.applied ≡ r.state.committed
    pub snapshots : (x : Snapshot) → Among x (snapshots_of r.commands) → P x

  pass : (r q : StepResult) → q.state.committed ≡ r.state.committed → q.state.applied ≡ r.state.applied → q.commands ≡ r.commands → Applies r → Applies q
  pass r q e f g h = record {
    grows = subst (λ o. c ≤ place_above o) (sym e) h.grows;
    applied = f ∙ h.applied ∙ sym e;
    snapshots = λ x a. h.snapshots x (subst (λ cs. Among x (snapshots_of cs)) g a);
  }

  stores : (d : StoringCommand) (r : StepResult) → ((x : Snapshot) → snapshot_in d ≡ Some x → P x) → Applies r → Applies (store d r)
  stores d r f h = record {
    grows = h.grows;
    applied = h.applied;
    snapshots = λ x a. ⊎_elim (λ old. h.snapshots x old) (λ e. f x e) (more_snapshots r.commands d x a);
  }

  none : (x : Snapshot) → None ≡ Some x → P x
  none x e = absurd (let f : None ≡ Some x = e in cc)

  apply-applies : (place : Option ℕ) (r : StepResult) → Applies r → Applies (apply_up_to place r)
  apply-applies place r h = record {
    grows = let l = above_later r.state.committed place in omega (arith, h.grows);
    applied = refl;
    snapshots = h.snapshots;
  }

  vote-applies : (v : Vote ℕ) (r : StepResult) → Applies r → Applies (store_vote v r)
  vote-applies v r h = pass (store (SetVote v) r) (store_vote v r) refl refl refl (stores (SetVote v) r none h)

  down-applies : (r : StepResult) → Applies r → Applies (step_down r)
  down-applies r h = pass r _ refl refl refl h

  over-applies : (v : Vote ℕ) (r : StepResult) → Applies r → Applies (take_over v r)
  over-applies v r h =
      either Applies _ _ _ (vote-applies v (step_down r) (down-applies r h)) (pass r _ refl refl refl h)

  greater-applies : (v : Vote ℕ) (r : StepResult) → Applies r → Applies (take_over_greater v r)
  greater-applies v r h = either Applies _ _ _ (vote-applies v (step_down r) (down-applies r h)) h

  cut-applies : (i : ℕ) (r : StepResult) → Applies r → Applies (cut_from i r)
  cut-applies i r h = either Applies _ _ _ (stores (CutFrom i) r none h) h

  cut_at-applies : (id : Option (LogId ℕ)) (r : StepResult) → Applies r → Applies (cut_at id r)
  cut_at-applies None r h = h
  cut_at-applies (Some id) r h = cut-applies id.index r h

  put-applies : (es : List Entry) (r : StepResult) → Applies r → Applies (put_entries es r)
  put-applies [] r h = h
  put-applies (e ∷ es) r h = stores _ (cut_from e.log_id.index r) none (cut-applies e.log_id.index r h)

  cut_other-applies : (last : LogId ℕ) (r : StepResult) → Applies r → Applies (cut_other last r)
  cut_other-applies last r h =
      either Applies _ _ _ h (either Applies _ _ _ (cut-applies (place_above r.state.committed) r h) h)

  install-applies : (b : Bool) (x : Snapshot) (r : StepResult) → P x → Applies r → Applies (install_unless b x r)
  install-applies true x r p h = h
  install-applies false x r p h =
      apply-applies (Some x.last.index) _
      (stores _ _ none
      (stores _ (cut_other x.last r) (λ y e. let same : x ≡ y = (let f : Some x ≡ Some y = e in cc) in subst P same p)
      (cut_other-applies x.last r h)))

  remove-applies : (id : Option (LogId ℕ)) (r : StepResult) → Applies r → Applies (remove_up_to id r)
  remove-applies None r h = h
  remove-applies (Some id) r h = stores _ r none h

  answered-applies : (peer : ℕ) (m : ReplyFields) (role : Role) (r : StepResult) → Applies r → Applies (answered peer m role r)
  answered-applies peer m Follower r h = h
  answered-applies peer m (Candidate g) r h = h
  answered-applies peer m (Leader lead) r h = either Applies _ _ _ (pass r _ refl refl refl h) h

  lost-applies : (peer : ℕ) (role : Role) (r : StepResult) → Applies r → Applies (lost_as peer role r)
  lost-applies peer Follower r h = h
  lost-applies peer (Candidate g) r h = h
  lost-applies peer (Leader lead) r h = either Applies _ _ _ (pass r _ refl refl refl h) h

  changed-applies : (m : Option LoggedMembership) (change : ChangeMembers) (token : ℕ) (r : StepResult) → Applies r → Applies (append_changed m change token r)
  changed-applies None change token r h = h
  changed-applies (Some m) change token r h = stores _ _ none (pass r _ refl refl refl h)

  purge_as-applies : (i : ℕ) (role : Role) (r : StepResult) → Applies r → Applies (purge_as i role r)
  purge_as-applies i Follower r h = remove-applies _ r h
  purge_as-applies i (Candidate g) r h = remove-applies _ r h
  purge_as-applies i (Leader lead) r h = either Applies _ _ _ h (pass r _ refl refl refl h)

  purge_within-applies : (i : ℕ) (last : Option (LogId ℕ)) (r : StepResult) → Applies r → Applies (purge_within i last r)
  purge_within-applies i None r h = h
  purge_within-applies i (Some last) r h = purge_as-applies _ r.state.role r h

  -- ---- elections

  begin-applies : (r : StepResult) → Applies r → Applies (begin_lead r)
  begin-applies r h =
      let led = vote-applies (committed_vote r.state.stored.vote) r h in
      let begun_lead = in_role (Leader (new_lead r.state.stored)) (store_vote (committed_vote r.state.stored.vote) r) in
      let p = pass (store_vote (committed_vote r.state.stored.vote) r) begun_lead refl refl refl led in
      either Applies _ _ _ p (stores _ begun_lead none p)

  lead_if-applies : (b : Bool) (r : StepResult) → Applies r → Applies (lead_if b r)
  lead_if-applies true r h = begin-applies r h
  lead_if-applies false r h = h

  grant-applies : (n : ℕ) (role : Role) (r : StepResult) → Applies r → Applies (with_grant n role r)
  grant-applies n Follower r h = h
  grant-applies n (Candidate g) r h =
      let granters = if has_id g n then g else g ++ n ∷ [] in
      lead_if-applies _ _ (pass r (in_role (Candidate granters) r) refl refl refl h)
  grant-applies n (Leader lead) r h = h

  ask-applies : (own : ℕ) (ns : List ℕ) (r : StepResult) → Applies r → Applies (ask own ns r)
  ask-applies own [] r h = h
  ask-applies own (n ∷ ns) r h = ask-applies own ns _ (pass r _ refl refl refl h)

  elect-applies : (own : ℕ) (r : StepResult) → Applies r → Applies (elect_step own r)
  elect-applies own r h =
      let vote = vote_of (r.state.stored.vote.leader_id.term + 1) own false in
      let stood = vote-applies vote (step_down r) (down-applies r h) in
      grant-applies own (stand own r).state.role (stand own r)
      (ask-applies own (other_voters own r.state.stored) _ (pass (store_vote vote (step_down r)) _ refl refl refl stood))

  -- ---- messages

  judged-applies : (own peer : ℕ) (v : Vote ℕ) (b : Bool) (r : StepResult) → Applies r → Applies (judged own peer v b r)
  judged-applies own peer v true r h = pass (take_over v r) _ refl refl refl (over-applies v r h)
  judged-applies own peer v false r h = pass r _ refl refl refl h

  counted-applies : (peer : ℕ) (b : Bool) (v : Vote ℕ) (r : StepResult) → Applies r → Applies (counted peer b v r)
  counted-applies peer true v r h = grant-applies peer r.state.role r h
  counted-applies peer false v r h = greater-applies v r h

  joined-applies : (own peer : ℕ) (m : AppendFields) (b : Bool) (r : StepResult) → Applies r → Applies (joined own peer m b r)
  joined-applies own peer m true r h =
      let fresh = missing_entries r.state.stored (above_committed r.state.committed m.entries) in
      pass _ _ refl refl refl (apply-applies _ (put_entries fresh r) (put-applies fresh r h))
  joined-applies own peer m false r h = pass (cut_at m.previous r) _ refl refl refl (cut_at-applies m.previous r h)

  heard-applies : (own peer : ℕ) (m : AppendFields) (b : Bool) (r : StepResult) → Applies r → Applies (heard own peer m b r)
  heard-applies own peer m true r h = pass r _ refl refl refl h
  heard-applies own peer m false r h = joined-applies own peer m _ (take_over m.vote r) (over-applies m.vote r h)

  offered-applies : (own peer : ℕ) (v : Vote ℕ) (id : ℕ) (x : Snapshot) (b : Bool) (r : StepResult) → P x → Applies r → Applies (offered own peer v id x b r)
  offered-applies own peer v id x true r p h = pass r _ refl refl refl h
  offered-applies own peer v id x false r p h =
      pass _ _ refl refl refl (install-applies _ x (take_over v r) p (over-applies v r h))

  higher-applies : (o : ReplyResult) (r : StepResult) → Applies r → Applies (with_higher_vote o r)
  higher-applies Success r h = h
  higher-applies (PartialSuccess last) r h = h
  higher-applies Conflict r h = h
  higher-applies (HigherVote v) r h = greater-applies v r h

  reply-applies : (peer : ℕ) (m : ReplyFields) (r : StepResult) → Applies r → Applies (reply_step peer m r)
  reply-applies peer m r h =
      let seen = with_higher_vote m.outcome r in
      answered-applies peer m seen.state.role seen (higher-applies m.outcome r h)

  pub message-applies : (own peer : ℕ) (b : MessageBody) (r : StepResult) → ((x : Snapshot) → P x) → Applies r → Applies (message_step own peer b r)
  message-applies own peer (VoteRequest v last) r p h = judged-applies own peer v (may_grant r.state v last) r h
  message-applies own peer (VoteReply v granted last) r p h = counted-applies peer _ v r h
  message-applies own peer (AppendRequest m) r p h = heard-applies own peer m _ r h
  message-applies own peer (AppendReply m) r p h = reply-applies peer m r h
  message-applies own peer (SnapshotRequest v id x) r p h = offered-applies own peer v id x _ r (p x) h
  message-applies own peer (SnapshotReply m) r p h = reply-applies peer m r h

  -- ---- calls

  notices-applies : (own : ℕ) (lead : Lead) (ns : List ℕ) (r : StepResult) → Applies r → Applies (send_notices own lead ns r)
  notices-applies own lead [] r h = h
  notices-applies own lead (n ∷ ns) r h = notices-applies own lead ns _ (pass r _ refl refl refl h)

  beat-applies : (own : ℕ) (role : Role) (r : StepResult) → Applies r → Applies (beat_as own role r)
  beat-applies own Follower r h = h
  beat-applies own (Candidate g) r h = h
  beat-applies own (Leader lead) r h = notices-applies own lead (other_ids own r.state.stored) r h

  shot-applies : (id : Option (LogId ℕ)) (r : StepResult) → ((i : LogId ℕ) → id ≡ Some i → P (snapshot_at r.state.stored i)) → Applies r → Applies (store_snapshot_at id r)
  shot-applies None r p h = h
  shot-applies (Some i) r p h =
      stores _ r (λ x e. let same : snapshot_at r.state.stored i ≡ x = (let f : Some (snapshot_at r.state.stored i) ≡ Some x = e in cc) in subst P same (p i refl)) h

  -- a snapshot of what is applied is so
  abbrev pub ShotFits : GroupState → Type 0
  ShotFits s =
      (a : ℕ) (id : LogId ℕ) → s.applied ≡ Some a → id_of (entry_at s.stored a) ≡ Some id → P (snapshot_at s.stored id)

  snapshot-applies : (o : Option ℕ) (r : StepResult) → r.state.applied ≡ o → ShotFits r.state → Applies r → Applies (snapshot_of_applied o r)
  snapshot-applies None r is p h = h
  snapshot-applies (Some a) r is p h =
      either Applies _ _ _ h (shot-applies (id_of (entry_at r.state.stored a)) r (λ i e. p a i is e) h)

  pub call-applies : (own : ℕ) (call : GroupCall) (r : StepResult) → ShotFits r.state → Applies r → Applies (call_step own call r)
  call-applies own (Initialize m) r p h =
      let first = PutEntries 0 (entry_of (log_id_of 0 0 0) (Members m) ∷ []) in
      elect-applies own (store first r) (stores first r none h)
  call-applies own Elect r p h = elect-applies own r h
  call-applies own (Propose command token) r p h = stores _ _ none (pass r _ refl refl refl h)
  call-applies own (ChangeMembership change token) r p h = changed-applies _ change token r h
  call-applies own Heartbeat r p h = beat-applies own r.state.role r h
  call-applies own (Lost peer) r p h = lost-applies peer r.state.role r h
  call-applies own TriggerSnapshot r p h = snapshot-applies r.state.applied r refl p h
  call-applies own (TriggerPurge place) r p h = purge_within-applies place _ r h

  pub group-applies : (d : StoringCommand) (r : StepResult) → snapshot_in d ≡ None → Applies r → Applies (store d r)
  group-applies d r e h = stores d r (λ x f. none x (sym e ∙ f)) h

  -- ---- openings

  -- what the snapshot has is committed and applied
  fresh-applies : (place : Option ℕ) (r : StepResult) → r.state.committed ≡ None → ((x : Snapshot) → Among x (snapshots_of r.commands) → P x) → c ≤ place_above place → Applies (apply_up_to place r)
  fresh-applies place r is all low = record {
    grows = subst (λ o. c ≤ place_above (later_place o place)) (sym is) low;
    applied = refl;
    snapshots = all;
  }

  opened-applies : (last : Option (LogId ℕ)) (st : StoredGroup) → c ≤ place_above (place_of last) → Applies (apply_up_to (place_of last) (drop_stale_log last (unchanged (state_of st))))
  opened-applies None st low = fresh-applies None (unchanged (state_of st)) refl (λ x a. absurd a) low
  opened-applies (Some id) st low =
      either (λ q. Applies (apply_up_to (Some id.index) q)) _ _ _
      (fresh-applies (Some id.index) (unchanged (state_of st)) refl (λ x a. absurd a) low)
      (fresh-applies (Some id.index) (store (StartAfter id) (unchanged (state_of st))) refl (λ x a. absurd a) low)

  pub opening-applies : (own : ℕ) (st : StoredGroup) → c ≤ place_above (place_of (snapshot_last st)) → Applies (opening_step own st)
  opening-applies own st low =
      let last = snapshot_last st in
      let placed = apply_up_to (place_of last) (drop_stale_log last (unchanged (state_of st))) in
      let begins : Applies placed = opened-applies last st low in
      either Applies _ _ _ (pass placed _ refl refl refl begins) begins

  -- ---- the end of an event

  commit-applies : (own : ℕ) (role : Role) (r : StepResult) → Applies r → Applies (commit_as_leader own role r)
  commit-applies own Follower r h = h
  commit-applies own (Candidate g) r h = h
  commit-applies own (Leader lead) r h = apply-applies _ r h

  wished-applies : (role : Role) (wish : Option ℕ) (r : StepResult) → Applies r → Applies (purge_as_wished role wish r)
  wished-applies Follower wish r h = h
  wished-applies (Candidate g) wish r h = h
  wished-applies (Leader lead) None r h = h
  wished-applies (Leader lead) (Some place) r h =
      either Applies _ _ _ h (remove-applies (id_of (entry_at r.state.stored place)) (with_wish None r) (pass r (with_wish None r) refl refl refl h))

  request-applies : (own : ℕ) (p : PeerState) (lead : Lead) (o : Option Snapshot) (r : StepResult) → Applies r → Applies (send_request own p lead o r)
  request-applies own p lead None r h = pass r _ refl refl refl h
  request-applies own p lead (Some x) r h =
      either Applies _ _ _ (pass r _ refl refl refl h) (pass r _ refl refl refl h)

  serve-applies : (own : ℕ) (b : Bool) (p : PeerState) (lead : Lead) (r : StepResult) → Applies r → Applies (serve own b p lead r)
  serve-applies own b p lead r h =
      either Applies _ _ _ (request-applies own p lead _ r h) (either Applies _ _ _ (pass r _ refl refl refl h) h)

  serve_as-applies : (own : ℕ) (b : Bool) (n : ℕ) (role : Role) (r : StepResult) → Applies r → Applies (serve_as own b n role r)
  serve_as-applies own b n Follower r h = h
  serve_as-applies own b n (Candidate g) r h = h
  serve_as-applies own b n (Leader lead) r h = serve-applies own b _ lead r h

  serve_all-applies : (own : ℕ) (b : Bool) (ns : List ℕ) (r : StepResult) → Applies r → Applies (serve_all own b ns r)
  serve_all-applies own b [] r h = h
  serve_all-applies own b (n ∷ ns) r h = serve_all-applies own b ns _ (serve_as-applies own b n r.state.role r h)

  pub finished-applies : (own : ℕ) (before : Option ℕ) (r : StepResult) → Applies r → Applies (finished own before r)
  finished-applies own before r h =
      let committed = commit_as_leader own r.state.role r in
      let purged = purge_as_wished committed.state.role committed.state.wish committed in
      serve_all-applies own (has_grown before purged.state.committed) (other_ids own purged.state.stored) purged
      (wished-applies committed.state.role committed.state.wish committed (commit-applies own r.state.role r h))
