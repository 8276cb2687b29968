-- What comes to a leader, what it makes of the leader's peers, and what the whole step does.
use Rattle.std.specs.Prelude.{◌≡◌, ℕ, ◌+◌, ◌==◌, ◌&&◌, cond, is_some, Bool, true, false, [], ◌∷◌, ◌++◌, Option, Some, None, refl}
use Rattle.std.proofs.Common.{sym, ap, ap₂, ◌∙◌, subst, eqb-true}
use Rattle.std.proofs.lemmas.Bool.{and_parts, cond_both, cond-true, cond-false}
use Rattle.raft_values.specs.declared.vote.LeaderId.{LeaderId}
use Rattle.raft_values.specs.declared.vote.Vote.{Vote}
use Rattle.raft_values.specs.declared.log_id.LogId.{LogId}
use Rattle.raft_values.specs.LogId.{log_id_of}
use Rattle.raft_state.specs.declared.entry.EntryPayload.TheVariants.{Membership as Members}
use Rattle.raft_group_step.specs.Values.{ChangeMembers, LoggedMembership, entry_of, vote_eq, vote_lt}
use Rattle.raft_group_step.specs.StoredGroup.{Snapshot, PutEntries, membership_in_force, snapshot_last}
use Rattle.raft_group_step.specs.Message.{Message, MessageBody, VoteRequest, VoteReply, AppendRequest, AppendReply, SnapshotRequest, SnapshotReply, AppendFields, ReplyFields, ReplyResult, Success, PartialSuccess, Conflict, HigherVote}
use Rattle.raft_group_step.specs.Peer.{Outstanding, PeerState, is_answer_to, new_peer, peer_or, with_peer}
use Rattle.raft_group_step.specs.GroupState.{GroupState, Lead, Role, Follower, Candidate, Leader, is_leader}
use Rattle.raft_group_step.specs.declared.group_call.GroupCall.TheVariants.{Initialize, Elect, Propose, ChangeMembership, Heartbeat, Lost, TriggerSnapshot, TriggerPurge}
use Rattle.raft_group_step.specs.GroupEvent.{GroupCall, GroupEvent, AddGroup, Call, Receive, Open}
use Rattle.raft_group_step.specs.StepResult.{StepResult, is_within, renew, step_down, store, store_vote, take_over}
use Rattle.raft_group_step.specs.Lead.{peer_of, with_grant}
use Rattle.raft_group_step.specs.Elect.{elect_step}
use Rattle.raft_group_step.specs.Frames.{with_peer_state}
use Rattle.raft_group_step.specs.VoteRequest.{judged, may_grant}
use Rattle.raft_group_step.specs.VoteReply.{counted, take_over_greater}
use Rattle.raft_group_step.specs.AppendRequest.{heard, is_held, joined}
use Rattle.raft_group_step.specs.SnapshotRequest.{offered}
use Rattle.raft_group_step.specs.Reply.{after_answer, answered, ended, with_higher_vote}
use Rattle.raft_group_step.specs.MembershipStep.{append_changed}
use Rattle.raft_group_step.specs.Lost.{lost_as}
use Rattle.raft_group_step.specs.Opening.{opening_step}
use Rattle.raft_group_step.specs.Refusal.{do_follow, has_known_snapshot, is_of_leader, is_sound, keep_voters, refusal_of}
use Rattle.raft_group_step.specs.GroupStep.{begun, call_step, event_step, finished, message_step, step_unless}
use Rattle.raft_group_step.proofs.Words.{either, either_by, installing_keeps_role, joined_keeps_role}
use Rattle.raft_group_step.proofs.Peers.{with_peer-found, with_peer-others, answer_keeps_peer}
use Rattle.raft_laws.proofs.StepMessages.{message_passed, of_leader}
use Rattle.raft_laws.proofs.TrackReplies.{peer_of_is}
use Rattle.raft_laws.proofs.VoteRanks.{same_vote}
use Rattle.raft_laws.proofs.WorldLimits.{vote_itself}
use Rattle.raft_laws.proofs.VoteOrders.{differ_flags as never}
use Rattle.raft_step_laws.specs.PeerStates.{LeadsBeginAnew, PeersReplay, keeps_its_lead, peer_after_event, peer_after_message, peer_after_reply, peer_after_sending}
use Rattle.raft_step_laws.specs.Elections.{stands_in_call}
use Rattle.raft_step_laws.specs.Tokens.{HasItsOwnVote, leads_on, seeks_or_leads}
use Rattle.raft_step_laws.proofs.Electing.{Opened, Standing, beat_role, begins, changed_role, event_stands, follows, idles, lacks, leads_yet, opened_role, snapshot_role, stands_on, waits, wins, within_role}
use Rattle.raft_step_laws.proofs.LeaderSends.{Sends, finished_sends, same_lead, settled, settled_messages}
use Rattle.raft_step_laws.proofs.PeerLists.{cond_same, sending_joins, unnumbered_all}
use Rattle.raft_step_laws.proofs.Sending.{finished_adds}
use Rattle.raft_step_laws.proofs.Unnumbered.{event_unnumbered}
use Rattle.raft_step_laws.proofs.Telling.{another_vote, beat_stays, elected_leader, next_term_differs, snapshot_stays, within_stays}

-- ---- a leader that leads on

-- the leader's peers are those that what came makes of them
record Came (s : GroupState) (e : GroupEvent) (lead : Lead) (q : StepResult) : Type 0 where
  after : Lead
  role : q.state.role ≡ Leader after
  began : after.began ≡ lead.began
  peers : (n : ℕ) → peer_of after n ≡ peer_after_event s e (peer_of lead n)
  keeps : keeps_its_lead s e q.state ≡ true

data Outcome (s : GroupState) (e : GroupEvent) (lead : Lead) (q : StepResult) : Type 0 where
  came : Came s e lead q → Outcome s e lead q
  over : is_leader q.state.role ≡ false → Outcome s e lead q
  -- a lead began that knows of no peer
  anew : (after : Lead) → q.state.role ≡ Leader after → after.peers ≡ [] → keeps_its_lead s e q.state ≡ false → Outcome s e lead q

-- under the same vote a leader leads on
on_true : (s t : GroupState) → is_leader s.role ≡ true → is_leader t.role ≡ true → t.stored.vote ≡ s.stored.vote → leads_on s t ≡ true
on_true s t f g v =
    ap₂ (λ a b. a && (b && vote_eq s.stored.vote t.stored.vote)) f g
    ∙ ap (vote_eq s.stored.vote) v ∙ vote_itself s.stored.vote

ended_none : (p : PeerState) → p.outstanding ≡ None → p ≡ ended p
ended_none p e = ap (λ o. record p { outstanding = o }) e

none_outstanding : (o : Option Outstanding) → is_some o ≡ false → o ≡ None
none_outstanding None f = refl
none_outstanding (Some x) f = absurd (let g : true ≡ false = f in cc)

changed_vote : (o : Option LoggedMembership) (change : ChangeMembers) (token : ℕ) (r : StepResult) → (append_changed o change token r).state.stored.vote ≡ r.state.stored.vote
changed_vote None change token r = refl
changed_vote (Some m) change token r = refl

module _ (own : ℕ) (s : GroupState) (lead : Lead) (is : s.role ≡ Leader lead) where
  leads : is_leader s.role ≡ true
  leads = ap is_leader is

  -- what leaves the role and the vote, where the event changes nothing of a peer
  passes : (e : GroupEvent) (q : StepResult) → q.state.role ≡ s.role → q.state.stored.vote ≡ s.stored.vote → ((p : PeerState) → peer_after_event s e p ≡ p) → keeps_its_lead s e q.state ≡ leads_on s q.state → Outcome s e lead q
  passes e q f g h k =
      came
      (record {
        after = lead;
        role = f ∙ is;
        began = refl;
        peers = λ n. sym (h (peer_of lead n));
        keeps = k ∙ on_true s q.state leads (ap is_leader f ∙ leads) g;
      })

  -- one peer is set to what came of it
  set_by : (peer : ℕ) (w : PeerState) (f : PeerState → PeerState) → w.peer ≡ peer → w ≡ f (peer_of lead peer)
      → (n : ℕ) → peer_of (record lead { peers = with_peer w lead.peers }) n ≡ cond (peer == (peer_of lead n).peer) (f (peer_of lead n)) (peer_of lead n)
  set_by peer w f at made n =
      cond_both (peer == (peer_of lead n).peer) (f (peer_of lead n)) (peer_of lead n) (λ q. peer_of (record lead { peers = with_peer w lead.peers }) n ≡ q)
      (λ t.
      let same : peer ≡ n = eqb-true peer (peer_of lead n).peer t ∙ peer_of_is lead n in
      with_peer-found w (new_peer lead.began n) lead.peers (at ∙ same) ∙ made ∙ ap (λ k. f (peer_of lead k)) same)
      (λ t.
      with_peer-others w (new_peer lead.began n) lead.peers
      (ap (λ k. k == n) at ∙ ap (λ k. peer == k) (sym (peer_of_is lead n)) ∙ t))

  -- or nothing came of it
  left_by : (peer : ℕ) (f : PeerState → PeerState) → peer_of lead peer ≡ f (peer_of lead peer) → (n : ℕ) → peer_of lead n ≡ cond (peer == (peer_of lead n).peer) (f (peer_of lead n)) (peer_of lead n)
  left_by peer f same n =
      cond_both (peer == (peer_of lead n).peer) (f (peer_of lead n)) (peer_of lead n) (λ q. peer_of lead n ≡ q)
      (λ t.
      let here : peer ≡ n = eqb-true peer (peer_of lead n).peer t ∙ peer_of_is lead n in
      subst (λ k. peer_of lead k ≡ f (peer_of lead k)) here same)
      (λ t. refl)

  module _ (now : ℕ) where
    abbrev r : StepResult
    r = begun now s

    -- ---- calls

    -- the node stands for election: the lead is over, or another begins
    elected : (call : GroupCall) → stands_in_call call ≡ true → (p : StepResult) → p.state.stored.vote ≡ s.stored.vote → call_step own call r ≡ elect_step own p → Outcome s (Call call now) lead (call_step own call r)
    elected call t p v e = go (event_stands own s (Call call now))
      where
        other : leads_on s (call_step own call r).state ≡ false
        other =
            another_vote s (call_step own call r).state
            (next_term_differs s.stored.vote (call_step own call r).state.stored.vote
            (ap (λ (x : StepResult). x.state.stored.vote.leader_id.term) e
            ∙ ap (λ (x : LeaderId ℕ). x.term) (elected_leader own p)
            ∙ ap (λ (x : Vote ℕ). x.leader_id.term + 1) v))

        go : Standing own s (Call call now) (call_step own call r) → Outcome s (Call call now) lead (call_step own call r)
        go (stands_on f after none) = never (stands_in_call call) t none
        go (lacks granters f after counted few) = over (ap is_leader f)
        go (wins a f g) = anew a f g other
        go (follows f none) = over (ap is_leader f)
        go (idles f idle none) = never (stands_in_call call) t none
        go (leads_yet f g none) = never (stands_in_call call) t none

    lost_comes : (peer : ℕ) → Outcome s (Call (Lost peer) now) lead (lost_as peer (Leader lead) r)
    lost_comes peer =
        let p = peer_of lead peer in
        let w = ended p in
        either_by (Outcome s (Call (Lost peer) now) lead) (is_some p.outstanding) (with_peer_state w lead r) r
        (λ t.
        came
        (record {
          after = record lead { peers = with_peer w lead.peers };
          role = refl;
          began = refl;
          peers = set_by peer w ended (peer_of_is lead peer) refl;
          keeps = on_true s (with_peer_state w lead r).state leads refl refl;
        }))
        (λ t.
        came
        (record {
          after = lead;
          role = is;
          began = refl;
          peers = left_by peer ended (ended_none p (none_outstanding p.outstanding t));
          keeps = on_true s s leads leads refl;
        }))

    call_comes : (call : GroupCall) → Outcome s (Call call now) lead (call_step own call r)
    call_comes (Initialize m) =
        elected (Initialize m) refl (store (PutEntries 0 (entry_of (log_id_of 0 0 0) (Members m) ∷ [])) r) refl refl
    call_comes Elect = elected Elect refl r refl refl
    call_comes (Propose command token) = passes (Call (Propose command token) now) _ refl refl (λ p. refl) refl
    call_comes (ChangeMembership change token) =
        let o = membership_in_force s.stored in
        passes (Call (ChangeMembership change token) now) _ (changed_role o change token r) (changed_vote o change token r) (λ p. refl) refl
    call_comes Heartbeat = passes (Call Heartbeat now) _ (beat_role own s.role r) (beat_stays own s.role r).vote (λ p. refl) refl
    call_comes (Lost peer) =
        subst (λ role. Outcome s (Call (Lost peer) now) lead (lost_as peer role r)) (sym is) (lost_comes peer)
    call_comes TriggerSnapshot =
        passes (Call TriggerSnapshot now) _ (snapshot_role s.applied r) (snapshot_stays s.applied r).vote (λ p. refl) refl
    call_comes (TriggerPurge place) =
        let last = snapshot_last s.stored in
        passes (Call (TriggerPurge place) now) _ (within_role place last r) (within_stays place last r).vote (λ p. refl) refl

    -- ---- messages

    module _ (peer : ℕ) (x : Message) where
      abbrev e : GroupEvent
      e = Receive peer x now

      -- what a message of this kind does
      abbrev Does : MessageBody → StepResult → Type 0
      Does b q = x.body ≡ b → Outcome s e lead q

      -- a message that is no reply to a request changes nothing of a peer
      plain : (b : MessageBody) → ((p : PeerState) → peer_after_message s.stored.vote b p ≡ p) → (q : StepResult) → q.state.role ≡ s.role → q.state.stored.vote ≡ s.stored.vote → Does b q
      plain b none q f g is_body =
          passes e q f g
          (λ p.
          ap (λ c. cond (peer == p.peer) (peer_after_message s.stored.vote c p) p) is_body
          ∙ ap (λ y. cond (peer == p.peer) y p) (none p) ∙ cond_same (peer == p.peer) p)
          refl

      gone : (b : MessageBody) (q : StepResult) → q.state.role ≡ Follower → Does b q
      gone b q f is_body = over (ap is_leader f)

      took : (b : MessageBody) → ((p : PeerState) → peer_after_message s.stored.vote b p ≡ p) → (v : Vote ℕ) → Does b (take_over v r)
      took b none v =
          either (Does b) (vote_lt s.stored.vote v) (store_vote v (step_down r)) (renew r)
          (gone b (store_vote v (step_down r)) refl) (plain b none (renew r) refl refl)

      greater : (b : MessageBody) → ((p : PeerState) → peer_after_message s.stored.vote b p ≡ p) → (v : Vote ℕ) → Does b (take_over_greater v r)
      greater b none v =
          either (Does b) (vote_lt s.stored.vote v) (store_vote v (step_down r)) r
          (gone b (store_vote v (step_down r)) refl) (plain b none r refl refl)

      sent : (b : MessageBody) (to : ℕ) (said : MessageBody) (q : StepResult) → Does b q → Does b (record q { messages = q.messages ++ record { sender = own; addressee = to; body = said } ∷ [] })
      sent b to said q h is_body = go (h is_body)
        where
          go : Outcome s e lead q → Outcome s e lead (record q { messages = q.messages ++ record { sender = own; addressee = to; body = said } ∷ [] })
          go (came c) =
              came (record { after = c.after; role = c.role; began = c.began; peers = c.peers; keeps = c.keeps })
          go (over f) = over f
          go (anew a f g k) = anew a f g k

      -- another leader's vote that isn't below the own one is greater
      follows_other : (v : Vote ℕ) → s.stored.vote.leader_id.node_id ≡ own → (v.leader_id.node_id ≡ own → ⊥) → vote_lt v s.stored.vote ≡ false → (take_over v r).state.role ≡ Follower
      follows_other v mine other low =
          either_by (λ q. q.state.role ≡ Follower) (vote_lt s.stored.vote v) (store_vote v (step_down r)) (renew r)
          (λ t. refl)
          (λ t. absurd (other (ap (λ (y : Vote ℕ). y.leader_id.node_id) (sym (same_vote s.stored.vote v t low)) ∙ mine)))

      heard_comes : (a : AppendFields) (b : Bool) → vote_lt a.vote s.stored.vote ≡ b → s.stored.vote.leader_id.node_id ≡ own → (a.vote.leader_id.node_id ≡ own → ⊥) → Does (AppendRequest a) (heard own peer a b r)
      heard_comes a true low mine other = sent (AppendRequest a) peer _ r (plain (AppendRequest a) (λ p. refl) r refl refl)
      heard_comes a false low mine other =
          let taken = take_over a.vote r in
          let b = is_held taken.state.stored taken.state.committed a.previous in
          gone (AppendRequest a) (joined own peer a b taken) (joined_keeps_role own peer a b taken ∙ follows_other a.vote mine other low)

      offered_comes : (v : Vote ℕ) (id : ℕ) (y : Snapshot) (b : Bool) → vote_lt v s.stored.vote ≡ b → s.stored.vote.leader_id.node_id ≡ own → (v.leader_id.node_id ≡ own → ⊥) → Does (SnapshotRequest v id y) (offered own peer v id y b r)
      offered_comes v id y true low mine other =
          sent (SnapshotRequest v id y) peer _ r (plain (SnapshotRequest v id y) (λ p. refl) r refl refl)
      offered_comes v id y false low mine other =
          let taken = take_over v r in
          let b = is_within y.last.index taken.state.committed in
          gone (SnapshotRequest v id y) (offered own peer v id y false r) (installing_keeps_role b y taken ∙ follows_other v mine other low)

      judged_comes : (v : Vote ℕ) (last : Option (LogId ℕ)) (b : Bool) → Does (VoteRequest v last) (judged own peer v b r)
      judged_comes v last true =
          sent (VoteRequest v last) peer _ (take_over v r) (took (VoteRequest v last) (λ p. refl) v)
      judged_comes v last false = sent (VoteRequest v last) peer _ r (plain (VoteRequest v last) (λ p. refl) r refl refl)

      counted_comes : (v : Vote ℕ) (granted : Bool) (last : Option (LogId ℕ)) (b : Bool) → Does (VoteReply v granted last) (counted peer b v r)
      counted_comes v granted last true =
          subst (λ role. Does (VoteReply v granted last) (with_grant peer role r)) (sym is)
          (plain (VoteReply v granted last) (λ p. refl) r refl refl)
      counted_comes v granted last false = greater (VoteReply v granted last) (λ p. refl) v

      -- the answer to the peer's outstanding request
      module _ (m : ReplyFields) (body : MessageBody) (counts : (p : PeerState) → peer_after_message s.stored.vote body p ≡ peer_after_reply s.stored.vote m p) where
        abbrev p : PeerState
        p = peer_of lead peer

        abbrev w : PeerState
        w = after_answer p m m.outcome

        by_body : x.body ≡ body → (n : ℕ) → cond (peer == (peer_of lead n).peer) (peer_after_reply s.stored.vote m (peer_of lead n)) (peer_of lead n) ≡ peer_after_event s e (peer_of lead n)
        by_body is_body n =
            let q = peer_of lead n in
            ap (λ y. cond (peer == q.peer) y q) (sym (counts q))
            ∙ ap (λ c. cond (peer == q.peer) (peer_after_message s.stored.vote c q) q) (sym is_body)

        answered_comes : Does body (answered peer m (Leader lead) r)
        answered_comes is_body =
            either_by (Outcome s e lead) (vote_eq m.vote s.stored.vote && is_answer_to m p.outstanding) (with_peer_state w lead r) r
            (λ t.
            came
            (record {
              after = record lead { peers = with_peer w lead.peers };
              role = refl;
              began = refl;
              peers = λ n.
                  set_by peer w (peer_after_reply s.stored.vote m) (answer_keeps_peer p m m.outcome ∙ peer_of_is lead peer)
                  (sym (cond-true (vote_eq m.vote s.stored.vote && is_answer_to m p.outstanding) w p t)) n
                  ∙ by_body is_body n;
              keeps = on_true s (with_peer_state w lead r).state leads refl refl;
            }))
            (λ f.
            came
            (record {
              after = lead;
              role = is;
              began = refl;
              peers = λ n.
                  left_by peer (peer_after_reply s.stored.vote m)
                  (sym (cond-false (vote_eq m.vote s.stored.vote && is_answer_to m p.outstanding) w p f)) n
                  ∙ by_body is_body n;
              keeps = on_true s s leads leads refl;
            }))

        unjudged : Does body (answered peer m s.role r)
        unjudged = subst (λ role. Does body (answered peer m role r)) (sym is) answered_comes

        -- a greater vote ends the lead, whatever it answers
        judged_by : (o : ReplyResult) → let q = with_higher_vote o r in Does body (answered peer m q.state.role q)
        judged_by Success = unjudged
        judged_by (PartialSuccess last) = unjudged
        judged_by Conflict = unjudged
        judged_by (HigherVote v) =
            either (λ q. Does body (answered peer m q.state.role q)) (vote_lt s.stored.vote v) (store_vote v (step_down r)) r
            (gone body (store_vote v (step_down r)) refl) unjudged

      body_comes : (b : MessageBody) → (peer ≡ own → ⊥) → is_sound own peer s.stored b ≡ true → s.stored.vote.leader_id.node_id ≡ own → Does b (message_step own peer b r)
      body_comes (VoteRequest v last) stranger sound mine = judged_comes v last (may_grant r.state v last)
      body_comes (VoteReply v granted last) stranger sound mine = counted_comes v granted last (granted && vote_eq v s.stored.vote)
      body_comes (AppendRequest a) stranger sound mine =
          let one = and_parts (is_of_leader peer a.vote && do_follow a.vote a.previous a.entries) (keep_voters (membership_in_force s.stored) a.entries) sound in
          let two = and_parts (is_of_leader peer a.vote) (do_follow a.vote a.previous a.entries) one.0 in
          heard_comes a (vote_lt a.vote s.stored.vote) refl mine (of_leader peer stranger a.vote two.0).1
      body_comes (AppendReply m) stranger sound mine = judged_by m (AppendReply m) (λ p. refl) m.outcome
      body_comes (SnapshotRequest v id y) stranger sound mine =
          let parts = and_parts (is_of_leader peer v) (has_known_snapshot (membership_in_force s.stored) y.membership) sound in
          offered_comes v id y (vote_lt v s.stored.vote) refl mine (of_leader peer stranger v parts.0).1
      body_comes (SnapshotReply m) stranger sound mine = judged_by m (SnapshotReply m) (λ p. refl) m.outcome

  -- ---- all events

  opens : Opened (opening_step own s.stored) → Outcome s Open lead (opening_step own s.stored)
  opens (begins a f g) = anew a f g refl
  opens (waits f) = over (ap is_leader f)

  event_comes : HasItsOwnVote own s → (e : GroupEvent) → refusal_of own s e ≡ None → Outcome s e lead (event_step own s e)
  event_comes mine AddGroup passed = passes AddGroup _ refl refl (λ p. refl) refl
  event_comes mine (Call call now) passed = call_comes now call
  event_comes mine (Receive peer m now) passed =
      let p = message_passed own s peer m now passed in
      body_comes now peer m m.body p.stranger p.sound (mine (ap seeks_or_leads is)) refl
  event_comes mine Open passed = opens (opened_role own s)

-- ---- the whole step

-- the vote and whether the node leads decide whether it keeps its lead
keeps_same : (s : GroupState) (e : GroupEvent) (t u : GroupState) → is_leader u.role ≡ is_leader t.role → u.stored.vote ≡ t.stored.vote → keeps_its_lead s e u ≡ keeps_its_lead s e t
keeps_same s AddGroup t u f v = ap₂ (λ b w. is_leader s.role && (b && vote_eq s.stored.vote w)) f v
keeps_same s (Call call now) t u f v = ap₂ (λ b w. is_leader s.role && (b && vote_eq s.stored.vote w)) f v
keeps_same s (Receive peer m now) t u f v = ap₂ (λ b w. is_leader s.role && (b && vote_eq s.stored.vote w)) f v
keeps_same s Open t u f v = refl

pub keeps_none : (s : GroupState) (e : GroupEvent) (t : GroupState) → is_leader s.role ≡ false → keeps_its_lead s e t ≡ false
keeps_none s AddGroup t f = ap (λ b. b && (is_leader t.role && vote_eq s.stored.vote t.stored.vote)) f
keeps_none s (Call call now) t f = ap (λ b. b && (is_leader t.role && vote_eq s.stored.vote t.stored.vote)) f
keeps_none s (Receive peer m now) t f = ap (λ b. b && (is_leader t.role && vote_eq s.stored.vote t.stored.vote)) f
keeps_none s Open t f = refl

module _ (own : ℕ) (s : GroupState) (e : GroupEvent) where
  abbrev q : StepResult
  q = event_step own s e

  abbrev end : StepResult
  end = finished own s.committed q

  -- what the whole step sent makes the same of a peer as what was sent at its end
  sent_all : {lead : Lead} → (h : Sends lead (settled own q) end) → (p : PeerState) → peer_after_sending end.messages p ≡ peer_after_sending h.more p
  sent_all h p =
      ap (λ ms. peer_after_sending ms p) (h.added ∙ ap (λ ms. ms ++ h.more) (settled_messages own q))
      ∙ sending_joins q.messages h.more p
      ∙ ap (peer_after_sending h.more) (unnumbered_all q.messages p (event_unnumbered own s e))

  keeps_then : keeps_its_lead s e end.state ≡ keeps_its_lead s e q.state
  keeps_then = let on = finished_adds own s.committed q in keeps_same s e q.state end.state on.leads on.vote

  leads_then : (lead : Lead) → end.state.role ≡ Leader lead → is_leader q.state.role ≡ true
  leads_then lead is = sym (finished_adds own s.committed q).leads ∙ ap is_leader is

  abbrev Replayed : Lead → Lead → Type 0
  Replayed lead lead' = (lead'.began ≡ lead.began) × ((n : ℕ) → peer_of lead' n ≡ peer_after_sending end.messages (peer_after_event s e (peer_of lead n)))

  replayed : (lead lead' : Lead) → end.state.role ≡ Leader lead' → keeps_its_lead s e end.state ≡ true → Outcome s e lead q → Replayed lead lead'
  replayed lead lead' is keeps (came c) =
      let h = finished_sends own s.committed c.after q c.role in
      let same : h.after ≡ lead' = same_lead h.after lead' (sym h.role ∙ is) in
      subst (Replayed lead) same (
        h.began ∙ c.began,
        λ n. h.peers n ∙ ap (peer_after_sending h.more) (c.peers n) ∙ sym (sent_all h (peer_after_event s e (peer_of lead n))),
      )
  replayed lead lead' is keeps (over f) = never (is_leader q.state.role) (leads_then lead' is) f
  replayed lead lead' is keeps (anew a f g k) = never (keeps_its_lead s e q.state) (sym keeps_then ∙ keeps) k

  abbrev Began : Lead → Type 0
  Began lead = (n : ℕ) → peer_of lead n ≡ peer_after_sending end.messages (new_peer lead.began n)

  -- a lead that knows of no peer yet
  began_anew : (a lead : Lead) → q.state.role ≡ Leader a → a.peers ≡ [] → end.state.role ≡ Leader lead → Began lead
  began_anew a lead f none is =
      let h = finished_sends own s.committed a q f in
      let same : h.after ≡ lead = same_lead h.after lead (sym h.role ∙ is) in
      subst Began same
      (λ n.
      h.peers n
      ∙ ap (λ ps. peer_after_sending h.more (peer_or (new_peer a.began n) ps)) none
      ∙ ap (λ k. peer_after_sending h.more (new_peer k n)) (sym h.began)
      ∙ sym (sent_all h (new_peer h.after.began n)))

  began_lead : (lead lead' : Lead) → end.state.role ≡ Leader lead' → keeps_its_lead s e end.state ≡ false → Outcome s e lead q → Began lead'
  began_lead lead lead' is none (came c) = never (keeps_its_lead s e q.state) c.keeps (sym keeps_then ∙ none)
  began_lead lead lead' is none (over f) = never (is_leader q.state.role) (leads_then lead' is) f
  began_lead lead lead' is none (anew a f g k) = began_anew a lead' f g is

  -- a node that didn't lead wins an election
  began_idle : (lead : Lead) → is_leader s.role ≡ false → end.state.role ≡ Leader lead → Standing own s e q → Began lead
  began_idle lead idle is (stands_on f after none) = never (is_leader q.state.role) (leads_then lead is) (ap is_leader f ∙ idle)
  began_idle lead idle is (lacks granters f after counted few) = never (is_leader q.state.role) (leads_then lead is) (ap is_leader f)
  began_idle lead idle is (wins a f g) = began_anew a lead f g is
  began_idle lead idle is (follows f none) = never (is_leader q.state.role) (leads_then lead is) (ap is_leader f)
  began_idle lead idle is (idles f no_candidate none) = never (is_leader q.state.role) (leads_then lead is) (ap is_leader f ∙ idle)
  began_idle lead idle is (leads_yet f g none) = never (is_leader s.role) f idle

  began_by : HasItsOwnVote own s → refusal_of own s e ≡ None → (lead : Lead) → end.state.role ≡ Leader lead → keeps_its_lead s e end.state ≡ false → (role : Role) → s.role ≡ role → Began lead
  began_by mine passed lead is none Follower f = began_idle lead (ap is_leader f) is (event_stands own s e)
  began_by mine passed lead is none (Candidate granters) f = began_idle lead (ap is_leader f) is (event_stands own s e)
  began_by mine passed lead is none (Leader a) f = began_lead a lead is none (event_comes own s a f mine e passed)

pub peers_replay : PeersReplay
peers_replay own s e mine passed lead lead' was =
    subst
    (λ o. (step_unless o own s e).state.role ≡ Leader lead' → keeps_its_lead s e (step_unless o own s e).state ≡ true → (lead'.began ≡ lead.began) × ((n : ℕ) → peer_of lead' n ≡ peer_after_sending (step_unless o own s e).messages (peer_after_event s e (peer_of lead n))))
    (sym passed)
    (λ is keeps. replayed own s e lead lead' is keeps (event_comes own s lead was mine e passed))

pub leads_begin_anew : LeadsBeginAnew
leads_begin_anew own s e mine passed lead =
    subst
    (λ o. (step_unless o own s e).state.role ≡ Leader lead → keeps_its_lead s e (step_unless o own s e).state ≡ false → (n : ℕ) → peer_of lead n ≡ peer_after_sending (step_unless o own s e).messages (new_peer lead.began n))
    (sym passed)
    (λ is none. began_by own s e mine passed lead is none s.role refl)

-- ---- the peers as the event's own part is over

-- each is what came makes of it, or nothing is known of any
pub data PeersThen (s : GroupState) (e : GroupEvent) (q : StepResult) (a : Lead) : Type 0 where
  known : (lead : Lead) → s.role ≡ Leader lead → keeps_its_lead s e q.state ≡ true → ((n : ℕ) → peer_of a n ≡ peer_after_event s e (peer_of lead n)) → PeersThen s e q a
  unknown : a.peers ≡ [] → PeersThen s e q a

module _ (own : ℕ) (s : GroupState) (e : GroupEvent) (mine : HasItsOwnVote own s) (passed : refusal_of own s e ≡ None) (a : Lead) (is : (event_step own s e).state.role ≡ Leader a) where
  abbrev part : StepResult
  part = event_step own s e

  of_outcome : (lead : Lead) → s.role ≡ Leader lead → Outcome s e lead part → PeersThen s e part a
  of_outcome lead was (came c) =
      let same : c.after ≡ a = same_lead c.after a (sym c.role ∙ is) in
      known lead was c.keeps (λ n. ap (λ l. peer_of l n) (sym same) ∙ c.peers n)
  of_outcome lead was (over f) = never (is_leader part.state.role) (ap is_leader is) f
  of_outcome lead was (anew b f g k) = unknown (ap (λ (l : Lead). l.peers) (same_lead a b (sym is ∙ f)) ∙ g)

  of_standing : is_leader s.role ≡ false → Standing own s e part → PeersThen s e part a
  of_standing idle (stands_on f after none) = never (is_leader part.state.role) (ap is_leader is) (ap is_leader f ∙ idle)
  of_standing idle (lacks granters f after counted few) = never (is_leader part.state.role) (ap is_leader is) (ap is_leader f)
  of_standing idle (wins b f g) = unknown (ap (λ (l : Lead). l.peers) (same_lead a b (sym is ∙ f)) ∙ g)
  of_standing idle (follows f none) = never (is_leader part.state.role) (ap is_leader is) (ap is_leader f)
  of_standing idle (idles f no_candidate none) = never (is_leader part.state.role) (ap is_leader is) (ap is_leader f ∙ idle)
  of_standing idle (leads_yet f g none) = never (is_leader s.role) f idle

  of_role : (role : Role) → s.role ≡ role → PeersThen s e part a
  of_role Follower f = of_standing (ap is_leader f) (event_stands own s e)
  of_role (Candidate granters) f = of_standing (ap is_leader f) (event_stands own s e)
  of_role (Leader lead) f = of_outcome lead f (event_comes own s lead f mine e passed)

  pub peers_then : PeersThen s e part a
  peers_then = of_role s.role refl
