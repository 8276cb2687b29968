-- What a leader's changes leave of the state and step that its engine stands for.
use Rattle.std.specs.Prelude.{◌≡◌, ℕ, zero, suc, ◌+◌, ◌^◌, ◌<◌, ◌≤◌, ◌==◌, ◌&&◌, nat_eq, nat_lt, length, Bool, true, false, cond, not, if◌then◌else◌, is_none, is_some, filter, List, [], ◌∷◌, ◌++◌, Option, Some, None, refl}
use Rattle.std.proofs.Common.{ap, sym, ◌∙◌, subst, arith, get_or}
use Rattle.std.proofs.lemmas.Bool.{eq-eqb, eqb-true}
use Rattle.std.proofs.Math.Bool.{true≢false}
use Rattle.raft_quorums.specs.QuorumLaws.{or_left, or_right, and_left, and_right}
use Rattle.raft_progress.specs.declared.inflight.Inflight.TheVariants.{None as Nothing, Logs, Snapshot as SnapshotInFlight}
use Rattle.raft_group_step.specs.Values.{has_id, vote_eq}
use Rattle.raft_group_step.specs.Heartbeat.{beat_as, send_notices}
use Rattle.raft_group_step.specs.Lost.{lost_as}
use Rattle.raft_group_step.specs.Reply.{after_answer, answered, ended, with_higher_vote}
use Rattle.raft_group_step.specs.declared.append_entries.AppendEntriesResponse.{AppendEntriesResponse}
use Rattle.raft_group_step.specs.declared.append_entries.AppendEntriesResponse.TheVariants.{Success as Accepted, PartialSuccess, Conflict as Differs, HigherVote as HasHigherVote}
use Rattle.raft_progress.specs.declared.progress_entry.ProgressEntry.{ProgressEntry}
use Rattle.raft_progress.specs.Parts.{SetsValue, has_value}
use Rattle.raft_leaders.specs.Candidate.{CandidateValue}
use Rattle.raft_leaders.specs.Leader.{LeaderValue, peer_at}
use Rattle.raft_values.specs.LogId.{place_of}
use Rattle.raft_known_state.specs.KnownState.{KnownState, Knows}
use Rattle.raft_group_step.specs.Refusal.{is_voter_in}
use Rattle.raft_engine.specs.ServerStates.{part_in}
use Rattle.raft_group_step.specs.StoredGroup.{StoredGroup, end_place, first_place, membership_in_force}
use Rattle.raft_group_step.specs.Peer.{is_answer_to, new_peer, peer_or, with_peer}
use Rattle.raft_group_step.specs.GroupState.{GroupState, Lead, Role, Follower, Candidate, Leader}
use Rattle.std.specs.List.{flat_map, list_all}
use Rattle.raft_values.specs.declared.vote.Vote.{Vote}
use Rattle.raft_values.specs.declared.log_id.LogId.{LogId}
use Rattle.raft_group_step.specs.StoredGroup.{Snapshot}
use Rattle.raft_group_step.specs.Message.{AppendRequest, HeartBeat, Message, ReplyFields}
use Rattle.raft_group_step.specs.Peer.{PeerState}
use Rattle.raft_group_step.specs.StepResult.{StepResult, send}
use Rattle.raft_progress.specs.declared.inflight.Inflight.{Inflight}
use Rattle.raft_progress.specs.Inflight.{request_id}
use Rattle.raft_commands.specs.declared.command.Command.TheVariants.{Replicate}
use Rattle.raft_group_step.specs.Lead.{ids_of, other_ids, peer_of}
use Rattle.raft_group_step.specs.Frames.{committed_id, lacks_entries, notice, send_entries, send_request, send_snapshot, serve_all, serve_as, waiting, with_peer_state}
use Rattle.raft_group_step.proofs.Peers.{with_peer-found, with_peer-others}
use Rattle.raft_commands.specs.Output.{Output}
use Rattle.raft_engine.specs.Numbering.{NumbersFollow, number_in}
use Rattle.raft_engine.specs.Commands.{Command, message_to, request_to, sending_of, sent_by, stored_by, storing_of}
use Rattle.raft_messages.specs.Messages.{outcome_of}
use Rattle.raft_engine.specs.Standing.{EffectiveMembership, Engine, Given, IsStateOf, IsStepOf, IsWholeStepOf, Leads, PlaysRole, outstanding_of, peer_state}
use Rattle.raft_engine.specs.Answering.{NeedsNoOther}
use Rattle.std.specs.List.{All}
use Rattle.raft_engine.proofs.CommandLemmas.{at_once_more, numbers_kept, sends_more, stores_same}
use Rattle.raft_engine.proofs.CommittingLemmas.{moves_kept, moves_same, unmoved}
use Rattle.raft_engine.specs.Sending.{HasPeer, HasRoomFor, NumbersLeft, request_for, waiting_for, with_known}
use Rattle.raft_engine.proofs.PeersLemmas.{busy_has, some_outstanding, leads-set, none_outstanding}
use Rattle.raft_engine.proofs.SendingLemmas.{request-sent, sent_as}
use Rattle.raft_engine.proofs.StandingLemmas.{order_kept}
use Rattle.raft_engine.specs.Standing.{basis_before, basis_of}
use Rattle.raft_engine.specs.Ordering.{IsStoredRequest, RestsOn}
use Rattle.raft_engine.specs.Turns.{Turns, turns_in, turns_of}
use Rattle.raft_engine.proofs.OrderingLemmas.{rests_kept, rests_same}
use Rattle.raft_engine.proofs.TurnLemmas.{turns_kept, turns_same}
use Rattle.raft_group_step.specs.GroupState.{is_leader}

-- one that leads is no candidate
pub leads-alone : (own : ℕ) (l : LeaderValue ℕ EffectiveMembership) (c : Option (CandidateValue ℕ EffectiveMembership)) (s : StoredGroup) (role : Role) (lead : Lead)
    → role ≡ Leader lead → PlaysRole own (Some l) c s role → (c ≡ None) × Leads own l s lead
leads-alone own l None s Follower lead e h = absurd h
leads-alone own l None s (Candidate granters) lead e h = absurd h
leads-alone own l None s (Leader other) lead e h = (refl, let same : other ≡ lead = cc in subst (Leads own l s) same h)
leads-alone own l (Some c) s Follower lead e h = absurd h
leads-alone own l (Some c) s (Candidate granters) lead e h = absurd h
leads-alone own l (Some c) s (Leader other) lead e h = absurd h

plays : (own : ℕ) (l : LeaderValue ℕ EffectiveMembership) (c : Option (CandidateValue ℕ EffectiveMembership)) (s : StoredGroup) (lead : Lead)
    → c ≡ None → Leads own l s lead → PlaysRole own (Some l) c s (Leader lead)
plays own l None s lead e h = h
plays own l (Some c) s lead e h = cc

module _ {C R : Type 0} (own : ℕ) (e e' : Engine C R) (s : GroupState) (lead : Lead) (l l' : LeaderValue ℕ EffectiveMembership) (n : ℕ) (entry : ProgressEntry ℕ) where
  -- what is known of a peer is written down
  pub known_set : IsStateOf own e s → s.role ≡ Leader lead → e.leader ≡ Some l → has_value nat_eq l.progress n ≡ true
      → SetsValue nat_eq l.progress l'.progress n entry → l' ≡ record l { progress = l'.progress }
      → e'.config ≡ e.config → e'.leader ≡ Some l' → e'.candidate ≡ e.candidate → e'.state ≡ e.state
      → IsStateOf own e' (with_known (peer_state n entry) lead s)
  known_set old is_lead is_some has sets rest config leader candidate state =
      let alone = leads-alone own l e.candidate s.stored s.role lead is_lead (subst (λ x. PlaysRole own x e.candidate s.stored s.role) is_some old.role) in
      record {
        config = config ∙ old.config;
        knows = subst (λ k. Knows k s.stored) (sym state) old.knows;
        renewed = ap (λ (y : KnownState). y.state.vote.utime) state ∙ old.renewed;
        committed = ap (λ (y : KnownState). y.state.committed) state ∙ old.committed;
        wish = ap (λ (y : KnownState). place_of y.wish) state ∙ old.wish;
        role = subst (λ x. PlaysRole own x e'.candidate s.stored (Leader (record lead { peers = with_peer (peer_state n entry) lead.peers }))) (sym leader)
            (plays own l' e'.candidate s.stored (record lead { peers = with_peer (peer_state n entry) lead.peers }) (candidate ∙ alone.0)
            (leads-set l l' n entry has sets rest own s.stored lead alone.1));
        order = order_kept s s.stored.vote s.now (Leader (record lead { peers = with_peer (peer_state n entry) lead.peers })) s.renewed s.wish s.untold old.order;
      }

-- a leader's lead
pub leads : (own : ℕ) (l : LeaderValue ℕ EffectiveMembership) (c : Option (CandidateValue ℕ EffectiveMembership)) (s : StoredGroup) (role : Role)
    → PlaysRole own (Some l) c s role → (lead : Lead) × (role ≡ Leader lead) × Leads own l s lead
leads own l None s Follower h = absurd h
leads own l None s (Candidate granters) h = absurd h
leads own l None s (Leader lead) h = (lead, refl, h)
leads own l (Some c) s Follower h = absurd h
leads own l (Some c) s (Candidate granters) h = absurd h
leads own l (Some c) s (Leader lead) h = absurd h

-- without a leader's knowledge none leads
pub leads-not : {G : Type 0} (own : ℕ) (c : Option (CandidateValue ℕ EffectiveMembership)) (s : StoredGroup) (role : Role) (lead : Lead)
    → role ≡ Leader lead → PlaysRole own None c s role → G
leads-not own None s Follower lead e h = cc
leads-not own None s (Candidate granters) lead e h = absurd h
leads-not own None s (Leader other) lead e h = absurd h
leads-not own (Some c) s Follower lead e h = absurd h
leads-not own (Some c) s (Candidate granters) lead e h = cc
leads-not own (Some c) s (Leader other) lead e h = absurd h

-- ---- steps

module _ {C R : Type 0} (own : ℕ) (e e' : Engine C R) (s : GroupState) where
  -- the queue isn't of the state
  pub same_state : IsStateOf own e s → e'.config ≡ e.config → e'.leader ≡ e.leader → e'.candidate ≡ e.candidate → e'.state ≡ e.state → IsStateOf own e' s
  same_state old config leader candidate state =
      record {
        config = config ∙ old.config;
        knows = subst (λ k. Knows k s.stored) (sym state) old.knows;
        renewed = ap (λ (y : KnownState). y.state.vote.utime) state ∙ old.renewed;
        committed = ap (λ (y : KnownState). y.state.committed) state ∙ old.committed;
        wish = ap (λ (y : KnownState). place_of y.wish) state ∙ old.wish;
        role = subst (λ l. PlaysRole own l e'.candidate s.stored s.role) (sym leader) (subst (λ d. PlaysRole own e.leader d s.stored s.role) (sym candidate) old.role);
        order = old.order;
      }

module _ {C R : Type 0} (x : Given) (own : ℕ) (e e' : Engine C R) (r : StepResult) where
  -- what is known of a peer changes, and nothing is stored or sent
  pub known_step : IsStepOf x own e r → (p : PeerState) (lead : Lead) → r.state.role ≡ Leader lead → IsStateOf own e' (with_known p lead r.state) → e'.output ≡ e.output → e'.seen_greater_log ≡ e.seen_greater_log
      → IsStepOf x own e' (with_peer_state p lead r)
  known_step step p lead is_lead state output seen = record {
    state = state;
    stores = ap (λ (o : Output C (List ℕ) R ℕ (List ℕ)). stored_by x.snapshot o.queue) output ∙ step.stores;
    sends = λ s upto. ap (λ (o : Output C (List ℕ) R ℕ (List ℕ)). sent_by own s upto o.queue) output ∙ step.sends s upto;
    seen = seen ∙ step.seen;
    numbers = subst (NumbersFollow x.last_sm_seq) (sym output) step.numbers;
    moves = moves_same x.committed_before e.state.state.committed e'.state.state.committed e.output.queue e'.output.queue step.moves (ap (λ (o : Output C (List ℕ) R ℕ (List ℕ)). o.queue) output) (state.committed ∙ sym step.state.committed);
    at_once = subst (λ (o : Output C (List ℕ) R ℕ (List ℕ)). All NeedsNoOther o.queue) (sym output) step.at_once;
    rests = rests_same own x.snapshot (basis_before x) e.output.queue e'.output.queue r.state.stored e.state.state.committed step.rests e'.state.state.committed (ap (λ (o : Output C (List ℕ) R ℕ (List ℕ)). o.queue) output) (state.committed ∙ sym step.state.committed);
    turns = turns_same x.turn_before e.output.queue e'.output.queue (is_leader r.state.role) step.turns true (ap (λ (o : Output C (List ℕ) R ℕ (List ℕ)). o.queue) output) (sym (ap is_leader is_lead));
  }

  -- something leaves behind the rest, by what is stored and committed at the end
  pub whole_sent : IsWholeStepOf x own e r → (c : Command C R) (more : List Message) → IsStateOf own e' r.state → e'.seen_greater_log ≡ e.seen_greater_log
      → e'.state ≡ e.state
      → e'.output ≡ record e.output { queue = e.output.queue ++ c ∷ [] } → storing_of x.snapshot c ≡ [] → number_in c ≡ [] → NeedsNoOther c → RestsOn own x.snapshot (basis_of e r.state) c → turns_of c ≡ [] → sending_of own r.state.stored (committed_id r.state) c ≡ more
      → IsWholeStepOf x own e' (record r { messages = r.messages ++ more })
  whole_sent step c more state seen same output none silent needs on turnless sends = record {
    state = state;
    stores = ap (λ q. flat_map (storing_of x.snapshot) q) (ap (λ (o : Output C (List ℕ) R ℕ (List ℕ)). o.queue) output) ∙ stores_same e.output.queue c x.snapshot r.commands step.stores none;
    sends = ap (λ q. flat_map (sending_of own r.state.stored (committed_id r.state)) q) (ap (λ (o : Output C (List ℕ) R ℕ (List ℕ)). o.queue) output)
        ∙ sends_more e.output.queue c own r.state.stored (committed_id r.state) r.messages more step.sends sends;
    seen = seen ∙ step.seen;
    numbers = numbers_kept x.last_sm_seq e.output e'.output c step.numbers output silent;
    moves = moves_kept x.committed_before e.state.state.committed e'.state.state.committed e.output.queue e'.output.queue step.moves c (ap (λ (o : Output C (List ℕ) R ℕ (List ℕ)). o.queue) output) (unmoved c silent) (state.committed ∙ sym step.state.committed);
    at_once = at_once_more e.output.queue c e'.output.queue (ap (λ (o : Output C (List ℕ) R ℕ (List ℕ)). o.queue) output) step.at_once needs;
    rests = rests_kept own x.snapshot (basis_before x) e.output.queue e'.output.queue r.state.stored e.state.state.committed step.rests c on (ap (λ (o : Output C (List ℕ) R ℕ (List ℕ)). o.queue) output) e'.state.state.committed none silent (state.committed ∙ sym step.state.committed);
    turns = turns_kept x.turn_before e.output.queue e'.output.queue (is_leader r.state.role) step.turns c (ap (λ (o : Output C (List ℕ) R ℕ (List ℕ)). o.queue) output) turnless;
    part = ap (λ (y : KnownState). y.state.server_state) same ∙ step.part;
  }

  -- and what is known of a peer changes with it
  pub whole_known : IsWholeStepOf x own e r → (p : PeerState) (lead : Lead) (c : Command C R) (more : List Message) → r.state.role ≡ Leader lead → IsStateOf own e' (with_known p lead r.state) → e'.seen_greater_log ≡ e.seen_greater_log
      → e'.state ≡ e.state
      → e'.output ≡ record e.output { queue = e.output.queue ++ c ∷ [] } → storing_of x.snapshot c ≡ [] → number_in c ≡ [] → NeedsNoOther c → RestsOn own x.snapshot (basis_of e r.state) c → turns_of c ≡ [] → sending_of own r.state.stored (committed_id r.state) c ≡ more
      → IsWholeStepOf x own e' (with_peer_state p lead (record r { messages = r.messages ++ more }))
  whole_known step p lead c more is_lead state seen same output none silent needs on turnless sends = record {
    state = state;
    stores = ap (λ q. flat_map (storing_of x.snapshot) q) (ap (λ (o : Output C (List ℕ) R ℕ (List ℕ)). o.queue) output) ∙ stores_same e.output.queue c x.snapshot r.commands step.stores none;
    sends = ap (λ q. flat_map (sending_of own r.state.stored (committed_id r.state)) q) (ap (λ (o : Output C (List ℕ) R ℕ (List ℕ)). o.queue) output)
        ∙ sends_more e.output.queue c own r.state.stored (committed_id r.state) r.messages more step.sends sends;
    seen = seen ∙ step.seen;
    numbers = numbers_kept x.last_sm_seq e.output e'.output c step.numbers output silent;
    moves = moves_kept x.committed_before e.state.state.committed e'.state.state.committed e.output.queue e'.output.queue step.moves c (ap (λ (o : Output C (List ℕ) R ℕ (List ℕ)). o.queue) output) (unmoved c silent) (state.committed ∙ sym step.state.committed);
    at_once = at_once_more e.output.queue c e'.output.queue (ap (λ (o : Output C (List ℕ) R ℕ (List ℕ)). o.queue) output) step.at_once needs;
    part = ap (λ (y : KnownState). y.state.server_state) same ∙ step.part ∙ ap (λ role. part_in role (is_voter_in (membership_in_force r.state.stored) own)) is_lead;
    rests = rests_kept own x.snapshot (basis_before x) e.output.queue e'.output.queue r.state.stored e.state.state.committed step.rests c on (ap (λ (o : Output C (List ℕ) R ℕ (List ℕ)). o.queue) output) e'.state.state.committed none silent (state.committed ∙ sym step.state.committed);
    turns = subst (λ b. Turns x.turn_before (turns_in e'.output.queue) b) (ap is_leader is_lead) (turns_kept x.turn_before e.output.queue e'.output.queue (is_leader r.state.role) step.turns c (ap (λ (o : Output C (List ℕ) R ℕ (List ℕ)). o.queue) output) turnless);
  }

-- ---- notices

-- a notice says what the state has
pub noticed : (own n : ℕ) (s : GroupState) (lead : Lead) (entry : ProgressEntry ℕ) (vote : Vote ℕ) (committed : Option (LogId ℕ)) → peer_of lead n ≡ peer_state n entry
    → vote ≡ s.stored.vote → committed ≡ committed_id s
    → message_to own n (AppendRequest (record { vote = vote; id = HeartBeat; previous = entry.matching; committed = committed; entries = [] })) ≡ message_to own n (notice s (peer_of lead n))
noticed own n s lead entry vote committed e f h =
    ap (λ v. message_to own n (AppendRequest (record { vote = v; id = HeartBeat; previous = entry.matching; committed = committed; entries = [] }))) f
    ∙ ap (λ d. message_to own n (AppendRequest (record { vote = s.stored.vote; id = HeartBeat; previous = entry.matching; committed = d; entries = [] }))) h
    ∙ ap (λ p. message_to own n (notice s p)) (sym e)

-- ---- one peer is served

-- a role without a leader's knowledge isn't a leader's
pub by_no_lead : (P : Role → Type 0) → P Follower → ((granters : List ℕ) → P (Candidate granters)) → (own : ℕ) (c : Option (CandidateValue ℕ EffectiveMembership)) (s : StoredGroup) (role : Role)
    → PlaysRole own None c s role → P role
by_no_lead P f g own None s Follower h = f
by_no_lead P f g own None s (Candidate granters) h = g granters
by_no_lead P f g own None s (Leader lead) h = absurd h
by_no_lead P f g own (Some c) s Follower h = f
by_no_lead P f g own (Some c) s (Candidate granters) h = g granters
by_no_lead P f g own (Some c) s (Leader lead) h = absurd h

-- who leads has an own vote that is committed
leads_by : (own : ℕ) (l : Option (LeaderValue ℕ EffectiveMembership)) (c : Option (CandidateValue ℕ EffectiveMembership)) (s : StoredGroup) (lead : Lead) → PlaysRole own l c s (Leader lead)
    → (s.vote.leader_id.node_id ≡ own) × (s.vote.committed ≡ true)
leads_by own None c s lead h = absurd h
leads_by own (Some l) None s lead h = let leads : Leads own l s lead = h in (leads.is_own, leads.committed)
leads_by own (Some l) (Some c) s lead h = absurd h

-- a request leaves, and the peer's entry waits for its answer
pub requested : {C R : Type 0} (x : Given) (own : ℕ) (e e1 e' : Engine C R) (r : StepResult) (n : ℕ) (lead : Lead) (entry : ProgressEntry ℕ) (id : ℕ) (req : Inflight ℕ)
    → IsWholeStepOf x own e r → r.state.role ≡ Leader lead → e1.state ≡ e.state → IsStoredRequest r.state.stored req → peer_of lead n ≡ peer_state n entry → id ≡ entry.curr_inflight_id + 1 → req ≡ request_for r.state.stored (peer_state n entry) r.state.stored.snapshot
    → IsStateOf own e1 (with_known (peer_state n (record entry { curr_inflight_id = id; inflight = req })) lead r.state) → e1.output ≡ e.output → e'.seen_greater_log ≡ e.seen_greater_log
    → e'.config ≡ e1.config → e'.leader ≡ e1.leader → e'.candidate ≡ e1.candidate → e'.state ≡ e1.state → e'.output ≡ record e1.output { queue = e1.output.queue ++ Replicate n req ∷ [] }
    → IsWholeStepOf x own e' (send_request own (peer_of lead n) lead r.state.stored.snapshot r)
requested {C} {R} x own e e1 e' r n lead entry id req step is_lead same whole peer number request state output seen config leader candidate known pushed =
    let s = r.state.stored in
    let next = request_for s (peer_state n entry) s.snapshot in
    let waits : record entry { curr_inflight_id = id; inflight = req } ≡ waiting_for entry next =
    ap (λ k. record entry { curr_inflight_id = k; inflight = req }) number ∙ ap (waiting_for entry) request in
    let done : IsStateOf own e1 (with_known (peer_state n (waiting_for entry next)) lead r.state) =
    subst (λ w. IsStateOf own e1 (with_known (peer_state n w) lead r.state)) waits state in
    let all : send_request own (peer_of lead n) lead s.snapshot r ≡ sent_as own n entry lead r next =
    ap (λ p. send_request own p lead s.snapshot r) peer ∙ request-sent own n entry lead r s.snapshot step.state.order.placed refl in
    let mine = leads_by own e.leader e.candidate s lead (subst (PlaysRole own e.leader e.candidate s) is_lead step.state.role) in
    subst (IsWholeStepOf x own e') (sym all)
    (whole_known x own e e' r step (peer_state n (waiting_for entry next)) lead (Replicate n req) (request_to own s (committed_id r.state) n next) is_lead
    (same_state own e1 e' (with_known (peer_state n (waiting_for entry next)) lead r.state) done config leader candidate known)
    seen (known ∙ same) (pushed ∙ ap (λ (o : Output C (List ℕ) R ℕ (List ℕ)). record o { queue = o.queue ++ Replicate n req ∷ [] }) output) refl refl tt (mine.0, mine.1, whole) refl (ap (request_to own s (committed_id r.state) n) request))

-- how a peer of a leader is served
pub served : (own n : ℕ) (news busy : Bool) (lead : Lead) (role : Role) (entry : ProgressEntry ℕ) (r : StepResult) → role ≡ Leader lead → peer_of lead n ≡ peer_state n entry
    → (is_none (request_id entry.inflight) && lacks_entries r.state.stored (peer_state n entry)) ≡ busy
    → serve_as own news n role r
    ≡ (if busy then send_request own (peer_of lead n) lead r.state.stored.snapshot r else if news then send own n (notice r.state (peer_of lead n)) r else r)
served own n news busy lead role entry r is_lead peer test =
    let p = peer_of lead n in
    let request = send_request own p lead r.state.stored.snapshot r in
    let asked : (is_none p.outstanding && lacks_entries r.state.stored p) ≡ busy =
    ap (λ (q : PeerState). is_none q.outstanding && lacks_entries r.state.stored q) peer
    ∙ ap (λ b. b && lacks_entries r.state.stored (peer_state n entry)) (none_outstanding entry.inflight) ∙ test in
    ap (λ k. serve_as own news n k r) is_lead
    ∙ ap (λ b. if b then request else if news then send own p.peer (notice r.state p) r else r) asked
    ∙ ap (λ m. if busy then request else if news then send own m (notice r.state p) r else r) (ap (λ (q : PeerState). q.peer) peer)

-- without a leader none is served
pub unserved : (own n : ℕ) (news : Bool) (c : Option (CandidateValue ℕ EffectiveMembership)) (s : StoredGroup) (role : Role) (r : StepResult) → PlaysRole own None c s role → serve_as own news n role r ≡ r
unserved own n news c s role r h = by_no_lead (λ k. serve_as own news n k r ≡ r) refl (λ _. refl) own c s role h

-- ---- all are served

served_stored : (own n : ℕ) (news : Bool) (role : Role) (r : StepResult) → (serve_as own news n role r).state.stored ≡ r.state.stored
served_stored own n news Follower r = refl
served_stored own n news (Candidate granters) r = refl
served_stored own n news (Leader lead) r =
    elim (is_none (peer_of lead n).outstanding && lacks_entries r.state.stored (peer_of lead n)) as (λ b.
    (if b then send_request own (peer_of lead n) lead r.state.stored.snapshot r else if news then send own (peer_of lead n).peer (notice r.state (peer_of lead n)) r else r).state.stored ≡ r.state.stored) [
      | true ↦ requested_stored r.state.stored.snapshot
      | false ↦ elim news as (λ b. (if b then send own (peer_of lead n).peer (notice r.state (peer_of lead n)) r else r).state.stored ≡ r.state.stored) [ true ↦ refl | false ↦ refl ]
    ]
  where
    requested_stored : (o : Option Snapshot) → (send_request own (peer_of lead n) lead o r).state.stored ≡ r.state.stored
    requested_stored None = refl
    requested_stored (Some x) =
        elim (nat_lt (peer_of lead n).search (first_place r.state.stored)) as (λ b.
        (if b then send_snapshot own (peer_of lead n) lead x r else send_entries own (peer_of lead n) lead r).state.stored ≡ r.state.stored) [ true ↦ refl | false ↦ refl ]

-- room for one request less
fewer : (k : ℕ) (role : Role) → NumbersLeft (k + 1) role → NumbersLeft k role
fewer k Follower h = tt
fewer k (Candidate granters) h = tt
fewer k (Leader lead) h = λ m. let some : (peer_of lead m).next_id + (k + 1) ≤ 2 ^ 64 = h m in omega arith

-- one that waits took a number
took : (k : ℕ) (lead : Lead) (p q : PeerState) → NumbersLeft (k + 1) (Leader lead) → p.next_id + (k + 1) ≤ 2 ^ 64 → q.next_id ≡ p.next_id + 1
    → NumbersLeft k (Leader (record lead { peers = with_peer q lead.peers }))
took k lead p q h l e = λ m.
    elim (q.peer == m) as (λ b. (q.peer == m) ≡ b → (peer_or (new_peer lead.began m) (with_peer q lead.peers)).next_id + k ≤ 2 ^ 64) [
      | true ↦ λ t.
          let found : peer_or (new_peer lead.began m) (with_peer q lead.peers) ≡ q = with_peer-found q (new_peer lead.began m) lead.peers (eqb-true q.peer m t) in
          rw found (omega (arith, l, e))
      | false ↦ λ f.
          let same : peer_or (new_peer lead.began m) (with_peer q lead.peers) ≡ peer_of lead m = with_peer-others q (new_peer lead.began m) lead.peers f in
          let some : (peer_of lead m).next_id + (k + 1) ≤ 2 ^ 64 = h m in
          rw same (omega (arith, some))
    ] refl

served_numbers : (k own n : ℕ) (news : Bool) (role : Role) (r : StepResult) → role ≡ r.state.role → NumbersLeft (k + 1) role → NumbersLeft k (serve_as own news n role r).state.role
served_numbers k own n news Follower r e h = subst (NumbersLeft k) e tt
served_numbers k own n news (Candidate granters) r e h = subst (NumbersLeft k) e tt
served_numbers k own n news (Leader lead) r e h =
    elim (is_none (peer_of lead n).outstanding && lacks_entries r.state.stored (peer_of lead n)) as (λ b.
    NumbersLeft k (if b then send_request own (peer_of lead n) lead r.state.stored.snapshot r else if news then send own (peer_of lead n).peer (notice r.state (peer_of lead n)) r else r).state.role) [
      | true ↦ requested_numbers r.state.stored.snapshot
      | false ↦ elim news as (λ b. NumbersLeft k (if b then send own (peer_of lead n).peer (notice r.state (peer_of lead n)) r else r).state.role) [ true ↦ rest | false ↦ rest ]
    ]
  where
    rest : NumbersLeft k r.state.role
    rest = subst (NumbersLeft k) e (fewer k (Leader lead) h)

    requested_numbers : (o : Option Snapshot) → NumbersLeft k (send_request own (peer_of lead n) lead o r).state.role
    requested_numbers None = took k lead (peer_of lead n) (waiting (peer_of lead n) _ _ false) h (h n) refl
    requested_numbers (Some x) =
        elim (nat_lt (peer_of lead n).search (first_place r.state.stored)) as (λ b.
        NumbersLeft k (if b then send_snapshot own (peer_of lead n) lead x r else send_entries own (peer_of lead n) lead r).state.role) [
          | true ↦ took k lead (peer_of lead n) (waiting (peer_of lead n) None (Some x.last) true) h (h n) refl
          | false ↦ took k lead (peer_of lead n) (waiting (peer_of lead n) _ _ false) h (h n) refl
        ]

pub room_served : (k own n : ℕ) (news : Bool) (r : StepResult) → HasRoomFor (k + 1) r.state → HasRoomFor k (serve_as own news n r.state.role r).state
room_served k own n news r room = record {
  places = subst (λ (s : StoredGroup). end_place s < 2 ^ 64) (sym (served_stored own n news r.state.role r)) room.places;
  numbers = served_numbers k own n news r.state.role r refl room.numbers;
}

pub all_stored : (own : ℕ) (news : Bool) (ns : List ℕ) (r : StepResult) → (serve_all own news ns r).state.stored ≡ r.state.stored
all_stored own news [] r = refl
all_stored own news (n ∷ ns) r = all_stored own news ns (serve_as own news n r.state.role r) ∙ served_stored own n news r.state.role r

pub room_left : (k own : ℕ) (news : Bool) (ns : List ℕ) (r : StepResult) → HasRoomFor (k + length ns) r.state → HasRoomFor k (serve_all own news ns r).state
room_left k own news [] r room = let none : k + 0 ≡ k = omega arith in subst (λ j. HasRoomFor j r.state) none room
room_left k own news (n ∷ ns) r room =
    let more : k + suc (length ns) ≡ k + length ns + 1 = omega arith in
    room_left k own news ns (serve_as own news n r.state.role r) (room_served (k + length ns) own n news r (subst (λ j. HasRoomFor j r.state) more room))

-- one more is served behind the others
pub serve_one_more : (own : ℕ) (news : Bool) (ns : List ℕ) (n : ℕ) (r : StepResult)
    → serve_all own news (ns ++ n ∷ []) r ≡ serve_as own news n (serve_all own news ns r).state.role (serve_all own news ns r)
serve_one_more own news [] n r = refl
serve_one_more own news (m ∷ ns) n r = serve_one_more own news ns n (serve_as own news m r.state.role r)

-- without a leader none are
pub all_unserved : (own : ℕ) (news : Bool) (ns : List ℕ) (c : Option (CandidateValue ℕ EffectiveMembership)) (s : StoredGroup) (r : StepResult) → PlaysRole own None c s r.state.role → serve_all own news ns r ≡ r
all_unserved own news [] c s r h = refl
all_unserved own news (n ∷ ns) c s r h = ap (serve_all own news ns) (unserved own n news c s r.state.role r h) ∙ all_unserved own news ns c s r h

-- ---- what a walk over the members needs

pub some_is : {X : Type 0} (o : Option X) → is_some o ≡ true → (x : X) × (o ≡ Some x)
some_is None h = absurd (true≢false (sym h))
some_is (Some x) h = (x, refl)

-- room for more is room for less
lower : (j k : ℕ) (role : Role) → j ≤ k → NumbersLeft k role → NumbersLeft j role
lower j k Follower l h = tt
lower j k (Candidate granters) l h = tt
lower j k (Leader lead) l h = λ m. let some : (peer_of lead m).next_id + k ≤ 2 ^ 64 = h m in omega arith

pub less_room : (j k : ℕ) (s : GroupState) → j ≤ k → HasRoomFor k s → HasRoomFor j s
less_room j k s l room = record { places = room.places; numbers = lower j k s.role l room.numbers }

pub each_passes : (test : ℕ → Bool) (ns : List ℕ) (i d : ℕ) → list_all test ns ≡ true → i < length ns → test (get_or ns i d) ≡ true
each_passes test [] i d h l = absurd (omega arith)
each_passes test (n ∷ ns) zero d h l = and_left (test n) (list_all test ns) h
each_passes test (n ∷ ns) (suc i) d h l = each_passes test ns i d (and_right (test n) (list_all test ns) h) (omega arith)

others_among : (test : ℕ → Bool) (ns all : List ℕ) → ((m : ℕ) → has_id ns m ≡ true → has_id all m ≡ true) → list_all (has_id all) (filter test ns) ≡ true
others_among test [] all h = refl
others_among test (n ∷ ns) all h =
    let rest = others_among test ns all (λ m k. h m (or_right (nat_eq n m) (has_id ns m) k)) in
    elim (test n) as (λ b. list_all (has_id all) (cond b (n ∷ filter test ns) (filter test ns)) ≡ true) [
      | true ↦ ap (λ b. b && list_all (has_id all) (filter test ns)) (h n (or_left (nat_eq n n) (has_id ns n) (eq-eqb n n refl))) ∙ rest
      | false ↦ rest
    ]

-- the other nodes are members
pub others-members : (own : ℕ) (s : StoredGroup) → list_all (has_id (ids_of (membership_in_force s))) (other_ids own s) ≡ true
others-members own s = others_among (λ n. if n == own then false else true) (ids_of (membership_in_force s)) (ids_of (membership_in_force s)) (λ m k. k)

-- ---- notices to all

pub told_state : (own : ℕ) (lead : Lead) (ns : List ℕ) (r : StepResult) → (send_notices own lead ns r).state ≡ r.state
told_state own lead [] r = refl
told_state own lead (n ∷ ns) r = told_state own lead ns (send own n (notice r.state (peer_of lead n)) r)

pub tell_one_more : (own : ℕ) (lead : Lead) (ns : List ℕ) (n : ℕ) (r : StepResult)
    → send_notices own lead (ns ++ n ∷ []) r ≡ send own n (notice (send_notices own lead ns r).state (peer_of lead n)) (send_notices own lead ns r)
tell_one_more own lead [] n r = refl
tell_one_more own lead (m ∷ ns) n r = tell_one_more own lead ns n (send own m (notice r.state (peer_of lead m)) r)

pub untold : (own : ℕ) (c : Option (CandidateValue ℕ EffectiveMembership)) (s : StoredGroup) (role : Role) (r : StepResult) → PlaysRole own None c s role → beat_as own role r ≡ r
untold own c s role r h = by_no_lead (λ k. beat_as own k r ≡ r) refl (λ _. refl) own c s role h

-- ---- what a leader learns

module _ (n : ℕ) (lead : Lead) (role : Role) (entry : ProgressEntry ℕ) (r : StepResult) (is_lead : role ≡ Leader lead) (peer : peer_of lead n ≡ peer_state n entry) where
  -- a request that is lost
  pub lost-is : (busy : Bool) → is_none (request_id entry.inflight) ≡ not busy
      → lost_as n role r ≡ (if busy then with_peer_state (peer_state n (record entry { inflight = Nothing })) lead r else r)
  lost-is busy h =
      let some : is_some (peer_of lead n).outstanding ≡ busy =
      ap (λ (p : PeerState). is_some p.outstanding) peer ∙ some_outstanding entry.inflight (not busy) h ∙ not_twice busy in
      ap (λ k. lost_as n k r) is_lead
      ∙ ap (λ b. if b then with_peer_state (ended (peer_of lead n)) lead r else r) some
      ∙ ap (λ p. if busy then with_peer_state (ended p) lead r else r) peer
    where
      not_twice : (b : Bool) → not (not b) ≡ b
      not_twice true = refl
      not_twice false = refl

  -- an answer
  pub answer-is : (reply : ReplyFields) (counts : Bool) → (vote_eq reply.vote r.state.stored.vote && is_answer_to reply (outstanding_of entry.inflight)) ≡ counts
      → answered n reply role r ≡ (if counts then with_peer_state (after_answer (peer_state n entry) reply reply.outcome) lead r else r)
  answer-is reply counts h =
      ap (λ k. answered n reply k r) is_lead
      ∙ ap (λ b. if b then with_peer_state (after_answer (peer_of lead n) reply reply.outcome) lead r else r)
      (ap (λ (p : PeerState). vote_eq reply.vote r.state.stored.vote && is_answer_to reply p.outstanding) peer ∙ h)
      ∙ ap (λ p. if counts then with_peer_state (after_answer p reply reply.outcome) lead r else r) peer

-- what is answered was on its way
pub answered_busy : (reply : ReplyFields) (i : Inflight ℕ) → is_answer_to reply (outstanding_of i) ≡ true → is_none (request_id i) ≡ false
answered_busy reply Nothing h = absurd (true≢false (sym h))
answered_busy reply (Logs id range) h = refl
answered_busy reply (SnapshotInFlight id last) h = refl

-- who has asked is known
pub known-busy : (l : LeaderValue ℕ EffectiveMembership) (o : Option (LeaderValue ℕ EffectiveMembership)) (n : ℕ) (entry : ProgressEntry ℕ) → o ≡ Some l → entry ≡ peer_at nat_eq l n
    → is_none (request_id entry.inflight) ≡ false → HasPeer n o
known-busy l o n entry some e h =
    subst (HasPeer n) (sym some) (busy_has l n (ap (λ (p : ProgressEntry ℕ). is_none (request_id p.inflight)) (sym e) ∙ h))

-- without a greater vote none is taken over
pub no_higher : (outcome : AppendEntriesResponse ℕ) (r : StepResult) → ((vote : Vote ℕ) → outcome ≡ HasHigherVote vote → ⊥) → with_higher_vote (outcome_of outcome) r ≡ r
no_higher Accepted r h = refl
no_higher (PartialSuccess last) r h = refl
no_higher Differs r h = refl
no_higher (HasHigherVote vote) r h = absurd (h vote refl)
