-- What changes of an engine leave of the state and step that it stands for.
use Rattle.std.specs.Prelude.{◌≡◌, ℕ, List, [], ◌∷◌, ◌++◌, Option, Some, None, is_some, true, false, refl}
use Rattle.std.proofs.Common.{ap, sym, ◌∙◌, subst}
use Rattle.raft_values.specs.declared.vote.Vote.{Vote}
use Rattle.raft_values.specs.declared.log_id.LogId.{LogId}
use Rattle.raft_values.specs.LogId.{place_of}
use Rattle.raft_state.specs.declared.raft_state.RaftState.{RaftState}
use Rattle.raft_group_step.specs.StoredGroup.{StoredGroup, SetVote, after_storing, membership_in_force}
use Rattle.raft_group_step.specs.GroupState.{GroupState, Role, Follower, Candidate, Leader, Untold, is_leader}
use Rattle.raft_group_step.specs.StepResult.{StepResult, store_vote, renew, step_down}
use Rattle.raft_group_step.specs.Message.{Message}
use Rattle.raft_group_step.specs.Frames.{committed_id}
use Rattle.raft_group_step.specs.Refusal.{is_voter_in}
use Rattle.raft_commands.specs.declared.command.Command.TheVariants.{QuitLeader, SaveVote}
use Rattle.raft_known_state.specs.KnownState.{AreUpToTerm, KnownState, Knows, committed_membership, entry_ids, with_goal}
use Rattle.raft_leaders.specs.Candidate.{CandidateValue}
use Rattle.raft_leaders.specs.Leader.{LeaderValue}
use Rattle.std.specs.List.{All, flat_map}
use Rattle.std.specs.Option.{option_or}
use Rattle.raft_engine.specs.Answering.{NeedsNoOther}
use Rattle.raft_engine.specs.ServerStates.{part_in}
use Rattle.raft_commands.specs.Output.{Output}
use Rattle.raft_engine.specs.Numbering.{NumbersFollow, number_in}
use Rattle.raft_engine.specs.Commands.{Command, storing_of, sending_of, stored_by, sent_by}
use Rattle.raft_engine.specs.Standing.{EffectiveMembership, Engine, Given, IsInOrder, IsStateOf, IsStepOf, IsWholeStepOf, PlaysRole, basis_before, basis_of}
use Rattle.raft_engine.specs.Ordering.{RestsOn}
use Rattle.raft_engine.specs.Turns.{turns_of}
use Rattle.raft_engine.proofs.CommandLemmas.{at_once_more, numbers_kept, sends_more, sends_same, stores_more, stores_same}
use Rattle.raft_engine.proofs.CommittingLemmas.{moves_kept, moves_same, unmoved}
use Rattle.raft_engine.proofs.OrderingLemmas.{rests_kept, rests_same, rests_stored}
use Rattle.raft_engine.proofs.TurnLemmas.{ended_turns, led_role, turns_kept, turns_same, unled_role, voted_turns}

abbrev StateOf : Type 0
StateOf = RaftState ℕ (List ℕ) ℕ

-- another vote, moment, role, wish or token leaves the places in order
pub order_kept : (s : GroupState) (vote : Vote ℕ) (now : ℕ) (role : Role) (renewed wish : Option ℕ) (untold : List Untold) → IsInOrder s
    → IsInOrder (record s { stored = record s.stored { vote = vote }; now = now; role = role; renewed = renewed; wish = wish; untold = untold })
order_kept s vote now role renewed wish untold o =
    record { placed = o.placed; purged = o.purged; snapshot = o.snapshot; committed = o.committed; applied = o.applied; within = o.within }

-- a follower stays one, whatever is stored
pub still_follows : (own : ℕ) (l : Option (LeaderValue ℕ EffectiveMembership)) (c : Option (CandidateValue ℕ EffectiveMembership)) (s s' : StoredGroup) (role : Role)
    → role ≡ Follower → PlaysRole own l c s role → PlaysRole own l c s' role
still_follows own None None s s' Follower e h = tt
still_follows own None (Some c) s s' Follower e h = absurd h
still_follows own (Some l) c s s' Follower e h = absurd h
still_follows own l c s s' (Candidate granters) e h = cc
still_follows own l c s s' (Leader lead) e h = cc

module _ {C R : Type 0} (x : Given) (own : ℕ) (e e' : Engine C R) (r : StepResult) (step : IsStepOf x own e r) where
  -- a follower's vote is stored
  pub vote_stored : (vote : Vote ℕ) → r.state.role ≡ Follower → e'.config ≡ e.config → e'.seen_greater_log ≡ e.seen_greater_log → e'.leader ≡ e.leader → e'.candidate ≡ e.candidate
      → Knows e'.state (after_storing (SetVote vote) r.state.stored) → e'.state.state ≡ record e.state.state { vote = record { value = vote; utime = Some r.state.now } } → e'.state.wish ≡ e.state.wish
      → e'.output ≡ record e.output { queue = e.output.queue ++ SaveVote vote ∷ [] } → IsStepOf x own e' (store_vote vote r)
  vote_stored vote follows config seen leader candidate knows state wish output =
      let old = step.state in
      let queue = ap (λ (o : Output C (List ℕ) R ℕ (List ℕ)). o.queue) output in
      record {
        state = record {
          config = config ∙ old.config;
          knows = knows;
          renewed = ap (λ (y : StateOf). y.vote.utime) state;
          committed = ap (λ (y : StateOf). y.committed) state ∙ old.committed;
          wish = ap place_of wish ∙ old.wish;
          role = still_follows own e'.leader e'.candidate r.state.stored (record r.state.stored { vote = vote }) r.state.role follows
              (subst (λ l. PlaysRole own l e'.candidate r.state.stored r.state.role) (sym leader) (subst (λ c. PlaysRole own e.leader c r.state.stored r.state.role) (sym candidate) old.role));
          order = order_kept r.state vote r.state.now r.state.role (Some r.state.now) r.state.wish r.state.untold old.order;
        };
        stores = ap (λ q. flat_map (storing_of x.snapshot) q) queue ∙ stores_more e.output.queue (SaveVote vote) x.snapshot r.commands (SetVote vote ∷ []) step.stores refl;
        sends = λ s upto. ap (λ q. flat_map (sending_of own s upto) q) queue ∙ sends_same e.output.queue (SaveVote vote) own s upto r.messages (step.sends s upto) refl;
        seen = seen ∙ step.seen;
        numbers = numbers_kept x.last_sm_seq e.output e'.output (SaveVote vote) step.numbers output refl;
        moves = moves_kept x.committed_before e.state.state.committed e'.state.state.committed e.output.queue e'.output.queue step.moves (SaveVote vote) queue refl (ap (λ (y : StateOf). y.committed) state);
        at_once = at_once_more e.output.queue (SaveVote vote) e'.output.queue queue step.at_once tt;
        rests = rests_stored own x.snapshot (basis_before x) e.output.queue e'.output.queue r.state.stored e.state.state.committed step.rests (SaveVote vote) tt queue e'.state.state.committed (SetVote vote) refl refl (ap (λ (y : StateOf). y.committed) state);
        turns = voted_turns x.turn_before e.output.queue e'.output.queue (is_leader r.state.role) step.turns (SaveVote vote) queue refl (ap is_leader follows);
      }

  -- the vote in force is heard of at this moment
  pub vote_renewed : e'.config ≡ e.config → e'.seen_greater_log ≡ e.seen_greater_log → e'.leader ≡ e.leader → e'.candidate ≡ e.candidate → e'.output ≡ e.output
      → e'.state ≡ record e.state { state = record e.state.state { vote = record e.state.state.vote { utime = Some r.state.now } } } → IsStepOf x own e' (renew r)
  vote_renewed config seen leader candidate output state =
      let old = step.state in
      record {
        state = record {
          config = config ∙ old.config;
          knows = record {
            vote = ap (λ (y : KnownState). y.state.vote.value) state ∙ old.knows.vote;
            ids = ap (λ (y : KnownState). y.state.log_ids) state ∙ old.knows.ids;
            terms = subst (λ (y : KnownState). AreUpToTerm y.highest_term (entry_ids r.state.stored.log)) (sym state) old.knows.terms;
            purged = ap (λ (y : KnownState). y.state.purged_next) state ∙ old.knows.purged;
            snapshot = ap (λ (y : KnownState). y.state.snapshot_meta) state ∙ old.knows.snapshot;
            memberships = ap (λ (y : KnownState). y.memberships) state ∙ old.knows.memberships;
            in_force = ap (λ (y : KnownState). y.state.membership_state.effective) state ∙ old.knows.in_force;
            last_committed =
                ap (λ (y : KnownState). y.state.membership_state.committed) state ∙ old.knows.last_committed
                ∙ ap (λ (y : KnownState). committed_membership r.state.stored y.state.committed) (sym state);
            goal = ap (λ (y : KnownState). y.state.purge_upto) state ∙ old.knows.goal ∙ ap (λ (y : KnownState). option_or y.wish r.state.stored.purged) (sym state);
          };
          renewed = ap (λ (y : KnownState). y.state.vote.utime) state;
          committed = ap (λ (y : KnownState). y.state.committed) state ∙ old.committed;
          wish = ap (λ (y : KnownState). place_of y.wish) state ∙ old.wish;
          role = subst (λ l. PlaysRole own l e'.candidate r.state.stored r.state.role) (sym leader) (subst (λ c. PlaysRole own e.leader c r.state.stored r.state.role) (sym candidate) old.role);
          order = order_kept r.state r.state.stored.vote r.state.now r.state.role (Some r.state.now) r.state.wish r.state.untold old.order;
        };
        stores = ap (λ (o : Output C (List ℕ) R ℕ (List ℕ)). stored_by x.snapshot o.queue) output ∙ step.stores;
        sends = λ s upto. ap (λ (o : Output C (List ℕ) R ℕ (List ℕ)). sent_by own s upto o.queue) output ∙ step.sends s upto;
        seen = seen ∙ step.seen;
        numbers = subst (NumbersFollow x.last_sm_seq) (sym output) step.numbers;
        moves =
            moves_same x.committed_before e.state.state.committed e'.state.state.committed e.output.queue e'.output.queue step.moves
            (ap (λ (o : Output C (List ℕ) R ℕ (List ℕ)). o.queue) output) (ap (λ (y : KnownState). y.state.committed) state);
        at_once = subst (λ (o : Output C (List ℕ) R ℕ (List ℕ)). All NeedsNoOther o.queue) (sym output) step.at_once;
        rests = rests_same own x.snapshot (basis_before x) e.output.queue e'.output.queue r.state.stored e.state.state.committed step.rests e'.state.state.committed (ap (λ (o : Output C (List ℕ) R ℕ (List ℕ)). o.queue) output) (ap (λ (y : KnownState). y.state.committed) state);
        turns = turns_same x.turn_before e.output.queue e'.output.queue (is_leader r.state.role) step.turns (is_leader r.state.role) (ap (λ (o : Output C (List ℕ) R ℕ (List ℕ)). o.queue) output) refl;
      }

  -- what is sent and stores nothing goes behind the rest
  pub sent_more : (c : Command C R) (more : List Message) → e'.config ≡ e.config → e'.seen_greater_log ≡ e.seen_greater_log → e'.leader ≡ e.leader → e'.candidate ≡ e.candidate → e'.state ≡ e.state
      → e'.output ≡ record e.output { queue = e.output.queue ++ c ∷ [] } → storing_of x.snapshot c ≡ [] → number_in c ≡ [] → NeedsNoOther c → RestsOn own x.snapshot (basis_of e r.state) c → turns_of c ≡ [] → ((s : StoredGroup) (upto : Option (LogId ℕ)) → sending_of own s upto c ≡ more)
      → IsStepOf x own e' (record r { messages = r.messages ++ more })
  sent_more c more config seen leader candidate state output none silent needs on turnless sends =
      let old = step.state in
      let queue = ap (λ (o : Output C (List ℕ) R ℕ (List ℕ)). o.queue) output in
      record {
        state = record {
          config = config ∙ old.config;
          knows = subst (λ k. Knows k r.state.stored) (sym state) old.knows;
          renewed = ap (λ (y : KnownState). y.state.vote.utime) state ∙ old.renewed;
          committed = ap (λ (y : KnownState). y.state.committed) state ∙ old.committed;
          wish = ap (λ (y : KnownState). place_of y.wish) state ∙ old.wish;
          role = subst (λ l. PlaysRole own l e'.candidate r.state.stored r.state.role) (sym leader) (subst (λ d. PlaysRole own e.leader d r.state.stored r.state.role) (sym candidate) old.role);
          order = old.order;
        };
        stores = ap (λ q. flat_map (storing_of x.snapshot) q) queue ∙ stores_same e.output.queue c x.snapshot r.commands step.stores none;
        sends = λ s upto. ap (λ q. flat_map (sending_of own s upto) q) queue ∙ sends_more e.output.queue c own s upto r.messages more (step.sends s upto) (sends s upto);
        seen = seen ∙ step.seen;
        numbers = numbers_kept x.last_sm_seq e.output e'.output c step.numbers output silent;
        moves = moves_kept x.committed_before e.state.state.committed e'.state.state.committed e.output.queue e'.output.queue step.moves c queue (unmoved c silent) (ap (λ (y : KnownState). y.state.committed) state);
        at_once = at_once_more e.output.queue c e'.output.queue queue step.at_once needs;
        rests = rests_kept own x.snapshot (basis_before x) e.output.queue e'.output.queue r.state.stored e.state.state.committed step.rests c on queue e'.state.state.committed none silent (ap (λ (y : KnownState). y.state.committed) state);
        turns = turns_kept x.turn_before e.output.queue e'.output.queue (is_leader r.state.role) step.turns c queue turnless;
      }

module _ {C R : Type 0} (x : Given) (own : ℕ) (e e' : Engine C R) (r : StepResult) (step : IsStepOf x own e r) (config : e'.config ≡ e.config) (seen : e'.seen_greater_log ≡ e.seen_greater_log)
    (leader : e'.leader ≡ None) (candidate : e'.candidate ≡ None) (upto : Option (LogId ℕ)) (knows : Knows e'.state r.state.stored) (state : e'.state ≡ with_goal e.state None upto) where
  -- a node that follows from now on
  follows_now : IsStateOf own e' (step_down r).state
  follows_now =
      let old = step.state in
      record {
        config = config ∙ old.config;
        knows = knows;
        renewed = ap (λ (y : KnownState). y.state.vote.utime) state ∙ old.renewed;
        committed = ap (λ (y : KnownState). y.state.committed) state ∙ old.committed;
        wish = ap (λ (y : KnownState). place_of y.wish) state;
        role = subst (λ l. PlaysRole own l e'.candidate r.state.stored Follower) (sym leader) (subst (λ c. PlaysRole own None c r.state.stored Follower) (sym candidate) tt);
        order = order_kept r.state r.state.stored.vote r.state.now Follower r.state.renewed None [] old.order;
      }

  -- one that didn't lead tells of nothing
  pub stepped_down : is_some e.leader ≡ false → e'.output ≡ e.output → IsStepOf x own e' (step_down r)
  stepped_down none output =
      let queue = ap (λ (o : Output C (List ℕ) R ℕ (List ℕ)). o.queue) output in
      record {
        state = follows_now;
        stores = ap (λ q. stored_by x.snapshot q) queue ∙ step.stores;
        sends = λ s upto. ap (λ q. sent_by own s upto q) queue ∙ step.sends s upto;
        seen = seen ∙ step.seen;
        numbers = subst (NumbersFollow x.last_sm_seq) (sym output) step.numbers;
        moves = moves_same x.committed_before e.state.state.committed e'.state.state.committed e.output.queue e'.output.queue step.moves queue (ap (λ (y : KnownState). y.state.committed) state);
        at_once = subst (λ q. All NeedsNoOther q) (sym queue) step.at_once;
        rests = rests_same own x.snapshot (basis_before x) e.output.queue e'.output.queue r.state.stored e.state.state.committed step.rests e'.state.state.committed queue (ap (λ (y : KnownState). y.state.committed) state);
        turns = turns_same x.turn_before e.output.queue e'.output.queue (is_leader r.state.role) step.turns false queue (sym (role_without e.leader step.state.role none));
      }
    where
      role_without : (l : Option (LeaderValue ℕ EffectiveMembership)) → PlaysRole own l e.candidate r.state.stored r.state.role → is_some l ≡ false → is_leader r.state.role ≡ false
      role_without None plays h = unled_role own e.candidate r.state.stored r.state.role plays
      role_without (Some l) plays h = cc h

  -- one that led tells that its lead has ended
  pub lead_ended : is_some e.leader ≡ true → e'.output ≡ record e.output { queue = e.output.queue ++ QuitLeader ∷ [] } → IsStepOf x own e' (step_down r)
  lead_ended some output =
      let queue = ap (λ (o : Output C (List ℕ) R ℕ (List ℕ)). o.queue) output in
      record {
        state = follows_now;
        stores = ap (λ q. flat_map (storing_of x.snapshot) q) queue ∙ stores_same e.output.queue QuitLeader x.snapshot r.commands step.stores refl;
        sends = λ s upto. ap (λ q. flat_map (sending_of own s upto) q) queue ∙ sends_same e.output.queue QuitLeader own s upto r.messages (step.sends s upto) refl;
        seen = seen ∙ step.seen;
        numbers = numbers_kept x.last_sm_seq e.output e'.output QuitLeader step.numbers output refl;
        moves = moves_kept x.committed_before e.state.state.committed e'.state.state.committed e.output.queue e'.output.queue step.moves QuitLeader queue refl (ap (λ (y : KnownState). y.state.committed) state);
        at_once = at_once_more e.output.queue QuitLeader e'.output.queue queue step.at_once tt;
        rests = rests_kept own x.snapshot (basis_before x) e.output.queue e'.output.queue r.state.stored e.state.state.committed step.rests QuitLeader tt queue e'.state.state.committed refl refl (ap (λ (y : KnownState). y.state.committed) state);
        turns = ended_turns x.turn_before e.output.queue e'.output.queue (is_leader r.state.role) step.turns queue (role_with e.leader step.state.role some);
      }
    where
      role_with : (l : Option (LeaderValue ℕ EffectiveMembership)) → PlaysRole own l e.candidate r.state.stored r.state.role → is_some l ≡ true → is_leader r.state.role ≡ true
      role_with None plays h = cc h
      role_with (Some l) plays h = led_role own l e.candidate r.state.stored r.state.role plays

-- the same queue with a message more
pub queued : {C R : Type 0} (x : Given) (own : ℕ) (e : Engine C R) (r : StepResult) (c : Command C R) (more : List Message) → IsStepOf x own e r → storing_of x.snapshot c ≡ [] → number_in c ≡ [] → NeedsNoOther c → RestsOn own x.snapshot (basis_of e r.state) c → turns_of c ≡ []
    → ((s : StoredGroup) (upto : Option (LogId ℕ)) → sending_of own s upto c ≡ more)
    → IsStepOf x own (record e { output = record e.output { queue = e.output.queue ++ c ∷ [] } }) (record r { messages = r.messages ++ more })
queued x own e r c more step none silent needs on turnless sends =
    sent_more x own e (record e { output = record e.output { queue = e.output.queue ++ c ∷ [] } }) r step c more refl refl refl refl refl refl none silent needs on turnless sends

-- a step whose messages have what is stored later has what is stored now
pub step_as_whole : {C R : Type 0} (x : Given) (own : ℕ) (e : Engine C R) (r : StepResult) → IsStepOf x own e r
    → e.state.state.server_state ≡ part_in r.state.role (is_voter_in (membership_in_force r.state.stored) own) → IsWholeStepOf x own e r
step_as_whole x own e r step part =
    record { state = step.state; stores = step.stores; sends = step.sends r.state.stored (committed_id r.state); seen = step.seen; numbers = step.numbers; moves = step.moves; at_once = step.at_once; rests = step.rests; turns = step.turns; part = part }
