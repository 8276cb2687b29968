-- How a lead begins.
use Rattle.std.specs.Prelude.{◌≡◌, ℕ, true, ◌||◌, nat_eq, cond, ◌≤◌, List, [], ◌∷◌, ◌++◌, Option, Some, None, unwrap_or, Result, Ok, Err, IfOk, refl, ◌⊎◌}
use Rattle.std.specs.Ordering.{nat_cmp}
use Rattle.std.proofs.Common.{sym, ap, ◌∙◌, subst, arith, false, inl, inr}
use Rattle.std.proofs.Math.Bool.{true≢false}
use Rattle.raft_values.specs.declared.vote.Vote.{Vote}
use Rattle.raft_values.specs.declared.vote.LeaderId.{LeaderId}
use Rattle.raft_values.specs.declared.log_id.LogId.{LogId}
use Rattle.raft_values.specs.LogId.{next_place}
use Rattle.raft_log_ids.specs.LogIdList.{PlacesRise, ids_of, last_id}
use Rattle.raft_membership.specs.Membership.{voter_ids, learner_ids}
use Rattle.raft_progress.specs.Parts.{value_of}
use Rattle.raft_group_step.specs.Values.{LoggedMembership, has_id, leader_eq}
use Rattle.raft_group_step.specs.StoredGroup.{StoredGroup, end_place, membership_in_force}
use Rattle.raft_group_step.specs.StoredGroup.{last_id as last_stored_id}
use Rattle.raft_group_step.specs.Lead.{ids_of as member_ids, new_lead}
use Rattle.raft_known_state.specs.KnownState.{KnownState, Knows, IsPlaced, effective_of, entry_ids, ids_of_leader, stored_ids}
use Rattle.raft_known_state.proofs.KnownStateLemmas.{end-known, last-known}
use Rattle.raft_leaders.specs.Leader.{LeaderValue, end_of, first_log_id, unknown_peer}
use Rattle.raft_leaders.specs.Accepted.{WroteNoneBelow}
use Rattle.raft_leaders.proofs.FirstLemmas.{first_is_first, first_within}
use Rattle.std.specs.List.{flat_map}
use Rattle.raft_values.specs.LogId.{place_of}
use Rattle.raft_state.specs.declared.raft_state.RaftState.{RaftState}
use Rattle.raft_group_step.specs.StoredGroup.{SetVote, after_storing}
use Rattle.raft_group_step.specs.GroupState.{Candidate, Leader}
use Rattle.raft_group_step.specs.StepResult.{StepResult, in_role, store_vote}
use Rattle.raft_group_step.specs.Lead.{committed_vote}
use Rattle.raft_commands.specs.declared.command.Command.TheVariants.{BecomeLeader, SaveVote}
use Rattle.raft_leaders.specs.Candidate.{CandidateValue}
use Rattle.raft_commands.specs.Output.{Output}
use Rattle.raft_engine.specs.Commands.{storing_of, sending_of}
use Rattle.raft_engine.specs.Standing.{EffectiveMembership, Engine, Given, IsStepOf, Leads, PlaysRole, peer_state}
use Rattle.raft_engine.proofs.CommandLemmas.{at_once_more, numbers_kept, sends_same, stores_more, stores_same}
use Rattle.raft_engine.proofs.CommittingLemmas.{moves_kept}
use Rattle.raft_engine.proofs.StandingLemmas.{order_kept}
use Rattle.raft_engine.proofs.MemberLemmas.{all_with, all_alike, has_each, voter_or_learner}
use Rattle.raft_engine.proofs.WrittenLemmas.{wrote_above}
use Rattle.raft_engine.specs.Standing.{basis_before}
use Rattle.raft_engine.proofs.OrderingLemmas.{rests_kept, rests_stored}
use Rattle.raft_engine.proofs.TurnLemmas.{begun_turns}
use Rattle.raft_group_step.specs.GroupState.{is_leader}

abbrev StateOf : Type 0
StateOf = RaftState ℕ (List ℕ) ℕ

-- where those of its own stand no lower than a place, it has written none below
own_tell : (leader : LeaderId ℕ) (place : ℕ) (ids : List (LogId ℕ)) → WroteNoneBelow leader place (ids_of_leader leader ids) → WroteNoneBelow leader place ids
own_tell leader place [] h = tt
own_tell leader place (id ∷ ids) h =
    elim (leader_eq id.leader_id leader) as (λ b. leader_eq id.leader_id leader ≡ b
    → WroteNoneBelow leader place (cond b (id ∷ ids_of_leader leader ids) (ids_of_leader leader ids)) → WroteNoneBelow leader place (id ∷ ids)) [
      | true ↦ λ e g. (g.0, own_tell leader place ids g.1)
      | false ↦ λ e g. ((λ mine. absurd (true≢false (sym mine ∙ e))), own_tell leader place ids g)
    ] refl h

-- the keys tell what a leader needs of a log that is stored: where it ends, and its own log ids
pub record AreKeysFor (leader : LeaderId ℕ) (keys : List (LogId ℕ)) (s : StoredGroup) : Type 0 where
  pub last : last_id keys ≡ last_stored_id s
  pub ends : end_of keys ≡ end_place s
  pub within : (first_log_id nat_eq leader keys).index ≤ end_of keys
  pub wrote : WroteNoneBelow leader (first_log_id nat_eq leader keys).index (entry_ids s.log)

pub are_keys_for : (leader : LeaderId ℕ) (keys : List (LogId ℕ)) (k : KnownState) (s : StoredGroup) → Knows k s → IsPlaced s
    → PlacesRise keys → last_id keys ≡ last_id k.state.log_ids → (ids_of keys ≡ stored_ids s) ⊎ (ids_of_leader leader (entry_ids s.log) ≡ []) → AreKeysFor leader keys s
are_keys_for leader keys k s known placed rise last ids =
    let place = (first_log_id nat_eq leader keys).index in
    let stored = last ∙ ap last_id known.ids in
    record {
      last = stored ∙ last-known s placed;
      ends = ap next_place stored ∙ end-known s placed;
      within = first_within leader keys rise;
      wrote =
          elim ids [
            | inl all ↦ wrote_above leader place s.purged (entry_ids s.log) (subst (WroteNoneBelow leader place) all (first_is_first leader keys rise))
            | inr none ↦ own_tell leader place (entry_ids s.log) (rw none tt)
          ];
    }

pub has_member : (m : Option LoggedMembership) (n : ℕ) → has_id (member_ids m) n ≡ true
    → (has_id (voter_ids nat_cmp (effective_of m).membership.configs) n || has_id (learner_ids nat_eq (effective_of m).membership.configs (effective_of m).membership.nodes) n) ≡ true
has_member None n h = cc h
has_member (Some m) n h = voter_or_learner m.membership.configs m.membership.nodes n h

module _ (own : ℕ) (vote : Vote ℕ) (s : StoredGroup) (m : EffectiveMembership) (in_force : m ≡ effective_of (membership_in_force s)) (keys : List (LogId ℕ))
    (of_log : AreKeysFor vote.leader_id keys s) (is_own : vote.leader_id.node_id ≡ own) (committed : vote.committed ≡ true) (learners : List ℕ)
    (learners_are : learners ≡ learner_ids nat_eq m.membership.configs m.membership.nodes) where
  leads_anew : (l : LeaderValue ℕ EffectiveMembership) → l.vote ≡ vote → l.last_log_id ≡ last_id keys → l.noop_log_id ≡ first_log_id nat_eq vote.leader_id keys → l.began ≡ end_of keys
      → l.progress.voters ≡ all_with (unknown_peer (end_of keys)) (voter_ids nat_cmp m.membership.configs) → l.progress.learners ≡ all_with (unknown_peer (end_of keys)) learners
      → Leads own l (record s { vote = vote }) (new_lead s)
  leads_anew l voted last noop began voters others =
      record {
        vote = voted;
        is_own = is_own;
        committed = committed;
        last = last ∙ of_log.last;
        began = began ∙ of_log.ends;
        first =
            let at = ap (λ (y : LogId ℕ). y.index) noop in
            let within = of_log.within in
            let ends = of_log.ends in omega (arith, at, within, ends);
        wrote =
            subst (λ (v : Vote ℕ). WroteNoneBelow v.leader_id l.noop_log_id.index (entry_ids s.log)) (sym voted)
            (subst (λ (y : LogId ℕ). WroteNoneBelow vote.leader_id y.index (entry_ids s.log)) (sym noop) of_log.wrote);
        peers = λ n.
            sym (ap (peer_state n)
            (ap (λ place. unwrap_or (value_of nat_eq l.progress n) (unknown_peer place)) began
            ∙ all_alike (unknown_peer (end_of keys)) l.progress (voter_ids nat_cmp m.membership.configs) learners voters others n
            ∙ ap unknown_peer of_log.ends));
        rising = tt;
        members = λ n h.
            has_each (unknown_peer (end_of keys)) l.progress (voter_ids nat_cmp m.membership.configs) learners voters others n
            (ap (λ ids. has_id (voter_ids nat_cmp m.membership.configs) n || has_id ids n) learners_are
            ∙ ap (λ (y : EffectiveMembership). has_id (voter_ids nat_cmp y.membership.configs) n || has_id (learner_ids nat_eq y.membership.configs y.membership.nodes) n) in_force
            ∙ has_member (membership_in_force s) n h);
      }

  -- what a new leader knows: nothing of anybody
  pub begins : {E : Type 0} (made : Result (LeaderValue ℕ EffectiveMembership) E) → IfOk made (λ l. l.vote ≡ vote) → IfOk made (λ l. l.last_log_id ≡ last_id keys) → IfOk made (λ l. l.noop_log_id ≡ first_log_id nat_eq vote.leader_id keys) → IfOk made (λ l. l.began ≡ end_of keys)
      → IfOk made (λ l. l.progress.voters ≡ all_with (unknown_peer (end_of keys)) (voter_ids nat_cmp m.membership.configs)) → IfOk made (λ l. l.progress.learners ≡ all_with (unknown_peer (end_of keys)) learners)
      → IfOk made (λ l. Leads own l (record s { vote = vote }) (new_lead s))
  begins (Ok l) voted last noop began voters others = leads_anew l voted last noop began voters others
  begins (Err e) voted last noop began voters others = tt

-- a candidate's vote is its own
pub stands_own : (own : ℕ) (l : Option (LeaderValue ℕ EffectiveMembership)) (c : Option (CandidateValue ℕ EffectiveMembership)) (s : StoredGroup) (granters : List ℕ)
    → PlaysRole own l c s (Candidate granters) → s.vote.leader_id.node_id ≡ own
stands_own own None None s granters h = absurd h
stands_own own None (Some c) s granters h = h.is_own
stands_own own (Some l) c s granters h = absurd h

module _ {C R : Type 0} (x : Given) (own : ℕ) (e e' : Engine C R) (r : StepResult) (step : IsStepOf x own e r) (l : LeaderValue ℕ EffectiveMembership) (vote : Vote ℕ) where
  -- the lead of a committed vote that is stored
  pub lead_begun : is_leader r.state.role ≡ false → vote ≡ committed_vote r.state.stored.vote → e'.config ≡ e.config → e'.seen_greater_log ≡ e.seen_greater_log → e'.leader ≡ Some l → e'.candidate ≡ None
      → Knows e'.state (after_storing (SetVote vote) r.state.stored) → e'.state.state ≡ record e.state.state { vote = record { value = vote; utime = Some r.state.now } } → e'.state.wish ≡ e.state.wish
      → e'.output ≡ record e.output { queue = (e.output.queue ++ SaveVote vote ∷ []) ++ BecomeLeader ∷ [] } → Leads own l (record r.state.stored { vote = vote }) (new_lead r.state.stored)
      → IsStepOf x own e' (in_role (Leader (new_lead r.state.stored)) (store_vote (committed_vote r.state.stored.vote) r))
  lead_begun unled voted config seen leader candidate knows state wish output leads =
      let old = step.state in
      let queue = ap (λ (o : Output C (List ℕ) R ℕ (List ℕ)). o.queue) output in
      let voting : Output C (List ℕ) R ℕ (List ℕ) = record e.output { queue = e.output.queue ++ SaveVote vote ∷ [] } in
      let s = r.state.stored in
      let role : PlaysRole own e'.leader e'.candidate (record s { vote = vote }) (Leader (new_lead s)) =
      subst (λ o. PlaysRole own o e'.candidate (record s { vote = vote }) (Leader (new_lead s))) (sym leader)
      (subst (λ c. PlaysRole own (Some l) c (record s { vote = vote }) (Leader (new_lead s))) (sym candidate) leads) in
      let one = stores_more e.output.queue (SaveVote vote) x.snapshot r.commands (SetVote vote ∷ []) step.stores refl in
      let begun : IsStepOf x own e' (in_role (Leader (new_lead s)) (store_vote vote r)) =
      record {
        state = record {
          config = config ∙ old.config;
          knows = knows;
          renewed = ap (λ (y : StateOf). y.vote.utime) state;
          committed = ap (λ (y : StateOf). y.committed) state ∙ old.committed;
          wish = ap place_of wish ∙ old.wish;
          role = role;
          order = order_kept r.state vote r.state.now (Leader (new_lead s)) (Some r.state.now) r.state.wish r.state.untold old.order;
        };
        stores = ap (λ q. flat_map (storing_of x.snapshot) q) queue ∙ stores_same (e.output.queue ++ SaveVote vote ∷ []) BecomeLeader x.snapshot (r.commands ++ SetVote vote ∷ []) one refl;
        sends = λ t upto.
            ap (λ q. flat_map (sending_of own t upto) q) queue
            ∙ sends_same (e.output.queue ++ SaveVote vote ∷ []) BecomeLeader own t upto r.messages (sends_same e.output.queue (SaveVote vote) own t upto r.messages (step.sends t upto) refl) refl;
        seen = seen ∙ step.seen;
        numbers = numbers_kept x.last_sm_seq voting e'.output BecomeLeader (numbers_kept x.last_sm_seq e.output voting (SaveVote vote) step.numbers refl refl) output refl;
        moves =
            moves_kept x.committed_before e.state.state.committed e'.state.state.committed voting.queue e'.output.queue
            (moves_kept x.committed_before e.state.state.committed e.state.state.committed e.output.queue voting.queue step.moves (SaveVote vote) refl refl refl)
            BecomeLeader queue refl (ap (λ (y : StateOf). y.committed) state);
        at_once = at_once_more voting.queue BecomeLeader e'.output.queue queue (at_once_more e.output.queue (SaveVote vote) voting.queue refl step.at_once tt) tt;
        rests =
            rests_kept own x.snapshot (basis_before x) voting.queue e'.output.queue (record s { vote = vote }) e.state.state.committed
            (rests_stored own x.snapshot (basis_before x) e.output.queue voting.queue s e.state.state.committed step.rests (SaveVote vote) tt refl e.state.state.committed (SetVote vote) refl refl refl)
            BecomeLeader (leads.is_own, leads.committed) queue e'.state.state.committed refl refl (ap (λ (y : StateOf). y.committed) state);
        turns = begun_turns x.turn_before e.output.queue voting.queue e'.output.queue (is_leader r.state.role) step.turns (SaveVote vote) BecomeLeader refl queue refl refl unled;
      } in
      subst (λ v. IsStepOf x own e' (in_role (Leader (new_lead s)) (store_vote v r))) voted begun
