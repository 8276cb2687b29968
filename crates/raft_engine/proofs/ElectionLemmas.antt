-- How a node stands for election: what it asks of the other voters, and who has granted its vote.
use Rattle.std.specs.Prelude.{◌≡◌, ℕ, ◌+◌, nat_eq, ◌||◌, Bool, true, false, if◌then◌else◌, List, [], ◌∷◌, ◌++◌, map, Option, Some, None, refl}
use Rattle.std.proofs.Common.{ap, sym, ◌∙◌, subst, append-nil, append_assoc}
use Rattle.std.proofs.lemmas.Bool.{eq-eqb}
use Rattle.raft_values.specs.declared.vote.Vote.{Vote}
use Rattle.raft_values.specs.Vote.{vote_of}
use Rattle.raft_values.specs.LogId.{next_place}
use Rattle.raft_log_ids.specs.LogIdList.{last_id as last_known_id}
use Rattle.raft_quorums.specs.Quorum.{is_quorum}
use Rattle.raft_group_step.specs.Values.{has_id}
use Rattle.raft_group_step.specs.StoredGroup.{StoredGroup, end_place, last_id, membership_in_force}
use Rattle.raft_group_step.specs.GroupState.{Role, Follower, Candidate, Leader}
use Rattle.raft_group_step.specs.Message.{VoteRequest}
use Rattle.raft_group_step.specs.declared.vote_message.VoteRequest.{VoteRequest as Request}
use Rattle.raft_group_step.specs.StepResult.{StepResult, in_role, send, step_down, store_vote}
use Rattle.raft_group_step.specs.Lead.{configs_in_force, lead_if, with_grant}
use Rattle.raft_group_step.specs.Elect.{ask, elect_step, other_voters, stand}
use Rattle.raft_group_step.proofs.Words.{ask_state}
use Rattle.raft_commands.specs.declared.command.Command.TheVariants.{SendVote}
use Rattle.raft_known_state.specs.KnownState.{effective_of}
use Rattle.raft_known_state.proofs.KnownStateLemmas.{end-known}
use Rattle.raft_leaders.specs.Candidate.{CandidateValue, with_granter}
use Rattle.raft_leaders.specs.Leader.{LeaderValue}
use Rattle.raft_engine.specs.Commands.{Command, message_to}
use Rattle.raft_engine.specs.Standing.{EffectiveMembership, Engine, Given, IsStepOf, PlaysRole, Stands}
use Rattle.raft_engine.proofs.CandidateLemmas.{configs_are, stands_more}
use Rattle.raft_engine.proofs.StandingLemmas.{order_kept, queued}
use Rattle.raft_engine.proofs.TurnLemmas.{turns_same, unled_role}
use Rattle.raft_group_step.specs.GroupState.{is_leader}

module _ {C R : Type 0} (x : Given) (own : ℕ) (req : Request ℕ) where
  -- a request to each of these
  abbrev pub requests : List ℕ → List (Command C R)
  requests ns = map (λ n. SendVote n req) ns

  abbrev pub with_queue : Engine C R → List (Command C R) → Engine C R
  with_queue e q = record e { output = record e.output { queue = q } }

  -- requests to these voters behind the rest
  pub asked : (ns : List ℕ) (e : Engine C R) (r : StepResult) → IsStepOf x own e r → r.state.stored.vote ≡ req.vote → last_id r.state.stored ≡ req.last_log_id
      → IsStepOf x own (with_queue e (e.output.queue ++ requests ns)) (ask own ns r)
  asked [] e r step vote last = subst (λ q. IsStepOf x own (with_queue e q) r) (sym (append-nil e.output.queue)) step
  asked (n ∷ ns) e r step vote last =
      let one : IsStepOf x own (with_queue e (e.output.queue ++ SendVote n req ∷ [])) (send own n (VoteRequest r.state.stored.vote (last_id r.state.stored)) r) =
      queued x own e r (SendVote n req) (message_to own n (VoteRequest r.state.stored.vote (last_id r.state.stored))) step refl refl tt (vote, last) refl (λ s upto. rw (vote, last) refl) in
      subst (λ q. IsStepOf x own (with_queue e q) (ask own (n ∷ ns) r)) (append_assoc e.output.queue (SendVote n req ∷ []) (requests ns))
      (asked ns (with_queue e (e.output.queue ++ SendVote n req ∷ [])) (send own n (VoteRequest r.state.stored.vote (last_id r.state.stored)) r) one vote last)

-- ---- who plays which part

-- a follower leads nobody
pub leads_nobody : (own : ℕ) (l : Option (LeaderValue ℕ EffectiveMembership)) (c : Option (CandidateValue ℕ EffectiveMembership)) (s : StoredGroup) → PlaysRole own l c s Follower → l ≡ None
leads_nobody own None c s h = refl
leads_nobody own (Some l) c s h = absurd h

-- who has what a candidate knows stands, and leads nobody
pub is_standing : (own : ℕ) (l : Option (LeaderValue ℕ EffectiveMembership)) (c : CandidateValue ℕ EffectiveMembership) (s : StoredGroup) (role : Role) → PlaysRole own l (Some c) s role
    → (granters : List ℕ) × (role ≡ Candidate granters) × (l ≡ None) × Stands own c s granters
is_standing own None c s Follower h = absurd h
is_standing own (Some l) c s Follower h = absurd h
is_standing own None c s (Candidate granters) h = (granters, refl, refl, h)
is_standing own (Some l) c s (Candidate granters) h = absurd h
is_standing own None c s (Leader lead) h = absurd h
is_standing own (Some l) c s (Leader lead) h = absurd h

-- the granters with this one
abbrev pub now_granted : List ℕ → ℕ → List ℕ
now_granted granters n = if has_id granters n then granters else granters ++ n ∷ []

module _ {C R : Type 0} (x : Given) (own : ℕ) (e : Engine C R) (r : StepResult) (step : IsStepOf x own e r) where
  -- a node that doesn't lead is a candidate from now on
  pub stands_now : (granters : List ℕ) (c : CandidateValue ℕ EffectiveMembership) → e.leader ≡ None → Stands own c r.state.stored granters
      → IsStepOf x own (record e { candidate = Some c }) (in_role (Candidate granters) r)
  stands_now granters c alone stands =
      let old = step.state in
      record {
        state = record {
          config = old.config;
          knows = old.knows;
          renewed = old.renewed;
          committed = old.committed;
          wish = old.wish;
          role = subst (λ l. PlaysRole own l (Some c) r.state.stored (Candidate granters)) (sym alone) stands;
          order = order_kept r.state r.state.stored.vote r.state.now (Candidate granters) r.state.renewed r.state.wish r.state.untold old.order;
        };
        stores = step.stores;
        sends = step.sends;
        seen = step.seen;
        numbers = step.numbers;
        moves = step.moves;
        at_once = step.at_once;
        rests = step.rests;
        turns = turns_same x.turn_before e.output.queue e.output.queue (is_leader r.state.role) step.turns false refl (sym (unled_role own e.candidate r.state.stored r.state.role (subst (λ l. PlaysRole own l e.candidate r.state.stored r.state.role) alone old.role)));
      }

  -- the place after the last log id that is known
  pub known_end : next_place (last_known_id e.state.state.log_ids) ≡ end_place r.state.stored
  known_end = ap (λ ids. next_place (last_known_id ids)) step.state.knows.ids ∙ end-known r.state.stored step.state.order.placed

  module _ (c c' : CandidateValue ℕ EffectiveMembership) (n : ℕ) (there : e.candidate ≡ Some c) (notes : c'.granted_by ≡ with_granter nat_eq c.granted_by n)
      (rest : c' ≡ record c { progress = c'.progress; granted_by = c'.granted_by }) where
    stood_before : (granters : List ℕ) × (r.state.role ≡ Candidate granters) × (e.leader ≡ None) × Stands own c r.state.stored granters
    stood_before = is_standing own e.leader c r.state.stored r.state.role (subst (λ d. PlaysRole own e.leader d r.state.stored r.state.role) there step.state.role)

    -- a candidate notes a grant
    pub noted : (granters : List ℕ) × (r.state.role ≡ Candidate granters) × Stands own c' r.state.stored (now_granted granters n)
        × IsStepOf x own (record e { candidate = Some c' }) (in_role (Candidate (now_granted granters n)) r)
    noted =
        let w = stood_before in
        let stands : Stands own c' r.state.stored (now_granted w.0 n) = stands_more own n c c' r.state.stored notes rest w.0 w.3 in
        (w.0, w.1, stands, stands_now (now_granted w.0 n) c' w.2 stands)

-- whether the granters are a quorum of the membership in force
pub counted_by : (own : ℕ) (c : CandidateValue ℕ EffectiveMembership) (s : StoredGroup) (granters : List ℕ) (voters : EffectiveMembership) (answer : Bool) → Stands own c s granters
    → voters ≡ effective_of (membership_in_force s) → answer ≡ is_quorum voters.membership.configs (has_id c.granted_by) → answer ≡ is_quorum (configs_in_force s) (has_id granters)
counted_by own c s granters voters answer stands in_force says =
    says ∙ ap (λ l. is_quorum l (has_id c.granted_by)) (ap (λ (m : EffectiveMembership). m.membership.configs) in_force ∙ configs_are (membership_in_force s))
    ∙ ap (λ ids. is_quorum (configs_in_force s) (has_id ids)) stands.granted

-- a grant of which it is known whether it makes a quorum
pub granted_so : (n : ℕ) (granters : List ℕ) (r : StepResult) (answer : Bool) → r.state.role ≡ Candidate granters → answer ≡ is_quorum (configs_in_force r.state.stored) (has_id (now_granted granters n))
    → lead_if answer (in_role (Candidate (now_granted granters n)) r) ≡ with_grant n r.state.role r
granted_so n granters r answer standing counts =
    ap (λ b. lead_if b (in_role (Candidate (now_granted granters n)) r)) counts ∙ ap (λ role. with_grant n role r) (sym standing)

-- ---- the own grant

-- and it is all the same whether they leave before or after a change of the role
pub asked_as : (own : ℕ) (role : Role) (ns : List ℕ) (r : StepResult) → ask own ns (in_role role r) ≡ in_role role (ask own ns r)
asked_as own role [] r = refl
asked_as own role (n ∷ ns) r = asked_as own role ns (send own n (VoteRequest r.state.stored.vote (last_id r.state.stored)) r)

module _ (own : ℕ) (r : StepResult) where
  -- the next term's vote
  abbrev pub own_vote : Vote ℕ
  own_vote = vote_of (r.state.stored.vote.leader_id.term + 1) own false

  pub stood_state : (stand own r).state ≡ (in_role (Candidate []) (store_vote own_vote (step_down r))).state
  stood_state = ask_state own (other_voters own r.state.stored) (in_role (Candidate []) (store_vote own_vote (step_down r)))

  -- the own grant, counted before the others are asked
  pub stood_granted : ask own (other_voters own r.state.stored) (in_role (Candidate (own ∷ [])) (store_vote own_vote (step_down r))) ≡ in_role (Candidate (own ∷ [])) (stand own r)
  stood_granted = asked_as own (Candidate (own ∷ [])) (other_voters own r.state.stored) (in_role (Candidate []) (store_vote own_vote (step_down r)))

  -- and once more after that
  pub elected : with_grant own (Candidate (own ∷ [])) (in_role (Candidate (own ∷ [])) (stand own r)) ≡ elect_step own r
  elected =
      let st = stand own r in
      let self : (nat_eq own own || false) ≡ true = ap (λ b. b || false) (eq-eqb own own refl) in
      ap (λ b. lead_if (is_quorum (configs_in_force st.state.stored) (has_id (if b then own ∷ [] else own ∷ own ∷ []))) (in_role (Candidate (if b then own ∷ [] else own ∷ own ∷ [])) st)) self
      ∙ ap (λ role. with_grant own role st) (sym (ap (λ s. s.role) stood_state))

module _ {C R : Type 0} (x : Given) (own : ℕ) (e : Engine C R) (r : StepResult) (vote : Vote ℕ) (step : IsStepOf x own e (store_vote vote (step_down r))) where
  -- the next term's vote is stored, and the node is a candidate for it
  pub has_stood : (c : CandidateValue ℕ EffectiveMembership) → Stands own c (record r.state.stored { vote = vote }) (own ∷ [])
      → IsStepOf x own (record e { candidate = Some c }) (in_role (Candidate (own ∷ [])) (store_vote vote (step_down r)))
  has_stood c stands = stands_now x own e (store_vote vote (step_down r)) step (own ∷ []) c (leads_nobody own e.leader e.candidate (record r.state.stored { vote = vote }) step.state.role) stands

-- the others are asked
pub has_asked : (own : ℕ) (r : StepResult) (vote : Vote ℕ) (voters : List ℕ) → vote ≡ own_vote own r → voters ≡ other_voters own r.state.stored
    → ask own voters (in_role (Candidate (own ∷ [])) (store_vote vote (step_down r))) ≡ in_role (Candidate (own ∷ [])) (stand own r)
has_asked own r vote voters vote_is voters_are =
    ap (λ ns. ask own ns (in_role (Candidate (own ∷ [])) (store_vote vote (step_down r)))) voters_are
    ∙ ap (λ v. ask own (other_voters own r.state.stored) (in_role (Candidate (own ∷ [])) (store_vote v (step_down r)))) vote_is
    ∙ stood_granted own r
