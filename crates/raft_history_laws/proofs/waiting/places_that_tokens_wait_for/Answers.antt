use Rattle.std.specs.Prelude.{◌≡◌, ℕ, true, false, [], ◌∷◌, Some, refl}
use Rattle.std.proofs.Common.{◌∙◌, ap, arith}
use Rattle.raft_values.specs.declared.vote.LeaderId.{LeaderId}
use Rattle.raft_group_step.specs.Values.{Entry}
use Rattle.raft_group_step.specs.GroupState.{Follower, Leader}
use Rattle.raft_laws.specs.Example.{add}
use Rattle.raft_laws.specs.OriginRun.{command_at}
use Rattle.raft_laws.proofs.BallotAgreement.{same_some}
use Rattle.raft_laws.proofs.Counts.{at_contains}
use Rattle.raft_history_laws.specs.WaitingTokensRun.{token}
use Rattle.raft_history_laws.proofs.StepLeads.{began_of}
use Rattle.raft_history_laws.proofs.WaitingTokens.{are_rising}
use Rattle.raft_history_laws.proofs.waiting.places_that_tokens_wait_for.Goals as goal

pub returns-clause-waits : goal.returns-clause-waits
returns-clause-waits c =
    record {
      lead = _;
      leads = refl;
      since = omega arith;
      within = omega arith;
      above = refl;
      entry = command_at 2 (add 5);
      stands = refl;
      own = refl;
    }

pub returns-clause-committed : goal.returns-clause-committed
returns-clause-committed c = λ h. let e : true ≡ false = h.above in cc

pub returns-clause-behind : goal.returns-clause-behind
returns-clause-behind c = λ h. let l = h.within in omega arith

pub returns-clause-earlier_lead : goal.returns-clause-earlier_lead
returns-clause-earlier_lead c = λ h.
    let l = h.since in
    let began : Some 4 ≡ Some h.lead.began = ap began_of h.leads in
    let same = same_some began in
    omega (arith, l, same)

pub returns-clause-other_vote : goal.returns-clause-other_vote
returns-clause-other_vote c = λ h.
    let entry : Some (command_at 2 (add 5)) ≡ Some h.entry = h.stands in
    let leader = ap (λ (e : Entry). e.log_id.leader_id) (same_some entry) ∙ h.own in
    let term : 1 ≡ 3 = ap (λ (l : LeaderId ℕ). l.term) leader in
    omega (arith, term)

pub returns-clause-follower : goal.returns-clause-follower
returns-clause-follower c = λ h. let f : Follower ≡ Leader h.lead = h.leads in cc

pub returns-clause-falling : goal.returns-clause-falling
returns-clause-falling c = λ h.
    let l = h.1.0 (token 3 3) (at_contains (token 3 3 ∷ []) (token 3 3) 0 refl) in omega (arith, l)

pub returns-clause-equal : goal.returns-clause-equal
returns-clause-equal c = λ h.
    let l = h.0 (token 2 2) (at_contains (token 2 2 ∷ []) (token 2 2) 0 refl) in omega (arith, l)

pub returns-clause-rising : goal.returns-clause-rising
returns-clause-rising c = are_rising (token 5 2 ∷ token 4 3 ∷ token 6 7 ∷ []) ((omega arith, (omega arith, tt)), ((omega arith, tt), (tt, tt)))
