-- The vote is committed and stored, and the lead begins with a blank entry.
use Rattle.std.proofs.Common.{◌≡◌, ◌∙◌, ap, sym, subst, refl, ◌++◌, ◌∷◌, [], true, ℕ}
use Rattle.std.specs.Prelude.{Some}
use Rattle.raft_values.specs.declared.vote.Vote.{Vote}
use Rattle.raft_commands.specs.Output.{Output}
use Rattle.raft_commands.specs.declared.command.Command.TheVariants.{BecomeLeader}
use Rattle.raft_group_step.specs.Lead.{committed_vote, new_lead}
use Rattle.raft_group_step.specs.StepResult.{in_role, store_vote}
use Rattle.raft_group_step.specs.GroupState.{Leader, is_leader}
use Rattle.raft_known_state.specs.KnownState.{KnownState}
use Rattle.raft_engine.specs.Standing.{PlaysRole}
use Rattle.raft_engine.proofs.LeaderLemmas.{lead_begun, stands_own}
use Rattle.std.proofs.lemmas.Result.{on_ok_weaker}
use Rattle.raft_engine.proofs.ClockLemmas.{nobody_then}
use Rattle.raft_engine.proofs.engine.Engine.begin_lead.Goals as goal

pub returns-clause-step : goal.returns-clause-step
returns-clause-step g c = λ x own r granters step stands now.
    let s = r.state.stored in
    let old = c.args.self.now in
    let mine = c.vote_ref-vote.ensures ∙ step.state.knows.vote in
    let voted : record c.vote_ref-vote.result.now { committed = true } ≡ committed_vote s.vote = ap committed_vote mine in
    let is_own = ap (λ (v : Vote ℕ). v.leader_id.node_id) mine ∙ stands_own own old.leader old.candidate s granters (subst (λ role. PlaysRole own old.leader old.candidate s role) stands step.state.role) in
    let leads = c.in_ok-leader.ensures.leads own s step.state.knows step.state.order.placed is_own refl in
    c.append_blank.ensures.step x own (in_role (Leader (new_lead s)) (store_vote (committed_vote s.vote) r)) (new_lead s)
    (lead_begun x own old _ r step c.in_ok-leader.leader (record c.vote_ref-vote.result.now { committed = true }) (ap is_leader stands) voted refl refl refl refl
    (c.save_vote.ensures.known s step.state.knows)
    (ap (λ (y : KnownState). y.state) c.save_vote.ensures.rest ∙ ap (λ t. record old.state.state { vote = record { value = record c.vote_ref-vote.result.now { committed = true }; utime = Some t } }) (sym now))
    (ap (λ (y : KnownState). y.wish) c.save_vote.ensures.rest)
    (c.in_ok-push_command-2.ensures.ok ∙ ap (λ (o : Output _ _ _ _ _). record o { queue = o.queue ++ BecomeLeader ∷ [] }) c.in_ok-push_command.ensures.ok)
    leads) refl

pub returns-clause-heard : goal.returns-clause-heard
returns-clause-heard g c =
    on_ok_weaker c.append_blank.result (nobody_then (Some c.in_ok-leader.leader) c.append_blank.new.self.leader c.in_ok-leader.ensures.heard) c.append_blank.ensures.heard
