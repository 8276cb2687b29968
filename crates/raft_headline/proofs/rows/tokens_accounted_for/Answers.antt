use Rattle.std.specs.Prelude.{◌≡◌, ℕ, Option, Some, None, [], ◌∷◌}
use Rattle.std.proofs.Common.{ap, ◌∙◌}
use Rattle.raft_group_step.specs.declared.group_call.GroupCall.TheVariants.{Propose}
use Rattle.raft_group_step.specs.GroupEvent.{Call, GroupCall}
use Rattle.raft_group_step.specs.StepResult.{NotLeader, RefusalReason}
use Rattle.raft_group_step.specs.Refusal.{refusal_of}
use Rattle.raft_laws.specs.GroupWorld.{GroupWorld, NodeState, Absent, Down, Up, new_world}
use Rattle.raft_laws.specs.Origins.{world_before}
use Rattle.raft_laws.specs.Example.{add}
use Rattle.raft_laws.specs.OneVoter.{one}
use Rattle.raft_history_laws.proofs.FollowerRefuses.{same_ask}
use Rattle.raft_headline.specs.OwnEvents.{own_events}
use Rattle.raft_headline.specs.Rows.{history}
use Rattle.raft_headline.proofs.rows.tokens_accounted_for.Goals as goal

abbrev refusing : GroupWorld
refusing = world_before (own_events 7 history (0 ∷ [])) 1 (new_world one)

abbrev refusal_in : GroupCall → ℕ → NodeState → Option RefusalReason
refusal_in call now Absent = None
refusal_in call now (Up s) = refusal_of 1 s (Call call now)
refusal_in call now (Down kept) = None

refused_none : (o : Option RefusalReason) → Some (NotLeader None) ≡ o → o ≡ None → ⊥
refused_none o e f = let g : Some (NotLeader None) ≡ None = e ∙ f in cc

pub returns-clause-refused : goal.returns-clause-refused
returns-clause-refused c = λ end x.
    let b = x.brought in
    let same = same_ask 1 1 (Propose (add 8) 4) b.call 0 b.now None b.stop b.event in
    refused_none (refusal_of 1 b.state (Call b.call b.now))
    (ap (λ k. refusal_in k 0 (refusing.nodes 1)) same.1 ∙ ap (λ t. refusal_in b.call t (refusing.nodes 1)) same.2 ∙ ap (refusal_in b.call b.now) b.is_up)
    b.taken
