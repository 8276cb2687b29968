-- What a follower is asked for, and refuses.
use Rattle.std.specs.Prelude.{◌≡◌, ℕ, Option, Some, None}
use Rattle.std.proofs.Common.{ap, ◌∙◌}
use Rattle.raft_values.specs.declared.log_id.LogId.{LogId}
use Rattle.raft_group_step.specs.GroupState.{GroupState}
use Rattle.raft_group_step.specs.declared.group_call.GroupCall.TheVariants.{Propose}
use Rattle.raft_group_step.specs.GroupEvent.{GroupCall, Call}
use Rattle.raft_group_step.specs.StepResult.{NotLeader, RefusalReason}
use Rattle.raft_group_step.specs.Refusal.{refusal_of}
use Rattle.raft_laws.specs.declared.world_event.WorldEvent.{WorldEvent}
use Rattle.raft_laws.specs.declared.world_event.WorldEvent.TheVariants.{Ask}
use Rattle.raft_laws.specs.GroupWorld.{GroupWorld, NodeState, Absent, Down, Up, new_world}
use Rattle.raft_laws.specs.Origins.{world_before}
use Rattle.raft_laws.specs.Example.{add, three}
use Rattle.raft_laws.proofs.BallotAgreement.{same_some}
use Rattle.raft_history_laws.specs.NotedIdsRun.{NotedByFollower, asked_follower}

abbrev pub event-of : ℕ → GroupCall → ℕ → Option ℕ → WorldEvent × Option ℕ
event-of n call now stop = (Ask n call now, stop)

pub same_ask : (n k : ℕ) (call other : GroupCall) (now then : ℕ) (stop stop' : Option ℕ) → Some (event-of n call now stop) ≡ Some (event-of k other then stop') → (n ≡ k) × (call ≡ other) × (now ≡ then)
same_ask n k call other now then stop stop' e =
    let f : Ask n call now ≡ Ask k other then = ap (λ (x : WorldEvent × Option ℕ). x.0) (same_some e) in (cc, cc, cc)

abbrev follower_world : GroupWorld
follower_world = world_before asked_follower 11 (new_world three)

abbrev refusal_in : ℕ → GroupCall → ℕ → NodeState → Option RefusalReason
refusal_in n call now Absent = None
refusal_in n call now (Up s) = refusal_of n s (Call call now)
refusal_in n call now (Down kept) = None

refused_none : (o : Option RefusalReason) → Some (NotLeader (Some 1)) ≡ o → o ≡ None → ⊥
refused_none o e f = let g : Some (NotLeader (Some 1)) ≡ None = e ∙ f in cc

refused_at : (n k : ℕ) (call other : GroupCall) (now then : ℕ) (s : GroupState) → (n ≡ k) × (call ≡ other) × (now ≡ then) → follower_world.nodes k ≡ Up s → refusal_in n call now (follower_world.nodes n) ≡ refusal_of k s (Call other then)
refused_at n k call other now then s same up =
    ap (λ m. refusal_in m call now (follower_world.nodes m)) same.0
    ∙ ap (λ c. refusal_in k c now (follower_world.nodes k)) same.1
    ∙ ap (λ t. refusal_in k other t (follower_world.nodes k)) same.2
    ∙ ap (refusal_in k other then) up

pub follower_notes_none : (id : LogId ℕ) → NotedByFollower id → ⊥
follower_notes_none id x =
    let same = same_ask 2 x.node (Propose (add 9) 9) x.call 0 x.now None x.stop x.event in
    refused_none (refusal_of x.node x.state (Call x.call x.now))
    (refused_at 2 x.node (Propose (add 9) 9) x.call 0 x.now x.state same x.is_up)
    x.taken
