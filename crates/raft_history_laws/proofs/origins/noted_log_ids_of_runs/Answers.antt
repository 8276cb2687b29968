use Rattle.std.specs.Prelude.{[], ◌∷◌, ◌≡◌, ℕ, ◌<◌, true, false, [], Some, None, refl}
use Rattle.std.proofs.Common.{arith, sym, ap, ◌∙◌}
use Rattle.raft_values.specs.LogId.{log_id_of}
use Rattle.raft_group_step.specs.GroupState.{GroupState}
use Rattle.raft_group_step.specs.StoredGroup.{StoredGroup}
use Rattle.raft_group_step.specs.Values.{Membership}
use Rattle.raft_group_step.specs.declared.group_call.GroupCall.TheVariants.{ChangeMembership, Initialize, Propose}
use Rattle.raft_membership.specs.declared.change_members.ChangeMembers.TheVariants.{SetNodes}
use Rattle.raft_group_step.specs.GroupEvent.{GroupCall}
use Rattle.raft_laws.specs.GroupWorld.{GroupWorld, NodeState, Down, Up, new_world}
use Rattle.raft_laws.specs.Origins.{world_before}
use Rattle.raft_laws.specs.OneVoter.{one, stopped_proposal}
use Rattle.raft_laws.specs.OriginRun.{command_at}
use Rattle.raft_laws.specs.Example.{add, membership_of}
use Rattle.raft_laws.proofs.BallotAgreement.{same_some}
use Rattle.raft_history_laws.specs.NotedIds.{is_noted}
use Rattle.raft_history_laws.specs.NotedIdsRun.{NotedInRun, OriginInRun}
use Rattle.raft_history_laws.proofs.LastNoted.{origin_is_last}
use Rattle.raft_history_laws.proofs.FollowerRefuses.{follower_notes_none, same_ask}
use Rattle.raft_history_laws.proofs.SmallIds.{one_is_small}
use Rattle.raft_history_laws.proofs.origins.noted_log_ids_of_runs.Goals as goal

above_none : (j k : ℕ) → 0 < j → Some j ≡ Some k → 0 < k
above_none j k l e = let f = same_some e in omega (arith, f)

no_stop : (k : ℕ) → None ≡ Some k → 0 < k
no_stop k e = absurd (let f : None ≡ Some k = e in cc)

again : NotedInRun 0 5 (log_id_of 1 1 2)
again =
    record {
      node = 1;
      call = Propose (add 7) 3;
      now = 0;
      stop = None;
      state = _;
      event = refl;
      is_up = refl;
      noted = refl;
      taken = refl;
      next = refl;
    }

pub returns-clause-stopped : goal.returns-clause-stopped
returns-clause-stopped c =
    record {
      node = 1;
      call = Propose (add 5) 1;
      now = 0;
      stop = Some 0;
      state = _;
      event = refl;
      is_up = refl;
      noted = refl;
      taken = refl;
      next = refl;
    }

pub returns-clause-again : goal.returns-clause-again
returns-clause-again c = again

pub returns-clause-origin : goal.returns-clause-origin
returns-clause-origin c =
    origin_is_last one one_is_small (stopped_proposal 0) 5 (Propose (add 7) 3) (command_at 2 (add 7))
    (record {
      node = 1;
      now = 0;
      stop = None;
      state = _;
      event = refl;
      is_up = refl;
      set_up = refl;
      taken = refl;
      stored = no_stop;
      writes = refl;
    })
    refl

pub returns-clause-no_origin : goal.returns-clause-no_origin
returns-clause-no_origin c = λ h. h.last 5 (omega arith) again

stored : OriginInRun 1 2 (log_id_of 1 1 2)
stored =
    origin_is_last one one_is_small (stopped_proposal 1) 2 (Propose (add 5) 1) (command_at 2 (add 5))
    (record {
      node = 1;
      now = 0;
      stop = Some 1;
      state = _;
      event = refl;
      is_up = refl;
      set_up = refl;
      taken = refl;
      stored = λ k e. above_none 1 k (omega arith) e;
      writes = refl;
    })
    refl

pub returns-clause-stored : goal.returns-clause-stored
returns-clause-stored c = stored

pub returns-clause-behind : goal.returns-clause-behind
returns-clause-behind c = λ h. stored.last 5 (omega arith) h

initialize_is_none : (first : Membership) (call : GroupCall) → Initialize first ≡ call → is_noted call ≡ true → ⊥
initialize_is_none first call e t = let f : false ≡ true = ap is_noted e ∙ t in cc

pub returns-clause-set_up : goal.returns-clause-set_up
returns-clause-set_up c = λ id x.
    initialize_is_none (membership_of one []) x.call (same_ask 1 x.node (Initialize (membership_of one [])) x.call 0 x.now None x.stop x.event).1 x.noted

down_up : (x : NodeState) (st : StoredGroup) (s : GroupState) → x ≡ Down st → x ≡ Up s → ⊥
down_up x st s d u = let e : Down st ≡ Up s = sym d ∙ u in cc

abbrev stopped_world : GroupWorld
stopped_world = world_before (stopped_proposal 0) 3 (new_world one)

pub returns-clause-down : goal.returns-clause-down
returns-clause-down c = λ id x.
    let same = same_ask 1 x.node (Propose (add 7) 2) x.call 0 x.now None x.stop x.event in
    down_up (stopped_world.nodes x.node) _ x.state (ap stopped_world.nodes (sym same.0)) x.is_up

pub returns-clause-refused : goal.returns-clause-refused
returns-clause-refused c = follower_notes_none

pub returns-clause-change : goal.returns-clause-change
returns-clause-change c =
    record {
      node = 1;
      call = ChangeMembership (SetNodes ((4, 110 ∷ []) ∷ [])) 2;
      now = 0;
      stop = None;
      state = _;
      event = refl;
      is_up = refl;
      noted = refl;
      taken = refl;
      next = refl;
    }
