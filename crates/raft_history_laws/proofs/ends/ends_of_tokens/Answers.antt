use Rattle.std.specs.Prelude.{[], ◌∷◌, Some, None, refl}
use Rattle.std.proofs.Common.{arith}
use Rattle.raft_group_step.specs.declared.group_call.GroupCall.TheVariants.{Propose}
use Rattle.raft_laws.specs.declared.world_event.WorldEvent.TheVariants.{Ask, Crash, Deliver, Halt}
use Rattle.raft_laws.specs.GroupWorld.{new_world}
use Rattle.raft_laws.specs.Example.{add, three, to_their_end}
use Rattle.raft_laws.specs.ThreeNodes.{until_told}
use Rattle.raft_laws.proofs.Counts.{at_contains}
use Rattle.raft_history_laws.specs.TokenEndsRun.{CommandEndsAt, of_event}
use Rattle.raft_history_laws.proofs.EndedOnce.{ends_once}
use Rattle.raft_history_laws.proofs.FollowerRefuses.{follower_notes_none}
use Rattle.raft_history_laws.proofs.LastNoted.{token_noted}
use Rattle.raft_history_laws.proofs.ends.ends_of_tokens.Goals as goal

told : CommandEndsAt (to_their_end until_told) 10
told =
    record {
      event = Deliver 9 0;
      stop = None;
      happened = refl;
      at_node = _;
      here = refl;
      ended = at_contains (of_event 8 1 2 ∷ []) (of_event 8 1 2) 0 refl;
    }

pub returns-clause-told : goal.returns-clause-told
returns-clause-told c = told

pub returns-clause-not_before : goal.returns-clause-not_before
returns-clause-not_before c = λ h.
    let same = ends_once (new_world three) (to_their_end until_told) 1 (of_event 8 1 2) 10 9 told h in omega (arith, same)

pub returns-clause-unknown : goal.returns-clause-unknown
returns-clause-unknown c =
    record {
      event = Deliver 12 1000;
      stop = None;
      happened = refl;
      at_node = _;
      here = refl;
      ended = at_contains (of_event 8 1 2 ∷ []) (of_event 8 1 2) 0 refl;
    }

pub returns-clause-lost : goal.returns-clause-lost
returns-clause-lost c =
    record {
      event = Crash 1;
      stop = None;
      happened = refl;
      at_node = _;
      here = refl;
      ended = at_contains (of_event 8 1 2 ∷ []) (of_event 8 1 2) 0 refl;
    }

pub returns-clause-halted : goal.returns-clause-halted
returns-clause-halted c =
    record {
      event = Halt 1;
      stop = None;
      happened = refl;
      at_node = _;
      here = refl;
      ended = at_contains (of_event 8 1 2 ∷ []) (of_event 8 1 2) 0 refl;
    }

pub returns-clause-stopped : goal.returns-clause-stopped
returns-clause-stopped c =
    record {
      event = Ask 1 (Propose (add 5) 1) 0;
      stop = Some 1;
      happened = refl;
      at_node = _;
      here = refl;
      ended = at_contains (of_event 2 1 2 ∷ []) (of_event 2 1 2) 0 refl;
    }

pub returns-clause-stopped_at_once : goal.returns-clause-stopped_at_once
returns-clause-stopped_at_once c =
    record {
      event = Ask 1 (Propose (add 5) 1) 0;
      stop = Some 0;
      happened = refl;
      at_node = _;
      here = refl;
      ended = at_contains (of_event 2 1 2 ∷ []) (of_event 2 1 2) 0 refl;
    }

pub returns-clause-refused : goal.returns-clause-refused
returns-clause-refused c = λ place b.
    follower_notes_none _
    (record {
      node = 2;
      call = b.call;
      now = b.now;
      stop = b.stop;
      state = b.state;
      event = b.event;
      is_up = b.is_up;
      noted = token_noted b.call 9 b.token;
      taken = b.taken;
      next = refl;
    })
