use Rattle.std.specs.Prelude.{◌≡◌, ◌<◌, ℕ, [], ◌∷◌, ◌++◌, refl}
use Rattle.std.proofs.Common.{ap, ◌∙◌, arith}
use Rattle.raft_values.specs.declared.log_id.LogId.{LogId}
use Rattle.raft_group_step.specs.declared.group_call.GroupCall.TheVariants.{Propose}
use Rattle.raft_laws.specs.Example.{add}
use Rattle.raft_laws.specs.GroupWorld.{GroupWorld, NodeState, Absent, Down, Up}
use Rattle.raft_laws.specs.OneVoter.{one}
use Rattle.raft_laws.proofs.BallotAgreement.{same_some}
use Rattle.raft_history_laws.specs.NotedIds.{next_id}
use Rattle.raft_headline.specs.ClusterEvent.{ClusterEvent, Done, Recorded, Stopped}
use Rattle.raft_headline.specs.Stops.{node_in}
use Rattle.raft_headline.specs.Told.{world_at}
use Rattle.raft_headline.specs.Rows.{at_one, noted_again, proposes, tells, told_at, told_event, unknown_of}
use Rattle.raft_headline.proofs.rows.noted_log_ids.Goals as goal

pub returns-clause-told : goal.returns-clause-told
returns-clause-told c = record {
  call = Propose (add 5) 1;
  node = 1;
  now = 0;
  recorded = told_event;
  stands = refl;
  event = refl;
  noted = refl;
  taken = refl;
  state = _;
  is_up = refl;
  next = refl;
}

pub returns-clause-stopped : goal.returns-clause-stopped
returns-clause-stopped c = record {
  call = Propose (add 7) 5;
  node = 1;
  now = 0;
  recorded = at_one (proposes 7 5) (Stopped (unknown_of 7 5 ∷ []));
  stands = refl;
  event = refl;
  noted = refl;
  taken = refl;
  state = _;
  is_up = refl;
  next = refl;
}

pub returns-clause-again : goal.returns-clause-again
returns-clause-again c = record {
  call = Propose (add 7) 6;
  node = 1;
  now = 0;
  recorded = at_one (proposes 7 6) (Done (tells (told_at 6 3 (3 ∷ add 5 ++ add 7))));
  stands = refl;
  event = refl;
  noted = refl;
  taken = refl;
  state = _;
  is_up = refl;
  next = refl;
}

abbrev before : GroupWorld
before = world_at one 7 noted_again (0 ∷ []) 4

abbrev next_place_in : NodeState → ℕ
next_place_in Absent = 0
next_place_in (Up s) = (next_id s.stored).index
next_place_in (Down kept) = 0

apart : (a b : ℕ) → a < b → a ≡ b → ⊥
apart a b l e = omega arith

pub returns-clause-next_place : goal.returns-clause-next_place
returns-clause-next_place c = λ x.
    let node : 1 ≡ x.node = ap (λ (r : Recorded). node_in r.event 0) (same_some x.stands) ∙ ap (λ (e : ClusterEvent). node_in e 0) x.event in
    apart 2 3 (omega arith) (ap (λ n. next_place_in (before.nodes n)) node ∙ ap next_place_in x.is_up ∙ ap (λ (id : LogId ℕ). id.index) x.next)
