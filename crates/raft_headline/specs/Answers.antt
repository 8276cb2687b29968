-- A leader tells a token at once where a quorum has answered its place.
use Rattle.std.specs.Prelude.{◌≡◌, ◌⊎◌, ℕ, true, false, List, [], ◌++◌, Contains}
use Rattle.raft_group_step.specs.GroupState.{GroupState, Lead, Leader, Untold}
use Rattle.raft_group_step.specs.GroupEvent.{GroupEvent}
use Rattle.raft_laws.specs.GroupWorld.{Up, new_world}
use Rattle.raft_step_laws.specs.Tokens.{brought, leads_on}
use Rattle.raft_history_laws.specs.KnownPeers.{has_answered_quorum}
use Rattle.raft_history_laws.specs.Leads.{leads_of}
use Rattle.raft_machines.specs.Machine.{MachineRules}
use Rattle.raft_headline.specs.ClusterEvent.{Done, Recorded, Said}
use Rattle.raft_machines.specs.declared.telling.Told.{Told}
use Rattle.raft_headline.specs.Machines.{Replicas, new_replicas}
use Rattle.raft_headline.specs.Happened.{ComesTo, Happened}
use Rattle.raft_headline.specs.OwnEvents.{own_events}
use Rattle.raft_headline.specs.Replaying.{ReplaysWith}

-- no token waits where the leader itself and those that answered its outstanding requests of this lead with success, at the
-- token's place or past it, are a quorum: it was told in the event that completed the quorum
abbrev pub NoneWaitsAnswered : MachineRules → List ℕ → ℕ → List Recorded → Replicas → Type 0
NoneWaitsAnswered rules ids h history end =
    (numbers : List ℕ) → ReplaysWith rules h (new_replicas rules ids) history numbers end
    → (n : ℕ) (s : GroupState) (lead : Lead) → end.world.nodes n ≡ Up s → s.role ≡ Leader lead
    → (x : Untold) → Contains s.untold x
    → has_answered_quorum n s lead (leads_of (own_events h history numbers) (new_world ids) n) x.place ≡ false

-- what is said tells the token at its place
pub record IsToldIn (said : Said) (x : Untold) : Type 0 where
  pub told : Told
  pub has : Contains said.told told
  pub token : told.token ≡ x.token
  pub place : told.place ≡ x.place

-- a leader that leads on under its vote tells each token that waited or that the event brought, or it waits on. None is unknown
pub record TellsOrWaits (s t : GroupState) (e : GroupEvent) (said : Said) : Type 0 where
  pub none_unknown : said.unknown ≡ []
  pub each : (x : Untold) → Contains (s.untold ++ brought s e) x → IsToldIn said x ⊎ Contains t.untold x

-- so what a quorum has answered, and no longer waits, was told in the event that completed the quorum, unless that stopped
abbrev pub LeadersTell : MachineRules → List ℕ → ℕ → List Recorded → Replicas → Type 0
LeadersTell rules ids h history end =
    (r : Recorded) (old new : Replicas) → Happened rules ids h history end r old new
    → (n : ℕ) (s t : GroupState) (e : GroupEvent) → ComesTo h r old n s e → (said : Said) → r.outcome ≡ Done said
    → new.world.nodes n ≡ Up t → leads_on s t ≡ true
    → TellsOrWaits s t e said
