-- A leader that doesn't stop takes commands; requests are replied to; a candidate that was granted leads.
use Rattle.std.specs.Prelude.{◌≡◌, ℕ, ◌≤◌, true, false, List, ◌∷◌, length, slice_get, Some, All}
use Rattle.raft_quorums.specs.Quorum.{is_quorum}
use Rattle.raft_group_step.specs.Limits.{command_limit}
use Rattle.raft_group_step.specs.Values.{has_id}
use Rattle.raft_group_step.specs.Message.{Message, MessageBody}
use Rattle.raft_group_step.specs.GroupState.{GroupState, Lead, Leader, is_leader}
use Rattle.raft_group_step.specs.declared.group_call.GroupCall.TheVariants.{Propose}
use Rattle.raft_group_step.specs.GroupEvent.{GroupEvent}
use Rattle.raft_laws.specs.GroupWorld.{Up}
use Rattle.raft_step_laws.specs.Elections.{LacksAQuorum, configs_counted, counts_a_grant, granters_after}
use Rattle.raft_step_laws.specs.Taking.{HasRoom}
use Rattle.raft_history_laws.specs.TakenCommands.{HasTaken}
use Rattle.raft_step_laws.specs.Replies.{RepliesTo, is_request}
use Rattle.raft_machines.specs.Machine.{MachineRules}
use Rattle.raft_headline.specs.ClusterEvent.{Ask, Deliver, Done, Recorded, Said, is_stopped, is_turned_away}
use Rattle.raft_headline.specs.Machines.{Replicas}
use Rattle.raft_headline.specs.Happened.{ComesTo, Happened}

-- ---- commands

-- the event ran to its end, and the node leads on with the command at what was its next place
pub record IsTaken (n : ℕ) (s : GroupState) (command : List ℕ) (r : Recorded) (new : Replicas) : Type 0 where
  pub said : Said
  pub done : r.outcome ≡ Done said
  pub state : GroupState
  pub is_up : new.world.nodes n ≡ Up state
  pub has : HasTaken s state command

-- so does each node that leads, with a command within its limit, where no number is at its end, unless the event stops
-- or didn't come to its node
abbrev pub CommandsAreTaken : MachineRules → List ℕ → ℕ → List Recorded → Replicas → Type 0
CommandsAreTaken rules ids h history end =
    (r : Recorded) (old new : Replicas) → Happened rules ids h history end r old new
    → (n : ℕ) (s : GroupState) (lead : Lead) → old.world.nodes n ≡ Up s → s.role ≡ Leader lead
    → (command : List ℕ) (token now : ℕ) → r.event ≡ Ask n h (Propose command token) now
    → length command ≤ command_limit → HasRoom s lead now
    → is_turned_away r.outcome ≡ false → is_stopped r.outcome ≡ false
    → IsTaken n s command r new

-- ---- requests

-- what is said is first one reply to the message, to its sender, and else requests alone
pub record IsReplied (m : Message) (old new : Replicas) (said : Said) : Type 0 where
  pub before : GroupState
  pub was_up : old.world.nodes m.addressee ≡ Up before
  pub after : GroupState
  pub is_up : new.world.nodes m.addressee ≡ Up after
  pub reply : MessageBody
  pub rest : List Message
  pub first : said.sent ≡ record { sender = m.addressee; addressee = m.sender; body = reply } ∷ rest
  pub replies : RepliesTo before.stored after.stored.vote m.body reply
  pub one_reply : All (λ (other : Message). is_request other.body ≡ true) rest

-- each request that is delivered, and neither refused nor passed over, is replied to in its event, unless that stops
abbrev pub RequestsAreReplied : MachineRules → List ℕ → ℕ → List Recorded → Replicas → Type 0
RequestsAreReplied rules ids h history end =
    (r : Recorded) (old new : Replicas) → Happened rules ids h history end r old new
    → (number now : ℕ) (m : Message) → r.event ≡ Deliver h number now → slice_get old.world.messages number ≡ Some m
    → is_request m.body ≡ true
    → (said : Said) → r.outcome ≡ Done said → IsReplied m old new said

-- ---- elections

-- where the grant that an event counts makes a quorum, the node leads behind it, unless it stops or is refused
abbrev pub GrantedLead : MachineRules → List ℕ → ℕ → List Recorded → Replicas → Type 0
GrantedLead rules ids h history end =
    (r : Recorded) (old new : Replicas) → Happened rules ids h history end r old new
    → (n : ℕ) (s : GroupState) (e : GroupEvent) → ComesTo h r old n s e → counts_a_grant s e ≡ true
    → is_quorum (configs_counted s e) (has_id (granters_after n s e)) ≡ true
    → (said : Said) → r.outcome ≡ Done said
    → (t : GroupState) × (new.world.nodes n ≡ Up t) × (is_leader t.role ≡ true)

-- so no candidate is left that a quorum granted
abbrev pub NoneWaitsGranted : Replicas → Type 0
NoneWaitsGranted end =
    (n : ℕ) (s : GroupState) → end.world.nodes n ≡ Up s → LacksAQuorum s
