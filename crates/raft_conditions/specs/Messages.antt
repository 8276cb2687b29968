-- What a message that a node is handed is to the group step.
use Rattle.std.specs.Prelude.{ℕ}
use Rattle.raft_group_step.specs.GroupEvent.{GroupEvent, Receive}
use Rattle.raft_group_step.specs.Message.{MessageBody}
use Rattle.raft_conditions.specs.declared.facts.Parties.{Parties}

-- a message with this body comes from and for these parties
abbrev pub received : Parties → MessageBody → ℕ → GroupEvent
received parties body now =
    Receive parties.peer
    (record { sender = parties.sender; addressee = parties.addressee; body = body }) now
