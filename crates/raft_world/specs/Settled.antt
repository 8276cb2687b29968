-- What happened in a group, as code keeps it, seen as the group's world.
use Rattle.std.specs.Prelude.{ℕ, ◌==◌, ◌&&◌, Bool, List, map, Option}
use Rattle.std.specs.List.{list_any}
use Rattle.raft_values.specs.declared.vote.Vote.{Vote}
use Rattle.raft_group_step.specs.Values.{Entry, Membership, vote_eq}
use Rattle.raft_group_step.specs.Message.{Message}
use Rattle.raft_group_step.specs.StoredGroup.{Snapshot}
use Rattle.raft_messages.specs.declared.message.Message.{Message as Sent}
use Rattle.raft_messages.specs.Messages.{message_of}
use Rattle.raft_laws.specs.GroupWorld.{GroupWorld, Led, Absent}
use Rattle.raft_laws.specs.Settled.{body_accepts, is_at_or_after}
use Rattle.raft_world.specs.declared.settled.led_note.LedNote.{LedNote}

-- what a note says
abbrev pub led_of : LedNote → Led
led_of n = record { node = n.node; vote = n.vote; list = n.list.items }

-- the world with these messages, this set-up and these leaders; of its nodes nothing is told
abbrev pub world_of : List (Sent Snapshot) → Option Membership → List LedNote → GroupWorld
world_of messages setup led =
    record {
      nodes = λ n. Absent;
      messages = map message_of messages;
      setup = setup;
      led = map led_of led;
    }

-- the message is an answer of the node that accepts, under the vote, its leader's entries up to the place at least
abbrev pub is_reply : Vote ℕ → ℕ → ℕ → Message → Bool
is_reply vote place n m = m.sender == n && body_accepts vote (is_at_or_after vote.leader_id place) m.body

-- the list has an entry of the vote's leader at or after the place
abbrev pub has_later : Vote ℕ → ℕ → List Entry → Bool
has_later vote place list = list_any (λ (e : Entry). is_at_or_after vote.leader_id place e.log_id) list

-- the node led under the vote with such an entry
abbrev pub is_led_with : Vote ℕ → ℕ → ℕ → Led → Bool
is_led_with vote place n l = l.node == n && vote_eq l.vote vote && has_later vote place l.list
