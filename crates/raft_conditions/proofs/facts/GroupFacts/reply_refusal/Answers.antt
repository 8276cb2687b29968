-- Where the message is taken, its numbers were found to be in range.
use Rattle.std.proofs.Common.{◌∷◌, ℕ, List}
use Rattle.raft_group_step.specs.Refusal.{numbers_of_reply}
use Rattle.raft_messages.specs.Messages.{reply_fields_of}
use Rattle.raft_conditions.specs.ByFacts.{has_room}
use Rattle.raft_conditions.proofs.FactLemmas.{numbers_told, room_of_taken}
use Rattle.raft_conditions.proofs.facts.GroupFacts.reply_refusal.Goals as goal

pub returns-clause-numbers : goal.returns-clause-numbers
returns-clause-numbers c =
    let ns : List ℕ = c.args.now ∷ numbers_of_reply (reply_fields_of c.args.reply.now)
    in numbers_told c.message_refusal.result c.are_reply_numbers_low-in_range.result (has_room c.args.self.now) ns
    c.are_reply_numbers_low-in_range.ensures c.message_refusal.ensures.taken

pub returns-clause-room : goal.returns-clause-room
returns-clause-room c =
    let ns : List ℕ = c.args.now ∷ numbers_of_reply (reply_fields_of c.args.reply.now)
    in room_of_taken c.message_refusal.result c.are_reply_numbers_low-in_range.result c.args.self.now ns
    c.are_reply_numbers_low-in_range.ensures c.message_refusal.ensures.taken
