-- Where the message is taken, its numbers were found to be in range.
use Rattle.std.proofs.Common.{◌∷◌, ℕ, List}
use Rattle.raft_group_step.specs.Refusal.{numbers_of}
use Rattle.raft_group_step.specs.Message.{AppendRequest}
use Rattle.raft_messages.specs.Messages.{append_fields_of}
use Rattle.raft_conditions.specs.ByFacts.{has_room}
use Rattle.raft_conditions.proofs.FactLemmas.{numbers_told}
use Rattle.raft_conditions.proofs.facts.GroupFacts.append_request_refusal.Goals as goal

pub returns-clause-numbers : goal.returns-clause-numbers
returns-clause-numbers c =
    let ns : List ℕ = c.args.now ∷ numbers_of (AppendRequest (append_fields_of c.args.request.now))
    in numbers_told c.message_refusal.result c.are_append_numbers_low-in_range.result (has_room c.args.self.now) ns
    c.are_append_numbers_low-in_range.ensures c.message_refusal.ensures.taken
