-- The list is that of each world with these messages, this set-up and these leaders.
use Rattle.std.proofs.Common.{ap, ◌∙◌, ◌++◌}
use Rattle.std.specs.Option.{option_copied}
use Rattle.raft_world.specs.Settled.{world_of}
use Rattle.raft_world.proofs.SettledLemmas.{group_list-same}
use Rattle.raft_world.proofs.settled.group_list.Goals as goal

pub returns : goal.returns
returns c = λ w sent set led.
    c.in_ok-push_copies.ensures
    ∙ (ap (λ xs. xs ++ c.longest_settled.result.now) c.new-list.ensures.items
    ∙ (c.longest_settled.ensures
    ∙ group_list-same w (world_of c.args.messages.now (option_copied c.args.setup) c.args.led.now) sent set led))
