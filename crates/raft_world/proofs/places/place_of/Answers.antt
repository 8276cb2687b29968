use Rattle.raft_world.proofs.PlaceLemmas.{placed, some_within}
use Rattle.raft_world.proofs.places.place_of.Goals as goal

pub returns-clause-place : goal.returns-clause-place
returns-clause-place c = placed c.args.members.now c.args.id _ c.position_of.ensures

pub returns-clause-within : goal.returns-clause-within
returns-clause-within c = some_within c.args.members.now c.args.id _ (placed c.args.members.now c.args.id _ c.position_of.ensures)
