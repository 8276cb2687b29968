use Rattle.raft_laws.proofs.LowPlaces.{places_low}
use Rattle.raft_laws.proofs.low_places.places_of_runs_are_low.Goals as goal

pub returns : goal.returns
returns c = places_low
