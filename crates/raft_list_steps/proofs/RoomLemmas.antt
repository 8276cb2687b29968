-- Where much fits, less does.
use Rattle.std.specs.Prelude.{◌≤◌, ℕ}
use Rattle.std.proofs.Common.{arith}
use Rattle.raft_group_lists.specs.Room.{HasRoom, Kept}

pub less_room : (k : Kept) (writes learns more others : ℕ) → writes ≤ more → learns ≤ others → HasRoom k more others → HasRoom k writes learns
less_room k writes learns more others fewer less room =
    let entries = room.noted in
    let places = room.listed in
    let votes = room.learned.votes in
    let spares = room.learned.spares_left in
    record {
      noted = omega (arith, fewer, entries);
      listed = omega (arith, fewer, places);
      learned =
          record {
            votes = omega (arith, less, votes);
            nodes = λ i lead e. let nodes = room.learned.nodes i lead e in omega (arith, less, nodes);
            spares_left = omega (arith, less, spares);
            spare_nodes = λ i v e. let holds = room.learned.spare_nodes i v e in omega (arith, less, holds);
          };
    }
