-- Values of one constructor are the same where their parts are.
use Rattle.std.specs.Prelude.{◌≡◌, ℕ, Option, [], ◌∷◌}
use Rattle.raft_laws.specs.declared.world_event.WorldEvent.{WorldEvent}

pub first_is : (a b : WorldEvent × Option ℕ) → a ∷ [] ≡ b ∷ [] → b ≡ a
first_is a b e = cc
