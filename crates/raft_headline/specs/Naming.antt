-- How tokens that stay unknown are named where a node stops.
use Rattle.std.specs.Prelude.{ℕ, List, [], ◌∷◌, ◌++◌, map}
use Rattle.raft_group_step.specs.StepResult.{tokens_of}
use Rattle.raft_machines.specs.Telling.{untold_of}
use Rattle.raft_machines.specs.declared.telling.UnknownTokens.{UnknownTokens}
use Rattle.raft_headline.specs.ClusterEvent.{Unknown}

-- these tokens of the group
abbrev pub unknown_in : ℕ → List ℕ → List Unknown
unknown_in group tokens = map (λ (token : ℕ). record { group = group; token = token }) tokens

-- all that waited, each with its group
abbrev pub names_in : List UnknownTokens → List Unknown
names_in [] = []
names_in (x ∷ xs) = unknown_in x.group (tokens_of (untold_of x.tokens.items)) ++ names_in xs
