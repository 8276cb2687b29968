-- A stop at which a token waits names it first.
use Rattle.std.specs.Prelude.{◌≡◌, ℕ, List, ◌∷◌, ◌++◌}
use Rattle.std.proofs.Common.{ap₂}
use Rattle.raft_headline.specs.Naming.{names_in, unknown_in}
use Rattle.raft_headline.specs.Rows.{unknown_of}
use Rattle.raft_machines.specs.declared.telling.UnknownTokens.{UnknownTokens}
use Rattle.raft_node_laws.specs.Rows.{IsWaiting}

pub names_waiting : (group token : ℕ) (x : UnknownTokens) (rest : List UnknownTokens) → IsWaiting group token x
    → names_in (x ∷ rest) ≡ unknown_of group token ∷ names_in rest
names_waiting group token x rest w = ap₂ (λ g tokens. unknown_in g tokens ++ names_in rest) w.of_group w.alone
