use Rattle.std.proofs.Common.{[], ◌∷◌, ap, ◌∙◌}
use Rattle.raft_headline.specs.Rows.{unknown_of}
use Rattle.raft_node_laws.proofs.Naming.{names_waiting}
use Rattle.raft_node_laws.proofs.rows.names_of_stops.Goals as goal

pub returns-clause-waited : goal.returns-clause-waited
returns-clause-waited c x y at_seven at_nine =
    names_waiting 7 5 x (y ∷ []) at_seven ∙ ap (λ names. unknown_of 7 5 ∷ names) (names_waiting 9 6 y [] at_nine)

pub returns-clause-unsaid : goal.returns-clause-unsaid
returns-clause-unsaid c x at_seven = ap (λ names. unknown_of 7 3 ∷ unknown_of 7 4 ∷ names) (names_waiting 7 5 x [] at_seven)
