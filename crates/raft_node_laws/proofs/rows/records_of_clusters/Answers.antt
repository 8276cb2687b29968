use Rattle.std.proofs.Common.{[], inl, refl, sym, ap, ◌∙◌, subst}
use Rattle.raft_headline.specs.ClusterEvent.{ClusterOutcome, Stopped}
use Rattle.raft_node_laws.proofs.Naming.{names_waiting}
use Rattle.raft_node_laws.proofs.rows.records_of_clusters.Goals as goal

pub returns-clause-stopped : goal.returns-clause-stopped
returns-clause-stopped c x waiting = record { event = inl refl; node = refl; outcome = ap Stopped (sym (names_waiting 7 5 x [] waiting)) }

-- a stop that names nobody
names_none : ClusterOutcome → Type 0
names_none (Stopped []) = Unit {0}
names_none other = ⊥

pub returns-clause-unnamed : goal.returns-clause-unnamed
unfolding names_none
returns-clause-unnamed c x waiting r = subst names_none (r.outcome ∙ ap Stopped (names_waiting 7 5 x [] waiting)) tt
