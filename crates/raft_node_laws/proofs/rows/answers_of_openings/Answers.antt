use Rattle.std.proofs.Common.{[], ◌∷◌, refl}
use Rattle.raft_cluster_laws.specs.Rows.{sends}
use Rattle.raft_node_laws.proofs.rows.answers_of_openings.Goals as goal

pub returns-clause-says : goal.returns-clause-says
returns-clause-says c = (
  (tt, tt),
  (7, sends) ∷ [],
  (record { group = refl; says = record { sent = (record { sender = refl; addressee = refl; spelled = (refl, refl, refl); accepts = refl }, tt); told = refl; unknown = refl } }, tt),
  refl,
)
