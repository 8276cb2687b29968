use mir.Syntax.{of_param}
use Rattle.raft_log_recovery.proofs.WayLemmas.{lets_go}
use Rattle.raft_log_workers.proofs.workers.recover.Goals as goal

pub recover_by-requires-clause-way : goal.recover_by-requires-clause-way
recover_by-requires-clause-way g c κs within = λ b f config m found. (
  (
    found,
    (
      record { owned = c.type_bounds.send-F.owned; leaving = λ k x w. lets_go (k (of_param 0)) x w },
      record { owned = c.type_bounds.send-M.owned; leaving = λ k x w. lets_go (k (of_param 1)) x w },
      record { shared = c.type_bounds.sync-F.shared },
      record { shared = c.type_bounds.sync-R.shared },
    ),
  ),
  λ r f' m' post. post,
)
