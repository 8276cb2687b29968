use Rattle.std.proofs.Common.{rules}
use Rattle.raft_log_recovery.proofs.builder.DualPipesBuilder.open_queue.Goals as goal

pub open_by-requires-clause-way : goal.open_by-requires-clause-way
open_by-requires-clause-way g c κs within = λ b f config m found. ((found, (search rules, search rules)), λ r f' m' post. post)
