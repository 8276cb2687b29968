use Rattle.std.proofs.Common.{arith}
use Rattle.raft_log_files.specs.Size.{size_of}
use Rattle.raft_log_files.proofs.NumberLemmas.{size_said-text}
use Rattle.raft_log_files.proofs.size_text.build_size.Goals as goal

pub returns-clause-says : goal.returns-clause-says
returns-clause-says c = size_said-text (size_of c.args.bytes) (omega (arith, c.ranges.bytes))
