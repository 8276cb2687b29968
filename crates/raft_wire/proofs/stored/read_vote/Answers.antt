use Rattle.std.proofs.Common.{arith}
use Rattle.raft_wire.specs.Fields.{spelled_vote, FitsVote, vote_at}
use Rattle.raft_wire.proofs.Values.{vote_reads}
use Rattle.raft_wire.proofs.Whole.{is_found, is_only}
use Rattle.raft_wire.proofs.stored.read_vote.Goals as goal

pub returns-clause-found : goal.returns-clause-found
returns-clause-found c = is_found vote_at spelled_vote FitsVote vote_reads c.args.bytes.now c.whole_vote.result (λ i. omega (arith, c.type_inv.bytes i)) c.whole_vote.ensures

pub returns-clause-only : goal.returns-clause-only
returns-clause-only c = λ e fits is. is_only vote_at spelled_vote FitsVote vote_reads c.args.bytes.now c.whole_vote.result e c.whole_vote.ensures fits is
