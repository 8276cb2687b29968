use Rattle.std.proofs.Common.{◌-◌, ap, arith}
use Rattle.raft_log_pipe.proofs.BlockLemmas.{active_at, in_span, older_at}
use Rattle.raft_log_pipe.proofs.pipe.SinglePipe.file_of.Goals as goal

pub returns-then-place-count-clause-found : goal.returns-then-place-count-clause-found
returns-then-place-count-clause-found c =
    older_at c.args.self.now c.args.seq _ c.index.result.now c.requires (omega (arith, c.if-seq-first.false, c.file_span-first.ensures.first)) (ap (λ n. c.args.seq - n) c.file_span-first.ensures.first)
    (omega (arith, c.if-place-count.true, c.len-count.ensures)) c.index.ensures

pub returns-then-place-count-2-clause-found : goal.returns-then-place-count-2-clause-found
returns-then-place-count-2-clause-found c =
    active_at c.args.self.now c.args.seq c.requires (omega (arith, c.if-seq-first.false, c.file_span-first.ensures.first)) (omega (arith, c.if-place-count-2.true, c.len-count.ensures, c.file_span-first.ensures.first))

pub returns-then-place-count-2-clause-none : goal.returns-then-place-count-2-clause-none
returns-then-place-count-2-clause-none c = (
  λ none. absurd cc,
  λ out. absurd (in_span c.args.self.now c.args.seq c.requires (omega (arith, c.if-seq-first.false, c.file_span-first.ensures.first)) (omega (arith, c.if-place-count-2.true, c.len-count.ensures, c.file_span-first.ensures.first)) out),
)
