-- A record of whole groups.
use Rattle.std.proofs.Common.{[], Option, ℕ, sym, subst, ◌∙◌, append-nil}
use Rattle.raft_log_rewriter.specs.Parts.{HasId}
use Rattle.raft_log_rewriter.specs.Parts.Stage.{between}
use Rattle.raft_log_rewriter.specs.Rewriting.{at}
use Rattle.raft_log_traces.specs.GroupTraces.{traces_in}
use Rattle.raft_log_rewriter.proofs.Marked.{Follows}
use Rattle.raft_log_rewriter.proofs.Steps.{come_done, not_yet, whole_follows, wrote}
use Rattle.raft_log_rewriter.proofs.writer.Writer.write_whole.Goals as goal

pub returns-then-is_empty-clause-goes_on : goal.returns-then-is_empty-clause-goes_on
returns-then-is_empty-clause-goes_on g c = come_done tt (not_yet (g.F.FileSystem.disk c.args.files.now) c.args.pipes.now c.args.log.now c.args.self.now (at between))

pub returns-clause-goes_on : goal.returns-clause-goes_on
returns-clause-goes_on g c =
    let w = c.args.self.now in
    wrote between (g.F.FileSystem.disk c.args.files.now) (g.F.FileSystem.disk c.write.new.files) c.args.pipes.now c.write.new.pipes c.args.log.now c.write.new.log w c.write.new.self w.batch.items [] c.write.result
    (λ next groups content s.
    subst (λ (o : Option ℕ). Follows content (traces_in c.args.log.now.traces) s.ws s.open_group s.part w.batch.items o) (sym (c.write.ensures.group ∙ c.requires.group))
    (whole_follows content (traces_in c.args.log.now.traces) s.ws s.open_group w.batch.items s.part s.stored s.stands.anew (subst (λ (o : Option ℕ). HasId s.open_group o) c.requires.group s.id) s.is_part s.parts))
    (sym (append-nil w.batch.items)) c.write.ensures.writes c.write.ensures.emptied c.write.ensures.traces
