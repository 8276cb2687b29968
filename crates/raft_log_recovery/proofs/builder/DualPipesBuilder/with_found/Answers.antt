use Rattle.std.proofs.Common.{◌≡◌, ap, subst, ◌∙◌, List}
use Rattle.raft_log_pipe.specs.declared.file.ReservedFile.{ReservedFile}
use Rattle.raft_log_pipe.specs.Alone.{directories_of_pipe}
use Rattle.raft_log_pipe.specs.Reserved.{AreReserved}
use Rattle.raft_log_recovery.specs.Both.{KeepsFound, as_reserved}
use Rattle.raft_log_recovery.proofs.KeptLemmas.{ok_two}
use Rattle.raft_log_recovery.proofs.builder.DualPipesBuilder.with_found.Goals as goal

pub returns-clause-reserved : goal.returns-clause-reserved
returns-clause-reserved g c =
    let p = c.args.pipes.now.append in
    let q = c.keep_reserved.new.self.append in
    let d = g.F.FileSystem.disk c.args.files.now in
    let n = c.recycle_capacity-capacity.result in
    let found = c.in_ok-found.ensures ∙ ap as_reserved c.deref.ensures.value in
    ok_two c.keep_reserved.result (q.capacity ≡ n) (AreReserved p.queue (directories_of_pipe p) d c.in_ok-found.found.items → q.reserved.items ≡ c.in_ok-found.found.items)
    (KeepsFound c.args.self.now p.queue (directories_of_pipe p) d q)
    (λ capacity kept. record {
      capacity = capacity ∙ c.recycle_capacity-capacity.ensures;
      found = subst (λ (l : List ReservedFile). AreReserved p.queue (directories_of_pipe p) d l → q.reserved.items ≡ l) found kept;
    })
    c.keep_reserved.ensures.capacity c.keep_reserved.ensures.ok
