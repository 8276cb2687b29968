use Rattle.std.proofs.Common.{refl}
use Rattle.raft_log_records.specs.declared.file_id.LogQueue.TheVariants.{Append, Rewrite}
use Rattle.raft_log_pipes.proofs.QueueLemmas.{beside, both_append, both_rewrite, keeps_as, not_append, not_rewrite, on_ok}
use Rattle.raft_log_pipes.proofs.pipes.DualPipes.rotate.Goals as goal

pub returns-in-Append-clause-call : goal.returns-in-Append-clause-call
returns-in-Append-clause-call g c = rw c.in-Append.is (record { pipe = c.rotate.ensures.pipe; next = c.rotate.ensures.next; takes = c.rotate.ensures.takes; paths = c.rotate.ensures.paths; alone = c.rotate.ensures.alone; nearly = c.rotate.ensures.nearly; ok = c.rotate.ensures.ok; err = c.rotate.ensures.err; torn = c.rotate.ensures.torn })

pub returns-in-Append-clause-others : goal.returns-in-Append-clause-others
returns-in-Append-clause-others g c = rw c.in-Append.is (keeps_as c.args.self.now.append.queue Append _ _ c.args.self.now.appends c.rotate.ensures.others)

pub returns-in-Append-clause-other : goal.returns-in-Append-clause-other
returns-in-Append-clause-other g c =
    let met = g.met.F.FileSystem g.world.𝓛 g.world.𝓜 g.world.𝓡 ((λ s x. x), (λ x. x), (λ x. x), λ x. x) in
    rw c.in-Append.is
    (beside Append c.args.self.now.rewrite _ _ (not_append c.args.self.now.rewrite.queue c.args.self.now.rewrites) (met.is_named c.args.files.now) (met.is_named c.rotate.new.files)
    (keeps_as c.args.self.now.append.queue Append _ _ c.args.self.now.appends c.rotate.ensures.others))

pub returns-in-Rewrite-clause-call : goal.returns-in-Rewrite-clause-call
returns-in-Rewrite-clause-call g c = rw c.in-Rewrite.is (record { pipe = c.rotate-in-Rewrite.ensures.pipe; next = c.rotate-in-Rewrite.ensures.next; takes = c.rotate-in-Rewrite.ensures.takes; paths = c.rotate-in-Rewrite.ensures.paths; alone = c.rotate-in-Rewrite.ensures.alone; nearly = c.rotate-in-Rewrite.ensures.nearly; ok = c.rotate-in-Rewrite.ensures.ok; err = c.rotate-in-Rewrite.ensures.err; torn = c.rotate-in-Rewrite.ensures.torn })

pub returns-in-Rewrite-clause-others : goal.returns-in-Rewrite-clause-others
returns-in-Rewrite-clause-others g c = rw c.in-Rewrite.is (keeps_as c.args.self.now.rewrite.queue Rewrite _ _ c.args.self.now.rewrites c.rotate-in-Rewrite.ensures.others)

pub returns-in-Rewrite-clause-other : goal.returns-in-Rewrite-clause-other
returns-in-Rewrite-clause-other g c =
    let met = g.met.F.FileSystem g.world.𝓛 g.world.𝓜 g.world.𝓡 ((λ s x. x), (λ x. x), (λ x. x), λ x. x) in
    rw c.in-Rewrite.is
    (beside Rewrite c.args.self.now.append _ _ (not_rewrite c.args.self.now.append.queue c.args.self.now.appends) (met.is_named c.args.files.now) (met.is_named c.rotate-in-Rewrite.new.files)
    (keeps_as c.args.self.now.rewrite.queue Rewrite _ _ c.args.self.now.rewrites c.rotate-in-Rewrite.ensures.others))

pub returns-in-Append-clause-both : goal.returns-in-Append-clause-both
returns-in-Append-clause-both g c =
    let met = g.met.F.FileSystem g.world.𝓛 g.world.𝓜 g.world.𝓡 ((λ s x. x), (λ x. x), (λ x. x), λ x. x) in
    let other = beside Append c.args.self.now.rewrite _ _ (not_append c.args.self.now.rewrite.queue c.args.self.now.rewrites) (met.is_named c.args.files.now) (met.is_named c.rotate.new.files)
    (keeps_as c.args.self.now.append.queue Append _ _ c.args.self.now.appends c.rotate.ensures.others) in
    λ pipes. on_ok _ _ c.rotate.result (both_append c.args.self.now _ _ _ refl other pipes) c.rotate.ensures.pipe

pub returns-in-Rewrite-clause-both : goal.returns-in-Rewrite-clause-both
returns-in-Rewrite-clause-both g c =
    let met = g.met.F.FileSystem g.world.𝓛 g.world.𝓜 g.world.𝓡 ((λ s x. x), (λ x. x), (λ x. x), λ x. x) in
    let other = beside Rewrite c.args.self.now.append _ _ (not_rewrite c.args.self.now.append.queue c.args.self.now.appends) (met.is_named c.args.files.now) (met.is_named c.rotate-in-Rewrite.new.files)
    (keeps_as c.args.self.now.rewrite.queue Rewrite _ _ c.args.self.now.rewrites c.rotate-in-Rewrite.ensures.others) in
    λ pipes. on_ok _ _ c.rotate-in-Rewrite.result (both_rewrite c.args.self.now _ _ _ refl other pipes) c.rotate-in-Rewrite.ensures.pipe

pub returns-in-Append-clause-taken : goal.returns-in-Append-clause-taken
returns-in-Append-clause-taken g c = rw c.in-Append.is c.rotate.ensures.taken

pub returns-in-Rewrite-clause-taken : goal.returns-in-Rewrite-clause-taken
returns-in-Rewrite-clause-taken g c = rw c.in-Rewrite.is c.rotate-in-Rewrite.ensures.taken

pub returns-in-Append-clause-cause : goal.returns-in-Append-clause-cause
returns-in-Append-clause-cause g c = rw c.in-Append.is c.rotate.ensures.cause

pub returns-in-Rewrite-clause-cause : goal.returns-in-Rewrite-clause-cause
returns-in-Rewrite-clause-cause g c = rw c.in-Rewrite.is c.rotate-in-Rewrite.ensures.cause
