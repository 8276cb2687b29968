use Rattle.std.proofs.Common.{refl}
use Rattle.raft_log_records.specs.declared.file_id.LogQueue.TheVariants.{Append, Rewrite}
use Rattle.raft_log_pipes.proofs.QueueLemmas.{beside, both_append, both_rewrite, keeps_as, not_append, not_rewrite, on_ok}
use Rattle.raft_log_pipes.proofs.pipes.DualPipes.append.Goals as goal

pub returns-in-Append-clause-call : goal.returns-in-Append-clause-call
returns-in-Append-clause-call g c = rw c.in-Append.is (record { pipe = c.append.ensures.pipe; paths = c.append.ensures.paths; alone = c.append.ensures.alone; nearly = c.append.ensures.nearly; files = c.append.ensures.files; first = c.append.ensures.first; ok = c.append.ensures.ok; stands = c.append.ensures.stands; fits = c.append.ensures.fits; err = c.append.ensures.err; torn = c.append.ensures.torn })

pub returns-in-Append-clause-others : goal.returns-in-Append-clause-others
returns-in-Append-clause-others g c = rw c.in-Append.is (keeps_as c.args.self.now.append.queue Append _ _ c.args.self.now.appends c.append.ensures.others)

pub returns-in-Append-clause-other : goal.returns-in-Append-clause-other
returns-in-Append-clause-other g c =
    let met = g.met.F.FileSystem g.world.𝓛 g.world.𝓜 g.world.𝓡 ((λ s x. x), (λ x. x), (λ x. x), λ x. x) in
    rw c.in-Append.is
    (beside Append c.args.self.now.rewrite _ _ (not_append c.args.self.now.rewrite.queue c.args.self.now.rewrites) (met.is_named c.args.files.now) (met.is_named c.append.new.files)
    (keeps_as c.args.self.now.append.queue Append _ _ c.args.self.now.appends c.append.ensures.others))

pub returns-in-Rewrite-clause-call : goal.returns-in-Rewrite-clause-call
returns-in-Rewrite-clause-call g c = rw c.in-Rewrite.is (record { pipe = c.append-in-Rewrite.ensures.pipe; paths = c.append-in-Rewrite.ensures.paths; alone = c.append-in-Rewrite.ensures.alone; nearly = c.append-in-Rewrite.ensures.nearly; files = c.append-in-Rewrite.ensures.files; first = c.append-in-Rewrite.ensures.first; ok = c.append-in-Rewrite.ensures.ok; stands = c.append-in-Rewrite.ensures.stands; fits = c.append-in-Rewrite.ensures.fits; err = c.append-in-Rewrite.ensures.err; torn = c.append-in-Rewrite.ensures.torn })

pub returns-in-Rewrite-clause-others : goal.returns-in-Rewrite-clause-others
returns-in-Rewrite-clause-others g c = rw c.in-Rewrite.is (keeps_as c.args.self.now.rewrite.queue Rewrite _ _ c.args.self.now.rewrites c.append-in-Rewrite.ensures.others)

pub returns-in-Rewrite-clause-other : goal.returns-in-Rewrite-clause-other
returns-in-Rewrite-clause-other g c =
    let met = g.met.F.FileSystem g.world.𝓛 g.world.𝓜 g.world.𝓡 ((λ s x. x), (λ x. x), (λ x. x), λ x. x) in
    rw c.in-Rewrite.is
    (beside Rewrite c.args.self.now.append _ _ (not_rewrite c.args.self.now.append.queue c.args.self.now.appends) (met.is_named c.args.files.now) (met.is_named c.append-in-Rewrite.new.files)
    (keeps_as c.args.self.now.rewrite.queue Rewrite _ _ c.args.self.now.rewrites c.append-in-Rewrite.ensures.others))

pub returns-in-Append-clause-both : goal.returns-in-Append-clause-both
returns-in-Append-clause-both g c =
    let met = g.met.F.FileSystem g.world.𝓛 g.world.𝓜 g.world.𝓡 ((λ s x. x), (λ x. x), (λ x. x), λ x. x) in
    let other = beside Append c.args.self.now.rewrite _ _ (not_append c.args.self.now.rewrite.queue c.args.self.now.rewrites) (met.is_named c.args.files.now) (met.is_named c.append.new.files)
    (keeps_as c.args.self.now.append.queue Append _ _ c.args.self.now.appends c.append.ensures.others) in
    λ pipes. on_ok _ _ c.append.result (both_append c.args.self.now _ _ _ refl other pipes) c.append.ensures.pipe

pub returns-in-Rewrite-clause-both : goal.returns-in-Rewrite-clause-both
returns-in-Rewrite-clause-both g c =
    let met = g.met.F.FileSystem g.world.𝓛 g.world.𝓜 g.world.𝓡 ((λ s x. x), (λ x. x), (λ x. x), λ x. x) in
    let other = beside Rewrite c.args.self.now.append _ _ (not_rewrite c.args.self.now.append.queue c.args.self.now.appends) (met.is_named c.args.files.now) (met.is_named c.append-in-Rewrite.new.files)
    (keeps_as c.args.self.now.rewrite.queue Rewrite _ _ c.args.self.now.rewrites c.append-in-Rewrite.ensures.others) in
    λ pipes. on_ok _ _ c.append-in-Rewrite.result (both_rewrite c.args.self.now _ _ _ refl other pipes) c.append-in-Rewrite.ensures.pipe

pub returns-in-Append-clause-taken : goal.returns-in-Append-clause-taken
returns-in-Append-clause-taken g c = rw c.in-Append.is c.append.ensures.taken

pub returns-in-Rewrite-clause-taken : goal.returns-in-Rewrite-clause-taken
returns-in-Rewrite-clause-taken g c = rw c.in-Rewrite.is c.append-in-Rewrite.ensures.taken

pub returns-in-Append-clause-cause : goal.returns-in-Append-clause-cause
returns-in-Append-clause-cause g c = rw c.in-Append.is c.append.ensures.cause

pub returns-in-Rewrite-clause-cause : goal.returns-in-Rewrite-clause-cause
returns-in-Rewrite-clause-cause g c = rw c.in-Rewrite.is c.append-in-Rewrite.ensures.cause
