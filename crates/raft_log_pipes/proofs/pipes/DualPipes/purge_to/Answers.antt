use Rattle.std.proofs.Common.{refl}
use Rattle.raft_log_records.specs.declared.file_id.LogQueue.TheVariants.{Append, Rewrite}
use Rattle.raft_log_pipe.proofs.OthersLemmas.{gone_others}
use Rattle.raft_log_pipes.proofs.QueueLemmas.{beside, both_append, both_rewrite, keeps_as, not_append, not_rewrite}
use Rattle.raft_log_pipes.proofs.pipes.DualPipes.purge_to.Goals as goal

pub returns-in-Append-clause-call : goal.returns-in-Append-clause-call
returns-in-Append-clause-call g c = rw c.in-Append.is (record { pipe = c.purge_to.ensures.pipe; same = c.purge_to.ensures.same.0; ok = c.purge_to.ensures.ok; out = c.purge_to.ensures.out; within = c.purge_to.ensures.within; bound = c.purge_to.ensures.bound; rest = c.purge_to.ensures.rest; gone = c.purge_to.ensures.gone; holds = c.purge_to.ensures.holds; keeps = c.purge_to.ensures.keeps; paths = c.purge_to.ensures.paths; front = c.purge_to.ensures.front; room = c.purge_to.ensures.room; kept = c.purge_to.ensures.kept; alone = c.purge_to.ensures.alone; stands = c.purge_to.ensures.stands })

pub returns-in-Append-clause-others : goal.returns-in-Append-clause-others
returns-in-Append-clause-others g c = rw c.in-Append.is (keeps_as c.args.self.now.append.queue Append _ _ c.args.self.now.appends (gone_others c.args.self.now.append.queue _ _ _ c.purge_to.ensures.keeps))

pub returns-in-Append-clause-other : goal.returns-in-Append-clause-other
returns-in-Append-clause-other g c =
    let met = g.met.F.FileSystem g.world.𝓛 g.world.𝓜 g.world.𝓡 ((λ s x. x), (λ x. x), (λ x. x), λ x. x) in
    rw c.in-Append.is
    (beside Append c.args.self.now.rewrite _ _ (not_append c.args.self.now.rewrite.queue c.args.self.now.rewrites) (met.is_named c.args.files.now) (met.is_named c.purge_to.new.files)
    (keeps_as c.args.self.now.append.queue Append _ _ c.args.self.now.appends (gone_others c.args.self.now.append.queue _ _ _ c.purge_to.ensures.keeps)))

pub returns-in-Rewrite-clause-call : goal.returns-in-Rewrite-clause-call
returns-in-Rewrite-clause-call g c = rw c.in-Rewrite.is (record { pipe = c.purge_to-in-Rewrite.ensures.pipe; same = c.purge_to-in-Rewrite.ensures.same.0; ok = c.purge_to-in-Rewrite.ensures.ok; out = c.purge_to-in-Rewrite.ensures.out; within = c.purge_to-in-Rewrite.ensures.within; bound = c.purge_to-in-Rewrite.ensures.bound; rest = c.purge_to-in-Rewrite.ensures.rest; gone = c.purge_to-in-Rewrite.ensures.gone; holds = c.purge_to-in-Rewrite.ensures.holds; keeps = c.purge_to-in-Rewrite.ensures.keeps; paths = c.purge_to-in-Rewrite.ensures.paths; front = c.purge_to-in-Rewrite.ensures.front; room = c.purge_to-in-Rewrite.ensures.room; kept = c.purge_to-in-Rewrite.ensures.kept; alone = c.purge_to-in-Rewrite.ensures.alone; stands = c.purge_to-in-Rewrite.ensures.stands })

pub returns-in-Rewrite-clause-others : goal.returns-in-Rewrite-clause-others
returns-in-Rewrite-clause-others g c = rw c.in-Rewrite.is (keeps_as c.args.self.now.rewrite.queue Rewrite _ _ c.args.self.now.rewrites (gone_others c.args.self.now.rewrite.queue _ _ _ c.purge_to-in-Rewrite.ensures.keeps))

pub returns-in-Rewrite-clause-other : goal.returns-in-Rewrite-clause-other
returns-in-Rewrite-clause-other g c =
    let met = g.met.F.FileSystem g.world.𝓛 g.world.𝓜 g.world.𝓡 ((λ s x. x), (λ x. x), (λ x. x), λ x. x) in
    rw c.in-Rewrite.is
    (beside Rewrite c.args.self.now.append _ _ (not_rewrite c.args.self.now.append.queue c.args.self.now.appends) (met.is_named c.args.files.now) (met.is_named c.purge_to-in-Rewrite.new.files)
    (keeps_as c.args.self.now.rewrite.queue Rewrite _ _ c.args.self.now.rewrites (gone_others c.args.self.now.rewrite.queue _ _ _ c.purge_to-in-Rewrite.ensures.keeps)))

pub returns-in-Append-clause-both : goal.returns-in-Append-clause-both
returns-in-Append-clause-both g c =
    let met = g.met.F.FileSystem g.world.𝓛 g.world.𝓜 g.world.𝓡 ((λ s x. x), (λ x. x), (λ x. x), λ x. x) in
    let other = beside Append c.args.self.now.rewrite _ _ (not_append c.args.self.now.rewrite.queue c.args.self.now.rewrites) (met.is_named c.args.files.now) (met.is_named c.purge_to.new.files)
    (keeps_as c.args.self.now.append.queue Append _ _ c.args.self.now.appends (gone_others c.args.self.now.append.queue _ _ _ c.purge_to.ensures.keeps)) in
    λ pipes. both_append c.args.self.now _ _ _ refl other pipes c.purge_to.ensures.pipe

pub returns-in-Rewrite-clause-both : goal.returns-in-Rewrite-clause-both
returns-in-Rewrite-clause-both g c =
    let met = g.met.F.FileSystem g.world.𝓛 g.world.𝓜 g.world.𝓡 ((λ s x. x), (λ x. x), (λ x. x), λ x. x) in
    let other = beside Rewrite c.args.self.now.append _ _ (not_rewrite c.args.self.now.append.queue c.args.self.now.appends) (met.is_named c.args.files.now) (met.is_named c.purge_to-in-Rewrite.new.files)
    (keeps_as c.args.self.now.rewrite.queue Rewrite _ _ c.args.self.now.rewrites (gone_others c.args.self.now.rewrite.queue _ _ _ c.purge_to-in-Rewrite.ensures.keeps)) in
    λ pipes. both_rewrite c.args.self.now _ _ _ refl other pipes c.purge_to-in-Rewrite.ensures.pipe

pub returns-in-Append-clause-cause : goal.returns-in-Append-clause-cause
returns-in-Append-clause-cause g c = rw c.in-Append.is c.purge_to.ensures.cause

pub returns-in-Rewrite-clause-cause : goal.returns-in-Rewrite-clause-cause
returns-in-Rewrite-clause-cause g c = rw c.in-Rewrite.is c.purge_to-in-Rewrite.ensures.cause

pub returns-in-Append-clause-taken : goal.returns-in-Append-clause-taken
returns-in-Append-clause-taken g c = rw c.in-Append.is c.purge_to.ensures.taken

pub returns-in-Rewrite-clause-taken : goal.returns-in-Rewrite-clause-taken
returns-in-Rewrite-clause-taken g c = rw c.in-Rewrite.is c.purge_to-in-Rewrite.ensures.taken
