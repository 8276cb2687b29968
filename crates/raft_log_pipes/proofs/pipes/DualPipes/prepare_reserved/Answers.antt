use Rattle.std.proofs.Common.{refl}
use Rattle.raft_log_records.specs.declared.file_id.LogQueue.TheVariants.{Append}
use Rattle.raft_log_pipe.proofs.UnreservedLemmas.{unreserved_others}
use Rattle.raft_log_pipes.proofs.QueueLemmas.{beside, both_append, each_queue, not_append, on_ok}
use Rattle.raft_log_pipes.proofs.pipes.DualPipes.prepare_reserved.Goals as goal

pub returns-clause-pipes : goal.returns-clause-pipes
returns-clause-pipes g c =
    let met = g.met.F.FileSystem g.world.𝓛 g.world.𝓜 g.world.𝓡 ((λ s x. x), (λ x. x), (λ x. x), λ x. x) in
    let d = g.F.FileSystem.disk c.args.files.now in
    let e = g.F.FileSystem.disk c.prepare_reserved.new.files in
    let p = c.args.self.now in
    let other = beside Append p.rewrite d e (not_append p.rewrite.queue p.rewrites) (met.is_named c.args.files.now) (met.is_named c.prepare_reserved.new.files) (unreserved_others d e c.prepare_reserved.ensures.unreserved) in
    both_append p _ d e refl other c.requires c.prepare_reserved.ensures.pipe

pub returns-clause-made : goal.returns-clause-made
returns-clause-made g c = on_ok _ _ c.prepare_reserved.result (λ f. f c.args.self.now.appends) c.prepare_reserved.ensures.made

pub returns-clause-holds : goal.returns-clause-holds
returns-clause-holds g c =
    let met = g.met.F.FileSystem g.world.𝓛 g.world.𝓜 g.world.𝓡 ((λ s x. x), (λ x. x), (λ x. x), λ x. x) in
    let d = g.F.FileSystem.disk c.args.files.now in
    let e = g.F.FileSystem.disk c.prepare_reserved.new.files in
    let p = c.args.self.now in
    let other = beside Append p.rewrite d e (not_append p.rewrite.queue p.rewrites) (met.is_named c.args.files.now) (met.is_named c.prepare_reserved.new.files) (unreserved_others d e c.prepare_reserved.ensures.unreserved) in
    each_queue _ c.prepare_reserved.ensures.holds other.holds

pub returns-clause-alone : goal.returns-clause-alone
returns-clause-alone g c =
    let met = g.met.F.FileSystem g.world.𝓛 g.world.𝓜 g.world.𝓡 ((λ s x. x), (λ x. x), (λ x. x), λ x. x) in
    let d = g.F.FileSystem.disk c.args.files.now in
    let e = g.F.FileSystem.disk c.prepare_reserved.new.files in
    let p = c.args.self.now in
    let other = beside Append p.rewrite d e (not_append p.rewrite.queue p.rewrites) (met.is_named c.args.files.now) (met.is_named c.prepare_reserved.new.files) (unreserved_others d e c.prepare_reserved.ensures.unreserved) in
    each_queue _ c.prepare_reserved.ensures.alone other.alone
