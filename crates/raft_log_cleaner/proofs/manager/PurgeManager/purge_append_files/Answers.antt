-- Files that no group needs.
use Rattle.std.proofs.Common.{◌≡◌, ℕ, ◌+◌, ap, sym, ◌∙◌}
use Rattle.std.specs.Prelude.{Result, Ok, Err, IfOk}
use Rattle.raft_log_pipe.specs.Pipe.{first_of}
use Rattle.raft_log_cleaner.proofs.Caused.{going_cause}
use Rattle.raft_log_cleaner.proofs.Going.{when_err, when_ok}
use Rattle.raft_log_cleaner.proofs.Gone.{counted, files_gone, none_from, rest_leaves}
use Rattle.raft_log_cleaner.proofs.Keeping.{pipe_as_before}
use Rattle.raft_log_cleaner.proofs.Stood.{gone_keeps, refused_to_go}
use Rattle.raft_log_cleaner.proofs.manager.PurgeManager.purge_append_files.Goals as goal

pub let_go-requires-after_bounds : goal.let_go-requires-after_bounds
let_go-requires-after_bounds g c κs within = c.requires.1.pipes.append

pub returns-clause-cleans : goal.returns-clause-cleans
returns-clause-cleans g c =
    let d = g.F.FileSystem.disk c.args.files.now in
    let e = g.F.FileSystem.disk c.let_go.new.files in
    let call = c.let_go.ensures.call in
    record {
      ok = λ content can. when_ok c.let_go.result (files_gone d e c.args.pipes.now c.let_go.new.pipes c.args.log.now content can call.0 c.let_go.result c.args.barrier call.1 call.2 c.let_go.ensures.other);
      err = λ content can. when_err c.let_go.result (rest_leaves d e c.args.pipes.now c.let_go.new.pipes c.args.log.now content can call.0 c.let_go.result c.args.barrier call.1 call.2 c.let_go.ensures.other);
    }

pub returns-clause-barrier : goal.returns-clause-barrier
returns-clause-barrier g c =
    let call = c.let_go.ensures.call in
    none_from (g.F.FileSystem.disk c.args.files.now) (g.F.FileSystem.disk c.let_go.new.files) c.args.pipes.now c.let_go.new.pipes c.args.log.now c.requires.0 c.requires.1 call.0 c.let_go.result c.args.barrier call.1 call.2

pub returns-clause-gone : goal.returns-clause-gone
returns-clause-gone g c = c.let_go.ensures.gone

pub returns-clause-count : goal.returns-clause-count
returns-clause-count g c = counted c.let_go.result c.let_go.ensures.call.0 c.args.pipes.now.append c.let_go.new.pipes.append c.let_go.ensures.call.2.ok

pub returns-clause-kept : goal.returns-clause-kept
returns-clause-kept g c =
    pipe_as_before c.args.pipes.now.rewrite c.let_go.new.pipes.rewrite (g.F.FileSystem.disk c.args.files.now) (g.F.FileSystem.disk c.let_go.new.files) c.let_go.ensures.other

pub returns-clause-held : goal.returns-clause-held
returns-clause-held g c = ap first_of c.let_go.ensures.other.same

pub returns-clause-both : goal.returns-clause-both
returns-clause-both g c =
    let met = g.met.F.FileSystem g.world.𝓛 g.world.𝓜 g.world.𝓡 ((λ s x. x), (λ x. x), (λ x. x), λ x. x) in
    let call = c.let_go.ensures.call in
    gone_keeps (g.F.FileSystem.disk c.args.files.now) (g.F.FileSystem.disk c.let_go.new.files) c.args.pipes.now c.let_go.new.pipes c.args.log.now call.0 c.let_go.result c.args.barrier (met.is_named c.args.files.now) (met.is_named c.let_go.new.files) call.1 call.2
    c.let_go.ensures.set.0 c.let_go.ensures.other

pub returns-clause-stands : goal.returns-clause-stands
returns-clause-stands g c =
    let met = g.met.F.FileSystem g.world.𝓛 g.world.𝓜 g.world.𝓡 ((λ s x. x), (λ x. x), (λ x. x), λ x. x) in
    let call = c.let_go.ensures.call in
    refused_to_go (g.F.FileSystem.disk c.args.files.now) (g.F.FileSystem.disk c.let_go.new.files) c.args.pipes.now c.let_go.new.pipes c.args.log.now call.0 c.let_go.result c.args.barrier (met.is_named c.args.files.now) (met.is_named c.let_go.new.files) call.1 call.2
    c.let_go.ensures.set.0 c.let_go.ensures.other

pub returns-clause-cause : goal.returns-clause-cause
returns-clause-cause g c = going_cause (g.F.FileSystem.meter c.args.files.now) (g.F.FileSystem.meter c.let_go.new.files) c.let_go.result c.let_go.ensures.cause
