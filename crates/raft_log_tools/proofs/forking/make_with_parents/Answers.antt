use Rattle.std.proofs.Common.{refl, ◌∙◌}
use Rattle.raft_log_tools.proofs.ForkLemmas.{adds_none, adds_then}
use Rattle.raft_log_tools.proofs.forking.make_with_parents.Goals as goal

pub loop-name-init : goal.loop-name-init
loop-name-init g c = record { adds = adds_none (g.F.FileSystem.disk c.args.files.now) (g.F.FileSystem.disk c.args.files.now) refl; names = refl }

pub loop-name-preserved : goal.loop-name-preserved
loop-name-preserved g c = record {
  adds = adds_then (g.F.FileSystem.disk c.args.files.now) (g.F.FileSystem.disk c.loop-name.files) (g.F.FileSystem.disk c.make_parent.new.files) c.loop-name.invariant.adds c.make_parent.ensures.adds;
  names = c.make_parent.ensures.names ∙ c.loop-name.invariant.names;
}

pub returns-clause-adds : goal.returns-clause-adds
returns-clause-adds g c = adds_then (g.F.FileSystem.disk c.args.files.now) (g.F.FileSystem.disk c.loop-name.files) (g.F.FileSystem.disk c.make_directory.new.files) c.loop-name.invariant.adds c.make_directory.ensures.adds

pub returns-in_err-make_parent-clause-adds : goal.returns-in_err-make_parent-clause-adds
returns-in_err-make_parent-clause-adds g c = adds_then (g.F.FileSystem.disk c.args.files.now) (g.F.FileSystem.disk c.loop-name.files) (g.F.FileSystem.disk c.make_parent.new.files) c.loop-name.invariant.adds c.make_parent.ensures.adds

pub returns-in_err-push_str-2-clause-adds : goal.returns-in_err-push_str-2-clause-adds
returns-in_err-push_str-2-clause-adds g c = adds_then (g.F.FileSystem.disk c.args.files.now) (g.F.FileSystem.disk c.loop-name.files) (g.F.FileSystem.disk c.make_parent.new.files) c.loop-name.invariant.adds c.make_parent.ensures.adds
