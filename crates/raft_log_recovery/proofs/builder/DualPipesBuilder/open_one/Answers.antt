use Rattle.std.proofs.Common.{⊎_elim}
use Rattle.raft_log_recovery.specs.Queue.{directories_in, names_in}
use Rattle.raft_log_recovery.proofs.BothLemmas.{kept_either, opened_of}
use Rattle.raft_log_recovery.proofs.builder.DualPipesBuilder.open_one.Goals as goal

pub returns-clause-opened : goal.returns-clause-opened
returns-clause-opened g c =
    opened_of c.open_by.result c.args.self.now c.args.queue (g.F.FileSystem.disk c.args.files.now) (g.F.FileSystem.disk c.open_by.new.files) c.open_by.ensures.pipe c.open_by.ensures.queue c.open_by.ensures.paths
    c.open_by.ensures.alone c.open_by.ensures.settings

pub returns-clause-leaves : goal.returns-clause-leaves
returns-clause-leaves g c = record {
  again = c.open_by.ensures.again;
  left = c.open_by.ensures.left;
  kept = kept_either c.open_by.result c.args.self.now.config.recovery_mode (directories_in c.args.self.now) c.args.queue (names_in c.args.self.now c.args.queue) (g.F.FileSystem.disk c.args.files.now)
      (g.F.FileSystem.disk c.open_by.new.files) c.open_by.ensures.refused c.open_by.ensures.kept;
}

pub returns-clause-refused : goal.returns-clause-refused
returns-clause-refused g c = λ cant. ⊎_elim c.open_by.ensures.refused c.open_by.ensures.aligned cant

pub returns-clause-corrupt : goal.returns-clause-corrupt
returns-clause-corrupt g c = c.open_by.ensures.corrupt

pub returns-clause-cause : goal.returns-clause-cause
returns-clause-cause g c = c.open_by.ensures.cause

pub returns-clause-holes : goal.returns-clause-holes
returns-clause-holes g c = c.open_by.ensures.holes
