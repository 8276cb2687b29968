-- What the workers' machine has kept is replayed behind what the other one has replayed.
use Rattle.std.proofs.Common.{[]}
use Rattle.raft_log_traced.specs.Traced.{IsReplayedTraced}
use Rattle.raft_log_workers.specs.Batches.{HasBatches}
use Rattle.raft_log_engine.proofs.Handed.{refused_so, unreplayed_so}
use Rattle.raft_log_engine.proofs.ways.recover_by_workers.Goals as goal

pub returns : goal.returns
returns g c =
    let way = c.in_ok-recovered.ensures in
    record {
      ok = way.ok;
      replayed = λ placed has.
          let got = way.replayed [] c.new_machine-batches.ensures in
          (got.0, c.in_ok-replay_into.ensures.replayed placed got.0 has got.1, got.2);
      only = way.only;
      reads = way.reads;
      err = way.err;
      refused = way.refused;
      kept = way.kept;
      corrupt = way.corrupt;
      later = way.later;
      cause = way.cause;
      taken = way.taken;
    }

pub returns-in_err-recovered : goal.returns-in_err-recovered
returns-in_err-recovered g c =
    refused_so (HasBatches c.new_machine-batches.result) (HasBatches c.recover_queue.new.machine) (IsReplayedTraced c.args.machine.now) (IsReplayedTraced c.args.machine.now) c.args.builder.now c.args.config.now
    (g.F.FileSystem.disk c.args.files.now) (g.F.FileSystem.disk c.recover_queue.new.files) (g.F.FileSystem.is_bounded c.args.files.now) (g.F.FileSystem.is_bounded c.recover_queue.new.files)
    (g.F.FileSystem.meter c.args.files.now) (g.F.FileSystem.meter c.recover_queue.new.files) c.in_err-recovered.field-0.0 c.from_residual.result c.from_residual.ensures.1 c.in_err-recovered.ensures

pub returns-in_err-replay_into : goal.returns-in_err-replay_into
returns-in_err-replay_into g c =
    unreplayed_so (HasBatches c.new_machine-batches.result) (HasBatches c.recover_queue.new.machine) (IsReplayedTraced c.args.machine.now) (IsReplayedTraced c.replay_into.new.machine) c.args.builder.now c.args.config.now
    (g.F.FileSystem.disk c.args.files.now) (g.F.FileSystem.disk c.recover_queue.new.files) (g.F.FileSystem.is_bounded c.args.files.now) (g.F.FileSystem.is_bounded c.recover_queue.new.files)
    (g.F.FileSystem.meter c.args.files.now) (g.F.FileSystem.meter c.recover_queue.new.files) c.in_ok-recovered.recovered c.in_err-replay_into.field-0.0 c.from_residual-in_err-replay_into.result c.from_residual-in_err-replay_into.ensures.1 c.in_err-replay_into.ensures.err c.in_ok-recovered.ensures
