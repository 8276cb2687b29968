use Rattle.std.proofs.Common.{arith, rules}
use Rattle.std.specs.Prelude.{Contains}
use Rattle.std.proofs.lemmas.Grind.{common_steps}
use Rattle.std.proofs.lemmas.List.Elements.{Contains-get_or}
use Rattle.raft_log_engine.proofs.CacheLemmas.{more_read}
use Rattle.std.proofs.Common.{◌≡◌, ◌⊎◌}
use Rattle.raft_log_files.specs.declared.error.Error.TheVariants.{Memory}
use Rattle.raft_log_records.specs.declared.item.EntryIndex.{EntryIndex}
use Rattle.raft_log_engine.specs.Caused.{IsCopyFault}
use Rattle.raft_log_engine.specs.declared.fault.EngineFault.{EngineFault}
use Rattle.raft_log_engine.specs.declared.fault.EngineFault.TheVariants.{Log}
use Rattle.raft_log_engine.proofs.Caused.{copied_fault}
use Rattle.raft_log_pipe.proofs.CausedLemmas.{told_cause}
use Rattle.raft_log_engine.proofs.blocks.copies_of.Goals as goal

pub loop-place-preserved : goal.loop-place-preserved
loop-place-preserved g c = record {
  copied = first_of (search rules, grind (arith, common_steps));
  kept = more_read (g.F.FileSystem.disk c.args.files.now) c.args.pipes.now (Contains c.args.places.now) _ c.args.cache.now c.loop-place.cache c.copy_of.new.cache (Contains-get_or c.args.places.now c.loop-place.place-index _ (omega arith)) c.loop-place.invariant.kept c.copy_of.ensures.kept;
  reads = omega arith;
}

pub returns-in_err-copy_of-clause-err : goal.returns-in_err-copy_of-clause-err
returns-in_err-copy_of-clause-err g c =
    let d = g.F.FileSystem.disk c.args.files.now in
    let p = c.args.pipes.now in
    let m = g.F.FileSystem.meter c.args.files.now in
    told_cause c.from_residual.result c.in_err-copy_of.field-0.0 (λ (fault : EngineFault). (fault ≡ Log Memory) ⊎ ((x : EntryIndex) × Contains c.args.places.now x × IsCopyFault d p m x fault)) c.from_residual.ensures.1
    (copied_fault d p m c.args.places.now _ c.in_err-copy_of.field-0.0 (Contains-get_or c.args.places.now c.loop-place.place-index _ (omega arith)) c.in_err-copy_of.ensures.err)
