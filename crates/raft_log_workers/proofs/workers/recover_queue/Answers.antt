use Rattle.std.proofs.Common.{List, length, map, string_bytes, sym, subst, arith}
use Rattle.std.specs.Prelude.{String}
use Rattle.std.specs.declared.alloc.Global.{Global}
use Rattle.std.proofs.lemmas.List.{length-map}
use Rattle.raft_log_recovery.specs.declared.scan.FileKind.TheVariants.{Log}
use Rattle.raft_log_recovery.specs.declared.scan.FileName.{FileName}
use Rattle.raft_log_recovery.specs.Queue.{AreNumbered, directories_in, names_in}
use Rattle.raft_log_recovery.proofs.FoundLemmas.{found_numbered}
use Rattle.raft_log_workers.proofs.WholeLemmas.{RecoversThese, recovers}
use Rattle.raft_log_workers.proofs.workers.recover_queue.Goals as goal

pub recover_each-requires-after_bounds : goal.recover_each-requires-after_bounds
recover_each-requires-after_bounds g c κs within =
    let queue = c.args.config.now.queue in
    let dirs : List (String Global) = c.args.builder.now.directories.items in
    subst (λ (l : List FileName). AreNumbered (length c.directories.result.now) l) (sym c.names_of-names.ensures)
    (subst (λ (l : List (String Global)). AreNumbered (length l) (names_in c.args.builder.now queue)) (sym c.directories.ensures)
    (found_numbered (g.F.FileSystem.disk c.args.files.now) (Log queue) (directories_in c.args.builder.now) (length dirs) (names_in c.args.builder.now queue) (omega (arith, length-map dirs (string_bytes {Z = Global}))) c.requires))

pub returns : goal.returns
returns g c =
    let before = g.M.ReplayMachine.has_replayed c.args.machine.now in
    let after = g.M.ReplayMachine.has_replayed c.recover_each.new.machine in
    let config = c.args.config.now in
    let old = g.F.FileSystem.disk c.args.files.now in
    let new = g.F.FileSystem.disk c.recover_each.new.files in
    let free : Type 0 = g.F.FileSystem.is_bounded c.args.files.now in
    let free_then : Type 0 = g.F.FileSystem.is_bounded c.recover_each.new.files in
    let a = g.F.FileSystem.meter c.args.files.now in
    let b = g.F.FileSystem.meter c.recover_each.new.files in
    let these : RecoversThese before after config old new free free_then a b c.recover_each.result (map string_bytes c.directories.result.now) c.names_of-names.result.now
    = record {
      ok = c.recover_each.ensures.ok;
      replayed = c.recover_each.ensures.replayed;
      only = c.recover_each.ensures.only;
      reads = c.recover_each.ensures.reads;
      err = c.recover_each.ensures.err;
      refused = c.recover_each.ensures.refused;
      kept = c.recover_each.ensures.kept;
      corrupt = c.recover_each.ensures.corrupt;
      later = c.recover_each.ensures.later;
      cause = c.recover_each.ensures.cause;
    } in
    recovers before after c.args.builder.now config old new free free_then a b c.recover_each.result c.requires
    (subst (λ (l : List FileName). RecoversThese before after config old new free free_then a b c.recover_each.result (directories_in c.args.builder.now) l) c.names_of-names.ensures
    (subst (λ (l : List (String Global)). RecoversThese before after config old new free free_then a b c.recover_each.result (map string_bytes l) c.names_of-names.result.now) c.directories.ensures these))
