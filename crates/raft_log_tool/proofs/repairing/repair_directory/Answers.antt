-- The rewrite queue's files are repaired, then the append queue's.
use Rattle.std.proofs.Common.{Err, ap}
use Rattle.std.proofs.lemmas.Bool.{false≢true}
use Rattle.raft_log_disk.specs.Disk.{Disk}
use Rattle.raft_log_records.specs.declared.file_id.LogQueue.TheVariants.{Append, Rewrite}
use Rattle.raft_log_recovery.specs.Queue.{directories_in, names_in}
use Rattle.raft_log_recovery.proofs.CorruptLemmas.{passed_on}
use Rattle.raft_log_tool.specs.Repairs.{HasRefusedIn, IsRepairedIn}
use Rattle.raft_log_tool.proofs.RepairLemmas.{append_refused, append_whole, by_queue, found_then, kept_both, kept_one, on_both, refused_before, refused_then, repaired_then, rewrite_whole}
use Rattle.raft_log_tool.proofs.repairing.repair_directory.Goals as goal

pub returns-in_err-repair_queue-clause-kept : goal.returns-in_err-repair_queue-clause-kept
returns-in_err-repair_queue-clause-kept g c =
    let found = c.in_ok-found.ensures in
    kept_one c.args.directory.now c.in_ok-found.found found.directories (g.F.FileSystem.disk c.args.files.now) (g.F.FileSystem.disk c.found_in.new.files) found.only Rewrite (g.F.FileSystem.disk c.repair_queue.new.files) found.rewrite
    c.in_err-repair_queue.ensures.only

pub returns-in_err-repair_queue-clause-corrupt : goal.returns-in_err-repair_queue-clause-corrupt
returns-in_err-repair_queue-clause-corrupt g c =
    let found = c.in_ok-found.ensures in
    let b = c.in_ok-found.found in
    let d : Disk = g.F.FileSystem.disk c.args.files.now in
    let made : Disk = g.F.FileSystem.disk c.found_in.new.files in
    passed_on (λ fault. HasRefusedIn c.args.mode c.args.directory.now d) c.in_err-repair_queue.field-0.0 c.from_residual-in_err-repair_queue.result c.from_residual-in_err-repair_queue.ensures.1
    (λ fault is. (
      Rewrite,
      names_in b Rewrite,
      found_then c.args.directory.now b found.directories d made found.only Rewrite found.rewrite,
      refused_then c.args.directory.now b found.directories d made found.only c.args.mode Rewrite (c.in_err-repair_queue.ensures.corrupt fault (ap Err is)),
    ))

pub returns-clause-kept : goal.returns-clause-kept
returns-clause-kept g c =
    let found = c.in_ok-found.ensures in
    kept_both c.args.directory.now c.in_ok-found.found found.directories (g.F.FileSystem.disk c.args.files.now) (g.F.FileSystem.disk c.found_in.new.files) found.only Rewrite Append (g.F.FileSystem.disk c.repair_queue.new.files)
    (g.F.FileSystem.disk c.repair_queue-2.new.files) found.rewrite found.append c.in_ok-repair_queue.ensures.only c.repair_queue-2.ensures.only

pub returns-clause-corrupt : goal.returns-clause-corrupt
returns-clause-corrupt g c = λ fault is.
    let met = g.met.F.FileSystem g.world.𝓛 g.world.𝓜 g.world.𝓡 ((λ s x. x), (λ x. x), (λ x. x), λ x. x) in
    let found = c.in_ok-found.ensures in
    let b = c.in_ok-found.found in
    let d : Disk = g.F.FileSystem.disk c.args.files.now in
    let made : Disk = g.F.FileSystem.disk c.found_in.new.files in
    let mid : Disk = g.F.FileSystem.disk c.repair_queue.new.files in (
      Append,
      names_in b Append,
      found_then c.args.directory.now b found.directories d made found.only Append found.append,
      refused_then c.args.directory.now b found.directories d made found.only c.args.mode Append
          (refused_before (directories_in b) made mid (names_in b Rewrite) (names_in b Append) (met.is_named c.found_in.new.files) (met.is_named c.repair_queue.new.files) found.rewrite found.append c.in_ok-repair_queue.ensures.only c.args.mode
          (c.repair_queue-2.ensures.corrupt fault is)),
    )

pub returns-clause-ok : goal.returns-clause-ok
returns-clause-ok g c =
    let met = g.met.F.FileSystem g.world.𝓛 g.world.𝓜 g.world.𝓡 ((λ s x. x), (λ x. x), (λ x. x), λ x. x) in
    let found = c.in_ok-found.ensures in
    let b = c.in_ok-found.found in
    let d : Disk = g.F.FileSystem.disk c.args.files.now in
    let made : Disk = g.F.FileSystem.disk c.found_in.new.files in
    let mid : Disk = g.F.FileSystem.disk c.repair_queue.new.files in
    let new : Disk = g.F.FileSystem.disk c.repair_queue-2.new.files in
    let was = met.is_named c.found_in.new.files in
    let between = met.is_named c.repair_queue.new.files in
    let now = met.is_named c.repair_queue-2.new.files in
    let At = directories_in b in
    let first = c.in_ok-repair_queue.ensures.only in
    let second = c.repair_queue-2.ensures.only in
    on_both c.repair_queue-2.result c.repair_queue-2.ensures.ok c.repair_queue-2.ensures.refused (λ whole passed.
    by_queue (λ queue. IsRepairedIn c.args.mode c.args.directory.now queue d new)
    (repaired_then c.args.directory.now b found.directories d made found.only c.args.mode Append new found.append
    (λ any. passed (append_refused At made mid (names_in b Rewrite) (names_in b Append) was between found.rewrite found.append first c.args.mode any))
    (append_whole At made mid (names_in b Rewrite) (names_in b Append) was between found.rewrite found.append first new whole))
    (repaired_then c.args.directory.now b found.directories d made found.only c.args.mode Rewrite new found.rewrite (λ any. false≢true (c.in_ok-repair_queue.ensures.refused any))
    (rewrite_whole At made mid (names_in b Rewrite) (names_in b Append) was between found.rewrite found.append first new now second c.in_ok-repair_queue.ensures.ok)))
