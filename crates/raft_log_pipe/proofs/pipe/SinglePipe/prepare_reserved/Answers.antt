use Rattle.std.proofs.Common.{◌≡◌, inr, ◌-◌, min, length, sym, ap, subst, arith}
use Rattle.std.specs.Prelude.{Err}
use Rattle.raft_log_records.specs.declared.file_id.LogQueue.TheVariants.{Append}
use Rattle.raft_log_disk.specs.Cause.{Rises}
use Rattle.raft_log_disk.proofs.RefusalLemmas.{no_more_then}
use Rattle.raft_log_files.specs.declared.error.Error.{Error}
use Rattle.raft_log_pipe.specs.declared.pipe.SinglePipe.{SinglePipe}
use Rattle.raft_log_pipe.specs.Prepared.{AreTrimmed, IsPreparedOf, LacksNumbers}
use Rattle.raft_log_pipe.specs.Taken.{IsTakenBy}
use Rattle.raft_log_pipe.proofs.CausedLemmas.{rises_then, told_io}
use Rattle.raft_log_pipe.proofs.PrefillLemmas.{none_left, ok_map}
use Rattle.raft_log_pipe.proofs.TakenLemmas.{no_space_large, taken_io}
use Rattle.raft_log_pipe.proofs.TrimLemmas.{reserved_again, trim_alone, trim_holds, trimmed_front, trimmed_then}
use Rattle.raft_log_pipe.proofs.UnreservedLemmas.{unreserved_then}
use Rattle.raft_log_pipe.proofs.pipe.SinglePipe.prepare_reserved.Goals as goal

pub returns-in-Ok-clause-gone : goal.returns-in-Ok-clause-gone
returns-in-Ok-clause-gone g c =
    let p = c.args.self.now in
    let q = c.make_up.new.self in
    let d = g.F.FileSystem.disk c.args.files.now in
    let y = g.F.FileSystem.disk c.make_up.new.files in
    let one = c.in-Ok.ensures in
    trimmed_front p q y one.front

pub returns-in-Ok-clause-holds : goal.returns-in-Ok-clause-holds
returns-in-Ok-clause-holds g c =
    let met = g.met.F.FileSystem g.world.𝓛 g.world.𝓜 g.world.𝓡 ((λ s x. x), (λ x. x), (λ x. x), λ x. x) in
    let p = c.args.self.now in
    let q = c.make_up.new.self in
    let d = g.F.FileSystem.disk c.args.files.now in
    let y = g.F.FileSystem.disk c.make_up.new.files in
    let one = c.in-Ok.ensures in
    trim_holds p q d y (met.is_named c.args.files.now) (met.is_named c.make_up.new.files) one.same one.unreserved

pub returns-in-Ok-clause-alone : goal.returns-in-Ok-clause-alone
returns-in-Ok-clause-alone g c =
    let met = g.met.F.FileSystem g.world.𝓛 g.world.𝓜 g.world.𝓡 ((λ s x. x), (λ x. x), (λ x. x), λ x. x) in
    let p = c.args.self.now in
    let q = c.make_up.new.self in
    let d = g.F.FileSystem.disk c.args.files.now in
    let y = g.F.FileSystem.disk c.make_up.new.files in
    let one = c.in-Ok.ensures in
    trim_alone p q d y (met.is_named c.args.files.now) (met.is_named c.make_up.new.files) one.same one.unreserved

pub returns-in-Err-NoSpace-clause-made : goal.returns-in-Err-NoSpace-clause-made
returns-in-Err-NoSpace-clause-made g c =
    let p = c.args.self.now in
    let q = c.make_up.new.self in
    let d = g.F.FileSystem.disk c.args.files.now in
    let y = g.F.FileSystem.disk c.make_up.new.files in
    let one = c.in-Err-NoSpace.ensures in
    let r = c.trim_reserved-in-Err-NoSpace.new.self in
    let e = g.F.FileSystem.disk c.trim_reserved-in-Err-NoSpace.new.files in
    let result = c.trim_reserved-in-Err-NoSpace.result in
    let two = c.trim_reserved-in-Err-NoSpace.ensures in
    let a = g.F.FileSystem.meter c.args.files.now in
    let b = g.F.FileSystem.meter c.make_up.new.files in
    let z = g.F.FileSystem.meter c.trim_reserved-in-Err-NoSpace.new.files in
    let rises : Rises 1 a b = no_space_large (Unit {0}) ⊥ (Rises 1 a b) c.in-Err-NoSpace.field-0 c.in-Err-NoSpace.field-0-is one.cause in
    ok_map result (length r.reserved.items ≡ min (length q.reserved.items) 0) (p.queue ≡ Append → IsPreparedOf r e c.args.wanted a z)
    (λ is own. inr (inr (none_left r.reserved.items (omega (arith, is)), rises_then 1 0 a b z rises two.later.counts))) two.ok

pub returns-in-Err-NoSpace-clause-gone : goal.returns-in-Err-NoSpace-clause-gone
returns-in-Err-NoSpace-clause-gone g c =
    let p = c.args.self.now in
    let q = c.make_up.new.self in
    let d = g.F.FileSystem.disk c.args.files.now in
    let y = g.F.FileSystem.disk c.make_up.new.files in
    let one = c.in-Err-NoSpace.ensures in
    let r = c.trim_reserved-in-Err-NoSpace.new.self in
    let e = g.F.FileSystem.disk c.trim_reserved-in-Err-NoSpace.new.files in
    let result = c.trim_reserved-in-Err-NoSpace.result in
    let two = c.trim_reserved-in-Err-NoSpace.ensures in
    ok_map result (AreTrimmed q r e) (AreTrimmed p r e)
    (trimmed_then p q r e e (ap (λ (x : SinglePipe). x.paths) one.same) (λ path none. none) (trimmed_front p q e one.front)) two.gone

pub returns-in-Err-NoSpace-clause-unreserved : goal.returns-in-Err-NoSpace-clause-unreserved
returns-in-Err-NoSpace-clause-unreserved g c =
    let p = c.args.self.now in
    let q = c.make_up.new.self in
    let d = g.F.FileSystem.disk c.args.files.now in
    let y = g.F.FileSystem.disk c.make_up.new.files in
    let one = c.in-Err-NoSpace.ensures in
    let r = c.trim_reserved-in-Err-NoSpace.new.self in
    let e = g.F.FileSystem.disk c.trim_reserved-in-Err-NoSpace.new.files in
    let result = c.trim_reserved-in-Err-NoSpace.result in
    let two = c.trim_reserved-in-Err-NoSpace.ensures in
    unreserved_then d y e one.unreserved two.unreserved

pub returns-in-Err-NoSpace-clause-holds : goal.returns-in-Err-NoSpace-clause-holds
returns-in-Err-NoSpace-clause-holds g c =
    let met = g.met.F.FileSystem g.world.𝓛 g.world.𝓜 g.world.𝓡 ((λ s x. x), (λ x. x), (λ x. x), λ x. x) in
    let p = c.args.self.now in
    let q = c.make_up.new.self in
    let d = g.F.FileSystem.disk c.args.files.now in
    let y = g.F.FileSystem.disk c.make_up.new.files in
    let one = c.in-Err-NoSpace.ensures in
    let r = c.trim_reserved-in-Err-NoSpace.new.self in
    let e = g.F.FileSystem.disk c.trim_reserved-in-Err-NoSpace.new.files in
    let result = c.trim_reserved-in-Err-NoSpace.result in
    let two = c.trim_reserved-in-Err-NoSpace.ensures in
    trim_holds p r d e (met.is_named c.args.files.now) (met.is_named c.trim_reserved-in-Err-NoSpace.new.files) (reserved_again p q r one.same two.same) (unreserved_then d y e one.unreserved two.unreserved)

pub returns-in-Err-NoSpace-clause-alone : goal.returns-in-Err-NoSpace-clause-alone
returns-in-Err-NoSpace-clause-alone g c =
    let met = g.met.F.FileSystem g.world.𝓛 g.world.𝓜 g.world.𝓡 ((λ s x. x), (λ x. x), (λ x. x), λ x. x) in
    let p = c.args.self.now in
    let q = c.make_up.new.self in
    let d = g.F.FileSystem.disk c.args.files.now in
    let y = g.F.FileSystem.disk c.make_up.new.files in
    let one = c.in-Err-NoSpace.ensures in
    let r = c.trim_reserved-in-Err-NoSpace.new.self in
    let e = g.F.FileSystem.disk c.trim_reserved-in-Err-NoSpace.new.files in
    let result = c.trim_reserved-in-Err-NoSpace.result in
    let two = c.trim_reserved-in-Err-NoSpace.ensures in
    trim_alone p r d e (met.is_named c.args.files.now) (met.is_named c.trim_reserved-in-Err-NoSpace.new.files) (reserved_again p q r one.same two.same) (unreserved_then d y e one.unreserved two.unreserved)

pub returns-in-Err-NoSpace-clause-later : goal.returns-in-Err-NoSpace-clause-later
returns-in-Err-NoSpace-clause-later g c =
    let p = c.args.self.now in
    let q = c.make_up.new.self in
    let d = g.F.FileSystem.disk c.args.files.now in
    let y = g.F.FileSystem.disk c.make_up.new.files in
    let one = c.in-Err-NoSpace.ensures in
    let r = c.trim_reserved-in-Err-NoSpace.new.self in
    let e = g.F.FileSystem.disk c.trim_reserved-in-Err-NoSpace.new.files in
    let result = c.trim_reserved-in-Err-NoSpace.result in
    let two = c.trim_reserved-in-Err-NoSpace.ensures in
    no_more_then one.later two.later

pub returns-in-Err : goal.returns-in-Err
returns-in-Err g c =
    let met = g.met.F.FileSystem g.world.𝓛 g.world.𝓜 g.world.𝓡 ((λ s x. x), (λ x. x), (λ x. x), λ x. x) in
    let p = c.args.self.now in
    let q = c.make_up.new.self in
    let d = g.F.FileSystem.disk c.args.files.now in
    let y = g.F.FileSystem.disk c.make_up.new.files in
    let one = c.in-Err.ensures in
    let lacks : Type 0 = LacksNumbers d (c.args.wanted - length p.reserved.items) in
    record {
      pipe = one.pipe;
      same = one.same;
      ok = tt;
      made = tt;
      gone = tt;
      unreserved = one.unreserved;
      holds = trim_holds p q d y (met.is_named c.args.files.now) (met.is_named c.make_up.new.files) one.same one.unreserved;
      alone = trim_alone p q d y (met.is_named c.args.files.now) (met.is_named c.make_up.new.files) one.same one.unreserved;
      later = one.later;
      taken = λ free. subst (λ (x : Error). IsTakenBy {T = Unit {0}} ⊥ ⊥ lacks (Err x)) (sym c.from.ensures) (taken_io (Unit {0}) (Unit {0}) ⊥ ⊥ lacks c.in-Err.fault (one.taken free));
      cause = told_io (Unit {0}) (Rises 1 (g.F.FileSystem.meter c.args.files.now) (g.F.FileSystem.meter c.make_up.new.files)) ⊥ ⊥ ⊥ c.from.result c.in-Err.fault c.from.ensures one.cause;
    }
