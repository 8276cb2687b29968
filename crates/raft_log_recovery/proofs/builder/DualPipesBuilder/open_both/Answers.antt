use Rattle.std.proofs.Common.{[], Err, subst, sym}
use Rattle.std.proofs.lemmas.Bool.{false≢true}
use Rattle.raft_log_records.specs.declared.file_id.LogQueue.{LogQueue}
use Rattle.raft_log_files.specs.declared.error.CorruptionFault.{CorruptionFault}
use Rattle.raft_log_files.specs.declared.error.Error.{Error}
use Rattle.raft_log_disk.proofs.RefusalLemmas.{no_more_then}
use Rattle.raft_log_pipe.specs.Others.{KeepsOthers}
use Rattle.raft_log_pipe.proofs.CausedLemmas.{told_cause}
use Rattle.raft_log_pipes.specs.Pipes.{other_queue}
use Rattle.raft_log_recovery.specs.Both.{CantBeOpened, IsEitherFault, IsFoundBy, IsOpened, LeavesQueue}
use Rattle.raft_log_recovery.specs.Holes.{HolesOnlyBroken}
use Rattle.raft_log_recovery.specs.Opening.{IsPipeWith}
use Rattle.raft_log_recovery.specs.Queue.{directories_in, names_in}
use Rattle.raft_log_recovery.proofs.BothLemmas.{both_holes, both_leave, both_opened, both_pipes, first_leaves, found_still, neither, one_with, two_with}
use Rattle.raft_log_recovery.proofs.CausedLemmas.{fault_then}
use Rattle.raft_log_recovery.proofs.CorruptLemmas.{cant_before, passed_on}
use Rattle.raft_log_pipe.proofs.EndLemmas.{not_given}
use Rattle.raft_log_recovery.proofs.EarlyLemmas.{an_err}
use Rattle.raft_log_recovery.proofs.builder.DualPipesBuilder.open_both.Goals as goal

pub open_one-requires-2-clause-found : goal.open_one-requires-2-clause-found
open_one-requires-2-clause-found g c κs within =
    let met = g.met.F.FileSystem g.world.𝓛 g.world.𝓜 g.world.𝓡 ((λ s x. x), (λ x. x), (λ x. x), λ x. x) in
    subst (λ (q : LogQueue). IsFoundBy c.args.self.now q (g.F.FileSystem.disk c.open_one.new.files)) (sym c.other_of.ensures) (found_still c.args.self.now.config.recovery_mode c.args.self.now c.args.first (g.F.FileSystem.disk c.args.files.now) (g.F.FileSystem.disk c.open_one.new.files) (met.is_named c.args.files.now) (met.is_named c.open_one.new.files) c.requires.one c.requires.two c.open_one.ensures.others)

pub returns-in_err-one-clause-leaves : goal.returns-in_err-one-clause-leaves
returns-in_err-one-clause-leaves g c =
    let met = g.met.F.FileSystem g.world.𝓛 g.world.𝓜 g.world.𝓡 ((λ s x. x), (λ x. x), (λ x. x), λ x. x) in
    first_leaves c.args.self.now.config.recovery_mode c.args.self.now c.args.first (g.F.FileSystem.disk c.args.files.now) (g.F.FileSystem.disk c.open_one.new.files) (met.is_named c.args.files.now) (met.is_named c.open_one.new.files) c.requires.one c.requires.two c.open_one.ensures.others c.open_one.ensures.leaves

pub returns-in_err-two-clause-leaves : goal.returns-in_err-two-clause-leaves
returns-in_err-two-clause-leaves g c =
    let met = g.met.F.FileSystem g.world.𝓛 g.world.𝓜 g.world.𝓡 ((λ s x. x), (λ x. x), (λ x. x), λ x. x) in
    both_leave c.args.self.now.config.recovery_mode c.args.self.now c.args.first (g.F.FileSystem.disk c.args.files.now) (g.F.FileSystem.disk c.open_one.new.files) (met.is_named c.args.files.now) (met.is_named c.open_one.new.files) c.requires.one c.requires.two c.open_one.ensures.others (g.F.FileSystem.disk c.open_one-2.new.files) (met.is_named c.open_one-2.new.files) (subst (λ (q : LogQueue). KeepsOthers q (g.F.FileSystem.disk c.open_one.new.files) (g.F.FileSystem.disk c.open_one-2.new.files)) c.other_of.ensures c.open_one-2.ensures.others) c.open_one.ensures.leaves c.open_one.ensures.only (subst (λ (q : LogQueue). LeavesQueue c.args.self.now.config.recovery_mode (directories_in c.args.self.now) q (names_in c.args.self.now q) (g.F.FileSystem.disk c.open_one.new.files) (g.F.FileSystem.disk c.open_one-2.new.files)) c.other_of.ensures c.open_one-2.ensures.leaves)

pub returns-clause-leaves : goal.returns-clause-leaves
returns-clause-leaves g c =
    let met = g.met.F.FileSystem g.world.𝓛 g.world.𝓜 g.world.𝓡 ((λ s x. x), (λ x. x), (λ x. x), λ x. x) in
    both_leave c.args.self.now.config.recovery_mode c.args.self.now c.args.first (g.F.FileSystem.disk c.args.files.now) (g.F.FileSystem.disk c.open_one.new.files) (met.is_named c.args.files.now) (met.is_named c.open_one.new.files) c.requires.one c.requires.two c.open_one.ensures.others (g.F.FileSystem.disk c.open_one-2.new.files) (met.is_named c.open_one-2.new.files) (subst (λ (q : LogQueue). KeepsOthers q (g.F.FileSystem.disk c.open_one.new.files) (g.F.FileSystem.disk c.open_one-2.new.files)) c.other_of.ensures c.open_one-2.ensures.others) c.open_one.ensures.leaves c.open_one.ensures.only (subst (λ (q : LogQueue). LeavesQueue c.args.self.now.config.recovery_mode (directories_in c.args.self.now) q (names_in c.args.self.now q) (g.F.FileSystem.disk c.open_one.new.files) (g.F.FileSystem.disk c.open_one-2.new.files)) c.other_of.ensures c.open_one-2.ensures.leaves)

pub returns-clause-pipes : goal.returns-clause-pipes
returns-clause-pipes g c =
    let met = g.met.F.FileSystem g.world.𝓛 g.world.𝓜 g.world.𝓡 ((λ s x. x), (λ x. x), (λ x. x), λ x. x) in
    both_pipes c.args.self.now.config.recovery_mode c.args.self.now c.args.first (g.F.FileSystem.disk c.args.files.now) (g.F.FileSystem.disk c.open_one.new.files) (met.is_named c.args.files.now) (met.is_named c.open_one.new.files) c.requires.one c.requires.two c.open_one.ensures.others (g.F.FileSystem.disk c.open_one-2.new.files) (met.is_named c.open_one-2.new.files) (subst (λ (q : LogQueue). KeepsOthers q (g.F.FileSystem.disk c.open_one.new.files) (g.F.FileSystem.disk c.open_one-2.new.files)) c.other_of.ensures c.open_one-2.ensures.others) c.in_ok-one.one c.in_ok-two.two c.paired.result c.paired.ensures.one c.paired.ensures.two c.in_ok-one.ensures.opened (subst (λ (q : LogQueue). IsOpened c.args.self.now q (g.F.FileSystem.disk c.open_one.new.files) (g.F.FileSystem.disk c.open_one-2.new.files) c.in_ok-two.two) c.other_of.ensures c.in_ok-two.ensures.opened)

pub returns-clause-opened : goal.returns-clause-opened
returns-clause-opened g c =
    let met = g.met.F.FileSystem g.world.𝓛 g.world.𝓜 g.world.𝓡 ((λ s x. x), (λ x. x), (λ x. x), λ x. x) in
    both_opened c.args.self.now.config.recovery_mode c.args.self.now c.args.first (g.F.FileSystem.disk c.args.files.now) (g.F.FileSystem.disk c.open_one.new.files) (met.is_named c.args.files.now) (met.is_named c.open_one.new.files) c.requires.one c.requires.two c.open_one.ensures.others (g.F.FileSystem.disk c.open_one-2.new.files) (met.is_named c.open_one-2.new.files) (subst (λ (q : LogQueue). KeepsOthers q (g.F.FileSystem.disk c.open_one.new.files) (g.F.FileSystem.disk c.open_one-2.new.files)) c.other_of.ensures c.open_one-2.ensures.others) c.in_ok-one.one c.in_ok-two.two c.paired.result c.paired.ensures.one c.paired.ensures.two c.in_ok-one.ensures.opened (subst (λ (q : LogQueue). IsOpened c.args.self.now q (g.F.FileSystem.disk c.open_one.new.files) (g.F.FileSystem.disk c.open_one-2.new.files) c.in_ok-two.two) c.other_of.ensures c.in_ok-two.ensures.opened)

pub returns-clause-replayed : goal.returns-clause-replayed
returns-clause-replayed g c = λ begun.
    let met = g.met.F.FileSystem g.world.𝓛 g.world.𝓜 g.world.𝓡 ((λ s x. x), (λ x. x), (λ x. x), λ x. x) in
    let one = c.in_ok-one.ensures.replayed [] begun in
    let two = c.in_ok-two.ensures.replayed one.0 one.1 in (
      one.0,
      two.0,
      two.1,
      one_with c.args.self.now.config.recovery_mode c.args.self.now c.args.first (g.F.FileSystem.disk c.args.files.now) (g.F.FileSystem.disk c.open_one.new.files) (met.is_named c.args.files.now) (met.is_named c.open_one.new.files) c.requires.one c.requires.two c.open_one.ensures.others (g.F.FileSystem.disk c.open_one-2.new.files) (met.is_named c.open_one-2.new.files) (subst (λ (q : LogQueue). KeepsOthers q (g.F.FileSystem.disk c.open_one.new.files) (g.F.FileSystem.disk c.open_one-2.new.files)) c.other_of.ensures c.open_one-2.ensures.others) c.in_ok-one.one c.in_ok-two.two c.paired.result c.paired.ensures.one c.paired.ensures.two c.in_ok-one.ensures.opened (subst (λ (q : LogQueue). IsOpened c.args.self.now q (g.F.FileSystem.disk c.open_one.new.files) (g.F.FileSystem.disk c.open_one-2.new.files) c.in_ok-two.two) c.other_of.ensures c.in_ok-two.ensures.opened) one.0 one.2,
      two_with c.args.self.now.config.recovery_mode c.args.self.now c.args.first (g.F.FileSystem.disk c.args.files.now) (g.F.FileSystem.disk c.open_one.new.files) (met.is_named c.args.files.now) (met.is_named c.open_one.new.files) c.requires.one c.requires.two c.open_one.ensures.others (g.F.FileSystem.disk c.open_one-2.new.files) (met.is_named c.open_one-2.new.files) (subst (λ (q : LogQueue). KeepsOthers q (g.F.FileSystem.disk c.open_one.new.files) (g.F.FileSystem.disk c.open_one-2.new.files)) c.other_of.ensures c.open_one-2.ensures.others) c.in_ok-one.one c.in_ok-two.two c.paired.result c.paired.ensures.one c.paired.ensures.two c.in_ok-one.ensures.opened (subst (λ (q : LogQueue). IsOpened c.args.self.now q (g.F.FileSystem.disk c.open_one.new.files) (g.F.FileSystem.disk c.open_one-2.new.files) c.in_ok-two.two) c.other_of.ensures c.in_ok-two.ensures.opened) two.0 (subst (λ (q : LogQueue). IsPipeWith (directories_in c.args.self.now) q (names_in c.args.self.now q) (g.F.FileSystem.disk c.open_one.new.files) (g.F.FileSystem.disk c.open_one-2.new.files) c.in_ok-two.two two.0) c.other_of.ensures two.2),
    )

pub returns-clause-refused : goal.returns-clause-refused
returns-clause-refused g c =
    let met = g.met.F.FileSystem g.world.𝓛 g.world.𝓜 g.world.𝓡 ((λ s x. x), (λ x. x), (λ x. x), λ x. x) in
    λ queue cant. absurd (neither c.args.self.now.config.recovery_mode c.args.self.now c.args.first (g.F.FileSystem.disk c.args.files.now) (g.F.FileSystem.disk c.open_one.new.files) (met.is_named c.args.files.now) (met.is_named c.open_one.new.files) c.requires.one c.requires.two c.open_one.ensures.others (λ first. false≢true (c.in_ok-one.ensures.refused first))
    (λ second. false≢true (c.in_ok-two.ensures.refused (subst (λ (q : LogQueue). CantBeOpened c.args.self.now.config.recovery_mode c.args.self.now q (g.F.FileSystem.disk c.open_one.new.files)) (sym c.other_of.ensures) second))) queue cant)

pub returns-in_err-one-clause-corrupt : goal.returns-in_err-one-clause-corrupt
returns-in_err-one-clause-corrupt g c =
    passed_on (λ (f : CorruptionFault). (queue : LogQueue) × CantBeOpened c.args.self.now.config.recovery_mode c.args.self.now queue (g.F.FileSystem.disk c.args.files.now))
    c.in_err-one.field-0.0 c.from_residual.result c.from_residual.ensures.1 (λ f same. (c.args.first, c.in_err-one.ensures.corrupt f (λ i. Err (same i))))

pub returns-in_err-two-clause-corrupt : goal.returns-in_err-two-clause-corrupt
returns-in_err-two-clause-corrupt g c =
    let met = g.met.F.FileSystem g.world.𝓛 g.world.𝓜 g.world.𝓡 ((λ s x. x), (λ x. x), (λ x. x), λ x. x) in
    passed_on (λ (f : CorruptionFault). (queue : LogQueue) × CantBeOpened c.args.self.now.config.recovery_mode c.args.self.now queue (g.F.FileSystem.disk c.args.files.now))
    c.in_err-two.field-0.0 c.from_residual-in_err-two.result c.from_residual-in_err-two.ensures.1
    (λ f same. (
      (other_queue c.args.first),
      cant_before c.args.self.now.config.recovery_mode c.args.self.now c.args.first (g.F.FileSystem.disk c.args.files.now) (g.F.FileSystem.disk c.open_one.new.files) (met.is_named c.args.files.now) (met.is_named c.open_one.new.files) c.requires.two c.open_one.ensures.others
          (subst (λ (q : LogQueue). CantBeOpened c.args.self.now.config.recovery_mode c.args.self.now q (g.F.FileSystem.disk c.open_one.new.files)) c.other_of.ensures (c.in_err-two.ensures.corrupt f (λ i. Err (same i)))),
    ))

pub returns-clause-holes : goal.returns-clause-holes
returns-clause-holes g c = λ begun.
    let met = g.met.F.FileSystem g.world.𝓛 g.world.𝓜 g.world.𝓡 ((λ s x. x), (λ x. x), (λ x. x), λ x. x) in
    let one = c.in_ok-one.ensures.replayed [] begun in
    both_holes c.args.self.now.config.recovery_mode c.args.self.now c.args.first (g.F.FileSystem.disk c.args.files.now) (g.F.FileSystem.disk c.open_one.new.files) (met.is_named c.args.files.now) (met.is_named c.open_one.new.files) c.requires.one c.requires.two c.open_one.ensures.others (g.F.FileSystem.disk c.open_one-2.new.files) (met.is_named c.open_one-2.new.files) (subst (λ (q : LogQueue). KeepsOthers q (g.F.FileSystem.disk c.open_one.new.files) (g.F.FileSystem.disk c.open_one-2.new.files)) c.other_of.ensures c.open_one-2.ensures.others) c.in_ok-one.one c.in_ok-two.two c.paired.result c.paired.ensures.one c.paired.ensures.two c.in_ok-one.ensures.opened (subst (λ (q : LogQueue). IsOpened c.args.self.now q (g.F.FileSystem.disk c.open_one.new.files) (g.F.FileSystem.disk c.open_one-2.new.files) c.in_ok-two.two) c.other_of.ensures c.in_ok-two.ensures.opened) one.0 one.2 c.in_ok-one.ensures.holes (subst (λ (q : LogQueue). HolesOnlyBroken c.args.self.now.config.recovery_mode (directories_in c.args.self.now) q (names_in c.args.self.now q) (g.F.FileSystem.disk c.open_one.new.files) (g.F.FileSystem.disk c.open_one-2.new.files) c.in_ok-two.two) c.other_of.ensures c.in_ok-two.ensures.holes)

-- ---- what is set to refuse, and why it is refused

pub returns-in_err-two-clause-later : goal.returns-in_err-two-clause-later
returns-in_err-two-clause-later g c = no_more_then c.in_ok-one.ensures.later c.in_err-two.ensures.later

pub returns-clause-later : goal.returns-clause-later
returns-clause-later g c = no_more_then c.in_ok-one.ensures.later c.in_ok-two.ensures.later

pub returns-in_err-one-clause-cause : goal.returns-in_err-one-clause-cause
returns-in_err-one-clause-cause g c =
    let y = c.open_one.new.files in
    told_cause c.from_residual.result c.in_err-one.field-0.0
    (λ (e : Error). IsEitherFault c.args.self.now (g.F.FileSystem.disk c.args.files.now) (g.F.FileSystem.disk y) (g.F.FileSystem.is_bounded c.args.files.now) (g.F.FileSystem.meter c.args.files.now) (g.F.FileSystem.meter y) e)
    c.from_residual.ensures.1 (c.args.first, c.in_err-one.ensures.cause)

pub returns-in_err-two-clause-cause : goal.returns-in_err-two-clause-cause
returns-in_err-two-clause-cause g c =
    let y = c.open_one.new.files in
    let new = c.open_one-2.new.files in
    let d = g.F.FileSystem.disk c.args.files.now in
    let free : Type 0 = g.F.FileSystem.is_bounded c.args.files.now in
    let a = g.F.FileSystem.meter c.args.files.now in
    told_cause c.from_residual-in_err-two.result c.in_err-two.field-0.0
    (λ (x : Error). IsEitherFault c.args.self.now d (g.F.FileSystem.disk new) free a (g.F.FileSystem.meter new) x) c.from_residual-in_err-two.ensures.1 (
      c.other_of.result,
      fault_then (directories_in c.args.self.now) c.other_of.result (names_in c.args.self.now c.other_of.result) d (g.F.FileSystem.disk y) (g.F.FileSystem.disk new) free (g.F.FileSystem.is_bounded y) a (g.F.FileSystem.meter y) (g.F.FileSystem.meter new) c.in_err-two.field-0.0
          c.open_one.ensures.others.directories c.in_ok-one.ensures.later c.in_err-two.ensures.cause,
    )

pub returns-in_err-one-clause-pipes : goal.returns-in_err-one-clause-pipes
returns-in_err-one-clause-pipes g c = not_given _ _ c.from_residual.result c.from_residual.ensures.1

pub returns-in_err-one-clause-opened : goal.returns-in_err-one-clause-opened
returns-in_err-one-clause-opened g c = not_given _ _ c.from_residual.result c.from_residual.ensures.1

pub returns-in_err-one-clause-replayed : goal.returns-in_err-one-clause-replayed
returns-in_err-one-clause-replayed g c = not_given _ _ c.from_residual.result c.from_residual.ensures.1

pub returns-in_err-one-clause-refused : goal.returns-in_err-one-clause-refused
returns-in_err-one-clause-refused g c = λ queue any. an_err _ c.from_residual.result c.from_residual.ensures.1

pub returns-in_err-one-clause-holes : goal.returns-in_err-one-clause-holes
returns-in_err-one-clause-holes g c = λ none. not_given _ _ c.from_residual.result c.from_residual.ensures.1

pub returns-in_err-two-clause-pipes : goal.returns-in_err-two-clause-pipes
returns-in_err-two-clause-pipes g c = not_given _ _ c.from_residual-in_err-two.result c.from_residual-in_err-two.ensures.1

pub returns-in_err-two-clause-opened : goal.returns-in_err-two-clause-opened
returns-in_err-two-clause-opened g c = not_given _ _ c.from_residual-in_err-two.result c.from_residual-in_err-two.ensures.1

pub returns-in_err-two-clause-replayed : goal.returns-in_err-two-clause-replayed
returns-in_err-two-clause-replayed g c = not_given _ _ c.from_residual-in_err-two.result c.from_residual-in_err-two.ensures.1

pub returns-in_err-two-clause-refused : goal.returns-in_err-two-clause-refused
returns-in_err-two-clause-refused g c = λ queue any. an_err _ c.from_residual-in_err-two.result c.from_residual-in_err-two.ensures.1

pub returns-in_err-two-clause-holes : goal.returns-in_err-two-clause-holes
returns-in_err-two-clause-holes g c = λ none. not_given _ _ c.from_residual-in_err-two.result c.from_residual-in_err-two.ensures.1
