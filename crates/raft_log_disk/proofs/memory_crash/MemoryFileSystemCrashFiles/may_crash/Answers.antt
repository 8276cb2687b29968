use Rattle.std.proofs.Common.{refl}
use Rattle.std.proofs.lemmas.Result.{on_ok_weaker}
use Rattle.raft_log_disk.proofs.CrashLemmas.{not_images, are_image, are_genuine, not_genuine}
use Rattle.raft_log_disk.proofs.memory_crash.MemoryFileSystemCrashFiles.may_crash.Goals as goal

pub returns-in-Err-clause-not_an_image : goal.returns-in-Err-clause-not_an_image
returns-in-Err-clause-not_an_image c = λ e. not_images c.args.choice.now c.args.self.now.directories.items _ _ c.args.self.now.next c.args.self.now.named c.deref-2.ensures.value (c.in-Err.ensures.refused e)

pub returns-in-Ok-clause-image : goal.returns-in-Ok-clause-image
returns-in-Ok-clause-image c = on_ok_weaker _ (λ _. are_image c.args.choice.now c.args.self.now.directories.items _ _ _ c.args.self.now.next c.args.self.now.named c.deref.ensures.value c.deref-2.ensures.value (c.if-not-names_files.ensures.yes refl) c.in-Ok.ensures.ok) c.check_chance.ensures.ok

pub returns-in-Ok-clause-genuine : goal.returns-in-Ok-clause-genuine
returns-in-Ok-clause-genuine c = on_ok_weaker _ (λ g. are_genuine c.args.choice.now c.args.self.now.directories.items _ _ c.args.self.now.next c.args.self.now.named c.deref-in-Ok.ensures.value g) c.check_chance.ensures.ok

pub returns-in-Ok-clause-is_an_image : goal.returns-in-Ok-clause-is_an_image
returns-in-Ok-clause-is_an_image c = λ _. are_image c.args.choice.now c.args.self.now.directories.items _ _ _ c.args.self.now.next c.args.self.now.named c.deref.ensures.value c.deref-2.ensures.value (c.if-not-names_files.ensures.yes refl) c.in-Ok.ensures.ok

pub returns-in-Ok-clause-by_chance : goal.returns-in-Ok-clause-by_chance
returns-in-Ok-clause-by_chance c = λ e. not_genuine c.args.choice.now c.args.self.now.directories.items _ _ c.args.self.now.next c.args.self.now.named c.deref-in-Ok.ensures.value (c.check_chance.ensures.refused e)
