use Rattle.std.proofs.Common.{◌≡◌, inl, inr, List, Err, length, map, string_bytes, refl, sym, ap, subst, ◌∙◌, arith}
use Rattle.std.specs.Prelude.{◌==◌, vec_len}
use Rattle.std.proofs.lemmas.Bool.{eqb-false, eqb-true, false≢true}
use Rattle.std.specs.List.{list_all}
use Rattle.raft_log_disk.specs.Text.{Text}
use Rattle.raft_log_recovery.specs.declared.scan.FileKind.TheVariants.{Log}
use Rattle.raft_log_recovery.specs.declared.scan.FileName.{FileName}
use Rattle.raft_log_recovery.specs.Opening.{batches_of}
use Rattle.raft_log_pipe.specs.Found.{KeepsButHeader}
use Rattle.raft_log_recovery.specs.Queue.{AreLeft, AreRecovered, OnlyChanges, directories_in, names_in}
use Rattle.raft_log_pipe.specs.Found.{MakesButHeader}
use Rattle.raft_log_pipe.specs.Pipe.{id_of}
use Rattle.raft_log_recovery.specs.Scan.{AreFound}
use Rattle.raft_log_recovery.proofs.OpeningLemmas.{set_so, created_gives, kept_only, no_names, none_aligned, none_last, none_named, opened_changes, opened_gives, opened_left, recovered_found, recovered_left}
use Rattle.raft_log_recovery.proofs.AgainLemmas.{created_before, either_way, finds_before, none_keeps, opened_alike}
use Rattle.raft_log_pipe.proofs.OthersLemmas.{others_on}
use Rattle.raft_log_recovery.proofs.BesideLemmas.{only_others}
use Rattle.raft_log_recovery.proofs.FoundLemmas.{found_numbered}
use Rattle.raft_log_recovery.proofs.AloneLemmas.{created_alone, found_alone, paths_are}
use Rattle.raft_log_recovery.proofs.CorruptLemmas.{any_aligned, memory_sound, passed_on}
use Rattle.raft_log_files.specs.declared.error.CorruptionFault.{CorruptionFault}
use Rattle.raft_log_recovery.specs.Both.{CantBeOpened}
use Rattle.std.proofs.Common.{◌⊎◌, ◌<◌}
use Rattle.std.proofs.lemmas.List.{length-map}
use Rattle.raft_log_disk.proofs.RefusalLemmas.{no_more_then}
use Rattle.raft_log_files.specs.declared.error.Error.{Error}
use Rattle.raft_log_files.specs.declared.error.Error.TheVariants.{Memory}
use Rattle.raft_log_pipe.specs.Caused.{LacksDirectory}
use Rattle.raft_log_pipe.specs.Taken.{main_path}
use Rattle.raft_log_disk.specs.Disk.{HasDirectory, IsNoNewFile}
use Rattle.raft_log_recovery.specs.Caused.{AnyUnreadable, IsFirstBarred, IsFirstLacking, IsQueueFault, IsRefusal}
use Rattle.raft_log_pipe.proofs.CausedLemmas.{lacks_before, told_cause}
use Rattle.raft_log_recovery.proofs.HoleLemmas.{holes_created, holes_opened}
use Rattle.raft_log_recovery.proofs.CausedLemmas.{first_barred, none_unreadable, recovery_caused, recovery_for, refusal_for, refusal_then, refused_pipe, taken_of}
use Rattle.raft_log_disk.proofs.CauseLemmas.{at_err}
use Rattle.raft_log_pipe.proofs.EndLemmas.{not_given}
use Rattle.raft_log_recovery.proofs.EarlyLemmas.{an_err}
use Rattle.raft_log_recovery.proofs.builder.DualPipesBuilder.open_by.Goals as goal

pub returns-then-not-are_plain-clause-left : goal.returns-then-not-are_plain-clause-left
returns-then-not-are_plain-clause-left g c =
    recovered_left (directories_in c.args.self.now) c.args.config.now.queue (g.F.FileSystem.disk c.args.files.now) (g.F.FileSystem.disk c.recover_in.new.files) (names_in c.args.self.now c.args.config.now.queue) c.in_ok-recovered.recovered.items c.in_ok-recovered.ensures.ok

pub returns-in_err-recovered-clause-left : goal.returns-in_err-recovered-clause-left
returns-in_err-recovered-clause-left g c = c.in_err-recovered.ensures.err

pub returns-in_err-paths-clause-left : goal.returns-in_err-paths-clause-left
returns-in_err-paths-clause-left g c =
    recovered_left (directories_in c.args.self.now) c.args.config.now.queue (g.F.FileSystem.disk c.args.files.now) (g.F.FileSystem.disk c.recover_in.new.files) (names_in c.args.self.now c.args.config.now.queue)
    c.in_ok-recovered.recovered.items c.in_ok-recovered.ensures.ok

pub create-requires-clause-none : goal.create-requires-clause-none
create-requires-clause-none g c κs within =
    let queue = c.args.config.now.queue in
    let names : List FileName = names_in c.args.self.now queue in
    let old = g.F.FileSystem.disk c.args.files.now in
    let said : map string_bytes c.in_ok-paths.paths.items ≡ directories_in c.args.self.now = c.in_ok-paths.ensures ∙ ap (map string_bytes) c.deref-2.ensures.value in
    let none = no_names old (directories_in c.args.self.now) queue names c.in_ok-recovered.recovered.items c.in_ok-recovered.ensures.ok.opened
    (omega (arith, ap length c.deref.ensures.value, c.deref.ensures.len, eqb-true (vec_len c.in_ok-recovered.recovered) 0 (sym c.is_empty.ensures ∙ c.if-is_empty.true))) in
    none_last queue c.in_ok-paths.paths.items old (g.F.FileSystem.disk c.recover_in.new.files) names c.in_ok-recovered.ensures.only.names_stay (subst (λ (l : List Text). AreFound old (Log queue) l names) (sym said) c.requires.found)
    (ap length none)

pub returns-then-is_empty-clause-replayed : goal.returns-then-is_empty-clause-replayed
returns-then-is_empty-clause-replayed g c =
    created_gives c.create.result (g.M.ReplayMachine.has_replayed c.args.machine.now) (g.M.ReplayMachine.has_replayed c.recover_in.new.machine) (directories_in c.args.self.now) c.args.config.now.queue (g.F.FileSystem.disk c.args.files.now)
    (g.F.FileSystem.disk c.recover_in.new.files) (g.F.FileSystem.disk c.create.new.files) (names_in c.args.self.now c.args.config.now.queue) c.in_ok-recovered.recovered.items c.in_ok-recovered.ensures.ok
    (omega (arith, ap length c.deref.ensures.value, c.deref.ensures.len, eqb-true (vec_len c.in_ok-recovered.recovered) 0 (sym c.is_empty.ensures ∙ c.if-is_empty.true)))
    c.in_ok-recovered.ensures.replayed c.create.ensures.holds

pub returns-then-is_empty-clause-only : goal.returns-then-is_empty-clause-only
returns-then-is_empty-clause-only g c =
    let queue = c.args.config.now.queue in
    let none = no_names (g.F.FileSystem.disk c.args.files.now) (directories_in c.args.self.now) queue (names_in c.args.self.now queue) c.in_ok-recovered.recovered.items c.in_ok-recovered.ensures.ok.opened
    (omega (arith, ap length c.deref.ensures.value, c.deref.ensures.len, eqb-true (vec_len c.in_ok-recovered.recovered) 0 (sym c.is_empty.ensures ∙ c.if-is_empty.true))) in
    λ some. absurd (omega (arith, some, ap length none))

pub returns-then-is_empty-clause-left : goal.returns-then-is_empty-clause-left
returns-then-is_empty-clause-left g c =
    let queue = c.args.config.now.queue in
    let none = no_names (g.F.FileSystem.disk c.args.files.now) (directories_in c.args.self.now) queue (names_in c.args.self.now queue) c.in_ok-recovered.recovered.items c.in_ok-recovered.ensures.ok.opened
    (omega (arith, ap length c.deref.ensures.value, c.deref.ensures.len, eqb-true (vec_len c.in_ok-recovered.recovered) 0 (sym c.is_empty.ensures ∙ c.if-is_empty.true))) in
    subst (λ (l : List FileName). AreLeft (directories_in c.args.self.now) queue l (g.F.FileSystem.disk c.args.files.now) (g.F.FileSystem.disk c.create.new.files)) (sym none) (λ name fd there. absurd there)

pub open-requires-clause-found : goal.open-requires-clause-found
open-requires-clause-found g c κs within =
    let met = g.met.F.FileSystem g.world.𝓛 g.world.𝓜 g.world.𝓡 ((λ s x. x), (λ x. x), (λ x. x), λ x. x) in
    let queue = c.args.config.now.queue in
    let names : List FileName = names_in c.args.self.now queue in
    let old = g.F.FileSystem.disk c.args.files.now in
    let mid = g.F.FileSystem.disk c.recover_in.new.files in
    let said : map string_bytes c.in_ok-paths.paths.items ≡ directories_in c.args.self.now = c.in_ok-paths.ensures ∙ ap (map string_bytes) c.deref-2.ensures.value in (
      batches_of queue old c.in_ok-recovered.recovered.items,
      recovered_found queue c.in_ok-paths.paths.items old mid names c.in_ok-recovered.recovered.items (subst (λ (l : List Text). AreFound old (Log queue) l names) (sym said) c.requires.found)
          (subst (λ (l : List Text). AreRecovered l queue old mid names c.in_ok-recovered.recovered.items) (sym said) c.in_ok-recovered.ensures.ok)
          (ap (list_all (λ f. f.format.alignment == 0)) (sym c.deref.ensures.value) ∙ sym c.are_plain.ensures ∙ c.if-not-are_plain.false)
          (met.has_images c.recover_in.new.files)
          (omega (arith, ap length c.deref.ensures.value, c.deref.ensures.len, eqb-false (vec_len c.in_ok-recovered.recovered) 0 (sym c.is_empty.ensures ∙ c.if-is_empty.false))),
    )

pub returns-clause-replayed : goal.returns-clause-replayed
returns-clause-replayed g c =
    let met = g.met.F.FileSystem g.world.𝓛 g.world.𝓜 g.world.𝓡 ((λ s x. x), (λ x. x), (λ x. x), λ x. x) in
    let queue = c.args.config.now.queue in
    let names : List FileName = names_in c.args.self.now queue in
    let old = g.F.FileSystem.disk c.args.files.now in
    let mid = g.F.FileSystem.disk c.recover_in.new.files in
    let said : map string_bytes c.in_ok-paths.paths.items ≡ directories_in c.args.self.now = c.in_ok-paths.ensures ∙ ap (map string_bytes) c.deref-2.ensures.value in
    opened_gives c.open.result (g.M.ReplayMachine.has_replayed c.args.machine.now) (g.M.ReplayMachine.has_replayed c.recover_in.new.machine) queue c.in_ok-paths.paths.items (directories_in c.args.self.now) old mid
    (g.F.FileSystem.disk c.open.new.files) names c.in_ok-recovered.recovered.items said (subst (λ (l : List Text). AreFound old (Log queue) l names) (sym said) c.requires.found)
    (subst (λ (l : List Text). AreRecovered l queue old mid names c.in_ok-recovered.recovered.items) (sym said) c.in_ok-recovered.ensures.ok)
    (ap (list_all (λ f. f.format.alignment == 0)) (sym c.deref.ensures.value) ∙ sym c.are_plain.ensures ∙ c.if-not-are_plain.false)
    (met.has_images c.recover_in.new.files)
    (omega (arith, ap length c.deref.ensures.value, c.deref.ensures.len, eqb-false (vec_len c.in_ok-recovered.recovered) 0 (sym c.is_empty.ensures ∙ c.if-is_empty.false))) c.in_ok-recovered.ensures.replayed
    c.open.ensures.files c.open.ensures.holds

pub returns-clause-only : goal.returns-clause-only
returns-clause-only g c =
    λ some. opened_changes c.open.result (directories_in c.args.self.now) c.args.config.now.queue (g.F.FileSystem.disk c.args.files.now) (g.F.FileSystem.disk c.recover_in.new.files) (g.F.FileSystem.disk c.open.new.files)
    (names_in c.args.self.now c.args.config.now.queue) c.in_ok-recovered.recovered.items c.in_ok-recovered.ensures.ok c.open.ensures.files c.open.ensures.changes c.open.ensures.err

pub returns-clause-left : goal.returns-clause-left
returns-clause-left g c =
    let fs = c.in_ok-recovered.recovered.items in
    let mid = g.F.FileSystem.disk c.recover_in.new.files in
    let new = g.F.FileSystem.disk c.open.new.files in
    opened_left (directories_in c.args.self.now) c.args.config.now.queue (g.F.FileSystem.disk c.args.files.now) mid new (names_in c.args.self.now c.args.config.now.queue) fs c.in_ok-recovered.ensures.ok
    (either_way c.open.result (KeepsButHeader mid new fs) c.open.ensures.keeps c.open.ensures.err)

pub returns-then-is_empty-clause-aligned : goal.returns-then-is_empty-clause-aligned
returns-then-is_empty-clause-aligned g c =
    let queue = c.args.config.now.queue in
    let none = no_names (g.F.FileSystem.disk c.args.files.now) (directories_in c.args.self.now) queue (names_in c.args.self.now queue) c.in_ok-recovered.recovered.items c.in_ok-recovered.ensures.ok.opened
    (omega (arith, ap length c.deref.ensures.value, c.deref.ensures.len, eqb-true (vec_len c.in_ok-recovered.recovered) 0 (sym c.is_empty.ensures ∙ c.if-is_empty.true))) in
    λ any. absurd (none_named (directories_in c.args.self.now) queue (names_in c.args.self.now queue) (g.F.FileSystem.disk c.args.files.now) none any)

pub returns-clause-aligned : goal.returns-clause-aligned
returns-clause-aligned g c =
    λ any. absurd (none_aligned (directories_in c.args.self.now) c.args.config.now.queue (g.F.FileSystem.disk c.args.files.now) (g.F.FileSystem.disk c.recover_in.new.files) (names_in c.args.self.now c.args.config.now.queue)
    c.in_ok-recovered.recovered.items c.in_ok-recovered.ensures.ok (ap (list_all (λ f. f.format.alignment == 0)) (sym c.deref.ensures.value) ∙ sym c.are_plain.ensures ∙ c.if-not-are_plain.false) any)

pub returns-then-is_empty-clause-paths : goal.returns-then-is_empty-clause-paths
returns-then-is_empty-clause-paths g c =
    let said : map string_bytes c.in_ok-paths.paths.items ≡ directories_in c.args.self.now = c.in_ok-paths.ensures ∙ ap (map string_bytes) c.deref-2.ensures.value in
    paths_are c.create.result c.in_ok-paths.paths (directories_in c.args.self.now) said c.create.ensures.paths

pub returns-clause-paths : goal.returns-clause-paths
returns-clause-paths g c =
    let said : map string_bytes c.in_ok-paths.paths.items ≡ directories_in c.args.self.now = c.in_ok-paths.ensures ∙ ap (map string_bytes) c.deref-2.ensures.value in
    paths_are c.open.result c.in_ok-paths.paths (directories_in c.args.self.now) said c.open.ensures.paths

pub returns-then-is_empty-clause-alone : goal.returns-then-is_empty-clause-alone
returns-then-is_empty-clause-alone g c =
    let queue = c.args.config.now.queue in
    let names : List FileName = names_in c.args.self.now queue in
    let old = g.F.FileSystem.disk c.args.files.now in
    let said : map string_bytes c.in_ok-paths.paths.items ≡ directories_in c.args.self.now = c.in_ok-paths.ensures ∙ ap (map string_bytes) c.deref-2.ensures.value in
    let none = no_names old (directories_in c.args.self.now) queue names c.in_ok-recovered.recovered.items c.in_ok-recovered.ensures.ok.opened
    (omega (arith, ap length c.deref.ensures.value, c.deref.ensures.len, eqb-true (vec_len c.in_ok-recovered.recovered) 0 (sym c.is_empty.ensures ∙ c.if-is_empty.true))) in
    created_alone c.create.result old (g.F.FileSystem.disk c.recover_in.new.files) (g.F.FileSystem.disk c.create.new.files) queue (map string_bytes c.in_ok-paths.paths.items) (directories_in c.args.self.now) names said
    c.in_ok-recovered.ensures.only.names_stay c.requires.found none c.create.ensures.alone

pub returns-clause-alone : goal.returns-clause-alone
returns-clause-alone g c =
    let met = g.met.F.FileSystem g.world.𝓛 g.world.𝓜 g.world.𝓡 ((λ s x. x), (λ x. x), (λ x. x), λ x. x) in
    let queue = c.args.config.now.queue in
    let old = g.F.FileSystem.disk c.args.files.now in
    let said : map string_bytes c.in_ok-paths.paths.items ≡ directories_in c.args.self.now = c.in_ok-paths.ensures ∙ ap (map string_bytes) c.deref-2.ensures.value in
    found_alone c.open.result old (g.F.FileSystem.disk c.recover_in.new.files) (g.F.FileSystem.disk c.open.new.files) queue (map string_bytes c.in_ok-paths.paths.items) (directories_in c.args.self.now)
    (names_in c.args.self.now queue) c.in_ok-recovered.recovered.items said (met.is_named c.args.files.now) c.in_ok-recovered.ensures.only.names_stay c.requires.found c.in_ok-recovered.ensures.ok.opened
    (omega (arith, ap length c.deref.ensures.value, c.deref.ensures.len, eqb-false (vec_len c.in_ok-recovered.recovered) 0 (sym c.is_empty.ensures ∙ c.if-is_empty.false))) c.open.ensures.alone

pub returns-in_err-recovered-clause-again : goal.returns-in_err-recovered-clause-again
returns-in_err-recovered-clause-again g c =
    let met = g.met.F.FileSystem g.world.𝓛 g.world.𝓜 g.world.𝓡 ((λ s x. x), (λ x. x), (λ x. x), λ x. x) in
    let queue = c.args.config.now.queue in
    let directories = directories_in c.args.self.now in
    let names : List FileName = names_in c.args.self.now queue in
    let old = g.F.FileSystem.disk c.args.files.now in
    let mid = g.F.FileSystem.disk c.recover_in.new.files in
    finds_before c.args.config.now.mode directories queue old mid names (met.is_named c.args.files.now) c.requires.found c.recover_in.ensures.only c.recover_in.ensures.reads c.in_err-recovered.ensures.kept

pub returns-then-not-are_plain-clause-again : goal.returns-then-not-are_plain-clause-again
returns-then-not-are_plain-clause-again g c =
    let met = g.met.F.FileSystem g.world.𝓛 g.world.𝓜 g.world.𝓡 ((λ s x. x), (λ x. x), (λ x. x), λ x. x) in
    let queue = c.args.config.now.queue in
    let directories = directories_in c.args.self.now in
    let names : List FileName = names_in c.args.self.now queue in
    let old = g.F.FileSystem.disk c.args.files.now in
    let mid = g.F.FileSystem.disk c.recover_in.new.files in
    finds_before c.args.config.now.mode directories queue old mid names (met.is_named c.args.files.now) c.requires.found c.recover_in.ensures.only c.recover_in.ensures.reads
    (none_keeps c.args.config.now.mode directories queue names old mid (λ any. false≢true (c.in_ok-recovered.ensures.refused any)))

pub returns-in_err-paths-clause-again : goal.returns-in_err-paths-clause-again
returns-in_err-paths-clause-again g c =
    let met = g.met.F.FileSystem g.world.𝓛 g.world.𝓜 g.world.𝓡 ((λ s x. x), (λ x. x), (λ x. x), λ x. x) in
    let queue = c.args.config.now.queue in
    let directories = directories_in c.args.self.now in
    let names : List FileName = names_in c.args.self.now queue in
    let old = g.F.FileSystem.disk c.args.files.now in
    let mid = g.F.FileSystem.disk c.recover_in.new.files in
    finds_before c.args.config.now.mode directories queue old mid names (met.is_named c.args.files.now) c.requires.found c.recover_in.ensures.only c.recover_in.ensures.reads
    (none_keeps c.args.config.now.mode directories queue names old mid (λ any. false≢true (c.in_ok-recovered.ensures.refused any)))

pub returns-then-is_empty-clause-again : goal.returns-then-is_empty-clause-again
returns-then-is_empty-clause-again g c =
    let met = g.met.F.FileSystem g.world.𝓛 g.world.𝓜 g.world.𝓡 ((λ s x. x), (λ x. x), (λ x. x), λ x. x) in
    let queue = c.args.config.now.queue in
    let directories = directories_in c.args.self.now in
    let names : List FileName = names_in c.args.self.now queue in
    let old = g.F.FileSystem.disk c.args.files.now in
    let mid = g.F.FileSystem.disk c.recover_in.new.files in
    let new = g.F.FileSystem.disk c.create.new.files in
    let none = no_names old directories queue names c.in_ok-recovered.recovered.items c.in_ok-recovered.ensures.ok.opened
    (omega (arith, ap length c.deref.ensures.value, c.deref.ensures.len, eqb-true (vec_len c.in_ok-recovered.recovered) 0 (sym c.is_empty.ensures ∙ c.if-is_empty.true))) in
    let said : map string_bytes c.in_ok-paths.paths.items ≡ directories = c.in_ok-paths.ensures ∙ ap (map string_bytes) c.deref-2.ensures.value in
    created_before c.args.config.now.mode directories queue old mid new names 1 (met.has_images c.create.new.files) c.requires.found none c.recover_in.ensures.only
    (subst (λ (l : List Text). MakesButHeader mid new l (id_of queue 1)) said c.create.ensures.makes)

pub returns-clause-again : goal.returns-clause-again
returns-clause-again g c =
    let met = g.met.F.FileSystem g.world.𝓛 g.world.𝓜 g.world.𝓡 ((λ s x. x), (λ x. x), (λ x. x), λ x. x) in
    let queue = c.args.config.now.queue in
    let directories = directories_in c.args.self.now in
    let names : List FileName = names_in c.args.self.now queue in
    let old = g.F.FileSystem.disk c.args.files.now in
    let mid = g.F.FileSystem.disk c.recover_in.new.files in
    let new = g.F.FileSystem.disk c.open.new.files in
    let fs = c.in_ok-recovered.recovered.items in
    let keeps : KeepsButHeader mid new fs = either_way c.open.result (KeepsButHeader mid new fs) c.open.ensures.keeps c.open.ensures.err in
    let only : OnlyChanges directories queue names old new = kept_only directories queue old mid new names fs c.in_ok-recovered.ensures.ok keeps in
    finds_before c.args.config.now.mode directories queue old new names (met.is_named c.args.files.now) c.requires.found only
    (opened_alike directories queue old mid new names fs (met.has_images c.open.new.files) c.in_ok-recovered.ensures.ok only keeps)
    (none_keeps c.args.config.now.mode directories queue names old new (λ any. false≢true (c.in_ok-recovered.ensures.refused any)))

pub returns-in_err-recovered-clause-others : goal.returns-in_err-recovered-clause-others
returns-in_err-recovered-clause-others g c =
    let met = g.met.F.FileSystem g.world.𝓛 g.world.𝓜 g.world.𝓡 ((λ s x. x), (λ x. x), (λ x. x), λ x. x) in
    let queue = c.args.config.now.queue in
    let directories = directories_in c.args.self.now in
    let names : List FileName = names_in c.args.self.now queue in
    let old = g.F.FileSystem.disk c.args.files.now in
    let mid = g.F.FileSystem.disk c.recover_in.new.files in
    only_others directories queue (length directories) names old mid (met.is_named c.args.files.now) (found_numbered old (Log queue) directories (length directories) names (omega arith) c.requires.found) c.recover_in.ensures.only

pub returns-then-not-are_plain-clause-others : goal.returns-then-not-are_plain-clause-others
returns-then-not-are_plain-clause-others g c =
    let met = g.met.F.FileSystem g.world.𝓛 g.world.𝓜 g.world.𝓡 ((λ s x. x), (λ x. x), (λ x. x), λ x. x) in
    let queue = c.args.config.now.queue in
    let directories = directories_in c.args.self.now in
    let names : List FileName = names_in c.args.self.now queue in
    let old = g.F.FileSystem.disk c.args.files.now in
    let mid = g.F.FileSystem.disk c.recover_in.new.files in
    only_others directories queue (length directories) names old mid (met.is_named c.args.files.now) (found_numbered old (Log queue) directories (length directories) names (omega arith) c.requires.found) c.recover_in.ensures.only

pub returns-in_err-paths-clause-others : goal.returns-in_err-paths-clause-others
returns-in_err-paths-clause-others g c =
    let met = g.met.F.FileSystem g.world.𝓛 g.world.𝓜 g.world.𝓡 ((λ s x. x), (λ x. x), (λ x. x), λ x. x) in
    let queue = c.args.config.now.queue in
    let directories = directories_in c.args.self.now in
    let names : List FileName = names_in c.args.self.now queue in
    let old = g.F.FileSystem.disk c.args.files.now in
    let mid = g.F.FileSystem.disk c.recover_in.new.files in
    only_others directories queue (length directories) names old mid (met.is_named c.args.files.now) (found_numbered old (Log queue) directories (length directories) names (omega arith) c.requires.found) c.recover_in.ensures.only

pub returns-then-is_empty-clause-others : goal.returns-then-is_empty-clause-others
returns-then-is_empty-clause-others g c =
    let met = g.met.F.FileSystem g.world.𝓛 g.world.𝓜 g.world.𝓡 ((λ s x. x), (λ x. x), (λ x. x), λ x. x) in
    let queue = c.args.config.now.queue in
    let directories = directories_in c.args.self.now in
    let names : List FileName = names_in c.args.self.now queue in
    let old = g.F.FileSystem.disk c.args.files.now in
    let mid = g.F.FileSystem.disk c.recover_in.new.files in
    let first = only_others directories queue (length directories) names old mid (met.is_named c.args.files.now) (found_numbered old (Log queue) directories (length directories) names (omega arith) c.requires.found) c.recover_in.ensures.only in
    others_on queue queue old mid (g.F.FileSystem.disk c.create.new.files) refl first c.create.ensures.others

pub returns-clause-others : goal.returns-clause-others
returns-clause-others g c =
    let met = g.met.F.FileSystem g.world.𝓛 g.world.𝓜 g.world.𝓡 ((λ s x. x), (λ x. x), (λ x. x), λ x. x) in
    let queue = c.args.config.now.queue in
    let directories = directories_in c.args.self.now in
    let names : List FileName = names_in c.args.self.now queue in
    let old = g.F.FileSystem.disk c.args.files.now in
    let mid = g.F.FileSystem.disk c.recover_in.new.files in
    let new = g.F.FileSystem.disk c.open.new.files in
    let fs = c.in_ok-recovered.recovered.items in
    let keeps : KeepsButHeader mid new fs = either_way c.open.result (KeepsButHeader mid new fs) c.open.ensures.keeps c.open.ensures.err in
    let only : OnlyChanges directories queue names old new = kept_only directories queue old mid new names fs c.in_ok-recovered.ensures.ok keeps in
    only_others directories queue (length directories) names old new (met.is_named c.args.files.now) (found_numbered old (Log queue) directories (length directories) names (omega arith) c.requires.found) only

pub returns-then-not-are_plain-clause-corrupt : goal.returns-then-not-are_plain-clause-corrupt
returns-then-not-are_plain-clause-corrupt g c =
    λ f corrupt. inr (any_aligned (directories_in c.args.self.now) c.args.config.now.queue (g.F.FileSystem.disk c.args.files.now) (g.F.FileSystem.disk c.recover_in.new.files) (names_in c.args.self.now c.args.config.now.queue)
    c.in_ok-recovered.recovered.items c.in_ok-recovered.ensures.ok (ap (list_all (λ f. f.format.alignment == 0)) (sym c.deref.ensures.value) ∙ sym c.are_plain.ensures ∙ c.if-not-are_plain.true))

pub returns-in_err-recovered-clause-corrupt : goal.returns-in_err-recovered-clause-corrupt
returns-in_err-recovered-clause-corrupt g c =
    passed_on (λ (f : CorruptionFault). CantBeOpened c.args.config.now.mode c.args.self.now c.args.config.now.queue (g.F.FileSystem.disk c.args.files.now))
    c.in_err-recovered.field-0.0 c.from_residual.result c.from_residual.ensures.1 (λ f same. inl (c.in_err-recovered.ensures.corrupt f (λ i. Err (same i))))

pub returns-in_err-paths-clause-corrupt : goal.returns-in_err-paths-clause-corrupt
returns-in_err-paths-clause-corrupt g c =
    memory_sound (λ (f : CorruptionFault). CantBeOpened c.args.config.now.mode c.args.self.now c.args.config.now.queue (g.F.FileSystem.disk c.args.files.now))
    c.from_residual-in_err-paths.result c.from_residual-in_err-paths.ensures.1

pub returns-then-is_empty-clause-corrupt : goal.returns-then-is_empty-clause-corrupt
returns-then-is_empty-clause-corrupt g c = λ f corrupt. absurd (c.create.ensures.corrupt f corrupt)

pub returns-clause-corrupt : goal.returns-clause-corrupt
returns-clause-corrupt g c = λ f corrupt. absurd (c.open.ensures.corrupt f corrupt)

-- ---- what the settings say

pub returns-then-is_empty-clause-settings : goal.returns-then-is_empty-clause-settings
returns-then-is_empty-clause-settings g c = set_so c.create.result _ _ _ _ refl (λ i. record { version = c.new-format.ensures.version i; alignment = c.new-format.ensures.alignment i }) c.create.ensures.settings

pub returns-clause-settings : goal.returns-clause-settings
returns-clause-settings g c = set_so c.open.result _ _ _ _ refl (λ i. record { version = c.new-format.ensures.version i; alignment = c.new-format.ensures.alignment i }) c.open.ensures.settings

-- ---- holes

pub returns-then-is_empty-clause-holes : goal.returns-then-is_empty-clause-holes
returns-then-is_empty-clause-holes g c =
    holes_created c.create.result c.args.config.now.mode (directories_in c.args.self.now) c.args.config.now.queue (g.F.FileSystem.disk c.args.files.now) (g.F.FileSystem.disk c.create.new.files) (names_in c.args.self.now c.args.config.now.queue)
    c.create.ensures.first

pub returns-clause-holes : goal.returns-clause-holes
returns-clause-holes g c =
    holes_opened c.open.result c.args.config.now.mode (directories_in c.args.self.now) c.args.config.now.queue (g.F.FileSystem.disk c.args.files.now) (g.F.FileSystem.disk c.recover_in.new.files) (g.F.FileSystem.disk c.open.new.files)
    (names_in c.args.self.now c.args.config.now.queue) c.in_ok-recovered.recovered.items c.in_ok-recovered.ensures.ok (λ any. false≢true (c.in_ok-recovered.ensures.refused any)) c.open.ensures.files c.open.ensures.pipe c.open.ensures.changes

-- ---- what is set to refuse, and why it is refused

pub returns-then-is_empty-clause-later : goal.returns-then-is_empty-clause-later
returns-then-is_empty-clause-later g c = no_more_then c.in_ok-recovered.ensures.later c.create.ensures.later

pub returns-clause-later : goal.returns-clause-later
returns-clause-later g c = no_more_then c.in_ok-recovered.ensures.later c.open.ensures.later

pub returns-in_err-recovered-clause-cause : goal.returns-in_err-recovered-clause-cause
returns-in_err-recovered-clause-cause g c =
    let queue = c.args.config.now.queue in
    let directories = directories_in c.args.self.now in
    let names : List FileName = names_in c.args.self.now queue in
    let d = g.F.FileSystem.disk c.args.files.now in
    let y = g.F.FileSystem.disk c.recover_in.new.files in
    let free : Type 0 = g.F.FileSystem.is_bounded c.args.files.now in
    let a = g.F.FileSystem.meter c.args.files.now in
    let b = g.F.FileSystem.meter c.recover_in.new.files in
    let unread : Type 0 = AnyUnreadable directories queue names a in
    let barred : Type 0 = IsFirstBarred directories queue names y in
    told_cause c.from_residual.result c.in_err-recovered.field-0.0 (λ (e : Error). IsQueueFault directories queue names d y free a b e) c.from_residual.ensures.1
    (recovery_for (IsRefusal free ⊥ a b ⊎ unread) ⊥ (IsRefusal free barred a b ⊎ unread) (IsFirstLacking directories queue names d) c.in_err-recovered.field-0.0
    (λ why. elim why [ inl refused ↦ inl (refusal_for free ⊥ barred a b (λ x. absurd x) refused) | inr one ↦ inr one ]) (λ x. absurd x) c.in_err-recovered.ensures.cause)

pub returns-then-not-are_plain-clause-cause : goal.returns-then-not-are_plain-clause-cause
returns-then-not-are_plain-clause-cause g c = inl (_, refl)

pub returns-in_err-paths-clause-cause : goal.returns-in_err-paths-clause-cause
returns-in_err-paths-clause-cause g c =
    let queue = c.args.config.now.queue in
    let y = c.recover_in.new.files in
    told_cause c.from_residual-in_err-paths.result Memory
    (λ (e : Error). IsQueueFault (directories_in c.args.self.now) queue (names_in c.args.self.now queue) (g.F.FileSystem.disk c.args.files.now) (g.F.FileSystem.disk y) (g.F.FileSystem.is_bounded c.args.files.now) (g.F.FileSystem.meter c.args.files.now) (g.F.FileSystem.meter y) e)
    c.from_residual-in_err-paths.ensures.1 (inr tt)

pub returns-then-is_empty-clause-cause : goal.returns-then-is_empty-clause-cause
returns-then-is_empty-clause-cause g c =
    let queue = c.args.config.now.queue in
    let directories = directories_in c.args.self.now in
    let names : List FileName = names_in c.args.self.now queue in
    let paths = c.in_ok-paths.paths.items in
    let d = g.F.FileSystem.disk c.args.files.now in
    let y = g.F.FileSystem.disk c.recover_in.new.files in
    let new = g.F.FileSystem.disk c.create.new.files in
    let free : Type 0 = g.F.FileSystem.is_bounded c.args.files.now in
    let free_then : Type 0 = g.F.FileSystem.is_bounded c.recover_in.new.files in
    let a = g.F.FileSystem.meter c.args.files.now in
    let b = g.F.FileSystem.meter c.recover_in.new.files in
    let e = g.F.FileSystem.meter c.create.new.files in
    let id = id_of queue 1 in
    let said : map string_bytes paths ≡ directories = c.in_ok-paths.ensures ∙ ap (map string_bytes) c.deref-2.ensures.value in
    let some : 0 < length paths = omega (arith, length-map paths string_bytes, ap length said, ap length c.requires.directories) in
    let none = no_names d directories queue names c.in_ok-recovered.recovered.items c.in_ok-recovered.ensures.ok.opened
    (omega (arith, ap length c.deref.ensures.value, c.deref.ensures.len, eqb-true (vec_len c.in_ok-recovered.recovered) 0 (sym c.is_empty.ensures ∙ c.if-is_empty.true))) in
    let lacking : Type 0 = LacksDirectory y (map string_bytes paths) id in
    let barred : Type 0 = IsNoNewFile y (main_path paths id) in
    recovery_caused (IsRefusal free_then barred b e) lacking (IsRefusal free (IsFirstBarred directories queue names new) a e ⊎ AnyUnreadable directories queue names a) (IsFirstLacking directories queue names d) c.create.result
    (λ refused. inl (refusal_then free free_then (IsFirstBarred directories queue names new) barred a b e c.in_ok-recovered.ensures.later
    (λ none_new. (none, first_barred paths directories id y new some said c.create.ensures.others.directories c.create.ensures.others.next none_new)) refused))
    (λ lacks. (none, lacks_before d y directories (map string_bytes paths) id id c.in_ok-recovered.ensures.only.directories_stay said refl lacks))
    (refused_pipe lacking (HasDirectory y.directories (main_path paths id) → ⊥) free_then barred b e c.create.result c.create.ensures.cause c.create.ensures.taken)

pub returns-clause-cause : goal.returns-clause-cause
returns-clause-cause g c =
    let queue = c.args.config.now.queue in
    let directories = directories_in c.args.self.now in
    let names : List FileName = names_in c.args.self.now queue in
    let free : Type 0 = g.F.FileSystem.is_bounded c.args.files.now in
    let free_then : Type 0 = g.F.FileSystem.is_bounded c.recover_in.new.files in
    let a = g.F.FileSystem.meter c.args.files.now in
    let b = g.F.FileSystem.meter c.recover_in.new.files in
    let e = g.F.FileSystem.meter c.open.new.files in
    let barred : Type 0 = IsFirstBarred directories queue names (g.F.FileSystem.disk c.open.new.files) in
    recovery_caused (IsRefusal free_then ⊥ b e) ⊥ (IsRefusal free barred a e ⊎ AnyUnreadable directories queue names a) (IsFirstLacking directories queue names (g.F.FileSystem.disk c.args.files.now)) c.open.result
    (λ refused. inl (refusal_then free free_then barred ⊥ a b e c.in_ok-recovered.ensures.later (λ x. absurd x) refused)) (λ x. absurd x)
    (refused_pipe ⊥ ⊥ free_then ⊥ b e c.open.result c.open.ensures.cause c.open.ensures.taken)

-- ---- where nothing is set to refuse

pub returns-in_err-recovered-clause-taken : goal.returns-in_err-recovered-clause-taken
returns-in_err-recovered-clause-taken g c = λ none.
    let queue = c.args.config.now.queue in
    let directories = directories_in c.args.self.now in
    let names : List FileName = names_in c.args.self.now queue in
    let free : Type 0 = g.F.FileSystem.is_bounded c.args.files.now in
    let a = g.F.FileSystem.meter c.args.files.now in
    taken_of free (IsFirstLacking directories queue names (g.F.FileSystem.disk c.args.files.now)) (IsFirstBarred directories queue names (g.F.FileSystem.disk c.recover_in.new.files)) (AnyUnreadable directories queue names a) a (g.F.FileSystem.meter c.recover_in.new.files)
    c.from_residual.result none (none_unreadable free directories queue names a none) (returns-in_err-recovered-clause-cause g c)

pub returns-then-not-are_plain-clause-taken : goal.returns-then-not-are_plain-clause-taken
returns-then-not-are_plain-clause-taken g c = λ none. inl (_, refl)

pub returns-in_err-paths-clause-taken : goal.returns-in_err-paths-clause-taken
returns-in_err-paths-clause-taken g c = λ none.
    let queue = c.args.config.now.queue in
    let directories = directories_in c.args.self.now in
    let names : List FileName = names_in c.args.self.now queue in
    let free : Type 0 = g.F.FileSystem.is_bounded c.args.files.now in
    let a = g.F.FileSystem.meter c.args.files.now in
    taken_of free (IsFirstLacking directories queue names (g.F.FileSystem.disk c.args.files.now)) (IsFirstBarred directories queue names (g.F.FileSystem.disk c.recover_in.new.files)) (AnyUnreadable directories queue names a) a (g.F.FileSystem.meter c.recover_in.new.files)
    c.from_residual-in_err-paths.result none (none_unreadable free directories queue names a none) (returns-in_err-paths-clause-cause g c)

pub returns-then-is_empty-clause-taken : goal.returns-then-is_empty-clause-taken
returns-then-is_empty-clause-taken g c = λ none.
    let queue = c.args.config.now.queue in
    let directories = directories_in c.args.self.now in
    let names : List FileName = names_in c.args.self.now queue in
    let free : Type 0 = g.F.FileSystem.is_bounded c.args.files.now in
    let a = g.F.FileSystem.meter c.args.files.now in
    taken_of free (IsFirstLacking directories queue names (g.F.FileSystem.disk c.args.files.now)) (IsFirstBarred directories queue names (g.F.FileSystem.disk c.create.new.files)) (AnyUnreadable directories queue names a) a (g.F.FileSystem.meter c.create.new.files)
    c.create.result none (none_unreadable free directories queue names a none) (returns-then-is_empty-clause-cause g c)

pub returns-clause-taken : goal.returns-clause-taken
returns-clause-taken g c = λ none.
    let queue = c.args.config.now.queue in
    let directories = directories_in c.args.self.now in
    let names : List FileName = names_in c.args.self.now queue in
    let free : Type 0 = g.F.FileSystem.is_bounded c.args.files.now in
    let a = g.F.FileSystem.meter c.args.files.now in
    taken_of free (IsFirstLacking directories queue names (g.F.FileSystem.disk c.args.files.now)) (IsFirstBarred directories queue names (g.F.FileSystem.disk c.open.new.files)) (AnyUnreadable directories queue names a) a (g.F.FileSystem.meter c.open.new.files)
    c.open.result none (none_unreadable free directories queue names a none) (returns-clause-cause g c)

pub returns-in_err-recovered-clause-pipe : goal.returns-in_err-recovered-clause-pipe
returns-in_err-recovered-clause-pipe g c = not_given _ _ c.from_residual.result c.from_residual.ensures.1

pub returns-in_err-recovered-clause-queue : goal.returns-in_err-recovered-clause-queue
returns-in_err-recovered-clause-queue g c = not_given _ _ c.from_residual.result c.from_residual.ensures.1

pub returns-in_err-recovered-clause-paths : goal.returns-in_err-recovered-clause-paths
returns-in_err-recovered-clause-paths g c = not_given _ _ c.from_residual.result c.from_residual.ensures.1

pub returns-in_err-recovered-clause-settings : goal.returns-in_err-recovered-clause-settings
returns-in_err-recovered-clause-settings g c = not_given _ _ c.from_residual.result c.from_residual.ensures.1

pub returns-in_err-recovered-clause-alone : goal.returns-in_err-recovered-clause-alone
returns-in_err-recovered-clause-alone g c = not_given _ _ c.from_residual.result c.from_residual.ensures.1

pub returns-in_err-recovered-clause-replayed : goal.returns-in_err-recovered-clause-replayed
returns-in_err-recovered-clause-replayed g c = not_given _ _ c.from_residual.result c.from_residual.ensures.1

pub returns-in_err-recovered-clause-holes : goal.returns-in_err-recovered-clause-holes
returns-in_err-recovered-clause-holes g c = not_given _ _ c.from_residual.result c.from_residual.ensures.1

pub returns-in_err-recovered-clause-refused : goal.returns-in_err-recovered-clause-refused
returns-in_err-recovered-clause-refused g c = λ any. an_err _ c.from_residual.result c.from_residual.ensures.1

pub returns-in_err-recovered-clause-aligned : goal.returns-in_err-recovered-clause-aligned
returns-in_err-recovered-clause-aligned g c = λ any. an_err _ c.from_residual.result c.from_residual.ensures.1

pub returns-in_err-paths-clause-pipe : goal.returns-in_err-paths-clause-pipe
returns-in_err-paths-clause-pipe g c = not_given _ _ c.from_residual-in_err-paths.result c.from_residual-in_err-paths.ensures.1

pub returns-in_err-paths-clause-queue : goal.returns-in_err-paths-clause-queue
returns-in_err-paths-clause-queue g c = not_given _ _ c.from_residual-in_err-paths.result c.from_residual-in_err-paths.ensures.1

pub returns-in_err-paths-clause-paths : goal.returns-in_err-paths-clause-paths
returns-in_err-paths-clause-paths g c = not_given _ _ c.from_residual-in_err-paths.result c.from_residual-in_err-paths.ensures.1

pub returns-in_err-paths-clause-settings : goal.returns-in_err-paths-clause-settings
returns-in_err-paths-clause-settings g c = not_given _ _ c.from_residual-in_err-paths.result c.from_residual-in_err-paths.ensures.1

pub returns-in_err-paths-clause-alone : goal.returns-in_err-paths-clause-alone
returns-in_err-paths-clause-alone g c = not_given _ _ c.from_residual-in_err-paths.result c.from_residual-in_err-paths.ensures.1

pub returns-in_err-paths-clause-replayed : goal.returns-in_err-paths-clause-replayed
returns-in_err-paths-clause-replayed g c = not_given _ _ c.from_residual-in_err-paths.result c.from_residual-in_err-paths.ensures.1

pub returns-in_err-paths-clause-holes : goal.returns-in_err-paths-clause-holes
returns-in_err-paths-clause-holes g c = not_given _ _ c.from_residual-in_err-paths.result c.from_residual-in_err-paths.ensures.1

pub returns-in_err-paths-clause-refused : goal.returns-in_err-paths-clause-refused
returns-in_err-paths-clause-refused g c = λ any. an_err _ c.from_residual-in_err-paths.result c.from_residual-in_err-paths.ensures.1

pub returns-in_err-paths-clause-aligned : goal.returns-in_err-paths-clause-aligned
returns-in_err-paths-clause-aligned g c = λ any. an_err _ c.from_residual-in_err-paths.result c.from_residual-in_err-paths.ensures.1

pub returns-then-not-are_plain-clause-pipe : goal.returns-then-not-are_plain-clause-pipe
returns-then-not-are_plain-clause-pipe g c = tt

pub returns-then-not-are_plain-clause-queue : goal.returns-then-not-are_plain-clause-queue
returns-then-not-are_plain-clause-queue g c = tt

pub returns-then-not-are_plain-clause-paths : goal.returns-then-not-are_plain-clause-paths
returns-then-not-are_plain-clause-paths g c = tt

pub returns-then-not-are_plain-clause-settings : goal.returns-then-not-are_plain-clause-settings
returns-then-not-are_plain-clause-settings g c = tt

pub returns-then-not-are_plain-clause-alone : goal.returns-then-not-are_plain-clause-alone
returns-then-not-are_plain-clause-alone g c = tt

pub returns-then-not-are_plain-clause-replayed : goal.returns-then-not-are_plain-clause-replayed
returns-then-not-are_plain-clause-replayed g c = tt

pub returns-then-not-are_plain-clause-holes : goal.returns-then-not-are_plain-clause-holes
returns-then-not-are_plain-clause-holes g c = tt

pub returns-then-not-are_plain-clause-refused : goal.returns-then-not-are_plain-clause-refused
returns-then-not-are_plain-clause-refused g c = λ any. refl

pub returns-then-not-are_plain-clause-aligned : goal.returns-then-not-are_plain-clause-aligned
returns-then-not-are_plain-clause-aligned g c = λ any. refl

pub returns-in_err-recovered-clause-only : goal.returns-in_err-recovered-clause-only
returns-in_err-recovered-clause-only g c = λ some. c.recover_in.ensures.only

pub returns-in_err-recovered-clause-later : goal.returns-in_err-recovered-clause-later
returns-in_err-recovered-clause-later g c = c.recover_in.ensures.later

pub returns-in_err-recovered-clause-kept : goal.returns-in_err-recovered-clause-kept
returns-in_err-recovered-clause-kept g c = at_err c.from_residual.result _ c.in_err-recovered.ensures.kept

pub returns-then-not-are_plain-clause-only : goal.returns-then-not-are_plain-clause-only
returns-then-not-are_plain-clause-only g c = λ some. c.recover_in.ensures.only

pub returns-then-not-are_plain-clause-later : goal.returns-then-not-are_plain-clause-later
returns-then-not-are_plain-clause-later g c = c.recover_in.ensures.later

pub returns-then-not-are_plain-clause-kept : goal.returns-then-not-are_plain-clause-kept
returns-then-not-are_plain-clause-kept g c = λ before name behind is refused. absurd (false≢true (c.in_ok-recovered.ensures.refused (before, name, behind, is, refused)))

pub returns-in_err-paths-clause-only : goal.returns-in_err-paths-clause-only
returns-in_err-paths-clause-only g c = λ some. c.recover_in.ensures.only

pub returns-in_err-paths-clause-later : goal.returns-in_err-paths-clause-later
returns-in_err-paths-clause-later g c = c.recover_in.ensures.later

pub returns-in_err-paths-clause-kept : goal.returns-in_err-paths-clause-kept
returns-in_err-paths-clause-kept g c = at_err c.from_residual-in_err-paths.result _ (λ before name behind is refused. absurd (false≢true (c.in_ok-recovered.ensures.refused (before, name, behind, is, refused))))

pub returns-then-is_empty-clause-kept : goal.returns-then-is_empty-clause-kept
returns-then-is_empty-clause-kept g c = at_err c.create.result _ (λ before name behind is refused. absurd (false≢true (c.in_ok-recovered.ensures.refused (before, name, behind, is, refused))))

pub returns-then-is_empty-clause-refused : goal.returns-then-is_empty-clause-refused
returns-then-is_empty-clause-refused g c = λ any. absurd (false≢true (c.in_ok-recovered.ensures.refused any))

pub returns-clause-kept : goal.returns-clause-kept
returns-clause-kept g c = at_err c.open.result _ (λ before name behind is refused. absurd (false≢true (c.in_ok-recovered.ensures.refused (before, name, behind, is, refused))))

pub returns-clause-refused : goal.returns-clause-refused
returns-clause-refused g c = λ any. absurd (false≢true (c.in_ok-recovered.ensures.refused any))
