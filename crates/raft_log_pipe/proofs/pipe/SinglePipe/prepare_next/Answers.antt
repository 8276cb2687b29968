use Rattle.std.proofs.Common.{◌≡◌, inr, Bool, true, false, ◌++◌, ◌∷◌, List, ℕ, ◌<◌, length, refl, sym, ap, subst, ◌∙◌}
use Rattle.std.specs.Prelude.{String, Err}
use Rattle.std.specs.declared.alloc.Global.{Global}
use Rattle.raft_log_disk.specs.declared.fault.Fd.{Fd}
use Rattle.raft_log_disk.specs.Cause.{Rises}
use Rattle.raft_log_disk.specs.Disk.{HasDirectory, IsNoNewFile}
use Rattle.raft_log_disk.proofs.RefusalLemmas.{no_more_call, still_free, taken_call, no_more_same, no_more_then}
use Rattle.raft_log_files.specs.FileName.{reserved_name}
use Rattle.raft_log_pipe.specs.declared.file.ReservedFile.{ReservedFile}
use Rattle.raft_log_pipe.specs.Alone.{directories_of_pipe}
use Rattle.raft_log_pipe.specs.Begun.{Changes}
use Rattle.raft_log_pipe.specs.Prepared.{IsFree, LacksNumbers, number_behind}
use Rattle.raft_log_pipe.specs.Reserved.{reserved_path}
use Rattle.raft_log_pipe.proofs.AloneLemmas.{mapped_at}
use Rattle.raft_log_pipe.proofs.CausedLemmas.{call_cause}
use Rattle.raft_log_pipe.proofs.PrefillLemmas.{created_there, held, lacks_one, perhaps_prepared, prepared}
use Rattle.raft_log_pipe.proofs.TakenLemmas.{still_taken}
use Rattle.raft_log_pipe.proofs.TrimLemmas.{front_same}
use Rattle.raft_log_pipe.proofs.EndLemmas.{for_memory, not_given}
use Rattle.raft_log_pipe.proofs.pipe.SinglePipe.prepare_next.Goals as goal

pub fill_zeros-requires-clause-there : goal.fill_zeros-requires-clause-there
fill_zeros-requires-clause-there g c κs within = created_there (g.F.FileSystem.disk c.args.files.now) (g.F.FileSystem.disk c.create.new.self) c.as_str-2.result.now c.in-Ok.handle.0 c.in-Ok.ensures.ok.0 c.in-Ok.ensures.ok.1

pub returns-then-not-branch-clause-obstructed : goal.returns-then-not-branch-clause-obstructed
returns-then-not-branch-clause-obstructed g c =
    let p = c.args.self.now in
    let d = g.F.FileSystem.disk c.args.files.now in
    let seq = c.number_behind-seq.result in
    let path_id = c.find_available_dir-path_id.result in
    let f : ReservedFile = record { seq = seq; path_id = path_id } in
    let within : path_id < length p.paths.items = subst (λ (l : List (String Global)). path_id < length l) c.deref.ensures.value (c.find_available_dir-path_id.ensures.within (subst (λ (l : List (String Global)). 0 < length l) (sym c.deref.ensures.value) c.requires.pipe.paths)) in
    let behind : seq ≡ number_behind p.reserved.items 1 = c.number_behind-seq.ensures ∙ ap (λ (l : List ReservedFile). number_behind l 1) c.deref-2.ensures.value in
    inr (f, behind, within, λ free. let yes : c.in_ok-is_free.field-0 ≡ true = c.in_ok-is_free.ensures.no free in let no : c.in_ok-is_free.field-0 ≡ false = c.if-not-branch.true in absurd cc)

pub returns-in-Err-clause-pipe : goal.returns-in-Err-clause-pipe
returns-in-Err-clause-pipe g c =
    let met = g.met.F.FileSystem g.world.𝓛 g.world.𝓜 g.world.𝓡 ((λ s x. x), (λ x. x), (λ x. x), λ x. x) in
    let p = c.args.self.now in
    let d = g.F.FileSystem.disk c.args.files.now in
    let seq = c.number_behind-seq.result in
    let path_id = c.find_available_dir-path_id.result in
    let f : ReservedFile = record { seq = seq; path_id = path_id } in
    let within : path_id < length p.paths.items = subst (λ (l : List (String Global)). path_id < length l) c.deref.ensures.value (c.find_available_dir-path_id.ensures.within (subst (λ (l : List (String Global)). 0 < length l) (sym c.deref.ensures.value) c.requires.pipe.paths)) in
    let behind : seq ≡ number_behind p.reserved.items 1 = c.number_behind-seq.ensures ∙ ap (λ (l : List ReservedFile). number_behind l 1) c.deref-2.ensures.value in
    let e = g.F.FileSystem.disk c.create.new.self in
    let named = met.is_named c.args.files.now in
    let free : IsFree (directories_of_pipe p) d f = c.in_ok-is_free.ensures.yes c.if-not-branch.false in
    let own = c.in_ok-path.ensures ∙ ap (λ (l : List ℕ). l ++ 47 ∷ reserved_name seq) (c.as_str.ensures.value ∙ sym (mapped_at p.paths.items path_id c.index.result.now within c.index.ensures)) in
    let path : c.as_str-2.result.now ≡ reserved_path (directories_of_pipe p) path_id seq = c.as_str-2.ensures.value ∙ own in
    (perhaps_prepared p d f c.as_str-2.result.now named c.requires.pipe c.requires.own free path e p.reserved (met.is_named c.create.new.self) refl c.in-Err.ensures.err).pipe

pub returns-in-Err-clause-unreserved : goal.returns-in-Err-clause-unreserved
returns-in-Err-clause-unreserved g c =
    let met = g.met.F.FileSystem g.world.𝓛 g.world.𝓜 g.world.𝓡 ((λ s x. x), (λ x. x), (λ x. x), λ x. x) in
    let p = c.args.self.now in
    let d = g.F.FileSystem.disk c.args.files.now in
    let seq = c.number_behind-seq.result in
    let path_id = c.find_available_dir-path_id.result in
    let f : ReservedFile = record { seq = seq; path_id = path_id } in
    let within : path_id < length p.paths.items = subst (λ (l : List (String Global)). path_id < length l) c.deref.ensures.value (c.find_available_dir-path_id.ensures.within (subst (λ (l : List (String Global)). 0 < length l) (sym c.deref.ensures.value) c.requires.pipe.paths)) in
    let behind : seq ≡ number_behind p.reserved.items 1 = c.number_behind-seq.ensures ∙ ap (λ (l : List ReservedFile). number_behind l 1) c.deref-2.ensures.value in
    let e = g.F.FileSystem.disk c.create.new.self in
    let named = met.is_named c.args.files.now in
    let free : IsFree (directories_of_pipe p) d f = c.in_ok-is_free.ensures.yes c.if-not-branch.false in
    let own = c.in_ok-path.ensures ∙ ap (λ (l : List ℕ). l ++ 47 ∷ reserved_name seq) (c.as_str.ensures.value ∙ sym (mapped_at p.paths.items path_id c.index.result.now within c.index.ensures)) in
    let path : c.as_str-2.result.now ≡ reserved_path (directories_of_pipe p) path_id seq = c.as_str-2.ensures.value ∙ own in
    (perhaps_prepared p d f c.as_str-2.result.now named c.requires.pipe c.requires.own free path e p.reserved (met.is_named c.create.new.self) refl c.in-Err.ensures.err).unreserved

pub returns-in-Err-clause-taken : goal.returns-in-Err-clause-taken
returns-in-Err-clause-taken g c =
    let met = g.met.F.FileSystem g.world.𝓛 g.world.𝓜 g.world.𝓡 ((λ s x. x), (λ x. x), (λ x. x), λ x. x) in
    let p = c.args.self.now in
    let d = g.F.FileSystem.disk c.args.files.now in
    let seq = c.number_behind-seq.result in
    let path_id = c.find_available_dir-path_id.result in
    let f : ReservedFile = record { seq = seq; path_id = path_id } in
    let within : path_id < length p.paths.items = subst (λ (l : List (String Global)). path_id < length l) c.deref.ensures.value (c.find_available_dir-path_id.ensures.within (subst (λ (l : List (String Global)). 0 < length l) (sym c.deref.ensures.value) c.requires.pipe.paths)) in
    let behind : seq ≡ number_behind p.reserved.items 1 = c.number_behind-seq.ensures ∙ ap (λ (l : List ReservedFile). number_behind l 1) c.deref-2.ensures.value in
    let e = g.F.FileSystem.disk c.create.new.self in
    let named = met.is_named c.args.files.now in
    let free : IsFree (directories_of_pipe p) d f = c.in_ok-is_free.ensures.yes c.if-not-branch.false in
    let own = c.in_ok-path.ensures ∙ ap (λ (l : List ℕ). l ++ 47 ∷ reserved_name seq) (c.as_str.ensures.value ∙ sym (mapped_at p.paths.items path_id c.index.result.now within c.index.ensures)) in
    let path : c.as_str-2.result.now ≡ reserved_path (directories_of_pipe p) path_id seq = c.as_str-2.ensures.value ∙ own in
    let absent : Type 0 = HasDirectory d.directories c.as_str-2.result.now → ⊥ in
    let barred : Type 0 = IsNoNewFile d c.as_str-2.result.now in
    λ none.
    still_taken Fd Bool absent barred ⊥ (LacksNumbers d 1) c.in-Err.fault (held p d f c.as_str-2.result.now named c.requires.pipe c.requires.own free path) (lacks_one p d f c.as_str-2.result.now named c.requires.pipe c.requires.own free path)
    (taken_call {T = Fd} absent ⊥ barred (g.F.FileSystem.is_bounded c.args.files.now) _ _ (Err c.in-Err.fault) (λ x. absurd x) none c.in-Err.ensures.cause c.in-Err.ensures.call)

pub returns-in-Err-clause-cause : goal.returns-in-Err-clause-cause
returns-in-Err-clause-cause g c =
    let met = g.met.F.FileSystem g.world.𝓛 g.world.𝓜 g.world.𝓡 ((λ s x. x), (λ x. x), (λ x. x), λ x. x) in
    let p = c.args.self.now in
    let d = g.F.FileSystem.disk c.args.files.now in
    let seq = c.number_behind-seq.result in
    let path_id = c.find_available_dir-path_id.result in
    let f : ReservedFile = record { seq = seq; path_id = path_id } in
    let within : path_id < length p.paths.items = subst (λ (l : List (String Global)). path_id < length l) c.deref.ensures.value (c.find_available_dir-path_id.ensures.within (subst (λ (l : List (String Global)). 0 < length l) (sym c.deref.ensures.value) c.requires.pipe.paths)) in
    let behind : seq ≡ number_behind p.reserved.items 1 = c.number_behind-seq.ensures ∙ ap (λ (l : List ReservedFile). number_behind l 1) c.deref-2.ensures.value in
    let e = g.F.FileSystem.disk c.create.new.self in
    let named = met.is_named c.args.files.now in
    let free : IsFree (directories_of_pipe p) d f = c.in_ok-is_free.ensures.yes c.if-not-branch.false in
    let own = c.in_ok-path.ensures ∙ ap (λ (l : List ℕ). l ++ 47 ∷ reserved_name seq) (c.as_str.ensures.value ∙ sym (mapped_at p.paths.items path_id c.index.result.now within c.index.ensures)) in
    let path : c.as_str-2.result.now ≡ reserved_path (directories_of_pipe p) path_id seq = c.as_str-2.ensures.value ∙ own in
    let absent : Type 0 = HasDirectory d.directories c.as_str-2.result.now → ⊥ in
    let barred : Type 0 = IsNoNewFile d c.as_str-2.result.now in
    let rises : Type 0 = Rises 1 (g.F.FileSystem.meter c.args.files.now) (g.F.FileSystem.meter c.create.new.self) in
    still_taken Fd Bool absent rises ⊥ rises c.in-Err.fault (held p d f c.as_str-2.result.now named c.requires.pipe c.requires.own free path) (λ x. x) (call_cause Fd Fd absent ⊥ _ _ c.in-Err.fault c.in-Err.ensures.cause)

pub returns-in_err-push-clause-pipe : goal.returns-in_err-push-clause-pipe
returns-in_err-push-clause-pipe g c =
    let met = g.met.F.FileSystem g.world.𝓛 g.world.𝓜 g.world.𝓡 ((λ s x. x), (λ x. x), (λ x. x), λ x. x) in
    let p = c.args.self.now in
    let d = g.F.FileSystem.disk c.args.files.now in
    let seq = c.number_behind-seq.result in
    let path_id = c.find_available_dir-path_id.result in
    let f : ReservedFile = record { seq = seq; path_id = path_id } in
    let within : path_id < length p.paths.items = subst (λ (l : List (String Global)). path_id < length l) c.deref.ensures.value (c.find_available_dir-path_id.ensures.within (subst (λ (l : List (String Global)). 0 < length l) (sym c.deref.ensures.value) c.requires.pipe.paths)) in
    let behind : seq ≡ number_behind p.reserved.items 1 = c.number_behind-seq.ensures ∙ ap (λ (l : List ReservedFile). number_behind l 1) c.deref-2.ensures.value in
    let e = g.F.FileSystem.disk c.create.new.self in
    let named = met.is_named c.args.files.now in
    let free : IsFree (directories_of_pipe p) d f = c.in_ok-is_free.ensures.yes c.if-not-branch.false in
    let own = c.in_ok-path.ensures ∙ ap (λ (l : List ℕ). l ++ 47 ∷ reserved_name seq) (c.as_str.ensures.value ∙ sym (mapped_at p.paths.items path_id c.index.result.now within c.index.ensures)) in
    let path : c.as_str-2.result.now ≡ reserved_path (directories_of_pipe p) path_id seq = c.as_str-2.ensures.value ∙ own in
    (perhaps_prepared p d f c.as_str-2.result.now named c.requires.pipe c.requires.own free path e c.push.new.self (met.is_named c.create.new.self) c.in_err-push.ensures.items (inr c.in-Ok.ensures.ok.1)).pipe

pub returns-in_err-push-clause-unreserved : goal.returns-in_err-push-clause-unreserved
returns-in_err-push-clause-unreserved g c =
    let met = g.met.F.FileSystem g.world.𝓛 g.world.𝓜 g.world.𝓡 ((λ s x. x), (λ x. x), (λ x. x), λ x. x) in
    let p = c.args.self.now in
    let d = g.F.FileSystem.disk c.args.files.now in
    let seq = c.number_behind-seq.result in
    let path_id = c.find_available_dir-path_id.result in
    let f : ReservedFile = record { seq = seq; path_id = path_id } in
    let within : path_id < length p.paths.items = subst (λ (l : List (String Global)). path_id < length l) c.deref.ensures.value (c.find_available_dir-path_id.ensures.within (subst (λ (l : List (String Global)). 0 < length l) (sym c.deref.ensures.value) c.requires.pipe.paths)) in
    let behind : seq ≡ number_behind p.reserved.items 1 = c.number_behind-seq.ensures ∙ ap (λ (l : List ReservedFile). number_behind l 1) c.deref-2.ensures.value in
    let e = g.F.FileSystem.disk c.create.new.self in
    let named = met.is_named c.args.files.now in
    let free : IsFree (directories_of_pipe p) d f = c.in_ok-is_free.ensures.yes c.if-not-branch.false in
    let own = c.in_ok-path.ensures ∙ ap (λ (l : List ℕ). l ++ 47 ∷ reserved_name seq) (c.as_str.ensures.value ∙ sym (mapped_at p.paths.items path_id c.index.result.now within c.index.ensures)) in
    let path : c.as_str-2.result.now ≡ reserved_path (directories_of_pipe p) path_id seq = c.as_str-2.ensures.value ∙ own in
    (perhaps_prepared p d f c.as_str-2.result.now named c.requires.pipe c.requires.own free path e c.push.new.self (met.is_named c.create.new.self) c.in_err-push.ensures.items (inr c.in-Ok.ensures.ok.1)).unreserved

pub returns-in_err-push-clause-front : goal.returns-in_err-push-clause-front
returns-in_err-push-clause-front g c =
    front_same c.args.self.now.reserved.items c.push.new.self.items (sym c.in_err-push.ensures.items)

pub returns-in-Ok-fill_zeros-clause-pipe : goal.returns-in-Ok-fill_zeros-clause-pipe
returns-in-Ok-fill_zeros-clause-pipe g c =
    let met = g.met.F.FileSystem g.world.𝓛 g.world.𝓜 g.world.𝓡 ((λ s x. x), (λ x. x), (λ x. x), λ x. x) in
    let p = c.args.self.now in
    let d = g.F.FileSystem.disk c.args.files.now in
    let seq = c.number_behind-seq.result in
    let path_id = c.find_available_dir-path_id.result in
    let f : ReservedFile = record { seq = seq; path_id = path_id } in
    let within : path_id < length p.paths.items = subst (λ (l : List (String Global)). path_id < length l) c.deref.ensures.value (c.find_available_dir-path_id.ensures.within (subst (λ (l : List (String Global)). 0 < length l) (sym c.deref.ensures.value) c.requires.pipe.paths)) in
    let behind : seq ≡ number_behind p.reserved.items 1 = c.number_behind-seq.ensures ∙ ap (λ (l : List ReservedFile). number_behind l 1) c.deref-2.ensures.value in
    let e = g.F.FileSystem.disk c.create.new.self in
    let named = met.is_named c.args.files.now in
    let free : IsFree (directories_of_pipe p) d f = c.in_ok-is_free.ensures.yes c.if-not-branch.false in
    let own = c.in_ok-path.ensures ∙ ap (λ (l : List ℕ). l ++ 47 ∷ reserved_name seq) (c.as_str.ensures.value ∙ sym (mapped_at p.paths.items path_id c.index.result.now within c.index.ensures)) in
    let path : c.as_str-2.result.now ≡ reserved_path (directories_of_pipe p) path_id seq = c.as_str-2.ensures.value ∙ own in
    let n = g.F.FileSystem.disk c.fill_zeros.new.files in
    let change : Changes e n d.next = subst (λ (m : ℕ). Changes e n m) c.in-Ok.ensures.ok.0 c.in-Ok-fill_zeros.ensures.change in
    (prepared p d f c.as_str-2.result.now named c.requires.pipe c.requires.own free path e n c.push.new.self (met.is_named c.fill_zeros.new.files) c.in-Ok.ensures.ok.1 change within behind c.in_ok-push.ensures.items).pipe

pub returns-in-Ok-fill_zeros-clause-unreserved : goal.returns-in-Ok-fill_zeros-clause-unreserved
returns-in-Ok-fill_zeros-clause-unreserved g c =
    let met = g.met.F.FileSystem g.world.𝓛 g.world.𝓜 g.world.𝓡 ((λ s x. x), (λ x. x), (λ x. x), λ x. x) in
    let p = c.args.self.now in
    let d = g.F.FileSystem.disk c.args.files.now in
    let seq = c.number_behind-seq.result in
    let path_id = c.find_available_dir-path_id.result in
    let f : ReservedFile = record { seq = seq; path_id = path_id } in
    let within : path_id < length p.paths.items = subst (λ (l : List (String Global)). path_id < length l) c.deref.ensures.value (c.find_available_dir-path_id.ensures.within (subst (λ (l : List (String Global)). 0 < length l) (sym c.deref.ensures.value) c.requires.pipe.paths)) in
    let behind : seq ≡ number_behind p.reserved.items 1 = c.number_behind-seq.ensures ∙ ap (λ (l : List ReservedFile). number_behind l 1) c.deref-2.ensures.value in
    let e = g.F.FileSystem.disk c.create.new.self in
    let named = met.is_named c.args.files.now in
    let free : IsFree (directories_of_pipe p) d f = c.in_ok-is_free.ensures.yes c.if-not-branch.false in
    let own = c.in_ok-path.ensures ∙ ap (λ (l : List ℕ). l ++ 47 ∷ reserved_name seq) (c.as_str.ensures.value ∙ sym (mapped_at p.paths.items path_id c.index.result.now within c.index.ensures)) in
    let path : c.as_str-2.result.now ≡ reserved_path (directories_of_pipe p) path_id seq = c.as_str-2.ensures.value ∙ own in
    let n = g.F.FileSystem.disk c.fill_zeros.new.files in
    let change : Changes e n d.next = subst (λ (m : ℕ). Changes e n m) c.in-Ok.ensures.ok.0 c.in-Ok-fill_zeros.ensures.change in
    (prepared p d f c.as_str-2.result.now named c.requires.pipe c.requires.own free path e n c.push.new.self (met.is_named c.fill_zeros.new.files) c.in-Ok.ensures.ok.1 change within behind c.in_ok-push.ensures.items).unreserved

pub returns-clause-pipe : goal.returns-clause-pipe
returns-clause-pipe g c =
    let met = g.met.F.FileSystem g.world.𝓛 g.world.𝓜 g.world.𝓡 ((λ s x. x), (λ x. x), (λ x. x), λ x. x) in
    let p = c.args.self.now in
    let d = g.F.FileSystem.disk c.args.files.now in
    let seq = c.number_behind-seq.result in
    let path_id = c.find_available_dir-path_id.result in
    let f : ReservedFile = record { seq = seq; path_id = path_id } in
    let within : path_id < length p.paths.items = subst (λ (l : List (String Global)). path_id < length l) c.deref.ensures.value (c.find_available_dir-path_id.ensures.within (subst (λ (l : List (String Global)). 0 < length l) (sym c.deref.ensures.value) c.requires.pipe.paths)) in
    let behind : seq ≡ number_behind p.reserved.items 1 = c.number_behind-seq.ensures ∙ ap (λ (l : List ReservedFile). number_behind l 1) c.deref-2.ensures.value in
    let e = g.F.FileSystem.disk c.create.new.self in
    let named = met.is_named c.args.files.now in
    let free : IsFree (directories_of_pipe p) d f = c.in_ok-is_free.ensures.yes c.if-not-branch.false in
    let own = c.in_ok-path.ensures ∙ ap (λ (l : List ℕ). l ++ 47 ∷ reserved_name seq) (c.as_str.ensures.value ∙ sym (mapped_at p.paths.items path_id c.index.result.now within c.index.ensures)) in
    let path : c.as_str-2.result.now ≡ reserved_path (directories_of_pipe p) path_id seq = c.as_str-2.ensures.value ∙ own in
    let n = g.F.FileSystem.disk c.fill_zeros.new.files in
    let change : Changes e n d.next = subst (λ (m : ℕ). Changes e n m) c.in-Ok.ensures.ok.0 c.in-Err-fill_zeros.ensures.change in
    (prepared p d f c.as_str-2.result.now named c.requires.pipe c.requires.own free path e n c.push.new.self (met.is_named c.fill_zeros.new.files) c.in-Ok.ensures.ok.1 change within behind c.in_ok-push.ensures.items).pipe

pub returns-clause-unreserved : goal.returns-clause-unreserved
returns-clause-unreserved g c =
    let met = g.met.F.FileSystem g.world.𝓛 g.world.𝓜 g.world.𝓡 ((λ s x. x), (λ x. x), (λ x. x), λ x. x) in
    let p = c.args.self.now in
    let d = g.F.FileSystem.disk c.args.files.now in
    let seq = c.number_behind-seq.result in
    let path_id = c.find_available_dir-path_id.result in
    let f : ReservedFile = record { seq = seq; path_id = path_id } in
    let within : path_id < length p.paths.items = subst (λ (l : List (String Global)). path_id < length l) c.deref.ensures.value (c.find_available_dir-path_id.ensures.within (subst (λ (l : List (String Global)). 0 < length l) (sym c.deref.ensures.value) c.requires.pipe.paths)) in
    let behind : seq ≡ number_behind p.reserved.items 1 = c.number_behind-seq.ensures ∙ ap (λ (l : List ReservedFile). number_behind l 1) c.deref-2.ensures.value in
    let e = g.F.FileSystem.disk c.create.new.self in
    let named = met.is_named c.args.files.now in
    let free : IsFree (directories_of_pipe p) d f = c.in_ok-is_free.ensures.yes c.if-not-branch.false in
    let own = c.in_ok-path.ensures ∙ ap (λ (l : List ℕ). l ++ 47 ∷ reserved_name seq) (c.as_str.ensures.value ∙ sym (mapped_at p.paths.items path_id c.index.result.now within c.index.ensures)) in
    let path : c.as_str-2.result.now ≡ reserved_path (directories_of_pipe p) path_id seq = c.as_str-2.ensures.value ∙ own in
    let n = g.F.FileSystem.disk c.fill_zeros.new.files in
    let change : Changes e n d.next = subst (λ (m : ℕ). Changes e n m) c.in-Ok.ensures.ok.0 c.in-Err-fill_zeros.ensures.change in
    (prepared p d f c.as_str-2.result.now named c.requires.pipe c.requires.own free path e n c.push.new.self (met.is_named c.fill_zeros.new.files) c.in-Ok.ensures.ok.1 change within behind c.in_ok-push.ensures.items).unreserved

pub returns-clause-taken : goal.returns-clause-taken
returns-clause-taken g c =
    let met = g.met.F.FileSystem g.world.𝓛 g.world.𝓜 g.world.𝓡 ((λ s x. x), (λ x. x), (λ x. x), λ x. x) in
    let p = c.args.self.now in
    let d = g.F.FileSystem.disk c.args.files.now in
    let seq = c.number_behind-seq.result in
    let path_id = c.find_available_dir-path_id.result in
    let f : ReservedFile = record { seq = seq; path_id = path_id } in
    let within : path_id < length p.paths.items = subst (λ (l : List (String Global)). path_id < length l) c.deref.ensures.value (c.find_available_dir-path_id.ensures.within (subst (λ (l : List (String Global)). 0 < length l) (sym c.deref.ensures.value) c.requires.pipe.paths)) in
    let behind : seq ≡ number_behind p.reserved.items 1 = c.number_behind-seq.ensures ∙ ap (λ (l : List ReservedFile). number_behind l 1) c.deref-2.ensures.value in
    let e = g.F.FileSystem.disk c.create.new.self in
    let named = met.is_named c.args.files.now in
    let free : IsFree (directories_of_pipe p) d f = c.in_ok-is_free.ensures.yes c.if-not-branch.false in
    let own = c.in_ok-path.ensures ∙ ap (λ (l : List ℕ). l ++ 47 ∷ reserved_name seq) (c.as_str.ensures.value ∙ sym (mapped_at p.paths.items path_id c.index.result.now within c.index.ensures)) in
    let path : c.as_str-2.result.now ≡ reserved_path (directories_of_pipe p) path_id seq = c.as_str-2.ensures.value ∙ own in
    let absent : Type 0 = HasDirectory d.directories c.as_str-2.result.now → ⊥ in
    let barred : Type 0 = IsNoNewFile d c.as_str-2.result.now in
    λ none.
    still_taken (Unit {0}) Bool ⊥ ⊥ ⊥ (LacksNumbers d 1) c.in-Err-fill_zeros.fault (λ x. x) (λ x. absurd x)
    (c.in-Err-fill_zeros.ensures.taken (still_free none (no_more_call absent ⊥ barred _ _ _ _ _ c.in-Ok.ensures.cause c.in-Ok.ensures.call c.in-Ok.ensures.bound)))

-- ---- what an early end leaves, and why it came

pub returns-in_err-is_free-clause-more : goal.returns-in_err-is_free-clause-more
returns-in_err-is_free-clause-more g c = not_given _ _ c.from_residual.result c.from_residual.ensures.1

pub returns-in_err-is_free-clause-obstructed : goal.returns-in_err-is_free-clause-obstructed
returns-in_err-is_free-clause-obstructed g c = not_given _ _ c.from_residual.result c.from_residual.ensures.1

pub returns-in_err-path-clause-more : goal.returns-in_err-path-clause-more
returns-in_err-path-clause-more g c = not_given _ _ c.from_residual-in_err-path.result c.from_residual-in_err-path.ensures.1

pub returns-in_err-path-clause-obstructed : goal.returns-in_err-path-clause-obstructed
returns-in_err-path-clause-obstructed g c = not_given _ _ c.from_residual-in_err-path.result c.from_residual-in_err-path.ensures.1

pub returns-in_err-push-clause-more : goal.returns-in_err-push-clause-more
returns-in_err-push-clause-more g c = not_given _ _ c.from_residual-in_err-push.result c.from_residual-in_err-push.ensures.1

pub returns-in_err-push-clause-obstructed : goal.returns-in_err-push-clause-obstructed
returns-in_err-push-clause-obstructed g c = not_given _ _ c.from_residual-in_err-push.result c.from_residual-in_err-push.ensures.1

pub returns-in_err-is_free-clause-later : goal.returns-in_err-is_free-clause-later
returns-in_err-is_free-clause-later g c = no_more_same (g.F.FileSystem.is_bounded c.args.files.now) (g.F.FileSystem.meter c.args.files.now)

pub returns-in_err-is_free-clause-front : goal.returns-in_err-is_free-clause-front
returns-in_err-is_free-clause-front g c = front_same c.args.self.now.reserved.items _ refl

pub returns-in_err-path-clause-later : goal.returns-in_err-path-clause-later
returns-in_err-path-clause-later g c = no_more_same (g.F.FileSystem.is_bounded c.args.files.now) (g.F.FileSystem.meter c.args.files.now)

pub returns-in_err-path-clause-front : goal.returns-in_err-path-clause-front
returns-in_err-path-clause-front g c = front_same c.args.self.now.reserved.items _ refl

pub returns-then-not-branch-clause-later : goal.returns-then-not-branch-clause-later
returns-then-not-branch-clause-later g c = no_more_same (g.F.FileSystem.is_bounded c.args.files.now) (g.F.FileSystem.meter c.args.files.now)

pub returns-then-not-branch-clause-front : goal.returns-then-not-branch-clause-front
returns-then-not-branch-clause-front g c = front_same c.args.self.now.reserved.items _ refl

pub returns-in-Err-clause-front : goal.returns-in-Err-clause-front
returns-in-Err-clause-front g c = front_same c.args.self.now.reserved.items _ refl

pub returns-in_err-path-clause-taken : goal.returns-in_err-path-clause-taken
returns-in_err-path-clause-taken g c = λ none. for_memory ⊥ (LacksNumbers (g.F.FileSystem.disk c.args.files.now) 1) c.from_residual-in_err-path.result c.from_residual-in_err-path.ensures.1

pub returns-in_err-path-clause-cause : goal.returns-in_err-path-clause-cause
returns-in_err-path-clause-cause g c = for_memory ⊥ (Rises 1 (g.F.FileSystem.meter c.args.files.now) (g.F.FileSystem.meter c.args.files.now)) c.from_residual-in_err-path.result c.from_residual-in_err-path.ensures.1

pub returns-in_err-push-clause-taken : goal.returns-in_err-push-clause-taken
returns-in_err-push-clause-taken g c = λ none. for_memory ⊥ (LacksNumbers (g.F.FileSystem.disk c.args.files.now) 1) c.from_residual-in_err-push.result c.from_residual-in_err-push.ensures.1

pub returns-in_err-push-clause-cause : goal.returns-in_err-push-clause-cause
returns-in_err-push-clause-cause g c = for_memory ⊥ (Rises 1 (g.F.FileSystem.meter c.args.files.now) (g.F.FileSystem.meter c.create.new.self)) c.from_residual-in_err-push.result c.from_residual-in_err-push.ensures.1

pub returns-in-Err-clause-later : goal.returns-in-Err-clause-later
returns-in-Err-clause-later g c = no_more_call (HasDirectory (g.F.FileSystem.disk c.args.files.now).directories c.as_str-2.result.now → ⊥) ⊥ (IsNoNewFile (g.F.FileSystem.disk c.args.files.now) c.as_str-2.result.now) _ _ _ _ _ c.in-Err.ensures.cause c.in-Err.ensures.call c.in-Err.ensures.bound

pub returns-in_err-push-clause-later : goal.returns-in_err-push-clause-later
returns-in_err-push-clause-later g c = no_more_call (HasDirectory (g.F.FileSystem.disk c.args.files.now).directories c.as_str-2.result.now → ⊥) ⊥ (IsNoNewFile (g.F.FileSystem.disk c.args.files.now) c.as_str-2.result.now) _ _ _ _ _ c.in-Ok.ensures.cause c.in-Ok.ensures.call c.in-Ok.ensures.bound

pub returns-in-Ok-fill_zeros-clause-later : goal.returns-in-Ok-fill_zeros-clause-later
returns-in-Ok-fill_zeros-clause-later g c = no_more_then (no_more_call (HasDirectory (g.F.FileSystem.disk c.args.files.now).directories c.as_str-2.result.now → ⊥) ⊥ (IsNoNewFile (g.F.FileSystem.disk c.args.files.now) c.as_str-2.result.now) _ _ _ _ _ c.in-Ok.ensures.cause c.in-Ok.ensures.call c.in-Ok.ensures.bound) c.in-Ok-fill_zeros.ensures.later

pub returns-clause-later : goal.returns-clause-later
returns-clause-later g c = no_more_then (no_more_call (HasDirectory (g.F.FileSystem.disk c.args.files.now).directories c.as_str-2.result.now → ⊥) ⊥ (IsNoNewFile (g.F.FileSystem.disk c.args.files.now) c.as_str-2.result.now) _ _ _ _ _ c.in-Ok.ensures.cause c.in-Ok.ensures.call c.in-Ok.ensures.bound) c.in-Err-fill_zeros.ensures.later
