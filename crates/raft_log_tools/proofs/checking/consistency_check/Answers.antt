use Rattle.std.proofs.Common.{◌≡◌, inr, List, [], ◌∷◌, map, string_bytes, ap, sym, subst, ◌∙◌, rules}
use Rattle.std.specs.declared.alloc.Global.{Global}
use Rattle.raft_log_records.specs.declared.file_id.LogQueue.TheVariants.{Append, Rewrite}
use Rattle.raft_log_disk.proofs.RefusalLemmas.{no_more_then}
use Rattle.raft_log_disk.specs.Disk.{Disk}
use Rattle.raft_log_disk.specs.Text.{Text}
use Rattle.raft_log_files.specs.declared.error.Error.{Error}
use Rattle.raft_log_items.specs.Holes.{hole_in, written_by}
use Rattle.raft_log_pipe.proofs.CausedLemmas.{told_cause}
use Rattle.raft_log_tools.specs.Checking.{AreItemsOf, AreTold, IsCheckFault, IsFileRefusal}
use Rattle.raft_log_tools.proofs.ReadLemmas.{file_refusal_then}
use Rattle.raft_log_tools.proofs.checking.consistency_check.Goals as goal

pub returns-clause-ok : goal.returns-clause-ok
returns-clause-ok g c =
    let d = g.F.FileSystem.disk c.args.files.now in
    let one : map string_bytes c.deref.result.now ≡ c.args.directory.now ∷ [] = ap (map (string_bytes {Z = Global})) c.deref.ensures.value ∙ c.in_ok-directories.ensures in
    let same : map string_bytes c.deref-2.result.now ≡ c.args.directory.now ∷ [] = ap (map (string_bytes {Z = Global})) c.deref-2.ensures.value ∙ c.in_ok-directories.ensures in
    let rewrite = c.in_ok-rewrite.ensures.ok in
    let append = c.in_ok-append.ensures.ok in (
      rewrite.0,
      append.0,
      subst (λ (l : List Text). AreItemsOf d l Rewrite rewrite.0) one rewrite.1,
      subst (λ (x : Disk). AreItemsOf x (c.args.directory.now ∷ []) Append append.0) c.holes_of_queue.ensures.kept
          (subst (λ (l : List Text). AreItemsOf (g.F.FileSystem.disk c.holes_of_queue.new.files) l Append append.0) same append.1),
      c.in_ok-told_by_both.ensures (λ group. hole_in (written_by group rewrite.0)) (λ group. hole_in (written_by group append.0))
          (subst (AreTold (λ group. hole_in (written_by group rewrite.0))) (sym c.deref-3.ensures.value) rewrite.2)
          (subst (AreTold (λ group. hole_in (written_by group append.0))) (sym c.deref-4.ensures.value) append.2),
    )

pub returns-in_err-append-clause-cause : goal.returns-in_err-append-clause-cause
returns-in_err-append-clause-cause g c =
    let d = g.F.FileSystem.disk c.args.files.now in
    let mid = g.F.FileSystem.disk c.holes_of_queue.new.files in
    let free : Type 0 = g.F.FileSystem.is_bounded c.args.files.now in
    let free_then : Type 0 = g.F.FileSystem.is_bounded c.holes_of_queue.new.files in
    let a = g.F.FileSystem.meter c.args.files.now in
    let b = g.F.FileSystem.meter c.holes_of_queue.new.files in
    let n = g.F.FileSystem.meter c.holes_of_queue-2.new.files in
    let e = c.in_err-append.field-0.0 in
    let same : map string_bytes c.deref-2.result.now ≡ c.args.directory.now ∷ [] = ap (map (string_bytes {Z = Global})) c.deref-2.ensures.value ∙ c.in_ok-directories.ensures in
    told_cause c.from_residual-in_err-append.result e (λ (x : Error). IsCheckFault d c.args.directory.now free a n x) c.from_residual-in_err-append.ensures.1
    (inr (
      c.is_dir.ensures.yes (search rules),
      file_refusal_then d mid (c.args.directory.now ∷ []) free free_then a b n e c.holes_of_queue.ensures.kept c.holes_of_queue.ensures.later
          (subst (λ (l : List Text). IsFileRefusal mid l free_then b n e) same c.in_err-append.ensures.cause),
    ))

pub returns-in_err-append-clause-later : goal.returns-in_err-append-clause-later
returns-in_err-append-clause-later g c = no_more_then c.holes_of_queue.ensures.later c.holes_of_queue-2.ensures.later

pub returns-in_err-told_by_both-clause-later : goal.returns-in_err-told_by_both-clause-later
returns-in_err-told_by_both-clause-later g c = no_more_then c.holes_of_queue.ensures.later c.holes_of_queue-2.ensures.later

pub returns-clause-later : goal.returns-clause-later
returns-clause-later g c = no_more_then c.holes_of_queue.ensures.later c.holes_of_queue-2.ensures.later
