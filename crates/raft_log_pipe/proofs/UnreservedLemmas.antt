-- Calls that make and delete reserved files alone: what they keep.
use Rattle.std.proofs.Common.{◌≡◌, ℕ, Option, Some, None, refl, sym, ap, subst, ◌∙◌, arith}
use Rattle.raft_log_records.specs.declared.file_id.FileId.{FileId}
use Rattle.raft_log_records.specs.declared.file_id.LogQueue.TheVariants.{Append}
use Rattle.raft_log_disk.specs.Text.{Text}
use Rattle.raft_log_disk.specs.Name.{log_file_of}
use Rattle.raft_log_disk.specs.Disk.{Disk, IsIn, IsNamed, fd_of}
use Rattle.raft_log_pipe.specs.Next.{KeepsAllLogs}
use Rattle.raft_log_pipe.specs.Others.{KeepsOthers}
use Rattle.raft_log_pipe.specs.Reserved.{IsReservedPath}
use Rattle.raft_log_pipe.specs.Unreserved.{KeepsUnreserved}
use Rattle.raft_log_pipe.proofs.AloneLemmas.{found_in, never_some}
use Rattle.raft_log_pipe.proofs.OthersLemmas.{found_there}
use Rattle.raft_log_pipe.proofs.PurgeLemmas.{is_found}
use Rattle.raft_log_pipe.proofs.ReservedLemmas.{reserved_none, says_none}

pub same_unreserved : (d e : Disk) → e ≡ d → KeepsUnreserved d e
same_unreserved d e same = record {
  stay = λ path fd other there. (subst (λ (y : Disk). IsIn (path, fd) y.names) (sym same) there, ap (λ (y : Disk). y.file fd) same);
  none = λ path fd other there. subst (λ (y : Disk). IsIn (path, fd) y.names) same there;
  next = omega (arith, ap (λ (y : Disk). y.next) same);
  directories = ap (λ (y : Disk). y.directories) same;
}

-- one call after another
pub unreserved_then : (d e g : Disk) → KeepsUnreserved d e → KeepsUnreserved e g → KeepsUnreserved d g
unreserved_then d e g one two = record {
  stay = λ path fd other there. let early = one.stay path fd other there in let late = two.stay path fd other early.0 in (late.0, late.1 ∙ early.1);
  none = λ path fd other there. one.none path fd other (two.none path fd other there);
  next = omega (arith, one.next, two.next);
  directories = two.directories ∙ one.directories;
}

log_unreserved : (path : Text) (id : FileId) → log_file_of path ≡ Some id → IsReservedPath Append path → ⊥
log_unreserved path id says kept = says_none path id (reserved_none Append path kept) says

module _ (d e : Disk) (named : IsNamed d) (named_e : IsNamed e) (keeps : KeepsUnreserved d e) where
  same_name : (path : Text) (o : Option ℕ) → (IsReservedPath Append path → ⊥) → fd_of d.names path ≡ o → fd_of e.names path ≡ o
  same_name path (Some fd) other found = found_there e.names e.next path fd named_e (keeps.stay path fd other (found_in d.names path fd found)).0
  same_name path None other none = never_some (fd_of e.names path) (λ fd found. is_found d.names path fd (keeps.none path fd other (found_in e.names path fd found)) none)

  -- log files of both queues are as they were
  pub unreserved_logs : KeepsAllLogs d e
  unreserved_logs = record {
    names = λ path id says never. same_name path (fd_of d.names path) (log_unreserved path id says) refl;
    files = λ path id fd says found. (keeps.stay path fd (log_unreserved path id says) (found_in d.names path fd found)).1;
    next = keeps.next;
  }

-- so are all files of other queues than the append one
pub unreserved_others : (d e : Disk) → KeepsUnreserved d e → KeepsOthers Append d e
unreserved_others d e keeps = record {
  stay = λ path fd other there. keeps.stay path fd other.1 there;
  none = λ path fd other there. keeps.none path fd other.1 there;
  next = keeps.next;
  directories = keeps.directories;
}
