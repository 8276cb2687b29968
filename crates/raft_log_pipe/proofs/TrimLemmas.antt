-- Reserved files that go, and what a call that changes no log file keeps of a pipe.
use Rattle.std.proofs.Common.{◌≡◌, ◌≢◌, ◌⊎◌, inl, inr, ⊎_elim, ℕ, ◌<◌, ◌≤◌, Bool, true, false, List, [], ◌∷◌, ◌++◌, get_or, map, Some, None, refl, sym, ap, subst, ◌∙◌, arith, append_assoc}
use Rattle.std.specs.Prelude.{String, Vec}
use Rattle.std.specs.List.{AllByRecursion}
use Rattle.std.specs.String.{string_bytes}
use Rattle.std.specs.declared.alloc.Global.{Global}
use Rattle.std.proofs.lemmas.List.{append-nil}
use lib.Pointwise.{bytes_decides}
use Rattle.raft_log_records.specs.declared.file_id.LogQueue.{LogQueue}
use Rattle.raft_log_records.specs.declared.file_id.LogQueue.TheVariants.{Append}
use Rattle.raft_log_disk.specs.Text.{Text, same_text}
use Rattle.raft_log_disk.specs.Disk.{Deletes, Disk, IsIn, IsNamed, fd_of, no_bytes}
use Rattle.raft_log_disk.proofs.DiskLemmas.{other_file, without_other}
use Rattle.raft_log_pipe.specs.declared.file.File.{File}
use Rattle.raft_log_pipe.specs.declared.file.ReservedFile.{ReservedFile}
use Rattle.raft_log_pipe.specs.declared.pipe.SinglePipe.{SinglePipe}
use Rattle.raft_log_pipe.specs.Alone.{IsAlone, directories_of_pipe}
use Rattle.raft_log_pipe.specs.Blocks.{files_of}
use Rattle.raft_log_pipe.specs.Kept.{with_reserved}
use Rattle.raft_log_pipe.specs.Next.{KeepsAllLogs}
use Rattle.raft_log_pipe.specs.Pipe.{IsPipe, Holds, Numbered, id_of}
use Rattle.raft_log_pipe.specs.Prepared.{AreTrimmed, IsFrontOf}
use Rattle.raft_log_pipe.specs.Reserved.{AreReserved, IsReserved, IsReservedPath, reserved_path}
use Rattle.raft_log_pipe.specs.Unreserved.{KeepsUnreserved}
use Rattle.raft_log_pipe.proofs.AloneLemmas.{found_in, in_either, in_first}
use Rattle.raft_log_pipe.proofs.BehindLemmas.{all_last, logs_hold, logs_named, logs_writer, same_logs}
use Rattle.raft_log_pipe.proofs.KeptLemmas.{names_still}
use Rattle.raft_log_pipe.proofs.NextLemmas.{has_path_says}
use Rattle.raft_log_pipe.proofs.OthersLemmas.{found_there, one_path}
use Rattle.raft_log_pipe.proofs.PurgeLemmas.{deleted_none}
use Rattle.raft_log_pipe.proofs.ReservedLemmas.{not_same, one_kept, one_number, reserved_says}
use Rattle.raft_log_pipe.proofs.UnreservedLemmas.{same_unreserved, unreserved_logs}

abbrev Paths : Type 0
Paths = Vec (String Global) Global

-- ---- the pipe

below_still : (last m n : ℕ) (fs : List File) → m ≤ n → AllByRecursion (λ f. (f.handle.0 < m) × (f.handle.0 ≢ last)) fs → AllByRecursion (λ f. (f.handle.0 < n) × (f.handle.0 ≢ last)) fs
below_still last m n [] le all = tt
below_still last m n (f ∷ fs) le all = ((omega (arith, all.0.0, le), all.0.1), below_still last m n fs le all.1)

no_path : (d : Disk) (path : Text) → ⊥ → fd_of d.names path ≡ None
no_path d path never = absurd never

-- where log files are as they were a pipe can be used with what is reserved now
pub logs_pipe : (p : SinglePipe) (d e : Disk) (rs : Vec ReservedFile Global) (capacity : ℕ) → IsNamed d → KeepsAllLogs d e → IsPipe p d → AreReserved p.queue (directories_of_pipe p) e rs.items → IsPipe (with_reserved p rs capacity) e
logs_pipe p d e rs capacity named logs pipe all = record {
  writer = logs_writer d e (λ path. ⊥) named (no_path d) logs p pipe;
  handle = pipe.handle;
  plain = pipe.plain;
  paths = pipe.paths;
  numbers = pipe.numbers;
  last = λ path seq lt number has. logs.names path (id_of p.queue seq) (has_path_says p.paths.items (id_of p.queue seq) path number has) (λ never. never) ∙ pipe.last path seq lt number has;
  named = (logs_named d e (λ path. ⊥) named (no_path d) logs p.queue p.active.seq p.active.handle.0 pipe.named).0;
  placed = pipe.placed;
  there = omega (arith, pipe.there, logs.next);
  apart = below_still p.active.handle.0 d.next e.next p.older.items logs.next pipe.apart;
  olders = names_still p.queue d e (logs_named d e (λ path. ⊥) named (no_path d) logs p.queue) p.older.items pipe.olders;
  reserved = all;
}

-- ---- a reserved file goes

module _ (queue : LogQueue) (directories : List Text) (d e : Disk) (f : ReservedFile) (path : Text) (named : IsNamed d) (named_e : IsNamed e) (is : IsReserved queue directories d f) (path_is : path ≡ reserved_path directories f.path_id f.seq) (gone : Deletes d e path) where
  beside : (other : Text) → (other ≡ path → ⊥) → fd_of e.names other ≡ fd_of d.names other
  beside other apart = ap (λ (y : Disk). fd_of y.names other) gone.2 ∙ without_other d.names path other (not_same path other (λ same. apart (sym same)))

  file_then : (other : Text) (fd : ℕ) → (other ≡ path → ⊥) → fd_of d.names other ≡ Some fd → e.file fd ≡ d.file fd
  file_then other fd apart found =
      ap (λ (y : Disk). y.file fd) gone.2
      ∙ other_file fd gone.0 no_bytes (d.file fd) (λ same. apart (one_path d.names d.next other path gone.0 named (found_in d.names other gone.0 (found ∙ ap (λ (n : ℕ). Some n) same)) (found_in d.names path gone.0 gone.1)))

  no_other : (other : Text) → (IsReservedPath Append other → ⊥) → other ≡ path → ⊥
  no_other other is_other same = is_other (subst (λ (q : LogQueue). IsReservedPath q other) is.own (subst (IsReservedPath queue) (sym (same ∙ path_is)) (reserved_says queue directories d f is)))

  pub deleted_unreserved : KeepsUnreserved d e
  deleted_unreserved = record {
    stay = λ other fd is_other there.
        let found = found_there d.names d.next other fd named there in
        (found_in e.names other fd (beside other (no_other other is_other) ∙ found), file_then other fd (no_other other is_other) found);
    none = λ other fd is_other there. found_in d.names other fd (sym (beside other (no_other other is_other)) ∙ found_there e.names e.next other fd named_e there);
    next = omega (arith, ap (λ (y : Disk). y.next) gone.2);
    directories = ap (λ (y : Disk). y.directories) gone.2;
  }

  -- no path comes to be a file's
  pub deleted_others_none : (other : Text) → fd_of d.names other ≡ None → fd_of e.names other ≡ None
  deleted_others_none other none = by_test (same_text path other) refl
    where
      by_test : (b : Bool) → same_text path other ≡ b → fd_of e.names other ≡ None
      by_test true same = ap (fd_of e.names) (sym ((bytes_decides path other).0 same)) ∙ deleted_none d e path named gone
      by_test false apart = ap (λ (y : Disk). fd_of y.names other) gone.2 ∙ without_other d.names path other apart ∙ none

  one_left : (s : ReservedFile) → s.seq < f.seq → IsReserved queue directories d s → IsReserved queue directories e s
  one_left s less so =
      let other : Text = reserved_path directories s.path_id s.seq in
      one_kept queue directories d e s so
      (found_in e.names other so.fd (beside other
      (λ same. absurd (omega (arith, less, one_number (get_or directories s.path_id []) (get_or directories f.path_id []) s.seq f.seq so.number is.number (same ∙ path_is))))
      ∙ found_there d.names d.next other so.fd named so.there))
      (ap (λ (y : Disk). y.directories) gone.2)

-- ---- the last one of a list

lower : (n : ℕ) (fs : List ReservedFile) (f : ReservedFile) → AllByRecursion (λ g. n < g.seq) (fs ++ f ∷ []) → AllByRecursion (λ g. n < g.seq) fs × (n < f.seq)
lower n [] f all = (tt, all.0)
lower n (g ∷ fs) f all = let rest = lower n fs f all.1 in ((all.0, rest.0), rest.1)

-- it, and those before it
pub last_reserved : (queue : LogQueue) (directories : List Text) (d : Disk) (fs : List ReservedFile) (f : ReservedFile) → AreReserved queue directories d (fs ++ f ∷ []) → AreReserved queue directories d fs × IsReserved queue directories d f × AllByRecursion (λ g. g.seq < f.seq) fs
last_reserved queue directories d [] f all = (tt, all.0, tt)
last_reserved queue directories d (g ∷ fs) f all =
    let rest = last_reserved queue directories d fs f all.2 in
    let low = lower g.seq fs f all.1 in
    ((all.0, low.0, rest.0), rest.1, (low.1, rest.2))

-- once it is gone
pub front_left : (queue : LogQueue) (directories : List Text) (d e : Disk) (f : ReservedFile) (path : Text) → IsNamed d → IsNamed e → IsReserved queue directories d f → path ≡ reserved_path directories f.path_id f.seq → Deletes d e path → (fs : List ReservedFile)
    → AllByRecursion (λ g. g.seq < f.seq) fs → AreReserved queue directories d fs → AreReserved queue directories e fs
front_left queue directories d e f path named named_e is path_is gone [] less all = tt
front_left queue directories d e f path named named_e is path_is gone (g ∷ fs) less all =
    (one_left queue directories d e f path named named_e is path_is gone g less.0 all.0, all.1, front_left queue directories d e f path named named_e is path_is gone fs less.1 all.2)

-- ---- a pipe whose last reserved file goes, wholly or not

pub record IsTrimmed (p : SinglePipe) (d e : Disk) (rs : Vec ReservedFile Global) : Type 0 where
  pub pipe : IsPipe (with_reserved p rs p.capacity) e
  pub unreserved : KeepsUnreserved d e
  pub none : (path : Text) → fd_of d.names path ≡ None → fd_of e.names path ≡ None

pub trimmed : (p : SinglePipe) (d e : Disk) (rs : Vec ReservedFile Global) (f : ReservedFile) (path : Text) → IsNamed d → IsNamed e → IsPipe p d → p.reserved.items ≡ rs.items ++ f ∷ [] → path ≡ reserved_path (directories_of_pipe p) f.path_id f.seq
    → (e ≡ d) ⊎ Deletes d e path → IsTrimmed p d e rs
trimmed p d e rs f path named named_e pipe split path_is change =
    by_change (last_reserved p.queue (directories_of_pipe p) d rs.items f (subst (AreReserved p.queue (directories_of_pipe p) d) split pipe.reserved)) change
  where
    by_change : AreReserved p.queue (directories_of_pipe p) d rs.items × IsReserved p.queue (directories_of_pipe p) d f × AllByRecursion (λ g. g.seq < f.seq) rs.items → (e ≡ d) ⊎ Deletes d e path → IsTrimmed p d e rs
    by_change all (inl same) = record {
      pipe = logs_pipe p d e rs p.capacity named (same_logs d e same) pipe (subst (λ (y : Disk). AreReserved p.queue (directories_of_pipe p) y rs.items) (sym same) all.0);
      unreserved = same_unreserved d e same;
      none = λ other none. ap (λ (y : Disk). fd_of y.names other) same ∙ none;
    }
    by_change all (inr gone) =
        let keeps = deleted_unreserved p.queue (directories_of_pipe p) d e f path named named_e all.1 path_is gone in
        record {
          pipe = logs_pipe p d e rs p.capacity named (unreserved_logs d e named named_e keeps) pipe (front_left p.queue (directories_of_pipe p) d e f path named named_e all.1 path_is gone rs.items all.2 all.0);
          unreserved = keeps;
          none = deleted_others_none p.queue (directories_of_pipe p) d e f path named named_e all.1 path_is gone;
        }

-- it is gone
pub last_gone : (p q : SinglePipe) (d e : Disk) (rs : List ReservedFile) (f : ReservedFile) (path : Text) → IsNamed d → p.reserved.items ≡ rs ++ f ∷ [] → q.reserved.items ≡ rs → path ≡ reserved_path (directories_of_pipe p) f.path_id f.seq
    → Deletes d e path → AreTrimmed p q e
last_gone p q d e rs f path named split same path_is gone g among =
    ⊎_elim
    (λ kept. inl (subst (IsIn g) (sym same) kept))
    (λ last. inr (is_last last))
    (in_either g rs (f ∷ []) (subst (IsIn g) split among))
  where
    is_last : IsIn g (f ∷ []) → fd_of e.names (reserved_path (directories_of_pipe p) g.path_id g.seq) ≡ None
    is_last (inl is) = ap (λ (x : ReservedFile). fd_of e.names (reserved_path (directories_of_pipe p) x.path_id x.seq)) is ∙ ap (fd_of e.names) (sym path_is) ∙ deleted_none d e path named gone
    is_last (inr none) = absurd none

-- ---- one call after another

pub front_then : {X : Type 0} (a b c : List X) → IsFrontOf a b → IsFrontOf b c → IsFrontOf a c
front_then {X = X} a b c (r, one) (s, two) = (r ++ s, two ∙ ap (λ (l : List X). l ++ s) one ∙ append_assoc a r s)

pub front_same : {X : Type 0} (a b : List X) → a ≡ b → IsFrontOf a b
front_same {X = X} a b same = ([], sym same ∙ sym (append-nil a))

pub trimmed_same : (p q : SinglePipe) (e : Disk) → q.reserved.items ≡ p.reserved.items → AreTrimmed p q e
trimmed_same p q e same f among = inl (subst (IsIn f) (sym same) among)

-- what is kept with others behind it
pub trimmed_front : (p q : SinglePipe) (e : Disk) → IsFrontOf p.reserved.items q.reserved.items → AreTrimmed p q e
trimmed_front p q e (rest, is) f among = inl (subst (IsIn f) (sym is) (in_first f p.reserved.items rest among))

pub trimmed_then : (p q r : SinglePipe) (e g : Disk) → q.paths ≡ p.paths → ((path : Text) → fd_of e.names path ≡ None → fd_of g.names path ≡ None) → AreTrimmed p q e → AreTrimmed q r g → AreTrimmed p r g
trimmed_then p q r e g paths none one two f among =
    ⊎_elim
    (λ kept. ⊎_elim
    (λ still. inl still)
    (λ gone. inr (ap (λ (ps : Paths). fd_of g.names (reserved_path (map string_bytes ps.items) f.path_id f.seq)) (sym paths) ∙ gone))
    (two f kept))
    (λ gone. inr (none (reserved_path (directories_of_pipe p) f.path_id f.seq) gone))
    (one f among)

-- ---- calls that change reserved files alone

-- one after another
pub reserved_again : (p q r : SinglePipe) → q ≡ with_reserved p q.reserved p.capacity → r ≡ with_reserved q r.reserved q.capacity → r ≡ with_reserved p r.reserved p.capacity
reserved_again p q r one two = two ∙ ap (λ (x : SinglePipe). with_reserved x r.reserved x.capacity) one

pub trim_holds : (p q : SinglePipe) (d e : Disk) → IsNamed d → IsNamed e → q ≡ with_reserved p q.reserved p.capacity → KeepsUnreserved d e → (s u : Numbered) → Holds p d s u → Holds q e s u
trim_holds p q d e named named_e same keeps s u h = subst (λ (x : SinglePipe). Holds x e s u) (sym same) (logs_hold d e (λ path. ⊥) named (no_path d) (unreserved_logs d e named named_e keeps) p s u h)

pub trim_alone : (p q : SinglePipe) (d e : Disk) → IsNamed d → IsNamed e → q ≡ with_reserved p q.reserved p.capacity → KeepsUnreserved d e → IsAlone p d → IsAlone q e
trim_alone p q d e named named_e same keeps alone = subst (λ (x : SinglePipe). IsAlone x e) (sym same) (all_last d e (unreserved_logs d e named named_e keeps) (directories_of_pipe p) p.queue (files_of p) alone)
