-- Files of a queue that were to go: what stands behind a refusal.
use Rattle.std.proofs.Common.{◌≡◌, ◌⊎◌, inl, inr, ⊎_elim, ℕ, zero, suc, ◌+◌, ◌-◌, ◌<◌, ◌≤◌, Bool, true, false, List, [], ◌∷◌, ◌++◌, length, get_or, drop, map, Option, refl, sym, ap, subst, ◌∙◌, arith, ltb-true, ltb-false, length-append}
use Rattle.std.specs.Prelude.{Vec, String, nat_lt}
use Rattle.std.specs.String.{string_bytes}
use Rattle.std.specs.declared.alloc.Global.{Global}
use Rattle.raft_log_records.specs.declared.file_id.FileId.{FileId}
use Rattle.raft_log_records.specs.declared.file_id.LogQueue.{LogQueue}
use Rattle.raft_log_disk.specs.Disk.{Disk, IsIn, IsNamed, fd_of}
use Rattle.raft_log_disk.specs.Text.{Text}
use Rattle.raft_log_files.specs.FileName.{log_file_name}
use Rattle.raft_log_pipe.specs.declared.file.File.{File}
use Rattle.raft_log_pipe.specs.declared.pipe.SinglePipe.{SinglePipe}
use Rattle.raft_log_pipe.specs.Alone.{AreLast, IsAlone, StandsAt, directories_of_pipe, path_in}
use Rattle.raft_log_pipe.specs.Blocks.{files_of}
use Rattle.raft_log_pipe.specs.Kept.{KeepsSettings}
use Rattle.raft_log_pipe.specs.Pipe.{AreConsecutive, Holds, IsPipe, Numbered, first_of, id_of}
use Rattle.raft_log_pipe.specs.Purging.{AreLastOf, KeepsFrom, StandsFrom, from_file}
use Rattle.raft_log_pipe.proofs.AloneLemmas.{below_next, found_in, last_next, nearly}
use Rattle.raft_log_pipe.proofs.BlockLemmas.{is_last, is_older, older_below}
use Rattle.raft_log_pipe.proofs.NextLemmas.{path_says, some_is}
use Rattle.raft_log_pipe.proofs.OthersLemmas.{found_there}
use Rattle.raft_log_pipe.proofs.PipeLemmas.{in_all}
use Rattle.raft_log_pipe.proofs.PurgeLemmas.{in_files, log_kept, same_number}
use Rattle.raft_log_pipe.proofs.TornLemmas.{held_torn}
use Rattle.raft_log_pipes.specs.Calls.{IsPurgeOf}
use Rattle.raft_log_pipes.specs.declared.pipes.DualPipes.{DualPipes}
use Rattle.raft_log_pipes.specs.Pipes.{IsAsBefore}
use Rattle.raft_log_memtables.specs.Content.{Content}
use Rattle.raft_log_recovery.specs.Crashed.{HasLastingHole}
use Rattle.raft_log_files.specs.declared.error.Error.{Error}
use Rattle.std.specs.Prelude.{Result, Ok, Err, OnOk, OnErr}
use Rattle.raft_log_purge.specs.Going.{MayGoBefore}
use Rattle.raft_log_traces.specs.GroupTraces.{traces_in}
use Rattle.raft_log_traced.specs.declared.traced.TracedTables.{TracedTables}
use Rattle.raft_log_cleaner.specs.Cleaning.{CanClean, IsLeftStanding, LeavesContent, LeavesStanding}
use Rattle.raft_log_cleaner.specs.Pipes.{HasHoleBefore, KeepBoth, KeepsPipe, KeepsPipes, LeavesPipe, LeavesPipes, StandsFor}
use Rattle.raft_log_cleaner.proofs.Gone.{standing_leaves}
use Rattle.raft_log_cleaner.proofs.Keeping.{pipe_as_before, pipe_left, pipe_then}

-- ---- numbers that follow one another

-- each of them is a file's
number_there : (fs : List File) (next n : ℕ) → AreConsecutive fs next → n < next → next ≤ n + length fs → (f : File) × IsIn f fs × (f.seq ≡ n)
number_there [] next n numbers below from = absurd (omega (arith, below, from))
number_there (f ∷ fs) next n numbers below from = by_test (nat_lt f.seq n) refl (λ later. number_there fs next n numbers.1 below later)
  where
    by_test : (t : Bool) → nat_lt f.seq n ≡ t → (next ≤ n + length fs → (g : File) × IsIn g fs × (g.seq ≡ n)) → (g : File) × IsIn g (f ∷ fs) × (g.seq ≡ n)
    by_test true is on =
        let late = ltb-true f.seq n is in
        let g = on (omega (arith, late, numbers.0)) in
        (g.0, inr g.1, g.2)
    by_test false is on =
        let low = ltb-false f.seq n is in
        (f, inl refl, omega (arith, low, numbers.0, from))

-- that of the last file is greater
before_last : (fs : List File) (a f : File) (next : ℕ) → AreConsecutive (fs ++ a ∷ []) next → IsIn f fs → f.seq < a.seq
before_last [] a f next numbers there = absurd there
before_last (g ∷ fs) a f next numbers (inl is) =
    let last = last_next fs a next numbers.1 in
    omega (arith, last, numbers.0, length-append fs (a ∷ []), ap (λ (x : File). x.seq) is)
before_last (g ∷ fs) a f next numbers (inr there) = before_last fs a f next numbers.1 there

in_rest : (n : ℕ) (fs : List File) (f : File) → IsIn f (drop n fs) → IsIn f fs
in_rest zero fs f there = there
in_rest (suc n) [] f there = there
in_rest (suc n) (g ∷ fs) f there = inr (in_rest n fs f there)

-- no file stands before the last ones of a queue
pub none_before : (p : SinglePipe) (d : Disk) → IsAlone p d → HasHoleBefore p d → ⊥
none_before p d alone hole =
    let top : p.active.seq + 1 ≡ alone.next = last_next p.older.items p.active alone.next alone.numbers in
    let many : length (files_of p) ≡ length p.older.items + 1 = length-append p.older.items (p.active ∷ []) in
    let first = number_there (files_of p) alone.next (first_of p) alone.numbers (omega (arith, top)) (omega (arith, top, many)) in
    let before = one_before first.0 first.1 first.2 in
    let bottom = (older_below (files_of p) alone.next before.0 alone.numbers before.1).1 in
    omega (arith, bottom, top, many, before.2, hole.before)
  where
    by_test : (f : File) → IsIn f (files_of p) → f.seq ≡ first_of p → (n : ℕ) → n + 1 ≡ first_of p → (t : Bool) → nat_lt hole.seq n ≡ t → (g : File) × IsIn g (files_of p) × (g.seq + 1 ≡ first_of p)
    by_test f there is n next true late =
        let behind = hole.between n (ltb-true hole.seq n late) (omega (arith, next)) in
        let g = alone.only n behind.0 behind.1 f behind.2 there (omega (arith, is, next)) in
        (g.0, g.1, omega (arith, g.2, next))
    by_test f there is n next false early =
        let low = ltb-false hole.seq n early in
        let g = alone.only hole.seq hole.place hole.fd f hole.stands there (omega (arith, is, next, low, hole.before)) in
        (g.0, g.1, omega (arith, g.2, next, low, hole.before))

    one_before : (f : File) → IsIn f (files_of p) → f.seq ≡ first_of p → (g : File) × IsIn g (files_of p) × (g.seq + 1 ≡ first_of p)
    one_before f there is = by_test f there is (first_of p - 1) (omega (arith, hole.before)) (nat_lt hole.seq (first_of p - 1)) refl

-- ---- a pipe that lost files, and one that has all that stand

module _ (p q : SinglePipe) (d e : Disk) (named : IsNamed d) (named_then : IsNamed e) (pipe : IsPipe p d) (after : IsPipe q e) (active : q.active ≡ p.active) (queue : q.queue ≡ p.queue) (paths : q.paths ≡ p.paths)
    (rest : AreLastOf p.older.items q.older.items) (keeps : KeepsFrom p.queue (first_of q) d e) (stands : StandsFrom p d q e) (alone : IsAlone p d) where
  abbrev dirs : List Text
  dirs = directories_of_pipe p

  abbrev all : List File
  all = files_of stands.pipe

  same_dirs : directories_of_pipe q ≡ dirs
  same_dirs = ap (λ (v : Vec (String Global) Global). map string_bytes v.items) paths

  last : AreLast e.names dirs p.queue all
  last =
      subst (λ (v : Vec (String Global) Global). AreLast e.names (map string_bytes v.items) p.queue all) stands.paths
      (subst (λ (x : LogQueue). AreLast e.names (directories_of_pipe stands.pipe) x all) stands.queue (stands.alone alone))

  -- so it is said of the new pipe
  of_new : (seq at fd : ℕ) → StandsAt e.names dirs p.queue seq at fd → StandsAt e.names (directories_of_pipe q) q.queue seq at fd
  of_new seq at fd s =
      subst (λ (x : LogQueue). StandsAt e.names (directories_of_pipe q) x seq at fd) (sym queue)
      (subst (λ (l : List Text). StandsAt e.names l p.queue seq at fd) (sym same_dirs) s)

  stood : (seq at fd : ℕ) → StandsAt e.names dirs p.queue seq at fd → StandsAt d.names dirs p.queue seq at fd
  stood seq at fd s =
      let path : Text = path_in dirs at (id_of p.queue seq) in
      let says = path_says (get_or dirs at []) (log_file_name (id_of p.queue seq)) path (id_of p.queue seq) s.0 refl refl in
      (s.0, s.1, found_there d.names d.next path fd named (log_kept p.queue (first_of q) d e path (id_of p.queue seq) fd keeps says (found_in e.names path fd s.2)).0)

  -- a file of before from the first number on stands
  stands_still : (g : File) → IsIn g (files_of p) → first_of q ≤ g.seq → StandsAt e.names dirs p.queue g.seq g.path_id g.handle.0
  stands_still g there from =
      let s = in_all (λ (x : File). StandsAt d.names dirs p.queue x.seq x.path_id x.handle.0) (files_of p) g alone.each there in
      let path : Text = path_in dirs g.path_id (id_of p.queue g.seq) in
      let says = path_says (get_or dirs g.path_id []) (log_file_name (id_of p.queue g.seq)) path (id_of p.queue g.seq) s.0 refl refl in (
        s.0,
        s.1,
        ⊎_elim (λ (now : IsIn (path, g.handle.0) e.names). found_there e.names e.next path g.handle.0 named_then now)
            (λ (m, low, other). absurd (omega (arith, low, from, ap (λ (x : FileId). x.seq) (some_is (id_of p.queue g.seq) (id_of p.queue m) (sym says ∙ other)))))
            (keeps.names path g.handle.0 (found_in d.names path g.handle.0 s.2)),
      )

  one_of : (f : File) → IsIn f all → StandsAt e.names dirs p.queue f.seq f.path_id f.handle.0
  one_of f there = in_all (λ (x : File). StandsAt e.names dirs p.queue x.seq x.path_id x.handle.0) all f last.each there

  -- none is behind the file that is written
  not_behind : (f : File) → IsIn f all → f.seq ≤ p.active.seq
  not_behind f there = by_test (nat_lt p.active.seq f.seq) refl
    where
      by_test : (t : Bool) → nat_lt p.active.seq f.seq ≡ t → f.seq ≤ p.active.seq
      by_test false is = ltb-false p.active.seq f.seq is
      by_test true is =
          let late = ltb-true p.active.seq f.seq is in
          let g = alone.only f.seq f.path_id f.handle.0 p.active (stood f.seq f.path_id f.handle.0 (one_of f there)) (is_last p.older.items p.active) (omega (arith, late)) in
          (in_files p d g.0 f.seq pipe g.1 g.2).1

  -- a hole among them is one of the new pipe, or stands before its files
  hole_left : HasLastingHole stands.pipe e → HasLastingHole q e ⊎ HasHoleBefore q e
  hole_left (f, older, none, lasting) = by_test (nat_lt f.seq (first_of q)) refl
    where
      among : IsIn f all
      among = is_older stands.pipe.older.items f stands.pipe.active older

      here : StandsAt e.names dirs p.queue f.seq f.path_id f.handle.0
      here = one_of f among

      seq_stays : q.active.seq ≡ p.active.seq
      seq_stays = ap (λ (x : File). x.seq) active

      by_test : (t : Bool) → nat_lt f.seq (first_of q) ≡ t → HasLastingHole q e ⊎ HasHoleBefore q e
      by_test true is =
          let low = ltb-true f.seq (first_of q) is in
          let written = stands_still p.active (is_last p.older.items p.active) (omega (arith, seq_stays)) in
          let newest = last.only p.active.seq p.active.path_id p.active.handle.0 f written among (omega (arith, low, seq_stays)) in
          inr (record {
            seq = f.seq;
            place = f.path_id;
            fd = f.handle.0;
            stands = of_new f.seq f.path_id f.handle.0 here;
            before = low;
            between = λ n from below.
                let top = below_next all last.next newest.0 last.numbers newest.1 in
                let bottom = (older_below all last.next f last.numbers among).1 in
                let g = number_there all last.next n last.numbers (omega (arith, top, newest.2, below, seq_stays)) (omega (arith, bottom, from)) in
                (g.0.path_id, g.0.handle.0, of_new n g.0.path_id g.0.handle.0 (subst (λ (m : ℕ). StandsAt e.names dirs p.queue m g.0.path_id g.0.handle.0) g.2 (one_of g.0 g.1)));
            none = none;
            lasting = lasting;
          })
      by_test false is =
          let from = ltb-false f.seq (first_of q) is in
          let lower = before_last stands.pipe.older.items stands.pipe.active f last.next last.numbers older in
          let most = not_behind stands.pipe.active (is_last stands.pipe.older.items stands.pipe.active) in
          let g = number_there q.older.items q.active.seq f.seq after.numbers (omega (arith, lower, most, seq_stays)) (omega (arith, from)) in
          let was : IsIn g.0 p.older.items = in_rest rest.0 p.older.items g.0 (subst (λ (l : List File). IsIn g.0 l) rest.1 g.1) in
          let there : StandsAt e.names dirs p.queue f.seq g.0.path_id g.0.handle.0 =
          subst (λ (n : ℕ). StandsAt e.names dirs p.queue n g.0.path_id g.0.handle.0) g.2 (stands_still g.0 (is_older p.older.items g.0 p.active was) (omega (arith, from, g.2))) in
          let place : g.0.path_id ≡ f.path_id = last.once.once f.seq g.0.path_id f.path_id g.0.handle.0 f.handle.0 there here in
          let same : g.0.handle.0 ≡ f.handle.0 =
          same_number g.0.handle.0 f.handle.0 (sym there.2 ∙ ap (λ (n : ℕ). fd_of e.names (path_in dirs n (id_of p.queue f.seq))) place ∙ here.2) in
          inl (g.0, g.1, subst (λ (n : ℕ). (e.file n).bytes ≡ []) (sym same) none, λ image are. ap image same ∙ lasting image are)

-- ---- what stands for a pipe

-- the pipe itself
pub left_stands : (p q : SinglePipe) (d e : Disk) → LeavesPipe p d q e → StandsFor p d q e q
left_stands p q d e left = record { set = left.set; paths = (left.paths, left.paths); nearly = left.nearly; torn = left.torn; holes = λ alone hole. inl hole }

-- a pipe of before, or the new one
pub went_stands : (p q : SinglePipe) (d e : Disk) (s u : Numbered) → IsNamed d → IsNamed e → IsPipe p d → IsPipe q e → q.active ≡ p.active → q.queue ≡ p.queue → q.paths ≡ p.paths → KeepsSettings p q → AreLastOf p.older.items q.older.items
    → KeepsFrom p.queue (first_of q) d e → Holds p d s u → (stands : StandsFrom p d q e) → StandsFor p d q e stands.pipe
went_stands p q d e s u named named_then pipe after active queue paths set rest keeps holds stands = record {
  set = set;
  paths = (paths, stands.paths);
  nearly = λ alone. nearly stands.pipe e (stands.alone alone);
  torn = λ alone. held_torn stands.pipe e (stands.alone alone) (from_file (first_of stands.pipe) s) u (stands.holds s u holds);
  holes = λ alone. hole_left p q d e named named_then pipe after active queue paths rest keeps stands alone;
}

-- ---- of both

pub refused_stands : (d e : Disk) (p q : DualPipes) (content : Content (List ℕ)) → LeavesContent e q content → LeavesPipes d p e q → LeavesStanding d p e q content
refused_stands d e p q content reads left = record {
  pipes = q;
  leaves = reads;
  append = left_stands p.append q.append d e left.append;
  rewrite = left_stands p.rewrite q.rewrite d e left.rewrite;
}

stands_behind : (p q r s : SinglePipe) (d e f : Disk) → KeepsPipe p d q e → StandsFor q e r f s → StandsFor p d r f s
stands_behind p q r s d e f one two = record {
  set = (two.set.0 ∙ one.set.0, two.set.1 ∙ one.set.1, two.set.2 ∙ one.set.2);
  paths = (two.paths.0 ∙ one.paths, two.paths.1 ∙ one.paths);
  nearly = λ alone. two.nearly (one.alone alone);
  torn = λ alone. two.torn (one.alone alone);
  holes = λ alone. two.holes (one.alone alone);
}

-- behind a call that keeps both pipes
pub kept_then_stands : (d e f : Disk) (p q r : DualPipes) (content : Content (List ℕ)) → KeepBoth d p e q → LeavesStanding e q f r content → LeavesStanding d p f r content
kept_then_stands d e f p q r content kept stands = record {
  pipes = stands.pipes;
  leaves = stands.leaves;
  append = stands_behind p.append q.append r.append stands.pipes.append d e f kept.0 stands.append;
  rewrite = stands_behind p.rewrite q.rewrite r.rewrite stands.pipes.rewrite d e f kept.1 stands.rewrite;
}

pub both_then : (d e f : Disk) (p q r : DualPipes) → KeepBoth d p e q → KeepBoth e q f r → KeepBoth d p f r
both_then d e f p q r one two = (pipe_then p.append q.append r.append d e f one.0 two.0, pipe_then p.rewrite q.rewrite r.rewrite d e f one.1 two.1)

pub ok_both : {X E : Type 0} (result : Result X E) (d e f : Disk) (p q r : DualPipes) → KeepsPipes d p e q → OnOk result (KeepBoth e q f r) → OnOk result (KeepBoth d p f r)
ok_both (Ok x) d e f p q r one two = both_then d e f p q r (one.append, one.rewrite) two
ok_both (Err x) d e f p q r one two = tt

pub err_stands : {X E : Type 0} (result : Result X E) (d e f : Disk) (p q r : DualPipes) (log mid : TracedTables) → KeepsPipes d p e q → ((content : Content (List ℕ)) → CanClean d p log content → CanClean e q mid content)
    → OnErr result (IsLeftStanding e q mid f r) → OnErr result (IsLeftStanding d p log f r)
err_stands (Ok x) d e f p q r log mid one cleaned two = tt
err_stands (Err x) d e f p q r log mid one cleaned two = λ content can. kept_then_stands d e f p q r content (one.append, one.rewrite) (two content (cleaned content can))

-- ---- append files that were to go

module _ (d e : Disk) (p q : DualPipes) (log : TracedTables) (seq : ℕ) (result : Result ℕ Error) (barrier : Option ℕ) (named : IsNamed d) (named_then : IsNamed e)
    (may : first_of p.append < seq → MayGoBefore (traces_in log.traces) barrier seq) (call : IsPurgeOf p.append d q.append e seq result) (set : KeepsSettings p.append q.append) (other : IsAsBefore p.rewrite d q.rewrite e) where
  stand_behind : StandsFrom p.append d q.append e → IsLeftStanding d p log e q
  stand_behind stands content can = record {
    pipes = record { append = stands.pipe; rewrite = q.rewrite; appends = stands.queue ∙ p.appends; rewrites = q.rewrites };
    leaves = standing_leaves d e p q log content can seq result barrier may call (record { append = stands.pipe; rewrite = q.rewrite; appends = stands.queue ∙ p.appends; rewrites = q.rewrites }) stands.first.1 stands.holds other;
    append = went_stands p.append q.append d e can.appends [] named named_then can.pipes.append call.pipe call.same (q.appends ∙ sym p.appends) call.paths set call.rest call.keeps can.append stands;
    rewrite = left_stands p.rewrite q.rewrite d e (pipe_left p.rewrite q.rewrite d e can.rewrites [] (other.holds can.rewrites [] can.rewrite) (pipe_as_before p.rewrite q.rewrite d e other));
  }

  pub refused_to_go : OnErr result (IsLeftStanding d p log e q)
  refused_to_go = by_result result call.stands
    where
      by_result : (r : Result ℕ Error) → OnErr r (StandsFrom p.append d q.append e) → OnErr r (IsLeftStanding d p log e q)
      by_result (Ok n) none = tt
      by_result (Err x) stands = stand_behind stands

  pub gone_keeps : OnOk result (KeepBoth d p e q)
  gone_keeps = by_result result call.alone
    where
      by_result : (r : Result ℕ Error) → OnOk r (IsAlone p.append d → IsAlone q.append e) → OnOk r (KeepBoth d p e q)
      by_result (Ok n) alone = (record { set = set; paths = call.paths; alone = alone }, pipe_as_before p.rewrite q.rewrite d e other)
      by_result (Err x) none = tt
