-- What an append makes of a pipe, with a sync behind it or without.
use Rattle.std.proofs.Common.{◌≡◌, ◌⊎◌, inl, inr, ⊎_elim, ℕ, Bool, true, false, List, [], ◌∷◌, ◌++◌, length, take, drop, refl, sym, ap, subst, ◌∙◌, append_assoc}
use Rattle.std.proofs.lemmas.Bool.{false≢true}
use Rattle.std.proofs.lemmas.List.{append-nil, take-append-drop}
use Rattle.std.proofs.Math.Seq.{drop-append_seam, take-append_seam}
use Rattle.raft_log_records.specs.declared.file_id.FileBlockHandle.{FileBlockHandle}
use Rattle.raft_log_disk.specs.Disk.{Disk}
use Rattle.raft_log_file.specs.Laws.{Batch}
use Rattle.raft_log_pipe.specs.declared.pipe.SinglePipe.{SinglePipe}
use Rattle.raft_log_pipe.specs.Alone.{IsAlone}
use Rattle.raft_log_pipe.specs.Torn.{TearsAtEnd}
use Rattle.raft_log_pipe.proofs.TornLemmas.{held_torn}
use Rattle.raft_log_pipe.specs.Appending.{Appends, LeavesAppended, Stands}
use Rattle.raft_log_pipe.specs.Blocks.{IsRecordOf}
use Rattle.raft_log_pipe.specs.Pipe.{Numbered, Holds, Leaves}
use Rattle.raft_log_pipe.proofs.PipeLemmas.{holds_leaves, leaves_less}
use Rattle.raft_log_pipes.specs.Kept.{KeepSettings}
use Rattle.raft_log_pipes.specs.declared.pipes.DualPipes.{DualPipes}
use Rattle.raft_log_blocks.specs.Held.{HoldsMore}

-- ---- batches that are on the disk, and others

drop_whole : {A : Type 0} (l : List A) → drop (length l) l ≡ []
drop_whole l = ap (drop (length l)) (sym (append-nil l)) ∙ drop-append_seam l []

take_whole : {A : Type 0} (l : List A) → take (length l) l ≡ l
take_whole l = ap (take (length l)) (sym (append-nil l)) ∙ take-append_seam l []

-- the first ones and the others are all of them
pub both_parts : (n : ℕ) (s l : Numbered) → (s ++ take n l) ++ drop n l ≡ s ++ l
both_parts n s l = append_assoc s (take n l) (drop n l) ∙ ap (λ (x : Numbered). s ++ x) (take-append-drop n l)

-- all are on the disk
pub all_more : (p : SinglePipe) (d : Disk) (s l : Numbered) → HoldsMore p d true s l → Holds p d (s ++ l) []
all_more p d s l m =
    let none : drop m.count l ≡ [] = m.none refl in
    let whole : take m.count l ≡ l = sym (append-nil (take m.count l)) ∙ ap (λ (x : Numbered). take m.count l ++ x) (sym none) ∙ take-append-drop m.count l in
    subst (λ (x : Numbered). Holds p d x []) (ap (λ (x : Numbered). s ++ x) whole) (subst (λ (x : Numbered). Holds p d (s ++ take m.count l) x) none m.holds)

-- whatever a crash leaves reads as the synced ones and a front of the others
pub more_leaves : (p : SinglePipe) (d : Disk) (all : Bool) (s l : Numbered) → HoldsMore p d all s l → Leaves p d s l
more_leaves p d all s l m =
    subst (λ (x : Numbered). Leaves p d s x) (take-append-drop m.count l)
    (leaves_less p.queue (p.older.items ++ p.active ∷ []) d s (take m.count l) (drop m.count l)
    (holds_leaves p.queue p.older.items p.active p.writer.offset d (s ++ take m.count l) (drop m.count l) m.holds))

-- ---- an append

-- it came behind the others, in the same file or in a new one
appended : (p : SinglePipe) (d : Disk) (s u : Numbered) (x : ℕ × Batch) → Holds p d s (u ++ x ∷ []) ⊎ Holds p d (s ++ u) (x ∷ []) → HoldsMore p d false s (u ++ x ∷ [])
appended p d s u x (inl same) = record {
  count = 0;
  holds = subst (λ (l : Numbered). Holds p d l (u ++ x ∷ [])) (sym (append-nil s)) same;
  none = λ h. absurd (false≢true h);
}
appended p d s u x (inr next) = record {
  count = length u;
  holds = subst (λ (l : Numbered). Holds p d (s ++ l) (drop (length u) (u ++ x ∷ []))) (sym (take-append_seam u (x ∷ [])))
      (subst (λ (l : Numbered). Holds p d (s ++ u) l) (sym (drop-append_seam u (x ∷ []))) next);
  none = λ h. absurd (false≢true h);
}

pub appended_more : (old p : SinglePipe) (d e : Disk) (seq : ℕ) (items : Batch) → Appends old d p e seq items → (s u : Numbered) → Holds old d s u → HoldsMore p e false s (u ++ (seq, items) ∷ [])
appended_more old p d e seq items appends s u holds = appended p e s u (seq, items) (appends s u holds)

-- and a sync brings all of them onto the disk
synced : (p : SinglePipe) (d : Disk) (s l : Numbered) → Holds p d (s ++ l) [] → HoldsMore p d true s l
synced p d s l holds = record {
  count = length l;
  holds = subst (λ (x : Numbered). Holds p d (s ++ x) (drop (length l) l)) (sym (take_whole l)) (subst (λ (x : Numbered). Holds p d (s ++ l) x) (sym (drop_whole l)) holds);
  none = λ _. drop_whole l;
}

pub synced_more : (old p new : SinglePipe) (d e f : Disk) (seq : ℕ) (items : Batch) → Appends old d p e seq items → ((s u : Numbered) → Holds p e s u → Holds new f (s ++ u) [])
    → (s u : Numbered) → Holds old d s u → HoldsMore new f true s (u ++ (seq, items) ∷ [])
synced_more old p new d e f seq items appends syncs s u holds =
    let l : Numbered = u ++ (seq, items) ∷ [] in
    let m : HoldsMore p e false s l = appended_more old p d e seq items appends s u holds in
    synced new f s l (subst (λ (x : Numbered). Holds new f x []) (both_parts m.count s l) (syncs (s ++ take m.count l) (drop m.count l) m.holds))

-- a refused sync leaves what the append did
pub unsynced_leaves : (old p new : SinglePipe) (d e f : Disk) (seq : ℕ) (items : Batch) → Appends old d p e seq items → ((s u : Numbered) → Holds p e s u → Holds new f s u)
    → (s u : Numbered) → Holds old d s u → LeavesAppended new f s u items
unsynced_leaves old p new d e f seq items appends keeps s u holds =
    let l : Numbered = u ++ (seq, items) ∷ [] in
    let m : HoldsMore p e false s l = appended_more old p d e seq items appends s u holds in
    (seq, more_leaves new f false s l (record { count = m.count; holds = keeps (s ++ take m.count l) (drop m.count l) m.holds; none = m.none }))

-- and no file torn
pub unsynced_torn : (old p new : SinglePipe) (d e f : Disk) (seq : ℕ) (items : Batch) → (IsAlone old d → IsAlone new f) → Appends old d p e seq items → ((s u : Numbered) → Holds p e s u → Holds new f s u) → TearsAtEnd old d new f
unsynced_torn old p new d e f seq items on appends keeps alone s u holds =
    ⊎_elim (λ same. held_torn new f (on alone) s (u ++ (seq, items) ∷ []) (keeps s (u ++ (seq, items) ∷ []) same))
    (λ next. held_torn new f (on alone) (s ++ u) ((seq, items) ∷ []) (keeps (s ++ u) ((seq, items) ∷ []) next)) (appends s u holds)

-- the record stands where it stood
pub still_stands : (old p new : SinglePipe) (d : Disk) (items : Batch) (h : FileBlockHandle) → Stands old d p items h → new.queue ≡ p.queue → new.active ≡ p.active → Stands old d new items h
still_stands old p new d items h stands queue active s u holds =
    let same : IsRecordOf new.queue p.active (s ++ u) items h = subst (λ q. IsRecordOf q p.active (s ++ u) items h) (sym queue) (stands s u holds) in
    subst (λ f. IsRecordOf new.queue f (s ++ u) items h) (sym active) same

-- ---- settings

-- settings that two calls keep
pub set_then : (p q r : DualPipes) → KeepSettings p q → KeepSettings q r → KeepSettings p r
set_then p q r first second = ((second.0.0 ∙ first.0.0, second.0.1 ∙ first.0.1, second.0.2 ∙ first.0.2), (second.1.0 ∙ first.1.0, second.1.1 ∙ first.1.1, second.1.2 ∙ first.1.2))
