-- The numbers of files rise with the batches in them.
use Rattle.std.proofs.Common.{◌≡◌, inl, inr, ℕ, ◌+◌, ◌≤◌, List, [], ◌∷◌, ◌++◌, length, refl, sym, ap, subst, ◌∙◌, arith, append_assoc}
use Rattle.std.proofs.lemmas.List.{append-nil}
use Rattle.raft_log_records.specs.declared.file_id.LogQueue.{LogQueue}
use Rattle.raft_log_disk.specs.Disk.{Disk, IsIn}
use Rattle.raft_log_file.specs.Laws.{Batch}
use Rattle.raft_log_pipe.specs.declared.file.File.{File}
use Rattle.raft_log_pipe.specs.declared.pipe.SinglePipe.{SinglePipe}
use Rattle.raft_log_pipe.specs.Blocks.{KeepsFiles}
use Rattle.raft_log_pipe.specs.Pipe.{AreConsecutive, AreOlder, Holds, Numbered, first_of, numbered}
use Rattle.raft_log_pipe.proofs.BlockLemmas.{long_span}
use Rattle.raft_log_covers.specs.Queues.{FilesRise}
use Rattle.raft_log_engine.specs.Traced.{filed}

-- ---- of what a pipe holds

file_rises : (seq : ℕ) (ks : List Batch) (rest : Numbered) → ((low : ℕ) → low ≤ seq → FilesRise low (filed rest)) → (least : ℕ) → least ≤ seq → FilesRise least (filed (numbered seq ks ++ rest))
file_rises seq [] rest rises least below = rises least below
file_rises seq (k ∷ ks) rest rises least below = (below, file_rises seq ks rest rises seq (omega arith))

olders_rise : (queue : LogQueue) (d : Disk) (fs : List File) (last : ℕ) (bs rest : Numbered) → AreConsecutive fs last → AreOlder queue d fs bs → ((low : ℕ) → low ≤ last → FilesRise low (filed rest))
    → (least : ℕ) → least + length fs ≤ last → FilesRise least (filed (bs ++ rest))
olders_rise queue d [] last bs rest numbers none rises least below = subst (λ (l : Numbered). FilesRise least (filed (l ++ rest))) (sym none) (rises least (omega (arith, below)))
olders_rise queue d (f ∷ fs) last bs rest numbers (ks, more, is, o, os) rises least below =
    subst (λ (l : Numbered). FilesRise least (filed l)) (sym (append_assoc (numbered f.seq ks) more rest) ∙ ap (λ (l : Numbered). l ++ rest) (sym is))
    (file_rises f.seq ks (more ++ rest) (λ low under. olders_rise queue d fs last more rest numbers.1 os rises low (omega (arith, numbers.0, under))) least (omega (arith, numbers.0, below)))

pub holds_rise : (p : SinglePipe) (d : Disk) (s u : Numbered) → AreConsecutive p.older.items p.active.seq → Holds p d s u → FilesRise (first_of p) (filed (s ++ u))
holds_rise p d s u numbers h =
    let seq : ℕ = p.active.seq in
    let last : (low : ℕ) → low ≤ seq → FilesRise low (filed (numbered seq h.us)) =
    λ low below. subst (λ (l : Numbered). FilesRise low (filed l)) (append-nil (numbered seq h.us)) (file_rises seq h.us [] (λ n under. tt) low below) in
    subst (λ (l : Numbered). FilesRise (first_of p) (filed l)) (sym (append_assoc h.before (numbered seq h.ks) (numbered seq h.us)) ∙ (λ i. sym h.synced_are i ++ sym h.unsynced_are i))
    (olders_rise p.queue d p.older.items seq h.before (numbered seq h.ks ++ numbered seq h.us) numbers h.olders (file_rises seq h.ks (numbered seq h.us) last) (first_of p) (omega (arith, long_span p.older.items seq numbers)))

-- ---- the first file

-- none of a pipe's files comes before it
not_before : (fs : List File) (active f : File) → AreConsecutive fs active.seq → IsIn f (fs ++ active ∷ []) → active.seq ≤ f.seq + length fs
not_before [] active f numbers (inl same) = omega (arith, ap (λ (x : File). x.seq) same)
not_before [] active f numbers (inr none) = absurd none
not_before (g ∷ fs) active f numbers (inl same) = omega (arith, numbers.0, ap (λ (x : File). x.seq) same)
not_before (g ∷ fs) active f numbers (inr there) = omega (arith, not_before fs active f numbers.1 there)

first_there : (fs : List File) (active : File) → AreConsecutive fs active.seq → (f : File) × IsIn f (fs ++ active ∷ []) × (f.seq + length fs ≡ active.seq)
first_there [] active numbers = (active, inl refl, omega arith)
first_there (g ∷ fs) active numbers = (g, inl refl, omega (arith, numbers.0))

-- where the files of before are there still it is no later
pub first_stays : (p q : SinglePipe) → KeepsFiles p q → AreConsecutive p.older.items p.active.seq → AreConsecutive q.older.items q.active.seq → first_of q ≤ first_of p
first_stays p q keeps one other =
    let f = first_there p.older.items p.active one in
    omega (arith, f.2, not_before q.older.items q.active f.0 other (keeps f.0 f.1), long_span p.older.items p.active.seq one, long_span q.older.items q.active.seq other)
