-- The numbers of the files in which batches stand.
use Rattle.std.proofs.Common.{◌≡◌, ◌⊎◌, inl, inr, ℕ, suc, ◌+◌, ◌<◌, ◌≤◌, Bool, true, false, cond, List, [], ◌∷◌, ◌++◌, length, drop, refl, sym, ap, subst, ◌∙◌, arith, append_assoc, append-nil, ltb-false}
use Rattle.std.specs.Prelude.{nat_lt}
use Rattle.std.specs.List.{AllByRecursion}
use Rattle.std.proofs.lemmas.Bool.{le-ltb, lt-ltb}
use Rattle.raft_log_records.specs.declared.file_id.LogQueue.{LogQueue}
use Rattle.raft_log_disk.specs.Disk.{Disk, IsIn}
use Rattle.raft_log_file.specs.Laws.{Batch}
use Rattle.raft_log_pipe.specs.declared.file.File.{File}
use Rattle.raft_log_pipe.specs.declared.pipe.SinglePipe.{SinglePipe}
use Rattle.raft_log_pipe.specs.Blocks.{KeepsFiles}
use Rattle.raft_log_pipe.specs.Pipe.{AreConsecutive, AreOlder, Holds, Numbered, first_of, numbered}
use Rattle.raft_log_pipe.specs.Purging.{from_file}
use Rattle.raft_log_pipe.proofs.BlockLemmas.{in_last, is_last, long_span, older_below}
use Rattle.raft_log_covers.specs.Queues.{FilesRise}
use Rattle.raft_log_cleaner.specs.Cleaning.{filed, records_of}

abbrev pub AreBelow : ℕ → Numbered → Type 0
AreBelow next bs = AllByRecursion (λ b. b.0 < next) bs

abbrev pub AreFrom : ℕ → Numbered → Type 0
AreFrom next bs = AllByRecursion (λ b. next ≤ b.0) bs

-- ---- of what a pipe holds

below-append : (next : ℕ) (bs more : Numbered) → AreBelow next bs → AreBelow next more → AreBelow next (bs ++ more)
below-append next [] more one two = two
below-append next (b ∷ bs) more one two = (one.0, below-append next bs more one.1 two)

file_below : (seq next : ℕ) (ks : List Batch) → seq < next → AreBelow next (numbered seq ks)
file_below seq next [] l = tt
file_below seq next (k ∷ ks) l = (l, file_below seq next ks l)

olders_below : (queue : LogQueue) (d : Disk) (fs : List File) (last : ℕ) (bs : Numbered) → AreConsecutive fs last → AreOlder queue d fs bs → AreBelow (last + 1) bs
olders_below queue d [] last bs numbers none = subst (λ (l : Numbered). AreBelow (last + 1) l) (sym none) tt
olders_below queue d (f ∷ fs) last bs numbers (ks, more, is, o, os) =
    subst (λ (l : Numbered). AreBelow (last + 1) l) (sym is)
    (below-append (last + 1) (numbered f.seq ks) more (file_below f.seq (last + 1) ks (omega (arith, numbers.0))) (olders_below queue d fs last more numbers.1 os))

-- none stands behind the file that is written
pub holds_below : (p : SinglePipe) (d : Disk) (s u : Numbered) → AreConsecutive p.older.items p.active.seq → Holds p d s u → AreBelow (p.active.seq + 1) (s ++ u)
holds_below p d s u numbers h =
    let next : ℕ = p.active.seq + 1 in
    subst (λ (l : Numbered). AreBelow next l) (λ i. sym h.synced_are i ++ sym h.unsynced_are i)
    (below-append next (h.before ++ numbered p.active.seq h.ks) (numbered p.active.seq h.us)
    (below-append next h.before (numbered p.active.seq h.ks) (olders_below p.queue d p.older.items p.active.seq h.before numbers h.olders) (file_below p.active.seq next h.ks (omega arith)))
    (file_below p.active.seq next h.us (omega arith)))

file_rises : (seq : ℕ) (ks : List Batch) (rest : Numbered) → ((low : ℕ) → low ≤ seq → FilesRise low (filed rest)) → (least : ℕ) → least ≤ seq → FilesRise least (filed (numbered seq ks ++ rest))
file_rises seq [] rest rises least below = rises least below
file_rises seq (k ∷ ks) rest rises least below = (below, file_rises seq ks rest rises seq (omega arith))

olders_rise : (queue : LogQueue) (d : Disk) (fs : List File) (last : ℕ) (bs rest : Numbered) → AreConsecutive fs last → AreOlder queue d fs bs → ((low : ℕ) → low ≤ last → FilesRise low (filed rest))
    → (least : ℕ) → least + length fs ≤ last → FilesRise least (filed (bs ++ rest))
olders_rise queue d [] last bs rest numbers none rises least below = subst (λ (l : Numbered). FilesRise least (filed (l ++ rest))) (sym none) (rises least (omega (arith, below)))
olders_rise queue d (f ∷ fs) last bs rest numbers (ks, more, is, o, os) rises least below =
    subst (λ (l : Numbered). FilesRise least (filed l)) (sym (append_assoc (numbered f.seq ks) more rest) ∙ ap (λ (l : Numbered). l ++ rest) (sym is))
    (file_rises f.seq ks (more ++ rest) (λ low under. olders_rise queue d fs last more rest numbers.1 os rises low (omega (arith, numbers.0, under))) least (omega (arith, numbers.0, below)))

-- the numbers rise
pub holds_rise : (p : SinglePipe) (d : Disk) (s u : Numbered) → AreConsecutive p.older.items p.active.seq → Holds p d s u → FilesRise 0 (filed (s ++ u))
holds_rise p d s u numbers h =
    let seq : ℕ = p.active.seq in
    let last : (low : ℕ) → low ≤ seq → FilesRise low (filed (numbered seq h.us)) =
    λ low below. subst (λ (l : Numbered). FilesRise low (filed l)) (append-nil (numbered seq h.us)) (file_rises seq h.us [] (λ n under. tt) low below) in
    subst (λ (l : Numbered). FilesRise 0 (filed l)) (sym (append_assoc h.before (numbered seq h.ks) (numbered seq h.us)) ∙ (λ i. sym h.synced_are i ++ sym h.unsynced_are i))
    (olders_rise p.queue d p.older.items seq h.before (numbered seq h.ks ++ numbered seq h.us) numbers h.olders (file_rises seq h.ks (numbered seq h.us) last) 0 (omega (arith, long_span p.older.items seq numbers)))

-- where the files of before are there still, the one that is written is no earlier
pub active_stays : (p q : SinglePipe) → KeepsFiles p q → AreConsecutive q.older.items q.active.seq → p.active.seq ≤ q.active.seq
active_stays p q keeps numbers = by_place (in_last q.older.items p.active q.active (keeps p.active (is_last p.older.items p.active)))
  where
    by_place : IsIn p.active q.older.items ⊎ (p.active ≡ q.active) → p.active.seq ≤ q.active.seq
    by_place (inl older) = let below = older_below q.older.items q.active.seq p.active numbers older in omega (arith, below.0)
    by_place (inr same) = let is : p.active.seq ≡ q.active.seq = ap (λ (f : File). f.seq) same in omega (arith, is)

-- none of a pipe's files comes before its first one
not_before : (fs : List File) (active f : File) → AreConsecutive fs active.seq → IsIn f (fs ++ active ∷ []) → active.seq ≤ f.seq + length fs
not_before [] active f numbers (inl same) = let is : f.seq ≡ active.seq = ap (λ (x : File). x.seq) same in omega (arith, is)
not_before [] active f numbers (inr none) = absurd none
not_before (g ∷ fs) active f numbers (inl same) = let is : f.seq ≡ g.seq = ap (λ (x : File). x.seq) same in omega (arith, numbers.0, is)
not_before (g ∷ fs) active f numbers (inr there) = let rest = not_before fs active f numbers.1 there in omega (arith, rest)

first_there : (fs : List File) (active : File) → AreConsecutive fs active.seq → (f : File) × IsIn f (fs ++ active ∷ []) × (f.seq + length fs ≡ active.seq)
first_there [] active numbers = (active, inl refl, omega arith)
first_there (g ∷ fs) active numbers = (g, inl refl, omega (arith, numbers.0))

-- and where they are there still it is no later
pub first_stays : (p q : SinglePipe) → KeepsFiles p q → AreConsecutive p.older.items p.active.seq → AreConsecutive q.older.items q.active.seq → first_of q ≤ first_of p
first_stays p q keeps one other =
    let f = first_there p.older.items p.active one in
    omega (arith, f.2, not_before q.older.items q.active f.0 other (keeps f.0 f.1), long_span p.older.items p.active.seq one, long_span q.older.items q.active.seq other)

-- ---- files that go

-- batches from a number on stay
pub all_stay : (f next : ℕ) (bs : Numbered) → f ≤ next → AreFrom next bs → from_file f bs ≡ bs
all_stay f next [] l from = refl
all_stay f next (b ∷ bs) l from =
    ap (λ (t : Bool). cond t (from_file f bs) (b ∷ from_file f bs)) (le-ltb b.0 f (omega (arith, l, from.0))) ∙ ap (λ (x : Numbered). b ∷ x) (all_stay f next bs l from.1)

-- those before it go
pub all_go : (next : ℕ) (bs : Numbered) → AreBelow next bs → from_file next bs ≡ []
all_go next [] below = refl
all_go next (b ∷ bs) below = ap (λ (t : Bool). cond t (from_file next bs) (b ∷ from_file next bs)) (lt-ltb b.0 next below.0) ∙ all_go next bs below.1

rises_from : (f low : ℕ) (bs : Numbered) → f ≤ low → FilesRise low (filed bs) → AreFrom f bs
rises_from f low [] l rise = tt
rises_from f low (b ∷ bs) l rise = (omega (arith, l, rise.0), rises_from f b.0 bs (omega (arith, l, rise.0)) rise.1)

-- the first ones go
pub front_goes : (f low : ℕ) (bs : Numbered) → FilesRise low (filed bs) → (n : ℕ) × (records_of (from_file f bs) ≡ drop n (records_of bs))
front_goes f low [] rise = (0, refl)
front_goes f low (b ∷ bs) rise = by_test (nat_lt b.0 f) refl (front_goes f b.0 bs rise.1)
  where
    by_test : (t : Bool) → nat_lt b.0 f ≡ t → (n : ℕ) × (records_of (from_file f bs) ≡ drop n (records_of bs)) → (n : ℕ) × (records_of (cond t (from_file f bs) (b ∷ from_file f bs)) ≡ drop n (b.1 ∷ records_of bs))
    by_test true e rest = (suc rest.0, rest.1)
    by_test false e rest = (0, ap (λ (l : Numbered). b.1 ∷ records_of l) (all_stay f f bs (omega arith) (rises_from f b.0 bs (ltb-false b.0 f e) rise.1)))

pub from-append : (next : ℕ) (bs more : Numbered) → AreFrom next bs → AreFrom next more → AreFrom next (bs ++ more)
from-append next [] more one two = two
from-append next (b ∷ bs) more one two = (one.0, from-append next bs more one.1 two)
