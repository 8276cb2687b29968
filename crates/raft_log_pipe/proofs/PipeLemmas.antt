-- What changes of a disk make of a pipe, and what a crash leaves of it.
use Rattle.std.proofs.Common.{◌≡◌, ◌≢◌, ◌⊎◌, inl, inr, ℕ, zero, suc, ◌+◌, ◌<◌, ◌≤◌, min, Bool, true, false, cond, List, [], ◌∷◌, ◌++◌, length, take, Option, refl, sym, ap, subst, ◌∙◌, arith, append_assoc}
use Rattle.std.specs.Prelude.{MatchOption, ◌==◌}
use Rattle.std.specs.List.{AllByRecursion}
use Rattle.std.proofs.lemmas.Bool.{cases_lt, eqb-true}
use Rattle.std.proofs.lemmas.List.{append-nil, take-map, map-append, take_all, take-append-le}
use Rattle.std.proofs.Math.Seq.{take-append-add, take-append_seam}
use Rattle.raft_log_records.specs.declared.file_id.FileId.{FileId}
use Rattle.raft_log_records.specs.declared.file_id.LogQueue.{LogQueue}
use Rattle.raft_log_disk.specs.Disk.{Disk, FileState, IsIn, with_file}
use Rattle.raft_log_disk.specs.Name.{log_file_of}
use Rattle.raft_log_disk.specs.Image.{Image, IsImage, IsFileImage}
use Rattle.raft_log_disk.specs.Chance.{IsGenuine, IsGenuineImage}
use Rattle.raft_log_disk.proofs.DiskLemmas.{file_again, other_file, same_file}
use Rattle.raft_log_file.specs.Laws.{Batch}
use Rattle.raft_log_file.specs.Unsynced.{IsUnsynced, ReadsAs}
use Rattle.raft_log_file.proofs.UnsyncedLemmas.{unsynced_batches_are_a_front}
use Rattle.raft_log_pipe.specs.declared.file.File.{File}
use Rattle.raft_log_pipe.specs.Stored.{IsEnded, IsStored}
use Rattle.raft_log_pipe.specs.Begun.{Changes}
use Rattle.raft_log_pipe.specs.Pipe.{Numbered, numbered, id_of, FileReads, IsBlank, IsNamedSo, IsOlder, AreOlder, HoldsIn, ImageReads, LeavesIn}

-- ---- one file of a disk

same_here : (d : Disk) (n fd : ℕ) (b : Bool) → (n == fd) ≡ b → cond b (d.file fd) (d.file n) ≡ d.file n
same_here d n fd true is = ap d.file (sym (eqb-true n fd is))
same_here d n fd false is = refl

pub no_change : (d : Disk) (fd : ℕ) → d ≡ with_file d fd (d.file fd)
no_change d fd = λ i. record { directories = d.directories; names = d.names; file = λ n. sym (same_here d n fd (n == fd) refl) i; next = d.next }

pub stays : (d e : Disk) (fd : ℕ) → e ≡ d → Changes d e fd
stays d e fd is = is ∙ no_change d fd ∙ ap (λ (x : Disk). with_file d fd (x.file fd)) (sym is)

pub file_there : (d e : Disk) (fd : ℕ) (f : FileState) → e ≡ with_file d fd f → e.file fd ≡ f
file_there d e fd f is = ap (λ (x : Disk). x.file fd) is ∙ same_file fd f (d.file fd)

pub changes : (d e : Disk) (fd : ℕ) (f : FileState) → e ≡ with_file d fd f → Changes d e fd
changes d e fd f is = is ∙ ap (with_file d fd) (sym (file_there d e fd f is))

pub changes_on : (d e g : Disk) (fd : ℕ) → Changes d e fd → Changes e g fd → Changes d g fd
changes_on d e g fd one two = two ∙ ap (λ (x : Disk). with_file x fd (g.file fd)) one ∙ file_again d fd (e.file fd) (g.file fd)

pub file_beside : (d e : Disk) (fd n : ℕ) → Changes d e fd → n ≢ fd → e.file n ≡ d.file n
file_beside d e fd n change apart = ap (λ (x : Disk). x.file n) change ∙ other_file n fd (e.file fd) (d.file n) apart

-- ---- what pipes hold

abbrev pub Keeps : Disk → Disk → Type 0
Keeps d e = (x : List ℕ × ℕ) → IsIn x d.names → IsIn x e.names

pub names_kept : (d e : Disk) (fd : ℕ) → Changes d e fd → Keeps d e
names_kept d e fd change x there = subst (λ (y : Disk). IsIn x y.names) (sym change) there

pub named_on : (d e : Disk) (id : FileId) (fd : ℕ) → Keeps d e → IsNamedSo d id fd → IsNamedSo e id fd
named_on d e id fd keeps named = (named.0, keeps (named.0, fd) named.1, named.2)

pub each_named : (queue : LogQueue) (d e : Disk) (fs : List File) → Keeps d e → AllByRecursion (λ f. IsNamedSo d (id_of queue f.seq) f.handle.0) fs → AllByRecursion (λ f. IsNamedSo e (id_of queue f.seq) f.handle.0) fs
each_named queue d e [] keeps all = tt
each_named queue d e (f ∷ fs) keeps all = (named_on d e (id_of queue f.seq) f.handle.0 keeps all.0, each_named queue d e fs keeps all.1)

-- the files are as they were
abbrev pub AreSame : Disk → Disk → List File → Type 0
AreSame d e fs = AllByRecursion (λ f. e.file f.handle.0 ≡ d.file f.handle.0) fs

older_on : (queue : LogQueue) (d e : Disk) (f : File) (ks : List Batch) → Keeps d e → e.file f.handle.0 ≡ d.file f.handle.0 → IsOlder queue d f ks → IsOlder queue e f ks
older_on queue d e f ks keeps same o = record {
  offset = o.offset;
  named = named_on d e (id_of queue f.seq) f.handle.0 keeps o.named;
  stored = subst (λ (x : FileState). IsStored (id_of queue f.seq) f.format ks [] o.offset x ⊎ IsBlank f.format ks x) (sym same) o.stored;
  ended = subst (IsEnded o.offset) (sym same) o.ended;
}

pub olders_on : (queue : LogQueue) (d e : Disk) (fs : List File) (bs : Numbered) → Keeps d e → AreSame d e fs → AreOlder queue d fs bs → AreOlder queue e fs bs
olders_on queue d e [] bs keeps same o = o
olders_on queue d e (f ∷ fs) bs keeps same (ks, rest, is, o, os) = (ks, rest, is, older_on queue d e f ks keeps same.0 o, olders_on queue d e fs rest keeps same.1 os)

olders_push : (queue : LogQueue) (d : Disk) (fs : List File) (f : File) (bs : Numbered) (ks : List Batch) → AreOlder queue d fs bs → IsOlder queue d f ks → AreOlder queue d (fs ++ f ∷ []) (bs ++ numbered f.seq ks)
olders_push queue d [] f bs ks os o = (ks, [], ap (λ (l : Numbered). l ++ numbered f.seq ks) os ∙ sym (append-nil (numbered f.seq ks)), o, refl)
olders_push queue d (g ∷ fs) f bs ks (js, rest, is, o, os) last =
    (js, rest ++ numbered f.seq ks, ap (λ (l : Numbered). l ++ numbered f.seq ks) is ∙ append_assoc (numbered g.seq js) rest (numbered f.seq ks), o, olders_push queue d fs f rest ks os last)

-- with files beside it changed, a pipe holds what it held
pub holds_beside : (queue : LogQueue) (fs : List File) (active : File) (offset : ℕ) (d e : Disk) (s u : Numbered) → Keeps d e → AreSame d e fs → e.file active.handle.0 ≡ d.file active.handle.0
    → HoldsIn queue fs active offset d s u → HoldsIn queue fs active offset e s u
holds_beside queue fs active offset d e s u keeps same here h = record {
  before = h.before;
  ks = h.ks;
  us = h.us;
  synced_are = h.synced_are;
  unsynced_are = h.unsynced_are;
  olders = olders_on queue d e fs h.before keeps same h.olders;
  named = named_on d e (id_of queue active.seq) active.handle.0 keeps h.named;
  stored = subst (IsStored (id_of queue active.seq) active.format h.ks h.us offset) (sym here) h.stored;
}

-- no file but the last is this one
abbrev pub AreApart : ℕ → List File → Type 0
AreApart fd fs = AllByRecursion (λ f. f.handle.0 ≢ fd) fs

pub same_beside : (d e : Disk) (fd : ℕ) (fs : List File) → Changes d e fd → AreApart fd fs → AreSame d e fs
same_beside d e fd [] change apart = tt
same_beside d e fd (f ∷ fs) change apart = (file_beside d e fd f.handle.0 change apart.0, same_beside d e fd fs change apart.1)

-- the last file was changed
pub holds_on : (queue : LogQueue) (fs : List File) (active : File) (offset to : ℕ) (d e : Disk) (s u t v : Numbered) (h : HoldsIn queue fs active offset d s u) (ks us : List Batch)
    → Changes d e active.handle.0 → AreApart active.handle.0 fs → t ≡ h.before ++ numbered active.seq ks → v ≡ numbered active.seq us
    → IsStored (id_of queue active.seq) active.format ks us to (e.file active.handle.0) → HoldsIn queue fs active to e t v
holds_on queue fs active offset to d e s u t v h ks us change apart synced unsynced stored = record {
  before = h.before;
  ks = ks;
  us = us;
  synced_are = synced;
  unsynced_are = unsynced;
  olders = olders_on queue d e fs h.before (names_kept d e active.handle.0 change) (same_beside d e active.handle.0 fs change apart) h.olders;
  named = named_on d e (id_of queue active.seq) active.handle.0 (names_kept d e active.handle.0 change) h.named;
  stored = stored;
}

-- all batches are on the disk
pub holds_synced : (queue : LogQueue) (fs : List File) (active : File) (offset : ℕ) (d e : Disk) (s u : Numbered) (h : HoldsIn queue fs active offset d s u)
    → Changes d e active.handle.0 → AreApart active.handle.0 fs
    → IsStored (id_of queue active.seq) active.format (h.ks ++ h.us) [] offset (e.file active.handle.0) → HoldsIn queue fs active offset e (s ++ u) []
holds_synced queue fs active offset d e s u h change apart stored =
    holds_on queue fs active offset offset d e s u (s ++ u) [] h (h.ks ++ h.us) [] change apart
    ((λ i. h.synced_are i ++ h.unsynced_are i) ∙ append_assoc h.before (numbered active.seq h.ks) (numbered active.seq h.us)
    ∙ ap (λ (l : Numbered). h.before ++ l) (sym (map-append (λ k. (active.seq, k)) h.ks h.us)))
    refl stored

-- the last file with those before it, once it is ended
pub olders_next : (queue : LogQueue) (fs : List File) (active : File) (offset : ℕ) (d : Disk) (s : Numbered) → HoldsIn queue fs active offset d s [] → IsEnded offset (d.file active.handle.0) → AreOlder queue d (fs ++ active ∷ []) s
olders_next queue fs active offset d s h ended =
    let none : h.us ≡ [] = no_more h.us (sym h.unsynced_are) in
    subst (AreOlder queue d (fs ++ active ∷ [])) (sym h.synced_are) (olders_push queue d fs active h.before h.ks h.olders (record {
      offset = offset;
      named = h.named;
      stored = inl (subst (λ (l : List Batch). IsStored (id_of queue active.seq) active.format h.ks l offset (d.file active.handle.0)) none h.stored);
      ended = ended;
    }))
  where
    no_more : (us : List Batch) → numbered active.seq us ≡ [] → us ≡ []
    no_more [] is = refl
    no_more (u ∷ us) is = absurd cc

-- a new file goes on
pub holds_next : (queue : LogQueue) (fs : List File) (active next : File) (offset to : ℕ) (d : Disk) (s : Numbered) → HoldsIn queue fs active offset d s [] → IsEnded offset (d.file active.handle.0) → IsNamedSo d (id_of queue next.seq) next.handle.0
    → IsStored (id_of queue next.seq) next.format [] [] to (d.file next.handle.0) → HoldsIn queue (fs ++ active ∷ []) next to d s []
holds_next queue fs active next offset to d s h ended named stored = record {
  before = s;
  ks = [];
  us = [];
  synced_are = sym (append-nil s);
  unsynced_are = refl;
  olders = olders_next queue fs active offset d s h ended;
  named = named;
  stored = stored;
}

-- ---- what a crash leaves

pub in_all : {X : Type 0} (P : X → Type 0) (xs : List X) (x : X) → AllByRecursion P xs → IsIn x xs → P x
in_all P [] x all there = absurd there
in_all P (y ∷ xs) x all (inl e) = subst P (sym e) all.0
in_all P (y ∷ xs) x all (inr there) = in_all P xs x all.1 there

-- a file's image is an image of the file, and nothing passes by chance in it
pub image_there : (d : Disk) (image : Image) (id : FileId) (fd : ℕ) → IsNamedSo d id fd → IsImage d image → IsFileImage (d.file fd) (image fd)
image_there d image id fd named are = in_all (λ (e : List ℕ × ℕ). IsFileImage (d.file e.1) (image e.1)) d.names (named.0, fd) are named.1

pub genuine_there : (d : Disk) (image : Image) (id : FileId) (fd : ℕ) → IsNamedSo d id fd → IsGenuineImage d image → IsGenuine id (d.file fd) (image fd)
genuine_there d image id fd named are =
    subst (λ (o : Option FileId). MatchOption o (Unit {0}) (λ x. IsGenuine x (d.file fd) (image fd))) named.2
    (in_all (λ (e : List ℕ × ℕ). MatchOption (log_file_of e.0) (Unit {0}) (λ x. IsGenuine x (d.file e.1) (image e.1))) d.names (named.0, fd) are named.1)

take_none : {X : Type 0} (k : ℕ) → (let none : List X = [] in take k none ≡ [])
take_none zero = refl
take_none (suc k) = refl

older_read : (queue : LogQueue) (d : Disk) (image : Image) (f : File) (ks : List Batch) → IsImage d image → IsGenuineImage d image → IsOlder queue d f ks → FileReads (id_of queue f.seq) ks (image f.handle.0)
older_read queue d image f ks are genuine o = by_stored o.stored
  where
    by_stored : IsStored (id_of queue f.seq) f.format ks [] o.offset (d.file f.handle.0) ⊎ IsBlank f.format ks (d.file f.handle.0) → FileReads (id_of queue f.seq) ks (image f.handle.0)
    by_stored (inl s) =
        let front = unsynced_batches_are_a_front (id_of queue f.seq) f.format ks [] (d.file f.handle.0) (image f.handle.0) s.unsynced
        (image_there d image (id_of queue f.seq) f.handle.0 o.named are) (genuine_there d image (id_of queue f.seq) f.handle.0 o.named genuine) in
        inl (subst (λ (l : List Batch). ReadsAs (id_of queue f.seq) l (image f.handle.0)) (ap (λ (l : List Batch). ks ++ l) (take_none front.0) ∙ append-nil ks) front.1)
    by_stored (inr blank) =
        let left = image_there d image (id_of queue f.seq) f.handle.0 o.named are in
        inr (blank.none, omega (arith, left.no_longer, blank.short))

pub olders_read : (queue : LogQueue) (d : Disk) (image : Image) (fs : List File) (bs : Numbered) → IsImage d image → IsGenuineImage d image → AreOlder queue d fs bs → ImageReads queue fs image bs
olders_read queue d image [] bs are genuine os = os
olders_read queue d image (f ∷ fs) bs are genuine (ks, rest, is, o, os) = (ks, rest, is, older_read queue d image f ks are genuine o, olders_read queue d image fs rest are genuine os)

reads_push : (queue : LogQueue) (fs : List File) (f : File) (image : Image) (bs : Numbered) (ks : List Batch) → ImageReads queue fs image bs → FileReads (id_of queue f.seq) ks (image f.handle.0)
    → ImageReads queue (fs ++ f ∷ []) image (bs ++ numbered f.seq ks)
reads_push queue [] f image bs ks os o = (ks, [], ap (λ (l : Numbered). l ++ numbered f.seq ks) os ∙ sym (append-nil (numbered f.seq ks)), o, refl)
reads_push queue (g ∷ fs) f image bs ks (js, rest, is, o, os) last =
    (js, rest ++ numbered f.seq ks, ap (λ (l : Numbered). l ++ numbered f.seq ks) is ∙ append_assoc (numbered g.seq js) rest (numbered f.seq ks), o, reads_push queue fs f image rest ks os last)

-- what stands in the last file, whatever a read sees of it
pub leaves_last : (queue : LogQueue) (fs : List File) (active : File) (d : Disk) (before s u : Numbered) (ks us : List Batch) → s ≡ before ++ numbered active.seq ks → u ≡ numbered active.seq us
    → AreOlder queue d fs before → IsNamedSo d (id_of queue active.seq) active.handle.0 → IsUnsynced (id_of queue active.seq) active.format ks us (d.file active.handle.0)
    → LeavesIn queue (fs ++ active ∷ []) d s u
leaves_last queue fs active d before s u ks us synced unsynced olders named last image are genuine =
    let id : FileId = id_of queue active.seq in
    let front = unsynced_batches_are_a_front id active.format ks us (d.file active.handle.0) (image active.handle.0) last
    (image_there d image id active.handle.0 named are) (genuine_there d image id active.handle.0 named genuine) in
    let k : ℕ = front.0 in
    let whole : before ++ numbered active.seq (ks ++ take k us) ≡ s ++ take k u
    = ap (λ (l : Numbered). before ++ l) (map-append (λ (b : Batch). (active.seq, b)) ks (take k us)) ∙ sym (append_assoc before (numbered active.seq ks) (numbered active.seq (take k us)))
    ∙ (λ i. sym synced i ++ sym (take-map (λ (b : Batch). (active.seq, b)) k us) i) ∙ ap (λ (l : Numbered). s ++ take k l) (sym unsynced) in
    (k, subst (ImageReads queue (fs ++ active ∷ []) image) whole (reads_push queue fs active image before (ks ++ take k us) (olders_read queue d image fs before are genuine olders) (inl front.1)))

pub holds_leaves : (queue : LogQueue) (fs : List File) (active : File) (offset : ℕ) (d : Disk) (s u : Numbered) → HoldsIn queue fs active offset d s u → LeavesIn queue (fs ++ active ∷ []) d s u
holds_leaves queue fs active offset d s u h = leaves_last queue fs active d h.before s u h.ks h.us h.synced_are h.unsynced_are h.olders h.named h.stored.unsynced

-- the last file was changed, and what it has is unsynced
pub leaves_on : (queue : LogQueue) (fs : List File) (active : File) (offset : ℕ) (d e : Disk) (s u v : Numbered) (h : HoldsIn queue fs active offset d s u) (us : List Batch)
    → Changes d e active.handle.0 → AreApart active.handle.0 fs → v ≡ numbered active.seq us
    → IsUnsynced (id_of queue active.seq) active.format h.ks us (e.file active.handle.0) → LeavesIn queue (fs ++ active ∷ []) e s v
leaves_on queue fs active offset d e s u v h us change apart is last =
    leaves_last queue fs active e h.before s v h.ks us h.synced_are is
    (olders_on queue d e fs h.before (names_kept d e active.handle.0 change) (same_beside d e active.handle.0 fs change apart) h.olders)
    (named_on d e (id_of queue active.seq) active.handle.0 (names_kept d e active.handle.0 change) h.named) last

-- ---- fronts of more

front_of : (k : ℕ) (u v : Numbered) → (k < length u) ⊎ (length u ≤ k) → take (min k (length u)) (u ++ v) ≡ take k u
front_of k u v (inl short) = ap (λ n. take n (u ++ v)) (omega (arith, short)) ∙ take-append-le k u v (omega (arith, short))
front_of k u v (inr long) = ap (λ n. take n (u ++ v)) (omega (arith, long)) ∙ take-append_seam u v ∙ sym (take_all k u long)

-- a front of some is a front of these and more
pub leaves_more : (queue : LogQueue) (fs : List File) (d : Disk) (s u v : Numbered) → LeavesIn queue fs d s u → LeavesIn queue fs d s (u ++ v)
leaves_more queue fs d s u v l image are genuine =
    let front = l image are genuine in
    (min front.0 (length u), subst (λ (x : Numbered). ImageReads queue fs image (s ++ x)) (sym (front_of front.0 u v (cases_lt front.0 (length u)))) front.1)

-- with some of them on the disk
pub leaves_less : (queue : LogQueue) (fs : List File) (d : Disk) (s u v : Numbered) → LeavesIn queue fs d (s ++ u) v → LeavesIn queue fs d s (u ++ v)
leaves_less queue fs d s u v l image are genuine =
    let front = l image are genuine in
    (length u + front.0, subst (ImageReads queue fs image) (append_assoc s u (take front.0 v) ∙ ap (λ (x : Numbered). s ++ x) (sym (take-append-add u v front.0))) front.1)
