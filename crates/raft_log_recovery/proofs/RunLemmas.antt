-- The files that an opening finds are the last ones of the queue, and no others are.
use Rattle.std.proofs.Common.{◌≡◌, ◌≢◌, ◌⊎◌, inl, inr, ⊎_elim, ℕ, zero, suc, ◌+◌, ◌-◌, ◌^◌, ◌<◌, ◌≤◌, Bool, true, false, cond, List, [], ◌∷◌, ◌++◌, length, get_or, drop, Option, Some, None, refl, sym, ap, subst, ◌∙◌, arith, length-drop}
use Rattle.std.specs.Prelude.{◌==◌, is_some, option_to_list}
use Rattle.std.specs.List.{AllByRecursion, cons_option}
use Rattle.std.specs.List.Sorted.{IsPermutation}
use Rattle.std.specs.Option.{option_map}
use Rattle.std.proofs.lemmas.Bool.{cases_lt, eq-eqb, eqb-true}
use Rattle.std.proofs.lemmas.List.Recursion.{is_sum_by}
use Rattle.std.proofs.lemmas.List.Sorted.{Contains-permutation, IsPermutation-sym, sum_by-IsPermutation}
use lib.Pointwise.{bytes_decides}
use Rattle.raft_log_records.specs.declared.file_id.LogQueue.{LogQueue}
use Rattle.raft_log_disk.specs.Text.{Text, name_in, same_text}
use Rattle.raft_log_disk.specs.Disk.{Disk, IsIn, are_named, fd_of, listed}
use Rattle.raft_log_disk.proofs.ListedLemmas.{listed_there, path_is}
use Rattle.raft_log_disk.proofs.NamedLemmas.{named_first}
use Rattle.raft_log_disk.proofs.TextLemmas.{in_directory}
use Rattle.raft_log_files.specs.FileName.{IsFileSeq, log_file_name}
use Rattle.raft_log_pipe.specs.declared.file.File.{File}
use Rattle.raft_log_pipe.specs.Alone.{AreLast, IsOnce, IsVacant, Names, StandsAt}
use Rattle.raft_log_pipe.specs.Pipe.{AreConsecutive, id_of}
use Rattle.raft_log_pipe.proofs.AloneLemmas.{below_next, found_in, in_either, in_first, in_second, never_some}
use Rattle.raft_log_pipe.proofs.PipeLemmas.{in_all}
use Rattle.raft_log_pipe.proofs.PurgeLemmas.{same_number}
use Rattle.raft_log_recovery.specs.declared.scan.FileKind.{FileKind}
use Rattle.raft_log_recovery.specs.declared.scan.FileKind.TheVariants.{Log}
use Rattle.raft_log_recovery.specs.declared.scan.FileName.{FileName}
use Rattle.raft_log_recovery.specs.Queue.{AreNumbered, AreOpen}
use Rattle.raft_log_recovery.specs.Scan.{AreFound, AreInDirectories, files_named, seq_at, seq_in}
use Rattle.raft_log_recovery.proofs.FoundLemmas.{contained, found_numbered, in_contained, in_files, in_listed, last_found, name_slash, number_named}
use Rattle.raft_log_recovery.proofs.ScanLemmas.{named_so}

-- ---- how many files have a number

-- one, if the number is this
abbrev pub counts : Bool → ℕ
counts b = cond b 1 0

abbrev pub hit : ℕ → ℕ → ℕ
hit n m = counts (m == n)

pub hit_is : (n m : ℕ) → m ≡ n → hit n m ≡ 1
hit_is n m is = ap counts (eq-eqb m n is)

hit_cases : (n m : ℕ) → (hit n m ≡ 0) ⊎ ((hit n m ≡ 1) × (m ≡ n))
hit_cases n m = by_test (m == n) refl
  where
    by_test : (b : Bool) → (m == n) ≡ b → (counts b ≡ 0) ⊎ ((counts b ≡ 1) × (m ≡ n))
    by_test true is = inr (refl, eqb-true m n is)
    by_test false is = inl refl

abbrev pub tally : ℕ → List FileName → ℕ
tally n [] = 0
tally n (f ∷ fs) = hit n f.seq + tally n fs

tally_permuted : (n : ℕ) (xs ys : List FileName) → IsPermutation xs ys → tally n ys ≡ tally n xs
tally_permuted n xs ys same =
    let one : FileName → ℕ = λ f. hit n f.seq in
    is_sum_by (tally n) one refl (λ _ _. refl) ys ∙ sum_by-IsPermutation one xs ys same ∙ sym (is_sum_by (tally n) one refl (λ _ _. refl) xs)

tally_both : (n : ℕ) (xs ys : List FileName) → tally n (xs ++ ys) ≡ tally n xs + tally n ys
tally_both n [] ys = omega arith
tally_both n (x ∷ xs) ys = omega (arith, tally_both n xs ys)

tally_one : (n : ℕ) (l : List FileName) (i : ℕ) → i < length l → seq_at l i ≡ n → 1 ≤ tally n l
tally_one n [] i within is = absurd (omega (arith, within))
tally_one n (f ∷ l) zero within is = omega (arith, hit_is n f.seq is)
tally_one n (f ∷ l) (suc i) within is = omega (arith, tally_one n l i (omega (arith, within)) is)

tally_two : (n : ℕ) (l : List FileName) (i j : ℕ) → i < j → j < length l → seq_at l i ≡ n → seq_at l j ≡ n → 2 ≤ tally n l
tally_two n [] i j less within one two = absurd (omega (arith, within))
tally_two n (f ∷ l) i zero less within one two = absurd (omega (arith, less))
tally_two n (f ∷ l) zero (suc j) less within one two = omega (arith, hit_is n f.seq one, tally_one n l j (omega (arith, within)) two)
tally_two n (f ∷ l) (suc i) (suc j) less within one two = omega (arith, tally_two n l i j (omega (arith, less)) (omega (arith, within)) one two)

-- none has a number that is too great
tally_above : (n most : ℕ) (l : List FileName) → most ≤ n → ((f : FileName) → IsIn f l → f.seq < most) → tally n l ≡ 0
tally_above n most [] above each = refl
tally_above n most (f ∷ l) above each = ⊎_elim
    (λ no. omega (arith, no, tally_above n most l above (λ g there. each g (inr there))))
    (λ one. absurd (omega (arith, one.1, above, each f (inl refl))))
    (hit_cases n f.seq)

-- ---- how many names say it

abbrev named_hit : ℕ → Option ℕ → ℕ
named_hit n None = 0
named_hit n (Some m) = hit n m

abbrev pub named_tally : FileKind → ℕ → List Text → ℕ
named_tally kind n [] = 0
named_tally kind n (name ∷ names) = named_hit n (seq_in kind name) + named_tally kind n names

pub named_permuted : (kind : FileKind) (n : ℕ) (xs ys : List Text) → IsPermutation xs ys → named_tally kind n ys ≡ named_tally kind n xs
named_permuted kind n xs ys same =
    let one : Text → ℕ = λ name. named_hit n (seq_in kind name) in
    is_sum_by (named_tally kind n) one refl (λ _ _. refl) ys ∙ sum_by-IsPermutation one xs ys same ∙ sym (is_sum_by (named_tally kind n) one refl (λ _ _. refl) xs)

files_step : (n path_id : ℕ) (o : Option ℕ) (fs : List FileName) (rest : ℕ) → tally n fs ≡ rest → tally n (cons_option (option_map (λ seq. record { seq = seq; path_id = path_id }) o) fs) ≡ named_hit n o + rest
files_step n path_id None fs rest is = omega (arith, is)
files_step n path_id (Some m) fs rest is = omega (arith, is)

pub files_tally : (kind : FileKind) (n path_id : ℕ) (names : List Text) → tally n (files_named kind path_id names) ≡ named_tally kind n names
files_tally kind n path_id [] = refl
files_tally kind n path_id (name ∷ names) = files_step n path_id (seq_in kind name) (files_named kind path_id names) (named_tally kind n names) (files_tally kind n path_id names)

-- the path of a log file in a directory
abbrev file_path : Text → LogQueue → ℕ → Text
file_path directory queue n = directory ++ 47 ∷ log_file_name (id_of queue n)

-- a name says no such number, or is its name
said_cases : (queue : LogQueue) (n : ℕ) (name : Text) → (named_hit n (seq_in (Log queue) name) ≡ 0) ⊎ ((named_hit n (seq_in (Log queue) name) ≡ 1) × (name ≡ log_file_name (id_of queue n)))
said_cases queue n name = by_number (seq_in (Log queue) name) refl
  where
    by_number : (o : Option ℕ) → seq_in (Log queue) name ≡ o → (named_hit n o ≡ 0) ⊎ ((named_hit n o ≡ 1) × (name ≡ log_file_name (id_of queue n)))
    by_number None is = inl refl
    by_number (Some m) is = ⊎_elim (λ none. inl none)
        (λ one. inr (one.0, (number_named (Log queue) name m is).1 ∙ ap (λ k. log_file_name (id_of queue k)) one.1)) (hit_cases n m)

other_path : (e : Text × ℕ) (es : Names) (path : Text) → fd_of (e ∷ es) path ≡ None → (e.0 ≢ path) × (fd_of es path ≡ None)
other_path e es path none = by_test (same_text e.0 path) refl none
  where
    by_test : (t : Bool) → same_text e.0 path ≡ t → cond t (Some e.1) (fd_of es path) ≡ None → (e.0 ≢ path) × (fd_of es path ≡ None)
    by_test true test is = absurd cc
    by_test false test is = (λ same. absurd (never (sym test ∙ (bytes_decides e.0 path).1 same)), is)
      where
        never : (let f : Bool = false in f ≡ true) → ⊥
        never e = absurd cc

none_step : (e : Text × ℕ) (rest : List Text) (directory : Text) (queue : LogQueue) (n : ℕ) (o : Option Text) → name_in directory e.0 ≡ o → e.0 ≢ file_path directory queue n → named_tally (Log queue) n rest ≡ 0
    → named_tally (Log queue) n (option_to_list o ++ rest) ≡ 0
none_step e rest directory queue n None is other none = none
none_step e rest directory queue n (Some name) is other none = ⊎_elim (λ no. omega (arith, no, none))
    (λ one. absurd (other (path_is directory e.0 name is ∙ ap (λ (t : Text). directory ++ 47 ∷ t) one.1))) (said_cases queue n name)

listed_none : (es : Names) (directory : Text) (queue : LogQueue) (n : ℕ) → fd_of es (file_path directory queue n) ≡ None → named_tally (Log queue) n (listed es directory) ≡ 0
listed_none [] directory queue n none = refl
listed_none (e ∷ es) directory queue n none =
    let other = other_path e es (file_path directory queue n) none in
    none_step e (listed es directory) directory queue n (name_in directory e.0) refl other.0 (listed_none es directory queue n other.1)

once_step : (e : Text × ℕ) (es : Names) (directory : Text) (queue : LogQueue) (n : ℕ) (o : Option Text) → name_in directory e.0 ≡ o → fd_of es e.0 ≡ None → named_tally (Log queue) n (listed es directory) ≤ 1
    → named_tally (Log queue) n (option_to_list o ++ listed es directory) ≤ 1
once_step e es directory queue n None is free once = once
once_step e es directory queue n (Some name) is free once = ⊎_elim (λ no. omega (arith, no, once))
    (λ one.
    let path : e.0 ≡ file_path directory queue n = path_is directory e.0 name is ∙ ap (λ (t : Text). directory ++ 47 ∷ t) one.1 in
    omega (arith, one.0, listed_none es directory queue n (subst (λ (t : Text). fd_of es t ≡ None) path free))) (said_cases queue n name)

-- of each directory one name at most says it
pub listed_once : (es : Names) (next : ℕ) (directory : Text) (queue : LogQueue) (n : ℕ) → are_named es next ≡ true → named_tally (Log queue) n (listed es directory) ≤ 1
listed_once [] next directory queue n named = omega arith
listed_once (e ∷ es) next directory queue n named =
    let first = named_first e es next named in
    once_step e es directory queue n (name_in directory e.0) refl first.path (listed_once es next directory queue n first.others)

-- ---- of all directories

found_tally : (d : Disk) (queue : LogQueue) (n place : ℕ) (directory : Text) (names : List Text) (others found : List FileName) → IsPermutation (listed d.names directory) names → found ≡ files_named (Log queue) place names ++ others
    → tally n found ≡ named_tally (Log queue) n (listed d.names directory) + tally n others
found_tally d queue n place directory names others found same is =
    omega (arith, ap (tally n) is, tally_both n (files_named (Log queue) place names) others, files_tally (Log queue) n place names, named_permuted (Log queue) n (listed d.names directory) names same)

directories_none : (d : Disk) (queue : LogQueue) (n place : ℕ) (directories : List Text) (found : List FileName) → AreInDirectories d (Log queue) place directories found
    → ((j : ℕ) → j < length directories → fd_of d.names (file_path (get_or directories j []) queue n) ≡ None) → tally n found ≡ 0
directories_none d queue n place [] found is none = ap (tally n) is
directories_none d queue n place (directory ∷ directories) found (names, others, same, is, rest) none =
    omega (
      arith,
      found_tally d queue n place directory names others found same is,
      listed_none d.names directory queue n (none 0 (omega arith)),
      directories_none d queue n (place + 1) directories others rest (λ j within. none (suc j) (omega (arith, within))),
    )

-- the number stands in one directory at most
abbrev IsInOne : Disk → LogQueue → ℕ → List Text → Type 0
IsInOne d queue n directories = (i j fd gd : ℕ) → i < length directories → j < length directories → fd_of d.names (file_path (get_or directories i []) queue n) ≡ Some fd → fd_of d.names (file_path (get_or directories j []) queue n) ≡ Some gd → i ≡ j

directories_once : (d : Disk) (next : ℕ) (queue : LogQueue) (n place : ℕ) (directories : List Text) (found : List FileName) → are_named d.names next ≡ true → AreInDirectories d (Log queue) place directories found
    → IsInOne d queue n directories → tally n found ≤ 1
directories_once d next queue n place [] found named is one = omega (arith, ap (tally n) is)
directories_once d next queue n place (directory ∷ directories) found named (names, others, same, is, rest) one =
    by_first (fd_of d.names (file_path directory queue n)) refl
    (directories_once d next queue n (place + 1) directories others named rest (λ i j fd gd a b x y. omega (arith, one (suc i) (suc j) fd gd (omega (arith, a)) (omega (arith, b)) x y)))
  where
    by_first : (o : Option ℕ) → fd_of d.names (file_path directory queue n) ≡ o → tally n others ≤ 1 → tally n found ≤ 1
    by_first None none once = omega (arith, found_tally d queue n place directory names others found same is, listed_none d.names directory queue n none, once)
    by_first (Some fd) there once =
        omega (
          arith,
          found_tally d queue n place directory names others found same is,
          listed_once d.names next directory queue n named,
          directories_none d queue n (place + 1) directories others rest
              (λ j within. never_some (fd_of d.names (file_path (get_or directories j []) queue n)) (λ gd other. absurd (omega (arith, one 0 (suc j) fd gd (omega arith) (omega (arith, within)) there other)))),
        )

-- ---- what is found stands there

some_fd : (o : Option ℕ) → is_some o ≡ true → (fd : ℕ) × (o ≡ Some fd)
some_fd None is = absurd cc
some_fd (Some fd) is = (fd, refl)

named_step : (kind : FileKind) (place : ℕ) (name : Text) (names : List Text) (o : Option ℕ) (f : FileName) → seq_in kind name ≡ o → IsIn f (cons_option (option_map (λ seq. record { seq = seq; path_id = place }) o) (files_named kind place names))
    → (IsIn f (files_named kind place names) → (t : Text) × IsIn t names × (seq_in kind t ≡ Some f.seq) × (f.path_id ≡ place)) → (t : Text) × IsIn t (name ∷ names) × (seq_in kind t ≡ Some f.seq) × (f.path_id ≡ place)
named_step kind place name names None f is there next = let t = next there in (t.0, inr t.1, t.2, t.3)
named_step kind place name names (Some n) f is (inl same) next =
    (name, inl refl, is ∙ ap (λ (x : FileName). Some x.seq) (sym same), ap (λ (x : FileName). x.path_id) same)
named_step kind place name names (Some n) f is (inr there) next = let t = next there in (t.0, inr t.1, t.2, t.3)

pub named_one : (kind : FileKind) (place : ℕ) (names : List Text) (f : FileName) → IsIn f (files_named kind place names) → (t : Text) × IsIn t names × (seq_in kind t ≡ Some f.seq) × (f.path_id ≡ place)
named_one kind place [] f there = absurd there
named_one kind place (name ∷ names) f there = named_step kind place name names (seq_in kind name) f refl there (named_one kind place names f)

pub record IsThere (d : Disk) (queue : LogQueue) (place : ℕ) (directories : List Text) (f : FileName) : Type 0 where
  pub at : ℕ
  pub fd : ℕ
  pub within : at < length directories
  pub place_is : f.path_id ≡ place + at
  pub number : IsFileSeq f.seq
  pub named : fd_of d.names (file_path (get_or directories at []) queue f.seq) ≡ Some fd

pub there_here : (d : Disk) (queue : LogQueue) (place : ℕ) (directory : Text) (directories names : List Text) (f : FileName) → IsPermutation (listed d.names directory) names → IsIn f (files_named (Log queue) place names)
    → IsThere d queue place (directory ∷ directories) f
there_here d queue place directory directories names f same there =
    let t = named_one (Log queue) place names f there in
    let so = number_named (Log queue) t.0 f.seq t.2 in
    let among : IsIn t.0 (listed d.names directory) = in_contained t.0 (listed d.names directory) (Contains-permutation names (listed d.names directory) t.0 (IsPermutation-sym (listed d.names directory) names same) (contained t.0 names t.1)) in
    let fd = some_fd (fd_of d.names (directory ++ 47 ∷ t.0)) (listed_there d.names directory t.0 among) in
    record {
      at = 0;
      fd = fd.0;
      within = omega arith;
      place_is = omega (arith, t.3);
      number = so.0;
      named = ap (λ (l : Text). fd_of d.names (directory ++ 47 ∷ l)) (sym so.1) ∙ fd.1;
    }

all_there : (d : Disk) (queue : LogQueue) (place : ℕ) (directories : List Text) (found : List FileName) (f : FileName) → AreInDirectories d (Log queue) place directories found → IsIn f found → IsThere d queue place directories f
all_there d queue place [] found f is there = absurd (subst (IsIn f) is there)
all_there d queue place (directory ∷ directories) found f (names, others, same, is, rest) there = ⊎_elim
    (λ here. there_here d queue place directory directories names f same here)
    (λ behind. further (all_there d queue (place + 1) directories others f rest behind))
    (in_either f (files_named (Log queue) place names) others (subst (IsIn f) is there))
  where
    further : IsThere d queue (place + 1) directories f → IsThere d queue place (directory ∷ directories) f
    further t = record { at = suc t.at; fd = t.fd; within = omega (arith, t.within); place_is = omega (arith, t.place_is); number = t.number; named = t.named }

pub found_stands : (d : Disk) (queue : LogQueue) (directories : List Text) (all : List FileName) (f : FileName) → AreInDirectories d (Log queue) 0 directories all → IsIn f all → (fd : ℕ) × StandsAt d.names directories queue f.seq f.path_id fd
found_stands d queue directories all f are there =
    let t = all_there d queue 0 directories all f are there in
    let at : t.at ≡ f.path_id = omega (arith, t.place_is) in
    (t.fd, (t.number, omega (arith, t.within, at), subst (λ i. fd_of d.names (file_path (get_or directories i []) queue f.seq) ≡ Some t.fd) at t.named))

-- ---- and what stands there is found

pub stands_found : (d : Disk) (queue : LogQueue) (place : ℕ) (directories : List Text) (found : List FileName) (seq at fd : ℕ) → IsFileSeq seq → at < length directories → fd_of d.names (file_path (get_or directories at []) queue seq) ≡ Some fd
    → AreInDirectories d (Log queue) place directories found → (f : FileName) × IsIn f found × (f.seq ≡ seq)
stands_found d queue place [] found seq at fd below within there are = absurd (omega (arith, within))
stands_found d queue place (directory ∷ directories) found seq zero fd below within there (names, others, same, is, rest) =
    let name : Text = log_file_name (id_of queue seq) in
    let path : Text = directory ++ 47 ∷ name in
    let named : name_in directory path ≡ Some name = in_directory directory path (47 ∷ name) name refl refl ∙ ap (λ b. cond b None (Some name)) (name_slash (Log queue) seq name below refl) in
    let among : IsIn name names = in_contained name names (Contains-permutation (listed d.names directory) names name same
    (contained name (listed d.names directory) (in_listed d.names directory name path fd named (found_in d.names path fd there)))) in
    let file : FileName = record { seq = seq; path_id = place } in
    (file, subst (IsIn file) (sym is) (in_first file (files_named (Log queue) place names) others (in_files (Log queue) place seq name names (named_so (Log queue) seq name below refl) among)), refl)
stands_found d queue place (directory ∷ directories) found seq (suc at) fd below within there (names, others, same, is, rest) =
    let f = stands_found d queue (place + 1) directories others seq at fd below (omega (arith, within)) there rest in
    (f.0, subst (IsIn f.0) (sym is) (in_second f.0 (files_named (Log queue) place names) others f.1), f.2)

-- ---- places of a list

seq_there : (files : List FileName) (i : ℕ) (d : FileName) → i < length files → (get_or files i d).seq ≡ seq_at files i
seq_there [] i d within = absurd (omega (arith, within))
seq_there (f ∷ files) zero d within = refl
seq_there (f ∷ files) (suc i) d within = seq_there files i d (omega (arith, within))

position : (l : List FileName) (x : FileName) → IsIn x l → (k : ℕ) × (k < length l) × (seq_at l k ≡ x.seq)
position [] x there = absurd there
position (y ∷ l) x (inl is) = (0, omega arith, ap (λ (f : FileName). f.seq) (sym is))
position (y ∷ l) x (inr there) = let k = position l x there in (suc k.0, omega (arith, k.1), k.2)

pub in_dropped : (n : ℕ) (l : List FileName) (x : FileName) → IsIn x (drop n l) → IsIn x l
in_dropped zero l x there = there
in_dropped (suc n) [] x there = there
in_dropped (suc n) (y ∷ l) x there = inr (in_dropped n l x there)

first_dropped : (n : ℕ) (l : List FileName) (x : FileName) (xs : List FileName) → drop n l ≡ x ∷ xs → (n < length l) × (seq_at l n ≡ x.seq)
first_dropped zero [] x xs is = absurd cc
first_dropped zero (y ∷ l) x xs is = let same : y ≡ x = cc in (omega arith, ap (λ (f : FileName). f.seq) same)
first_dropped (suc n) [] x xs is = absurd cc
first_dropped (suc n) (y ∷ l) x xs is = let r = first_dropped n l x xs is in (omega (arith, r.0), r.1)

-- ---- numbers of files that follow one another

with_number : (f : File) (fs : List File) (next seq : ℕ) → AreConsecutive (f ∷ fs) next → f.seq ≤ seq → seq < next → (g : File) × IsIn g (f ∷ fs) × (g.seq ≡ seq)
with_number f [] next seq numbers from below = (f, inl refl, omega (arith, numbers.0, from, below))
with_number f (h ∷ fs) next seq numbers from below = ⊎_elim
    (λ more. let g = with_number h fs next seq numbers.1 (omega (arith, numbers.0, numbers.1.0, more)) below in (g.0, inr g.1, g.2))
    (λ same. (f, inl refl, omega (arith, same, from)))
    (cases_lt f.seq seq)

first_number : (f : File) (fs : List File) (next : ℕ) (g : File) → AreConsecutive (f ∷ fs) next → IsIn g (f ∷ fs) → f.seq ≤ g.seq
first_number f fs next g numbers (inl is) = omega (arith, ap (λ (x : File). x.seq) is)
first_number f [] next g numbers (inr there) = absurd there
first_number f (h ∷ fs) next g numbers (inr there) = omega (arith, numbers.0, numbers.1.0, first_number h fs next g numbers.1 there)

-- ---- the last run

module _ (d : Disk) (next : ℕ) (queue : LogQueue) (directories : List Text) (names : List FileName) (named : are_named d.names next ≡ true) (once : IsOnce d.names directories queue) (found : AreFound d (Log queue) directories names) where
  one_tally : (n : ℕ) → tally n found.sorted ≤ 1
  one_tally n = ⊎_elim
      (λ below. omega (
        arith,
        tally_permuted n found.all found.sorted found.same,
        directories_once d next queue n 0 directories found.all named found.in_directories (λ i j fd gd a b x y. once.once n i j fd gd (below, a, x) (below, b, y)),
      ))
      (λ above. omega (
        arith,
        tally_permuted n found.all found.sorted found.same,
        tally_above n (10 ^ 16) found.all above (λ f there. (found_stands d queue directories found.all f found.in_directories there).1.0),
      ))
      (cases_lt n (10 ^ 16))

  rises : (i j : ℕ) → i ≤ j → j < length found.sorted → seq_at found.sorted i ≤ seq_at found.sorted j
  rises i j le within =
      let any : FileName = record { seq = 0; path_id = 0 } in
      omega (arith, found.rising i j any le within, seq_there found.sorted i any (omega (arith, le, within)), seq_there found.sorted j any within)

  -- a file before the run, with the number before the first one's or that number
  none_behind : found.start < length found.sorted → 0 < found.start → (seq_at found.sorted (found.start - 1) + 1 ≡ seq_at found.sorted found.start) ⊎ (seq_at found.sorted (found.start - 1) ≡ seq_at found.sorted found.start) → ⊥
  none_behind some before (inl next) = found.last.break before (omega (arith, next))
  none_behind some before (inr same) =
      absurd (omega (
        arith,
        one_tally (seq_at found.sorted found.start),
        tally_two (seq_at found.sorted found.start) found.sorted (found.start - 1) found.start (omega (arith, before)) some same refl,
      ))

  -- no file has the number before the first one's
  pub none_before : found.start < length found.sorted → (k : ℕ) → k < length found.sorted → seq_at found.sorted k + 1 ≡ seq_at found.sorted found.start → ⊥
  none_before some k within is = ⊎_elim
      (λ before.
      let low = rises k (found.start - 1) (omega (arith, before)) (omega (arith, some)) in
      let high = rises (found.start - 1) found.start (omega arith) some in
      none_behind some (omega (arith, before))
      (⊎_elim (λ less. inl (omega (arith, less, low, is))) (λ same. inr (omega (arith, same, high))) (cases_lt (seq_at found.sorted (found.start - 1)) (seq_at found.sorted found.start))))
      (λ behind. absurd (omega (arith, rises found.start k behind within, is)))
      (cases_lt k found.start)

  pub in_sorted : (f : FileName) → IsIn f found.all → IsIn f found.sorted
  in_sorted f there = in_contained f found.sorted (Contains-permutation found.all found.sorted f found.same (contained f found.all there))

-- ---- files by the names that were found

open_length : (d : Disk) (queue : LogQueue) (directories : List Text) (names : List FileName) (fs : List File) → AreOpen d directories queue names fs → length fs ≡ length names
open_length d queue directories [] fs is = ap length is
open_length d queue directories (name ∷ names) fs (f, rest, is, here, others) = ap length is ∙ ap suc (open_length d queue directories names rest others)

open_next : (d : Disk) (queue : LogQueue) (directories : List Text) (count : ℕ) (name : FileName) (names : List FileName) (fs : List File) → AreNumbered count (name ∷ names) → AreOpen d directories queue (name ∷ names) fs
    → AreConsecutive fs (name.seq + 1 + length names)
open_next d queue directories count name [] fs numbered (f, rest, is, here, none) =
    subst (λ (l : List File). AreConsecutive l (name.seq + 1 + 0)) (sym (is ∙ ap (λ (l : List File). f ∷ l) none)) (omega (arith, here.seq), tt)
open_next d queue directories count name (other ∷ names) fs numbered (f, rest, is, here, others) =
    let behind = open_next d queue directories count other names rest numbered.3 others in
    let step : other.seq + 1 + length names ≡ name.seq + 1 + suc (length names) = omega (arith, numbered.2) in
    subst (λ (l : List File). AreConsecutive l (name.seq + 1 + suc (length names))) (sym is)
    (omega (arith, here.seq, open_length d queue directories (other ∷ names) rest others), subst (AreConsecutive rest) step behind)

open_stands : (d : Disk) (queue : LogQueue) (directories : List Text) (names : List FileName) (fs : List File) → AreNumbered (length directories) names → AreOpen d directories queue names fs
    → AllByRecursion (λ f. StandsAt d.names directories queue f.seq f.path_id f.handle.0) fs
open_stands d queue directories [] fs numbered is = subst (AllByRecursion (λ f. StandsAt d.names directories queue f.seq f.path_id f.handle.0)) (sym is) tt
open_stands d queue directories (name ∷ names) fs numbered (f, rest, is, here, others) =
    subst (AllByRecursion (λ x. StandsAt d.names directories queue x.seq x.path_id x.handle.0)) (sym is) (
      (
        omega (arith, numbered.0, here.seq),
        omega (arith, numbered.1, here.place),
        (λ i. fd_of d.names (file_path (get_or directories (here.place i) []) queue (here.seq i))) ∙ here.there,
      ),
      open_stands d queue directories names rest numbered.3 others,
    )

last_number : (count : ℕ) (name : FileName) (names : List FileName) (d : FileName) → AreNumbered count (name ∷ names) → (get_or (name ∷ names) (length names) d).seq ≡ name.seq + length names
last_number count name [] d numbered = omega arith
last_number count name (other ∷ names) d numbered = omega (arith, last_number count other names d numbered.3, numbered.2)

-- these are the last files of the queue
pub opened_last : (d : Disk) (next : ℕ) (queue : LogQueue) (directories : List Text) (name : FileName) (names : List FileName) (f : File) (fs : List File) → are_named d.names next ≡ true → IsOnce d.names directories queue
    → AreFound d (Log queue) directories (name ∷ names) → AreOpen d directories queue (name ∷ names) (f ∷ fs) → AreLast d.names directories queue (f ∷ fs)
opened_last d next queue directories name names f fs named once found opened =
    let numbered = found_numbered d (Log queue) directories (length directories) (name ∷ names) (omega arith) found in
    let first = first_dropped found.start found.sorted name names (sym found.rest) in
    let numbers = open_next d queue directories (length directories) name names (f ∷ fs) numbered opened in
    let long = open_length d queue directories (name ∷ names) (f ∷ fs) opened in
    let from : f.seq ≡ name.seq = omega (arith, numbers.0, long) in
    record {
      next = name.seq + 1 + length names;
      numbers = numbers;
      each = open_stands d queue directories (name ∷ names) (f ∷ fs) numbered opened;
      once = once;
      only = λ seq place fd h stands among le.
          let x = stands_found d queue 0 directories found.all seq place fd stands.0 stands.1 stands.2 found.in_directories in
          let inside = in_sorted d next queue directories (name ∷ names) named once found x.0 x.1 in
          let k = position found.sorted x.0 inside in
          let least = first_number f fs (name.seq + 1 + length names) h numbers among in
          let high = last_found d (Log queue) directories (name ∷ names) found name (omega arith) x.0 inside in
          let at : length (name ∷ names) - 1 ≡ length names = omega arith in
          let last = last_number (length directories) name names name numbered in
          let most : x.0.seq ≤ name.seq + length names = omega (arith, high, ap (λ n. (get_or (name ∷ names) n name).seq) at, last) in
          with_number f fs (name.seq + 1 + length names) seq numbers
          (⊎_elim (λ less. absurd (none_before d next queue directories (name ∷ names) named once found first.0 k.0 k.1 (omega (arith, k.2, x.2, first.1, less, least, le, from)))) (λ more. omega (arith, more)) (cases_lt seq f.seq))
          (omega (arith, most, x.2));
    }

-- where none was found none stands there
pub none_stand : (d : Disk) (queue : LogQueue) (directories : List Text) → AreFound d (Log queue) directories [] → IsVacant d.names directories queue
none_stand d queue directories found seq place fd stands =
    let x = stands_found d queue 0 directories found.all seq place fd stands.0 stands.1 stands.2 found.in_directories in
    let inside = in_contained x.0 found.sorted (Contains-permutation found.all found.sorted x.0 found.same (contained x.0 found.all x.1)) in
    let k = position found.sorted x.0 inside in
    let some = found.last.some (omega (arith, k.1)) in
    omega (arith, some, ap length found.rest, length-drop found.start found.sorted)

-- ---- the last files are those of one list

-- the same files, by their numbers
abbrev pub AreSame : List File → List File → Type 0
AreSame [] gs = gs ≡ []
AreSame (f ∷ fs) gs = (g : File) × (rest : List File) × (gs ≡ g ∷ rest) × (g.seq ≡ f.seq) × (g.handle.0 ≡ f.handle.0) × AreSame fs rest

module _ (names : Names) (directories : List Text) (queue : LogQueue) where
  abbrev EachStands : List File → Type 0
  EachStands fs = AllByRecursion (λ f. StandsAt names directories queue f.seq f.path_id f.handle.0) fs

  same_file : (f g : File) → IsOnce names directories queue → StandsAt names directories queue f.seq f.path_id f.handle.0 → StandsAt names directories queue g.seq g.path_id g.handle.0 → g.seq ≡ f.seq → g.handle.0 ≡ f.handle.0
  same_file f g once a b same =
      let moved : StandsAt names directories queue f.seq g.path_id g.handle.0 = subst (λ n. StandsAt names directories queue n g.path_id g.handle.0) same b in
      let place : g.path_id ≡ f.path_id = once.once f.seq g.path_id f.path_id g.handle.0 f.handle.0 moved a in
      same_number g.handle.0 f.handle.0 (sym moved.2 ∙ ap (λ i. fd_of names (file_path (get_or directories i []) queue f.seq)) place ∙ a.2)

  same_run : (fs gs : List File) (next : ℕ) → IsOnce names directories queue → AreConsecutive fs next → AreConsecutive gs next → length gs ≡ length fs → EachStands fs → EachStands gs → AreSame fs gs
  same_run [] [] next once one two long a b = refl
  same_run [] (g ∷ gs) next once one two long a b = absurd (omega (arith, long))
  same_run (f ∷ fs) [] next once one two long a b = absurd (omega (arith, long))
  same_run (f ∷ fs) (g ∷ gs) next once one two long a b =
      let same : g.seq ≡ f.seq = omega (arith, one.0, two.0, long) in
      (g, gs, refl, same, same_file f g once a.0 b.0 same, same_run fs gs next once one.1 two.1 (omega (arith, long)) a.1 b.1)

  at_number : (fs : List File) (g : File) → EachStands fs → IsIn g fs → StandsAt names directories queue g.seq g.path_id g.handle.0
  at_number fs g each there = in_all (λ x. StandsAt names directories queue x.seq x.path_id x.handle.0) fs g each there

  next_within : (f g : File) (fs gs : List File) → (a : AreLast names directories queue (f ∷ fs)) (b : AreLast names directories queue (g ∷ gs)) → a.next ≤ b.next
  next_within f g fs gs a b = ⊎_elim
      (λ above. omega (arith, above, below_next (g ∷ gs) b.next g b.numbers (inl refl)))
      (λ within.
      let h = with_number f fs a.next (a.next - 1) a.numbers (omega (arith, below_next (f ∷ fs) a.next f a.numbers (inl refl))) (omega (arith, below_next (f ∷ fs) a.next f a.numbers (inl refl))) in
      let k = b.only h.0.seq h.0.path_id h.0.handle.0 g (at_number (f ∷ fs) h.0 a.each h.1) (inl refl) (omega (arith, h.2, within)) in
      omega (arith, below_next (g ∷ gs) b.next k.0 b.numbers k.1, k.2, h.2))
      (cases_lt a.next g.seq)

  first_within : (f g : File) (fs gs : List File) → (a : AreLast names directories queue (f ∷ fs)) (b : AreLast names directories queue (g ∷ gs)) → a.next ≡ b.next → g.seq ≤ f.seq
  first_within f g fs gs a b same = ⊎_elim
      (λ less.
      let h = with_number f fs a.next (g.seq - 1) a.numbers (omega (arith, less)) (omega (arith, same, below_next (g ∷ gs) b.next g b.numbers (inl refl))) in
      let k = b.only h.0.seq h.0.path_id h.0.handle.0 g (at_number (f ∷ fs) h.0 a.each h.1) (inl refl) (omega (arith, h.2)) in
      absurd (omega (arith, first_number g gs b.next k.0 b.numbers k.1, k.2, h.2, less)))
      (λ more. more)
      (cases_lt f.seq g.seq)

  pub one_last : (f g : File) (fs gs : List File) → AreLast names directories queue (f ∷ fs) → AreLast names directories queue (g ∷ gs) → AreSame (f ∷ fs) (g ∷ gs)
  one_last f g fs gs a b =
      let next : b.next ≡ a.next = omega (arith, next_within f g fs gs a b, next_within g f gs fs b a) in
      let first : g.seq ≡ f.seq = omega (arith, first_within f g fs gs a b (sym next), first_within g f gs fs b a next) in
      same_run (f ∷ fs) (g ∷ gs) a.next a.once a.numbers (subst (AreConsecutive (g ∷ gs)) next b.numbers) (omega (arith, a.numbers.0, b.numbers.0, next, first)) a.each b.each
