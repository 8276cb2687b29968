-- Files that were found: their numbers follow one another, and no file of the queue has a greater one.
use Rattle.std.proofs.Common.{◌≡◌, inl, inr, ℕ, zero, suc, ◌+◌, ◌-◌, ◌<◌, ◌≤◌, Bool, true, false, cond, List, [], ◌∷◌, ◌++◌, length, get_or, take, drop, Option, Some, None, refl, sym, ap, subst, ◌∙◌, arith, length-drop, take-append-drop}
use Rattle.std.specs.Prelude.{◌&&◌, ◌||◌, ◌==◌, String, map, nat_lt, option_to_list}
use Rattle.std.specs.List.{All, AllByRecursion, Contains, cons_option, list_all}
use Rattle.std.specs.Option.{option_map}
use Rattle.std.specs.String.{string_bytes}
use Rattle.std.specs.declared.alloc.Global.{Global}
use Rattle.std.proofs.lemmas.Bool.{and_parts, ltb-true, ne_eqb}
use Rattle.std.proofs.lemmas.List.{get_or-drop}
use Rattle.std.proofs.lemmas.List.Folds.{list_any-append}
use Rattle.std.proofs.lemmas.List.Sorted.{All-permutation, Contains-permutation}
use lib.Pointwise.{bytes_decides}
use Rattle.raft_log_records.specs.declared.file_id.LogQueue.{LogQueue}
use Rattle.raft_log_records.specs.declared.file_id.LogQueue.TheVariants.{Append, Rewrite}
use Rattle.raft_log_disk.specs.Text.{Text, has_slash, name_in, same_text}
use Rattle.raft_log_disk.specs.Name.{is_digit, value_of}
use Rattle.raft_log_disk.specs.Disk.{Disk, IsIn, fd_of, listed}
use Rattle.raft_log_disk.proofs.TextLemmas.{in_directory}
use Rattle.raft_log_files.specs.FileName.{IsFileSeq, log_file_name, suffixed}
use Rattle.raft_log_files.proofs.DigitLemmas.{IsSplit, name_found, name_split}
use Rattle.raft_log_pipe.specs.Pipe.{HasPath, IsLast, id_of}
use Rattle.raft_log_recovery.specs.declared.scan.FileKind.{FileKind}
use Rattle.raft_log_recovery.specs.declared.scan.FileKind.TheVariants.{Log, Reserved}
use Rattle.raft_log_recovery.specs.declared.scan.FileName.{FileName}
use Rattle.raft_log_recovery.specs.Queue.{AreNumbered, IsFollowed}
use Rattle.raft_log_recovery.specs.Scan.{AreFound, AreInDirectories, files_named, seq_at, seq_in, suffix_in}
use Rattle.raft_log_pipe.proofs.AloneLemmas.{found_in, in_first, in_second}
use Rattle.raft_log_pipe.proofs.ReservedLemmas.{digits_slash}
use Rattle.raft_log_recovery.proofs.ScanLemmas.{named_so, some_suffix}

-- ---- all of a list

pub each_all : {X : Type 0} (P : X → Type 0) (xs : List X) → AllByRecursion P xs → All P xs
each_all P [] each i d within = absurd (omega (arith, within))
each_all P (x ∷ xs) each zero d within = each.0
each_all P (x ∷ xs) each (suc i) d within = each_all P xs each.1 i d (omega (arith, within))

pub all_each : {X : Type 0} (P : X → Type 0) (xs : List X) → All P xs → AllByRecursion P xs
all_each P [] all = tt
all_each P (x ∷ xs) all = (all 0 x (omega arith), all_each P xs (λ i d within. all (suc i) d (omega (arith, within))))

each_both : {X : Type 0} (P : X → Type 0) (xs ys : List X) → AllByRecursion P xs → AllByRecursion P ys → AllByRecursion P (xs ++ ys)
each_both P [] ys one two = two
each_both P (x ∷ xs) ys one two = (one.0, each_both P xs ys one.1 two)

-- ---- names

-- the number of a name is below 10^16, and spells the name
pub number_named : (kind : FileKind) (name : Text) (n : ℕ) → seq_in kind name ≡ Some n → IsFileSeq n × (name ≡ suffixed n (suffix_in kind))
number_named kind name n is = by_test (list_all is_digit (take 16 name) && same_text (drop 16 name) (suffix_in kind)) refl is
  where
    by_test : (b : Bool) → (list_all is_digit (take 16 name) && same_text (drop 16 name) (suffix_in kind)) ≡ b → cond b (Some (value_of (take 16 name))) None ≡ Some n → IsFileSeq n × (name ≡ suffixed n (suffix_in kind))
    by_test false test found = absurd cc
    by_test true test found =
        let parts = and_parts (list_all is_digit (take 16 name)) (same_text (drop 16 name) (suffix_in kind)) test in
        let behind : drop 16 name ≡ suffix_in kind = (bytes_decides (drop 16 name) (suffix_in kind)).0 parts.1 in
        let s : IsSplit 16 name (suffix_in kind) = record {
          long = omega (arith, ap length behind, length-drop 16 name, some_suffix kind);
          behind = behind;
          front = parts.0;
        } in
        let value : value_of (take 16 name) ≡ n = cc in
        let spelled = name_found name (suffix_in kind) s in
        (omega (arith, spelled.0, value), spelled.1 ∙ ap (λ m. suffixed m (suffix_in kind)) value)

-- a number that a file can have, in one of so many directories
abbrev pub IsPlacedName : ℕ → FileName → Type 0
IsPlacedName count f = IsFileSeq f.seq × (f.path_id < count)

number_each : (kind : FileKind) (path_id count : ℕ) (name : Text) (o : Option ℕ) (files : List FileName) → path_id < count → seq_in kind name ≡ o → AllByRecursion (IsPlacedName count) files
    → AllByRecursion (IsPlacedName count) (cons_option (option_map (λ seq. record { seq = seq; path_id = path_id }) o) files)
number_each kind path_id count name None files below is rest = rest
number_each kind path_id count name (Some n) files below is rest = (((number_named kind name n is).0, below), rest)

named_each : (kind : FileKind) (path_id count : ℕ) (names : List Text) → path_id < count → AllByRecursion (IsPlacedName count) (files_named kind path_id names)
named_each kind path_id count [] below = tt
named_each kind path_id count (name ∷ names) below = number_each kind path_id count name (seq_in kind name) (files_named kind path_id names) below refl (named_each kind path_id count names below)

pub directories_each : (d : Disk) (kind : FileKind) (count path_id : ℕ) (directories : List Text) (found : List FileName) → path_id + length directories ≤ count → AreInDirectories d kind path_id directories found
    → AllByRecursion (IsPlacedName count) found
directories_each d kind count path_id [] found within none = subst (AllByRecursion (IsPlacedName count)) (sym none) tt
directories_each d kind count path_id (directory ∷ directories) found within (names, others, same, is, rest) =
    subst (AllByRecursion (IsPlacedName count)) (sym is)
    (each_both (IsPlacedName count) (files_named kind path_id names) others (named_each kind path_id count names (omega (arith, within)))
    (directories_each d kind count (path_id + 1) directories others (omega (arith, within)) rest))

-- ---- runs

abbrev IsRunFrom : List FileName → ℕ → Type 0
IsRunFrom files start = (i : ℕ) → start ≤ i → i + 1 < length files → seq_at files (i + 1) ≡ seq_at files i + 1

-- the same behind the first file
run_behind : (f : FileName) (files : List FileName) (start to : ℕ) → start ≤ suc to → IsRunFrom (f ∷ files) start → IsRunFrom files to
run_behind f files start to le run i from within =
    let one : suc (i + 1) ≡ suc i + 1 = omega arith in
    ap (λ n. seq_at (f ∷ files) n) one ∙ run (suc i) (omega (arith, le, from)) (omega (arith, within))

followed : (f : FileName) (files : List FileName) → IsRunFrom (f ∷ files) 0 → IsFollowed f files
followed f [] run = tt
followed f (g ∷ files) run = run 0 (omega arith) (omega arith)

numbered_from : (count start : ℕ) (files : List FileName) → AllByRecursion (IsPlacedName count) files → IsRunFrom files start → AreNumbered count (drop start files)
numbered_from count zero [] each run = tt
numbered_from count (suc start) [] each run = tt
numbered_from count zero (f ∷ files) each run = (each.0.0, each.0.1, followed f files run, numbered_from count zero files each.1 (run_behind f files 0 0 (omega arith) run))
numbered_from count (suc start) (f ∷ files) each run = numbered_from count start files each.1 (run_behind f files (suc start) start (omega arith) run)

-- files that were found are numbered so
pub found_numbered : (d : Disk) (kind : FileKind) (directories : List Text) (count : ℕ) (found : List FileName) → length directories ≤ count → AreFound d kind directories found → AreNumbered count found
found_numbered d kind directories count found le are =
    let each = directories_each d kind count 0 directories are.all (omega (arith, le)) are.in_directories in
    let sorted = all_each (IsPlacedName count) are.sorted (All-permutation (IsPlacedName count) are.all are.sorted are.same (each_all (IsPlacedName count) are.all each)) in
    subst (AreNumbered count) (sym are.rest) (numbered_from count are.start are.sorted sorted are.last.run)

-- ---- no file of the queue has a greater number

suffix_slash : (kind : FileKind) → has_slash (suffix_in kind) ≡ false
suffix_slash (Log Append) = refl
suffix_slash (Log Rewrite) = refl
suffix_slash Reserved = refl

pub name_slash : (kind : FileKind) (n : ℕ) (name : Text) → IsFileSeq n → name ≡ suffixed n (suffix_in kind) → has_slash name ≡ false
name_slash kind n name below is =
    let s = name_split n (suffix_in kind) name below is in
    ap has_slash (sym (take-append-drop 16 name)) ∙ list_any-append (λ (b : ℕ). b == 47) (take 16 name) (drop 16 name)
    ∙ (λ i. digits_slash (take 16 name) s.0.front i || (ap has_slash s.0.behind ∙ suffix_slash kind) i)

-- a file of a directory is listed there
pub in_listed : (es : List (Text × ℕ)) (directory name path : Text) (fd : ℕ) → name_in directory path ≡ Some name → IsIn (path, fd) es → IsIn name (listed es directory)
in_listed [] directory name path fd named there = absurd there
in_listed (e ∷ es) directory name path fd named (inl is) =
    let same : name_in directory e.0 ≡ Some name = ap (λ (x : Text × ℕ). name_in directory x.0) (sym is) ∙ named in
    subst (λ (o : Option Text). IsIn name (option_to_list o ++ listed es directory)) (sym same) (inl refl)
in_listed (e ∷ es) directory name path fd named (inr there) = in_second name (option_to_list (name_in directory e.0)) (listed es directory) (in_listed es directory name path fd named there)

pub contained : {X : Type 0} (x : X) (xs : List X) → IsIn x xs → Contains xs x
contained x [] there = absurd there
contained x (y ∷ xs) (inl is) = (0, omega arith, sym is)
contained x (y ∷ xs) (inr there) = let c = contained x xs there in (suc c.0, omega (arith, c.1), c.2)

pub in_contained : {X : Type 0} (x : X) (xs : List X) → Contains xs x → IsIn x xs
in_contained x [] c = absurd (omega (arith, c.1))
in_contained x (y ∷ xs) (zero, within, is) = inl (sym is)
in_contained x (y ∷ xs) (suc k, within, is) = inr (in_contained x xs (k, omega (arith, within), is))

-- and is among the files of these names
pub in_files : (kind : FileKind) (path_id n : ℕ) (name : Text) (names : List Text) → seq_in kind name ≡ Some n → IsIn name names → IsIn (record { seq = n; path_id = path_id }) (files_named kind path_id names)
in_files kind path_id n name [] is there = absurd there
in_files kind path_id n name (other ∷ names) is (inl same) =
    let said : seq_in kind other ≡ Some n = ap (seq_in kind) (sym same) ∙ is in
    subst (λ (o : Option ℕ). IsIn (record { seq = n; path_id = path_id }) (cons_option (option_map (λ seq. record { seq = seq; path_id = path_id }) o) (files_named kind path_id names))) (sym said) (inl refl)
in_files kind path_id n name (other ∷ names) is (inr there) = behind (seq_in kind other) (in_files kind path_id n name names is there)
  where
    behind : (o : Option ℕ) → IsIn (record { seq = n; path_id = path_id }) (files_named kind path_id names)
        → IsIn (record { seq = n; path_id = path_id }) (cons_option (option_map (λ seq. record { seq = seq; path_id = path_id }) o) (files_named kind path_id names))
    behind None in_rest = in_rest
    behind (Some m) in_rest = inr in_rest

-- a file with a path in one of the directories is found
path_found : (d : Disk) (queue : LogQueue) (seq path_id fd : ℕ) (dirs : List (String Global)) (found : List FileName) (path : Text) → IsFileSeq seq → AreInDirectories d (Log queue) path_id (map string_bytes dirs) found
    → HasPath dirs (id_of queue seq) path → fd_of d.names path ≡ Some fd → (f : FileName) × IsIn f found × (f.seq ≡ seq)
path_found d queue seq path_id fd [] found path below are has there = absurd has
path_found d queue seq path_id fd (dir ∷ dirs) found path below (names, others, same, is, rest) (inl at) there =
    let directory : Text = string_bytes dir in
    let name : Text = log_file_name (id_of queue seq) in
    let named : name_in directory path ≡ Some name = in_directory directory path (47 ∷ name) name at refl ∙ ap (λ b. cond b None (Some name)) (name_slash (Log queue) seq name below refl) in
    let listed_in : IsIn name (listed d.names directory) = in_listed d.names directory name path fd named (found_in d.names path fd there) in
    let among : IsIn name names = in_contained name names (Contains-permutation (listed d.names directory) names name same (contained name (listed d.names directory) listed_in)) in
    let file : FileName = record { seq = seq; path_id = path_id } in
    (file, subst (IsIn file) (sym is) (in_first file (files_named (Log queue) path_id names) others (in_files (Log queue) path_id seq name names (named_so (Log queue) seq name below refl) among)), refl)
path_found d queue seq path_id fd (dir ∷ dirs) found path below (names, others, same, is, rest) (inr has) there =
    let f = path_found d queue seq (path_id + 1) fd dirs others path below rest has there in
    (f.0, subst (IsIn f.0) (sym is) (in_second f.0 (files_named (Log queue) path_id names) others f.1), f.2)

-- so none of them has a greater number than all that were found
pub found_last : (d : Disk) (queue : LogQueue) (dirs : List (String Global)) (found : List FileName) (bound : ℕ) (are : AreFound d (Log queue) (map string_bytes dirs) found) → ((f : FileName) → IsIn f are.sorted → f.seq ≤ bound) → IsLast d dirs queue bound
found_last d queue dirs found bound are most path seq greater below has = by_number (fd_of d.names path) refl
  where
    by_number : (o : Option ℕ) → fd_of d.names path ≡ o → fd_of d.names path ≡ None
    by_number None is = is
    by_number (Some fd) is =
        let f = path_found d queue seq 0 fd dirs are.all path below are.in_directories has is in
        let sorted : IsIn f.0 are.sorted = in_contained f.0 are.sorted (Contains-permutation are.all are.sorted f.0 are.same (contained f.0 are.all f.1)) in
        absurd (omega (arith, greater, f.2, most f.0 sorted))

-- ---- the greatest number

-- of no files
pub none_found : (d : Disk) (kind : FileKind) (directories : List Text) (found : List FileName) (are : AreFound d kind directories found) → length found ≡ 0 → (f : FileName) → IsIn f are.sorted → f.seq ≤ 0
none_found d kind directories found are none f there = by_length are.sorted refl
  where
    by_length : (l : List FileName) → are.sorted ≡ l → f.seq ≤ 0
    by_length [] is = absurd (subst (IsIn f) is there)
    by_length (g ∷ l) is = absurd (omega (arith, are.last.some (omega (arith, ap length is)), ap length are.rest, length-drop are.start are.sorted, none))

-- of some it is that of the last one
pub last_found : (d : Disk) (kind : FileKind) (directories : List Text) (found : List FileName) (are : AreFound d kind directories found) (default : FileName) → 0 < length found → (f : FileName) → IsIn f are.sorted
    → f.seq ≤ (get_or found (length found - 1) default).seq
last_found d kind directories found are default some f there =
    let c = contained f are.sorted there in
    let n : ℕ = length are.sorted in
    let len : length found ≡ n - are.start = ap length are.rest ∙ length-drop are.start are.sorted in
    let at : get_or found (length found - 1) default ≡ get_or are.sorted (n - 1) default
    = ap (λ (l : List FileName). get_or l (length found - 1) default) are.rest ∙ get_or-drop are.start are.sorted (length found - 1) default ∙ ap (λ i. get_or are.sorted i default) (omega (arith, len, some)) in
    let here : get_or are.sorted c.0 default ≡ f = any_default are.sorted c.0 c.1 ∙ c.2 in
    omega (arith, are.rising c.0 (n - 1) default (omega (arith, c.1)) (omega (arith, c.1)), ap (λ (x : FileName). x.seq) here, ap (λ (x : FileName). x.seq) at)
  where
    any_default : (l : List FileName) (i : ℕ) → i < length l → get_or l i default ≡ get_or l i f
    any_default [] i within = absurd (omega (arith, within))
    any_default (x ∷ l) zero within = refl
    any_default (x ∷ l) (suc i) within = any_default l i (omega (arith, within))
