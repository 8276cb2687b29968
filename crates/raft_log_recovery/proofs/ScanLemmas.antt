-- Names of files, and where the last run of their numbers begins.
use Rattle.std.proofs.Common.{◌≡◌, ◌≢◌, inl, inr, ℕ, zero, suc, ◌+◌, ◌-◌, ◌^◌, ◌<◌, ◌≤◌, Bool, true, false, cond, List, [], ◌∷◌, ◌++◌, length, get_or, take, drop, Option, Some, None, refl, sym, ap, ◌∙◌, append_assoc, arith, length-drop}
use Rattle.std.specs.Prelude.{map, ◌&&◌, IfSome, IsNone, option_to_list}
use Rattle.std.specs.List.{cons_option, filter_map, list_all}
use Rattle.std.specs.Option.{option_map}
use Rattle.std.proofs.lemmas.List.{map-append, take_all, take_more}
use Rattle.std.proofs.lemmas.List.Elements.{filter_map-append}
use Rattle.std.proofs.lemmas.Bool.{and_parts, cases_lt}
use lib.Pointwise.{bytes_decides}
use Rattle.raft_log_records.specs.declared.file_id.LogQueue.{LogQueue}
use Rattle.raft_log_records.specs.declared.file_id.LogQueue.TheVariants.{Append, Rewrite}
use Rattle.raft_log_disk.specs.Text.{Text, same_text}
use Rattle.raft_log_disk.specs.Name.{is_digit, value_of, suffix_of}
use Rattle.raft_log_files.specs.FileName.{reserved_name, suffixed}
use Rattle.raft_log_files.proofs.DigitLemmas.{IsSplit, name_found, name_split}
use Rattle.raft_log_pipe.proofs.NextLemmas.{both}
use Rattle.raft_log_recovery.specs.declared.scan.FileKind.{FileKind}
use Rattle.raft_log_recovery.specs.declared.scan.FileKind.TheVariants.{Log, Reserved}
use Rattle.raft_log_recovery.specs.declared.scan.FileName.{FileName}
use Rattle.raft_log_recovery.specs.Scan.{file_named, files_named, seq_at, seq_in, suffix_in}

-- ---- names

-- a name of sixteen digits and the suffix has its number
pub named_so : (kind : FileKind) (n : ℕ) (name : Text) → n < 10 ^ 16 → name ≡ suffixed n (suffix_in kind) → seq_in kind name ≡ Some n
named_so kind n name below is =
    let s = name_split n (suffix_in kind) name below is in
    let same : same_text (drop 16 name) (suffix_in kind) ≡ true = (bytes_decides (drop 16 name) (suffix_in kind)).1 s.0.behind in
    (λ i. cond (both s.0.front same i) (Some (s.1 i)) None)

pub some_suffix : (kind : FileKind) → 0 < length (suffix_in kind)
some_suffix (Log Append) = omega arith
some_suffix (Log Rewrite) = omega arith
some_suffix Reserved = omega arith

-- other names have none
pub no_number : (kind : FileKind) (name : Text) → ((n : ℕ) → n < 10 ^ 16 → name ≢ suffixed n (suffix_in kind)) → seq_in kind name ≡ None
no_number kind name none = by_test (list_all is_digit (take 16 name) && same_text (drop 16 name) (suffix_in kind)) refl
  where
    by_test : (b : Bool) → (list_all is_digit (take 16 name) && same_text (drop 16 name) (suffix_in kind)) ≡ b → cond b (Some (value_of (take 16 name))) None ≡ None
    by_test false is = refl
    by_test true is =
        let parts = and_parts (list_all is_digit (take 16 name)) (same_text (drop 16 name) (suffix_in kind)) is in
        let behind : drop 16 name ≡ suffix_in kind = (bytes_decides (drop 16 name) (suffix_in kind)).0 parts.1 in
        let s : IsSplit 16 name (suffix_in kind) = record {
          long = omega (arith, ap length behind, length-drop 16 name, some_suffix kind);
          behind = behind;
          front = parts.0;
        } in
        let found = name_found name (suffix_in kind) s in
        absurd (none (value_of (take 16 name)) found.0 found.1)

no_suffix : (suffix other : Text) (n : ℕ) (name : Text) → same_text other suffix ≡ false → n < 10 ^ 16 → name ≡ suffixed n other
    → cond (list_all is_digit (take 16 name) && same_text (drop 16 name) suffix) (Some (value_of (take 16 name))) None ≡ None
no_suffix suffix other n name apart below is =
    let s = name_split n other name below is in
    let test : (list_all is_digit (take 16 name) && same_text (drop 16 name) suffix) ≡ false = (λ i. s.0.front i && same_text (s.0.behind i) suffix) ∙ apart in
    (λ i. cond (test i) (Some (value_of (take 16 name))) None)

-- a name of the other queue has none
pub other_queue : (queue other : LogQueue) (n : ℕ) (name : Text) → (other ≡ queue → ⊥) → n < 10 ^ 16 → name ≡ suffixed n (suffix_of other) → seq_in (Log queue) name ≡ None
other_queue Append Append n name apart below is = absurd (apart refl)
other_queue Rewrite Rewrite n name apart below is = absurd (apart refl)
other_queue Append Rewrite n name apart below is = no_suffix (suffix_of Append) (suffix_of Rewrite) n name refl below is
other_queue Rewrite Append n name apart below is = no_suffix (suffix_of Rewrite) (suffix_of Append) n name refl below is

-- ---- runs

-- the number that is read at a place
pub seq_read : (files : List FileName) (i : ℕ) (r : FileName) → i < length files → r ≡ get_or files i r → r.seq ≡ seq_at files i
seq_read files i r within is = ap (λ (f : FileName). f.seq) is ∙ mapped files i r within
  where
    mapped : (files : List FileName) (i : ℕ) (r : FileName) → i < length files → (get_or files i r).seq ≡ get_or (map (λ (f : FileName). f.seq) files) i 0
    mapped [] i r within = absurd (omega arith)
    mapped (f ∷ files) zero r within = refl
    mapped (f ∷ files) (suc i) r within = mapped files i r (omega arith)

-- what is answered of a reserved file's name
pub reserved_so : (r : Option ℕ) (name : Text) → IfSome r (λ n. (n < 10 ^ 16) × (reserved_name n ≡ name)) → (IsNone r → (n : ℕ) → n < 10 ^ 16 → reserved_name n ≢ name) → r ≡ seq_in Reserved name
reserved_so (Some n) name found none = sym (named_so Reserved n name found.0 (sym found.1))
reserved_so None name found none = sym (no_number Reserved name (λ n below is. none refl n below (sym is)))

-- what is read at a place doesn't depend on the default
pub get_or_any : (files : List FileName) (i : ℕ) (d : FileName) → i < length files → get_or files i d ≡ get_or files i (get_or files i d)
get_or_any [] i d within = absurd (omega arith)
get_or_any (f ∷ files) zero d within = refl
get_or_any (f ∷ files) (suc i) d within = get_or_any files i d (omega arith)

-- a run with one more file before it
pub run_more : (files : List FileName) (start : ℕ) → 0 < start → seq_at files start ≡ seq_at files (start - 1) + 1
    → ((i : ℕ) → start ≤ i → i + 1 < length files → seq_at files (i + 1) ≡ seq_at files i + 1) → (i : ℕ) → start - 1 ≤ i → i + 1 < length files → seq_at files (i + 1) ≡ seq_at files i + 1
run_more files start some here run i from within = elim (cases_lt i start) [
  | inl before ↦ at_first i (omega (arith, from, before, some))
  | inr behind ↦ run i behind within
]
  where
    at_first : (i : ℕ) → i ≡ start - 1 → seq_at files (i + 1) ≡ seq_at files i + 1
    at_first i is = ap (λ n. seq_at files n) (omega (arith, is, some)) ∙ here ∙ ap (λ n. seq_at files n + 1) (sym is)

-- ---- files by their names

-- one more name
pub named_more : {X : Type 0} (text : X → Text) (kind : FileKind) (path_id : ℕ) (names : List X) (i : ℕ) (name : X) (said : Text) (seq : Option ℕ) → i < length names → name ≡ get_or names i name → said ≡ text name → seq ≡ seq_in kind said
    → files_named kind path_id (map text (take (i + 1) names)) ≡ files_named kind path_id (map text (take i names)) ++ option_to_list (option_map (λ n. record { seq = n; path_id = path_id }) seq)
named_more text kind path_id names i name said seq within is says read =
    let one : Text → Option FileName = file_named kind path_id in
    ap (λ (l : List _). filter_map one (map text l)) (take_more names i name within ∙ ap (λ x. take i names ++ x ∷ []) (sym is))
    ∙ ap (filter_map one) (map-append text (take i names) (name ∷ []))
    ∙ filter_map-append one (map text (take i names)) (text name ∷ [])
    ∙ ap (λ (l : List FileName). files_named kind path_id (map text (take i names)) ++ l)
    (single (one (text name)) ∙ ap (λ o. option_to_list (option_map (λ n. record { seq = n; path_id = path_id }) o)) (ap (seq_in kind) (sym says) ∙ sym read))
  where
    single : (o : Option FileName) → cons_option o [] ≡ option_to_list o
    single None = refl
    single (Some f) = refl

-- they go behind those that are there
pub push_step : (before items one new more : List FileName) → new ≡ items ++ one → items ≡ before ++ more → new ≡ before ++ (more ++ one)
push_step before items one new more is so = is ∙ ap (λ (l : List FileName). l ++ one) so ∙ append_assoc before more one

-- the rest from a place on
pub rest_of : (files : List FileName) (n : ℕ) → take (length files - n) (drop n files) ≡ drop n files
rest_of files n = take_all (length files - n) (drop n files) (omega (arith, length-drop n files))
