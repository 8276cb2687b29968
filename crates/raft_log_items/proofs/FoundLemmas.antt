-- Names of log files, paths and directories.
use Rattle.std.proofs.Common.{◌≡◌, ◌≢◌, ℕ, zero, suc, ◌+◌, ◌^◌, ◌<◌, false, ◌||◌, eqb, ne_eqb, inl, inr, List, [], ◌∷◌, ◌++◌, length, get_or, take, drop, Option, Some, None, refl, sym, ap, ◌∙◌, arith, lit<, take-append-drop}
use Rattle.std.specs.Prelude.{map, IfSome, option_to_list, string_bytes}
use Rattle.std.specs.List.{cons_option, filter_map}
use Rattle.std.specs.List.Sorted.{IsNonDecreasingBy}
use Rattle.std.specs.Option.{option_map}
use Rattle.std.proofs.lemmas.List.{append-nil, map-append, take_more}
use Rattle.std.proofs.lemmas.List.Elements.{filter_map-append}
use Rattle.std.proofs.lemmas.Str.Pattern.{NoCharPasses-char, drop_at_char}
use Rattle.std.specs.Str.Pattern.{RFindsChar, SplitsAroundMatch}
use Rattle.raft_log_records.specs.declared.file_id.FileId.{FileId}
use Rattle.raft_log_records.specs.declared.file_id.LogQueue.{LogQueue}
use Rattle.raft_log_disk.specs.Text.{Text, has_slash}
use Rattle.raft_log_disk.specs.Name.{suffix_of}
use Rattle.raft_log_files.specs.FileName.{log_file_name, suffixed}
use Rattle.raft_log_recovery.specs.declared.scan.FileKind.TheVariants.{Log}
use Rattle.raft_log_recovery.proofs.ScanLemmas.{named_so, no_number, other_queue}
use Rattle.raft_log_items.specs.declared.found.LogFile.{LogFile}
use Rattle.raft_log_items.specs.Found.{Found, IsLastPart, IsLogPath, file_named, found_of, id_in, id_of, log_files, path_in}

-- ---- names

-- a name that parses as a file of the queue
pub parsed : (queue : LogQueue) (id : FileId) (name : Text) → id.queue ≡ queue → id.seq < 10 ^ 16 → log_file_name id ≡ name → Some id ≡ id_in queue name
parsed queue id name same below is =
    sym (ap (option_map (id_of queue)) (named_so (Log queue) id.seq name below (sym is ∙ ap (λ q. suffixed id.seq (suffix_of q)) same))
    ∙ ap (λ q. Some (id_of q id.seq)) (sym same))

-- as a file of the other one
pub parsed_other : (queue : LogQueue) (id : FileId) (name : Text) → (id.queue ≡ queue → ⊥) → id.seq < 10 ^ 16 → log_file_name id ≡ name → None ≡ id_in queue name
parsed_other queue id name apart below is = sym (ap (option_map (id_of queue)) (other_queue queue id.queue id.seq name apart below (sym is)))

-- and one that doesn't parse
pub not_parsed : (name : Text) → ((id : FileId) → id.seq < 10 ^ 16 → log_file_name id ≢ name) → (queue : LogQueue) → id_in queue name ≡ None
not_parsed name none queue = ap (option_map (id_of queue)) (no_number (Log queue) name (λ n below is. none (id_of queue n) below (sym is)))

-- ---- paths

pub path_parsed : (r : Option FileId) (path name : Text) → IsLastPart path name → IfSome r (λ id. (id.seq < 10 ^ 16) × (log_file_name id ≡ name)) → IfSome r (λ id. IsLogPath path id)
path_parsed None path name last found = found
path_parsed (Some id) path name last found = (name, last, sym (parsed id.queue id name refl found.0 found.1))

no_slash_in : (text : Text) → ((i : ℕ) → i < length text → get_or text i 0 ≢ 47) → has_slash text ≡ false
no_slash_in [] none = refl
no_slash_in (b ∷ text) none =
    let first : eqb b 47 ≡ false = ne_eqb b 47 (none 0 (omega arith)) in
    let rest : has_slash text ≡ false = no_slash_in text (λ i within. none (suc i) (omega (arith, within))) in
    λ j. first j || rest j

pub behind_slash : (path front back : Text) → SplitsAroundMatch (RFindsChar 47) path front back → IsLastPart path back
behind_slash path front back at = (
  no_slash_in back (λ i within is. NoCharPasses-char 47 (drop at.1 path) i at.2.0 (lit< tt) (omega (arith, ap length at.4, within)) (ap (λ (l : Text). get_or l i 0) (sym at.4) ∙ is)),
  inr (
    take at.0 path,
    sym (take-append-drop at.0 path) ∙ ap (λ (l : Text). take at.0 path ++ l) (drop_at_char 47 path at.0 at.1 at.2.1 (lit< tt) ∙ ap (λ (l : Text). 47 ∷ l) (sym at.4)),
  ),
)

pub no_slash : (path : Text) → RFindsChar 47 path None → IsLastPart path path
no_slash path none = (no_slash_in path (λ i within. NoCharPasses-char 47 path i none (lit< tt) within), inl refl)

-- ---- files of names

one_named : (queue : LogQueue) (directory name : Text) (id : Option FileId) → id ≡ id_in queue name → log_files queue directory (name ∷ []) ≡ option_to_list (option_map (λ (f : FileId). (f, path_in directory name)) id)
one_named queue directory name id is =
    single (file_named queue directory name) ∙ ap (λ (o : Option FileId). option_to_list (option_map (λ (f : FileId). (f, path_in directory name)) o)) (sym is)
  where
    single : (o : Option Found) → cons_option o [] ≡ option_to_list o
    single None = refl
    single (Some f) = refl

-- one file more
pub pushed : (queue : LogQueue) (directory name : Text) (old new : List LogFile) (file : LogFile) → new ≡ old ++ file ∷ [] → Some file.id ≡ id_in queue name → string_bytes file.path ≡ path_in directory name
    → map found_of new ≡ map found_of old ++ log_files queue directory (name ∷ [])
pushed queue directory name old new file is id path =
    ap (map found_of) is ∙ map-append found_of old (file ∷ [])
    ∙ ap (λ (l : List Found). map found_of old ++ l) (ap (λ (t : Text). let l : List Found = (file.id, t) ∷ [] in l) path ∙ sym (one_named queue directory name (Some file.id) id))

pub not_pushed : (queue : LogQueue) (directory name : Text) (old : List LogFile) → None ≡ id_in queue name → map found_of old ≡ map found_of old ++ log_files queue directory (name ∷ [])
not_pushed queue directory name old is = sym (ap (λ (l : List Found). map found_of old ++ l) (one_named queue directory name None is) ∙ append-nil (map found_of old))

-- the files of one name more
pub named_more : {X : Type 0} (text : X → Text) (queue : LogQueue) (directory : Text) (names : List X) (i : ℕ) (name : X) (said : Text) (before new : List Found) → i < length names → name ≡ get_or names i name → said ≡ text name
    → before ≡ log_files queue directory (map text (take i names)) → new ≡ before ++ log_files queue directory (said ∷ []) → new ≡ log_files queue directory (map text (take (i + 1) names))
named_more text queue directory names i name said before new within is says so more =
    let one : Text → Option Found = file_named queue directory in
    more
    ∙ ap (λ (l : List Found). l ++ log_files queue directory (said ∷ [])) so
    ∙ ap (λ (t : Text). log_files queue directory (map text (take i names)) ++ log_files queue directory (t ∷ [])) says
    ∙ sym (ap (λ (l : List _). filter_map one (map text l)) (take_more names i name within ∙ ap (λ x. take i names ++ x ∷ []) (sym is))
    ∙ ap (filter_map one) (map-append text (take i names) (name ∷ []))
    ∙ filter_map-append one (map text (take i names)) (text name ∷ []))

-- ---- order

mapped_at : (files : List LogFile) (i : ℕ) (d : Found) (x : LogFile) → i < length files → get_or (map found_of files) i d ≡ found_of (get_or files i x)
mapped_at [] i d x within = absurd (omega arith)
mapped_at (f ∷ files) zero d x within = refl
mapped_at (f ∷ files) (suc i) d x within = mapped_at files i d x (omega arith)

length_found : (files : List LogFile) → length (map found_of files) ≡ length files
length_found [] = refl
length_found (f ∷ files) = ap suc (length_found files)

pub rising_found : (files : List LogFile) → IsNonDecreasingBy (λ (x : LogFile). x.id.seq) files → IsNonDecreasingBy (λ (f : Found). f.0.seq) (map found_of files)
rising_found [] rising = λ i j d up within. absurd (omega arith)
rising_found (f ∷ files) rising = λ i j d up within.
    let all : List LogFile = f ∷ files in
    let short : j < length all = omega (arith, length_found all, within) in
    let here = ap (λ (x : Found). x.0.seq) (mapped_at all i d f (omega (arith, short, up))) in
    let there = ap (λ (x : Found). x.0.seq) (mapped_at all j d f short) in
    omega (arith, here, there, rising i j f up short)
