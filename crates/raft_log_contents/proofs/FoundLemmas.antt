-- Log files by their names: those of one name more, and their order.
use Rattle.std.proofs.Common.{◌≡◌, ℕ, zero, suc, ◌<◌, List, [], ◌∷◌, ◌++◌, length, get_or, Option, Some, None, refl, sym, ap, ◌∙◌, arith}
use Rattle.std.specs.Prelude.{map, option_to_list, string_bytes}
use Rattle.std.specs.List.{cons_option}
use Rattle.std.specs.List.Sorted.{IsNonDecreasingBy}
use Rattle.std.specs.Option.{option_map}
use Rattle.std.proofs.lemmas.List.{append-nil, map-append}
use Rattle.raft_log_records.specs.declared.file_id.FileId.{FileId}
use Rattle.raft_log_records.specs.declared.file_id.LogQueue.{LogQueue}
use Rattle.raft_log_disk.specs.Text.{Text}
use Rattle.raft_log_items.specs.Found.{Found, file_named, id_in, log_files, path_in}
use Rattle.raft_log_contents.specs.declared.log_files.LogFile.{LogFile}
use Rattle.raft_log_contents.specs.Content.{found_of}

-- ---- files of names

one_named : (queue : LogQueue) (directory name : Text) (id : Option FileId) → id ≡ id_in queue name → log_files queue directory (name ∷ []) ≡ option_to_list (option_map (λ (f : FileId). (f, path_in directory name)) id)
one_named queue directory name id is =
    single (file_named queue directory name) ∙ ap (λ (o : Option FileId). option_to_list (option_map (λ (f : FileId). (f, path_in directory name)) o)) (sym is)
  where
    single : (o : Option Found) → cons_option o [] ≡ option_to_list o
    single None = refl
    single (Some f) = refl

-- one file more
pub pushed : (queue : LogQueue) (directory name : Text) (old new : List LogFile) (file : LogFile) → new ≡ old ++ file ∷ [] → Some file.id ≡ id_in queue name → string_bytes file.path ≡ path_in directory name
    → map found_of new ≡ map found_of old ++ log_files queue directory (name ∷ [])
pushed queue directory name old new file is id path =
    ap (map found_of) is ∙ map-append found_of old (file ∷ [])
    ∙ ap (λ (l : List Found). map found_of old ++ l) (ap (λ (t : Text). let l : List Found = (file.id, t) ∷ [] in l) path ∙ sym (one_named queue directory name (Some file.id) id))

pub not_pushed : (queue : LogQueue) (directory name : Text) (old : List LogFile) → None ≡ id_in queue name → map found_of old ≡ map found_of old ++ log_files queue directory (name ∷ [])
not_pushed queue directory name old is = sym (ap (λ (l : List Found). map found_of old ++ l) (one_named queue directory name None is) ∙ append-nil (map found_of old))

-- ---- order

mapped_at : (files : List LogFile) (i : ℕ) (d : Found) (x : LogFile) → i < length files → get_or (map found_of files) i d ≡ found_of (get_or files i x)
mapped_at [] i d x within = absurd (omega arith)
mapped_at (f ∷ files) zero d x within = refl
mapped_at (f ∷ files) (suc i) d x within = mapped_at files i d x (omega arith)

length_found : (files : List LogFile) → length (map found_of files) ≡ length files
length_found [] = refl
length_found (f ∷ files) = ap suc (length_found files)

pub rising_found : (files : List LogFile) → IsNonDecreasingBy (λ (x : LogFile). x.id.seq) files → IsNonDecreasingBy (λ (f : Found). f.0.seq) (map found_of files)
rising_found [] rising = λ i j d up within. absurd (omega arith)
rising_found (f ∷ files) rising = λ i j d up within.
    let all : List LogFile = f ∷ files in
    let short : j < length all = omega (arith, length_found all, within) in
    let here = ap (λ (x : Found). x.0.seq) (mapped_at all i d f (omega (arith, short, up))) in
    let there = ap (λ (x : Found). x.0.seq) (mapped_at all j d f short) in
    omega (arith, here, there, rising i j f up short)
