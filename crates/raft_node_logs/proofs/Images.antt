-- What a crash leaves of each file, in the words of files.
use Rattle.std.proofs.Common.{◌≡◌, ℕ, ◌+◌, ◌<◌, List, [], ◌∷◌, ◌++◌, ap, length, map, sym, take, ◌∙◌}
use Rattle.std.proofs.lemmas.List.{map_more, map_push}
use Rattle.std.specs.Prelude.{get_or}
use Rattle.raft_cluster_events.specs.declared.event.FileImage.{FileImage}
use Rattle.raft_log_disk.specs.declared.crash.FileBytes.{FileBytes}
use Rattle.raft_node_logs.specs.Files.{said_bytes, told_image}

-- of one more
pub bytes_more : (images : List FileImage) (all after : List FileBytes) (at : ℕ) (image : FileImage) (bytes : FileBytes) → map said_bytes all ≡ map told_image (take at images) → at < length images
    → image ≡ get_or images at image → said_bytes bytes ≡ told_image image → after ≡ all ++ bytes ∷ [] → map said_bytes after ≡ map told_image (take (at + 1) images)
bytes_more images all after at image bytes so lt is says pushed =
    ap (map said_bytes) pushed ∙ map_push said_bytes all bytes ∙ (λ i. so i ++ says i ∷ [])
    ∙ sym (map_more told_image images at image lt ∙ ap (λ (x : FileImage). map told_image (take at images) ++ told_image x ∷ []) (sym is))
