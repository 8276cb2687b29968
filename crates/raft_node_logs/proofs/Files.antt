-- What an opening finds of files, by their settings and what is on the disk.
use Rattle.std.proofs.Common.{◌≡◌, ℕ, List, subst, sym}
use Rattle.raft_log_disk.specs.Chance.{IsGenuineImage}
use Rattle.raft_log_disk.specs.Image.{seen_image}
use Rattle.raft_log_disk.specs.MemorySystem.{disk_in}
use Rattle.raft_log_engine.specs.Log.{IsFoundBy}
use Rattle.raft_log_engine.specs.declared.memory.LogFiles.{LogFiles}
use Rattle.raft_log_memtables.specs.Content.{Content}
use Rattle.raft_node_logs.specs.Files.{IsFoundAs}
use Rattle.raft_node_logs.specs.Opening.{FindsSame}

found_too : (old new : LogFiles) → disk_in new.files ≡ disk_in old.files → new.settings ≡ old.settings → (content : Content (List ℕ)) → IsFoundAs new content → IsFoundAs old content
found_too old new disk settings content f = record {
  genuine = subst (λ d. IsGenuineImage d (seen_image d)) disk f.genuine;
  found = subst (λ d. IsFoundBy old.settings d content) disk (subst (λ s. IsFoundBy s (disk_in new.files) content) settings f.found);
}

pub finds_same : (old new : LogFiles) → disk_in new.files ≡ disk_in old.files → new.settings ≡ old.settings → FindsSame (λ files content. IsFoundAs files content) old new
finds_same old new disk settings content = (found_too old new disk settings content, found_too new old (sym disk) (sym settings) content)
