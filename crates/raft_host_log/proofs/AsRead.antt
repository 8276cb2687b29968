-- What is found of files as they read is what may be found after a crash.
use Rattle.std.proofs.Common.{ℕ, List, refl}
use Rattle.raft_log_disk.specs.Chance.{IsGenuineImage}
use Rattle.raft_log_disk.specs.Image.{seen_image}
use Rattle.raft_log_disk.specs.MemoryImages.{memory_images}
use Rattle.raft_log_engine.specs.Log.{IsFoundBy, MayBeFound}
use Rattle.raft_log_files.specs.declared.config.Config.{Config}
use Rattle.raft_log_host.specs.Mirror.{OnHost, host_disk}
use Rattle.raft_log_memtables.specs.Content.{Content}

-- unless they show by chance what nobody wrote
pub found_as_read : (settings : Config) (files : OnHost) (content : Content (List ℕ)) → IsGenuineImage (host_disk files) (seen_image (host_disk files)) → IsFoundBy settings (host_disk files) content
    → MayBeFound settings (host_disk files) content
found_as_read settings files content genuine found = record {
  image = seen_image (host_disk files);
  left = host_disk files;
  crashed = record { is = (memory_images files.memory).seen; genuine = genuine; names = refl; bytes = λ n. refl };
  found = found;
}
