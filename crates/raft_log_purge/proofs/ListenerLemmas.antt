-- The least file that listeners keep.
use Rattle.std.proofs.Common.{◌≡◌, ℕ, List, [], ◌∷◌, ◌++◌, Option, Some, None, sym, subst, arith}
use Rattle.std.specs.Prelude.{◌↔◌}
use Rattle.raft_log_records.specs.declared.file_id.LogQueue.{LogQueue}
use Rattle.raft_log_covers.specs.Account.{IsFrom}
use Rattle.raft_log_covers.specs.Trace.{least}
use Rattle.raft_log_traces.proofs.FileLemmas.{least_from}
use Rattle.raft_log_purge.specs.Listeners.{AllKeepFrom, IsLeastKept}

from_least : (n : ℕ) (a b : Option ℕ) → IsFrom n (least a b) → IsFrom n a × IsFrom n b
from_least n None b h = (tt, h)
from_least n (Some f) None h = (h, tt)
from_least n (Some f) (Some g) h = (omega (arith, h), omega (arith, h))

last_keeps : {L : Type 0} (kept : L → LogQueue → Option ℕ) (queue : LogQueue) (n : ℕ) (ls : List L) (l : L) → AllKeepFrom kept queue n ls → IsFrom n (kept l queue) → AllKeepFrom kept queue n (ls ++ l ∷ [])
last_keeps kept queue n [] l all here = (here, tt)
last_keeps kept queue n (x ∷ ls) l all here = (all.0, last_keeps kept queue n ls l all.1 here)

all_keep : {L : Type 0} (kept : L → LogQueue → Option ℕ) (queue : LogQueue) (n : ℕ) (ls : List L) (l : L) → AllKeepFrom kept queue n (ls ++ l ∷ []) → AllKeepFrom kept queue n ls × IsFrom n (kept l queue)
all_keep kept queue n [] l all = (tt, all.0)
all_keep kept queue n (x ∷ ls) l all =
    let others = all_keep kept queue n ls l all.1 in
    ((all.0, others.0), others.1)

-- one listener more was asked
pub one_asked : {L : Type 0} (kept : L → LogQueue → Option ℕ) (queue : LogQueue) (ls more : List L) (l : L) (old new found : Option ℕ) → more ≡ ls ++ l ∷ [] → found ≡ kept l queue → new ≡ least old found
    → IsLeastKept kept queue ls old → IsLeastKept kept queue more new
one_asked kept queue ls more l old new found e f g so_far n = (
  λ late.
      let both = from_least n old found (subst (λ (o : Option ℕ). IsFrom n o) g late) in
      subst (λ x. AllKeepFrom kept queue n x) (sym e) (last_keeps kept queue n ls l ((so_far n).0 both.0) (subst (λ (o : Option ℕ). IsFrom n o) f both.1)),
  λ all.
      let both = all_keep kept queue n ls l (subst (λ x. AllKeepFrom kept queue n x) e all) in
      subst (λ (o : Option ℕ). IsFrom n o) (sym g) (least_from n old found ((so_far n).1 both.0) (subst (λ (o : Option ℕ). IsFrom n o) (sym f) both.1)),
)
