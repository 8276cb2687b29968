use Rattle.std.proofs.Common.{◌≡◌, ℕ, List, Option, subst, sym}
use Rattle.std.specs.BTreeMap.{values}
use Rattle.raft_log_covers.specs.Account.{IsFrom}
use Rattle.raft_log_traces.specs.Files.{least_with}
use Rattle.raft_log_traces.proofs.FileLemmas.{keys_from, with_from}
use Rattle.raft_log_traces.proofs.files.least_with_keys.Goals as goal

pub returns-clause-least : goal.returns-clause-least
returns-clause-least c = λ n f k.
    let all = values c.args.keys.now in
    let is : c.loop-other.least ≡ least_with c.args.file all = subst (λ (left : List ℕ). least_with c.loop-other.least left ≡ least_with c.args.file all) c.in-None.ensures.steps.0 c.loop-other.invariant in
    subst (λ (o : Option ℕ). IsFrom n o) (sym is) (with_from n c.args.file all f (keys_from n c.args.keys.now c.values-other-items.ensures.ordered k))
