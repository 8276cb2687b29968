use Rattle.std.proofs.Common.{◌++◌, ℕ, ◌≡◌, ◌∙◌, Ok, List, ap, sym, subst}
use Rattle.raft_wire.specs.Reader.{all_of}
use Rattle.raft_wire.specs.Fields.{spelled_log_id, FitsLogId, log_id_at}
use Rattle.raft_wire.proofs.Values.{log_id_reads}
use Rattle.raft_wire.proofs.Whole.{whole_again}
use Rattle.raft_wire.proofs.stored.write_log_id.Goals as goal

pub returns-clause-found : goal.returns-clause-found
returns-clause-found c =
    let written : c.new-out.result.items ++ spelled_log_id c.args.id.now ≡ spelled_log_id c.args.id.now = ap (λ (bytes : List ℕ). bytes ++ spelled_log_id c.args.id.now) c.new-out.ensures.items in
    let again = whole_again log_id_at spelled_log_id FitsLogId log_id_reads c.args.id.now c.in_ok-put_log_id.ensures.fits in
    subst (λ (bytes : List ℕ). all_of log_id_at bytes ≡ Ok c.args.id.now) (sym (c.in_ok-put_log_id.ensures.items ∙ written)) again
