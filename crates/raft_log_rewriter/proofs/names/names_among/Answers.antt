-- One pair more.
use Rattle.std.proofs.Common.{ℕ, List, [], map, take, sym, ap, ◌∙◌, arith}
use Rattle.std.proofs.lemmas.List.{map_more}
use Rattle.std.specs.Map.Iter.{deref_pair}
use Rattle.raft_log_covers.specs.Marks.{is_in}
use Rattle.raft_log_purge.specs.Anew.{names_of}
use Rattle.raft_log_records.specs.Batch.{payloads}
use Rattle.raft_log_traces.specs.GroupTraces.{traces_in}
use Rattle.raft_log_rewriter.proofs.Ranges.{pair_more}
use Rattle.raft_log_rewriter.proofs.names.names_among.Goals as goal

pub loop-pair-preserved : goal.loop-pair-preserved
loop-pair-preserved c = λ k among none.
    let i = c.loop-pair.pair-index in
    let more = map_more (deref_pair {K = List ℕ} {X = List ℕ}) c.args.found.now i (record { ref_ptr = (0, 0); now = [] }, record { ref_ptr = (0, 0); now = [] }) (omega arith) in
    pair_more (traces_in c.args.traces.now c.args.group) (map (deref_pair {K = List ℕ} {X = List ℕ}) (take i c.args.found.now)) _ (payloads c.loop-pair.names.items) (payloads c.add_stored.new.names.items) c.loop-pair.invariant
    c.in_ok-add_stored.ensures.kept c.in_ok-add_stored.ensures.added k (ap (λ (l : List (List ℕ × List ℕ)). is_in k (names_of l)) (sym more) ∙ among) none
