-- One more key.
use Rattle.std.proofs.Common.{◌+◌, ◌≡◌, ℕ, List, [], ◌∷◌, ◌++◌, map, take, sym, ap, ◌∙◌, arith}
use Rattle.std.proofs.lemmas.List.{map_more, take_all}
use Rattle.std.specs.Map.Iter.{deref_pair}
use Rattle.raft_log_traces.specs.GroupTraces.{traces_in}
use Rattle.raft_log_cleaner.specs.Live.{count_stored}
use Rattle.raft_log_cleaner.proofs.Living.{not_stored_there, stored_there}
use Rattle.raft_log_cleaner.proofs.live.stored_among.Goals.{else-is_stored, then-is_stored}
use Rattle.raft_log_cleaner.proofs.live.stored_among.Goals as goal

pub loop-pair-preserved : goal.loop-pair-preserved
loop-pair-preserved c =
    let t = traces_in c.args.traces.now c.args.group in
    let i = c.loop-pair.pair-index in
    let more = map_more (deref_pair {K = List ℕ} {X = List ℕ}) c.args.found.now i (record { ref_ptr = (0, 0); now = [] }, record { ref_ptr = (0, 0); now = [] }) (omega arith) in
    let found = map (deref_pair {K = List ℕ} {X = List ℕ}) (take i c.args.found.now) in
    let all = map (deref_pair {K = List ℕ} {X = List ℕ}) (take (i + 1) c.args.found.now) in
    elim c.if-is_stored.branch [
      | then-is_stored w ↦
          let low = c.loop-pair.invariant.within in
          let is = w.count-is in
          record {
            counted = w.count-is ∙ stored_there t found all _ c.loop-pair.count c.is_stored.result more c.is_stored.ensures w.if-is_stored.true c.loop-pair.invariant.counted;
            within = omega (arith, low, is);
          }
      | else-is_stored w ↦
          let low = c.loop-pair.invariant.within in
          let is = w.count-is in
          record {
            counted = w.count-is ∙ not_stored_there t found all _ c.loop-pair.count c.is_stored.result more c.is_stored.ensures w.if-is_stored.false c.loop-pair.invariant.counted;
            within = omega (arith, low, is);
          }
    ]
