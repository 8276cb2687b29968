use Rattle.std.proofs.Common.{◌≤◌, length, take, refl, arith}
use Rattle.std.proofs.lemmas.Option.{slice_get_read}
use Rattle.raft_known_state.specs.KnownState.{entry_ids}
use Rattle.raft_known_state.proofs.TermLemmas.{up_to_more, up_to_next}
use Rattle.raft_known_state.proofs.terms.highest_term.Goals as goal

pub loop-entry-preserved : goal.loop-entry-preserved
loop-entry-preserved c =
    let at = c.max-highest.ensures in
    let highest = c.max-highest.result in
    let grown : c.loop-entry.highest ≤ highest = omega (arith, at) in
    let above : c.entry-item.result.log_id.leader_id.term ≤ highest = omega (arith, at) in
    let l = c.loop-entry.invariant.0 in
    let there =
    slice_get_read c.args.entries.now (length c.args.entries.now) c.loop-entry.entry-index c.entry-item.result refl c.loop-entry-test.true c.entry-item.is in (
      omega (arith, l, grown),
      up_to_next highest c.args.entries.now c.loop-entry.entry-index c.entry-item.result there above
          (up_to_more c.loop-entry.highest highest (entry_ids (take c.loop-entry.entry-index c.args.entries.now)) grown c.loop-entry.invariant.1),
    )
