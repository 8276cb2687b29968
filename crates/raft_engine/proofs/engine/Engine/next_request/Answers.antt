-- Without a snapshot that has to go first, entries go.
use Rattle.std.proofs.Common.{◌≡◌, ◌∙◌, ◌+◌, ◌-◌, ◌≤◌, take, drop, ap, sym, arith}
use Rattle.std.specs.Option.{is_some}
use Rattle.std.proofs.Math.Bool.{true≢false}
use Rattle.std.proofs.lemmas.Bool.Decides.{nat_tests}
use Rattle.raft_progress.specs.declared.inflight.Inflight.TheVariants.{Logs}
use Rattle.raft_group_step.specs.Message.{last_sent}
use Rattle.raft_group_step.specs.StoredGroup.{first_place, id_before}
use Rattle.raft_group_step.specs.Frames.{entries_in_request, request_start}
use Rattle.raft_known_state.specs.KnownState.{SnapshotMeta, meta_of}
use Rattle.raft_engine.specs.Standing.{peer_state}
use Rattle.raft_engine.proofs.SendingLemmas.{as-logs}
use Rattle.raft_engine.proofs.engine.Engine.next_request.Goals as goal
use Rattle.raft_engine.proofs.engine.Engine.next_request.Goals.{else-is_some-via-then-is_some+else-entry-first_place, else-is_some-via-else-is_some}

pub returns : goal.returns
returns g c = λ own n s h fits m k.
    let entry = c.args.entry.now in
    let id : c.saturating_add-id.result ≡ entry.curr_inflight_id + 1 = omega (arith, c.saturating_add-id.ensures) in
    let start : c.request_start.result ≡ request_start s.stored (peer_state n entry) = c.request_start.ensures s.stored n h.knows m in
    let above : first_place s.stored ≤ c.request_start.result = omega (arith, start) in
    ap (λ i. Logs i c.log_id_range-log_id_range.result) id
    ∙ ap (Logs (entry.curr_inflight_id + 1)) (c.log_id_range-log_id_range.ensures own s h fits above
    ∙ ap (λ at. record { prev = id_before s.stored at; last = last_sent (id_before s.stored at) (take entries_in_request (drop (at - first_place s.stored) s.stored.log)) }) start)
    ∙ sym (as-logs s.stored (peer_state n entry) s.stored.snapshot (λ x e. elim c.else-is_some.branch [
      | else-is_some-via-then-is_some+else-entry-first_place w ↦
          let first : w.first_place.result ≡ first_place s.stored = w.first_place.ensures s.stored h.knows in
          let not_below : first_place s.stored ≤ entry.searching_end = omega (arith, first, w.if-entry-first_place.false) in
          grind (arith, nat_tests, not_below)
      | else-is_some-via-else-is_some w ↦
          absurd (true≢false (sym (c.is_some.ensures ∙ ap (λ (y : SnapshotMeta). is_some y.last_log_id) (h.knows.snapshot ∙ ap meta_of e)) ∙ w.if-is_some.false))
    ]))
