-- A snapshot that isn't refused has a low last place.
use Rattle.std.proofs.Common.{◌≡◌, ◌<◌, ◌+◌, ℕ, [], Some, ap, subst, sym, refl, ◌∙◌, arith}
use Rattle.std.proofs.lemmas.Grind.{common_steps}
use Rattle.raft_values.specs.LogId.{next_place}
use Rattle.raft_known_state.specs.KnownState.{SnapshotMeta}
use Rattle.raft_messages.specs.Memberships.{snapshot_of}
use Rattle.raft_values.specs.declared.log_id.LogId.{LogId}
use Rattle.raft_group_step.specs.StoredGroup.{Snapshot}
use Rattle.raft_engine.proofs.ClockLemmas.{keeps_same}
use Rattle.raft_member.proofs.MessageLemmas.{snapshot_is_low}
use Rattle.raft_member.proofs.messages.take_snapshot.Goals as goal

pub returns-then-head-clause-taken : goal.returns-then-head-clause-taken
returns-then-head-clause-taken g c = λ x own at s stands moment may.
    let low = snapshot_is_low own c.args.caller.0 at s c.args.caller.1 c.args.caller.2 x may.accepted in
    let same : c.head-head.result.last ≡ x.last = ap (λ (y : Snapshot). y.last) (c.head-head.ensures x stands) in
    let top : x.last.index ≡ 18446744073709551615 = ap (λ (last : LogId ℕ). last.index) (sym same) ∙ c.if-head.true in
    absurd (omega arith)

pub handle_install_full_snapshot-requires : goal.handle_install_full_snapshot-requires
handle_install_full_snapshot-requires g c =
    let next : next_place c.in_ok-meta_of.field-0.last_log_id ≡ c.head-head.result.last.index + 1 =
    ap (λ (m : SnapshotMeta). next_place m.last_log_id) (c.in_ok-meta_of.ensures (snapshot_of c.head-head.result []) refl) in
    let low : c.head-head.result.last.index + 1 < 18446744073709551616 = grind (arith, common_steps) in
    subst (λ n. n < 18446744073709551616) (sym next) low

pub returns-then-head-clause-heard : goal.returns-then-head-clause-heard
returns-then-head-clause-heard g c = keeps_same c.args.engine.now.leader

pub returns-clause-heard : goal.returns-clause-heard
returns-clause-heard g c = c.handle_install_full_snapshot.ensures.heard

pub returns-clause-taken : goal.returns-clause-taken
returns-clause-taken g c = λ x own at s stands moment may.
    let same : c.head-head.result.last ≡ x.last = ap (λ (y : Snapshot). y.last) (c.head-head.ensures x stands) in
    c.handle_install_full_snapshot.ensures.taken x own at c.args.caller.2 s moment (c.in_ok-meta_of.ensures x (c.head-head.ensures x stands)) refl
    (record { number = refl; last = ap Some same }) may
