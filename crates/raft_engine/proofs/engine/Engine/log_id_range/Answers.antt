-- The range ends at the last entry that is sent, or begins behind the log.
use Rattle.std.proofs.Common.{◌≡◌, ◌∙◌, ◌+◌, ℕ, min, ap, arith}
use Rattle.raft_group_step.specs.StoredGroup.{end_place, id_before}
use Rattle.raft_commands.specs.declared.engine_config.EngineConfig.{EngineConfig}
use Rattle.raft_engine.proofs.SendingLemmas.{last-sent, none-sent}
use Rattle.raft_engine.proofs.engine.Engine.log_id_range.Goals as goal
use Rattle.raft_engine.proofs.engine.Engine.log_id_range.Goals.{then-start-stop, else-start-stop}

pub returns : goal.returns
returns g c = λ own s h fits l.
    let start = c.args.start in
    let most : c.args.self.now.config.max_payload_entries ≡ 64 = ap (λ (k : EngineConfig ℕ). k.max_payload_entries) h.config in
    let ends : c.log_end.result ≡ end_place s.stored = c.log_end.ensures s.stored h.knows h.order.placed fits in
    let stop : c.min-stop.result ≡ min (start + 64) (end_place s.stored) = omega (arith, c.min-stop.ensures, c.saturating_add.ensures, most, ends) in
    let prev : c.id_before-prev.result ≡ id_before s.stored start = c.id_before-prev.ensures s.stored h.knows h.order.placed in
    c.new.ensures
    ∙ ap (λ p. record { prev = p; last = c.if-start-stop.last }) prev
    ∙ ap (λ q. record { prev = id_before s.stored start; last = q }) (elim c.if-start-stop.branch [
      | then-start-stop w ↦ w.last-is ∙ w.id_before-last.ensures s.stored h.knows h.order.placed
          ∙ last-sent s.stored start 64 l c.min-stop.result w.if-start-stop.true stop
      | else-start-stop w ↦ w.last-is ∙ prev ∙ none-sent s.stored start 64 l (omega arith)
    ])
