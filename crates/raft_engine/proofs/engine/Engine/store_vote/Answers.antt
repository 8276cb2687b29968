use Rattle.std.proofs.Common.{◌∙◌, ap, sym, refl}
use Rattle.std.specs.Prelude.{Some}
use Rattle.std.proofs.lemmas.Result.{on_ok_weaker}
use Rattle.raft_known_state.specs.KnownState.{KnownState}
use Rattle.raft_engine.proofs.StandingLemmas.{vote_stored}
use Rattle.raft_engine.proofs.engine.Engine.store_vote.Goals as goal

pub returns-clause-step : goal.returns-clause-step
returns-clause-step g c = λ x own r step follows now.
    on_ok_weaker c.push_command.result
    (λ h. vote_stored x own c.args.self.now _ r step c.args.vote follows refl refl refl refl (c.save_vote.ensures.known r.state.stored step.state.knows)
    (ap (λ (y : KnownState). y.state) c.save_vote.ensures.rest ∙ ap (λ t. record c.args.self.now.state.state { vote = record { value = c.args.vote; utime = Some t } }) (sym now))
    (ap (λ (y : KnownState). y.wish) c.save_vote.ensures.rest) h)
    c.push_command.ensures.ok
