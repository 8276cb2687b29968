-- A notice leaves behind the rest.
use Rattle.std.proofs.Common.{◌∙◌, refl, sym}
use Rattle.std.proofs.lemmas.Result.{on_ok_weaker}
use Rattle.raft_group_step.specs.Lead.{peer_of}
use Rattle.raft_group_step.specs.Frames.{notice}
use Rattle.raft_commands.specs.declared.command.Command.TheVariants.{ReplicateCommitted}
use Rattle.raft_engine.specs.Commands.{message_to}
use Rattle.raft_engine.proofs.ReplicationLemmas.{noticed, same_state, whole_sent}
use Rattle.raft_engine.proofs.StandingLemmas.{sent_more}
use Rattle.raft_engine.proofs.engine.Engine.send_notice.Goals as goal

pub returns-clause-step : goal.returns-clause-step
returns-clause-step g c = λ x own r lead step e.
    let self = c.args.self.now in
    let command = ReplicateCommitted c.args.n c.vote_ref.result.now c.args.entry.now.matching self.state.state.committed in
    on_ok_weaker c.push_command.result
    (λ h. sent_more x own self _ r step command (message_to own c.args.n (notice r.state (peer_of lead c.args.n))) refl refl refl refl refl
    h refl refl tt (sym (c.vote_ref.ensures ∙ step.state.knows.vote), refl) refl
    (λ s upto. noticed own c.args.n r.state lead c.args.entry.now c.vote_ref.result.now self.state.state.committed e (c.vote_ref.ensures ∙ step.state.knows.vote) step.state.committed))
    c.push_command.ensures.ok

pub returns-clause-whole : goal.returns-clause-whole
returns-clause-whole g c = λ x own r lead step e.
    let self = c.args.self.now in
    let command = ReplicateCommitted c.args.n c.vote_ref.result.now c.args.entry.now.matching self.state.state.committed in
    on_ok_weaker c.push_command.result
    (λ h. whole_sent x own self _ r step command (message_to own c.args.n (notice r.state (peer_of lead c.args.n)))
    (same_state own self _ r.state step.state refl refl refl refl) refl refl h refl refl tt (sym (c.vote_ref.ensures ∙ step.state.knows.vote), refl) refl
    (noticed own c.args.n r.state lead c.args.entry.now c.vote_ref.result.now self.state.state.committed e (c.vote_ref.ensures ∙ step.state.knows.vote) step.state.committed))
    c.push_command.ensures.ok
