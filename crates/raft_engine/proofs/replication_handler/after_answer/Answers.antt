-- What a leader knows of a peer after a whole or a partial success.
use Rattle.std.specs.Prelude.{◌≡◌, if◌then◌else◌, nat_le, true}
use Rattle.std.proofs.Common.{sym, ap, ◌∙◌, arith, leb-true}
use Rattle.std.proofs.lemmas.Bool.{and_from}
use Rattle.raft_values.specs.LogId.{next_place}
use Rattle.raft_group_step.specs.Reply.{accepted_up_to, after_answer, ended, is_part_of}
use Rattle.raft_messages.specs.Messages.{outcome_of}
use Rattle.raft_engine.specs.Standing.{peer_state}
use Rattle.raft_engine.specs.Sending.{reply_of}
use Rattle.raft_engine.proofs.replication_handler.after_answer.Goals as goal

pub returns-in-Success : goal.returns-in-Success
returns-in-Success c = λ n low.
    let p = peer_state n c.args.entry.now in
    c.accepted_up_to.ensures n low
    ∙ sym (ap (λ o. after_answer p (reply_of c.args.reply.now o) (outcome_of o)) c.in-Success.is)

pub returns-then-is_at_most-2 : goal.returns-then-is_at_most-2
returns-then-is_at_most-2 c = λ n low.
    let p = peer_state n c.args.entry.now in
    let tx = c.args.reply.now in
    let last = c.in-PartialSuccess.last in
    let above : nat_le (next_place c.args.entry.now.matching) (next_place last) ≡ true = sym c.is_at_most.ensures ∙ c.if-is_at_most.true in
    let within : nat_le (next_place last) (next_place tx.last) ≡ true = sym c.is_at_most-then-is_at_most.ensures ∙ c.if-is_at_most-2.true in
    let place = leb-true (next_place last) (next_place tx.last) within in
    let part : is_part_of p (reply_of tx c.args.outcome.now) last ≡ true =
    and_from (nat_le (next_place c.args.entry.now.matching) (next_place last)) (nat_le (next_place last) (next_place tx.last)) above within in
    c.accepted_up_to-then-is_at_most-2.ensures n (omega (arith, place, low))
    ∙ sym (ap (λ b. if b then accepted_up_to last p else ended p) part)
    ∙ sym (ap (λ o. after_answer p (reply_of tx o) (outcome_of o)) c.in-PartialSuccess.is)
