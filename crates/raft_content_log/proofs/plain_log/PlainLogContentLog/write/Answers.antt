use Rattle.std.proofs.Common.{◌≡◌, ◌∙◌, ap, refl, List, ℕ}
use Rattle.raft_log_memtables.specs.Content.{Content, after_batch}
use Rattle.raft_content_log.specs.Plain.{seen_in}
use Rattle.raft_content_log.proofs.Elsewhere.{unnamed_stays}
use Rattle.raft_content_log.proofs.Written.{lies_now, seen_now}
use Rattle.raft_content_log.proofs.plain_log.PlainLogContentLog.write.Goals as goal

pub invariant_of-self-in-Ok : goal.invariant_of-self-in-Ok
invariant_of-self-in-Ok c =
    record {
      lies = λ kept. lies_now c.args.self.now.blocks.items c.push.new.self.items c.in_ok-block.block c.args.batch.now.items c.block_of.new.batch.items c.drain-items.result _ c.args.self.now.tables c.apply.new.self
          (c.args.self.now.lies kept) c.in_ok-block.ensures.block c.block_of.ensures.kept c.drain-items.ensures.items
          (c.new-id.ensures.seq ∙ c.len-seq.ensures ∙ c.args.self.now.blocks.ok.0) c.in-Ok.ensures.content c.in_ok-push.ensures.items;
    }

pub returns-clause-ok : goal.returns-clause-ok
returns-clause-ok c = λ kept takes.
    let seen : seen_in c.push.new.self.items c.apply.new.self ≡ after_batch c.args.batch.now.items (seen_in c.args.self.now.blocks.items c.args.self.now.tables) =
    seen_now c.args.self.now.blocks.items c.push.new.self.items c.in_ok-block.block c.args.batch.now.items c.block_of.new.batch.items c.drain-items.result _ c.args.self.now.tables c.apply.new.self
    (c.args.self.now.lies kept) c.in_ok-block.ensures.block c.block_of.ensures.kept c.drain-items.ensures.items
    (c.new-id.ensures.seq ∙ c.len-seq.ensures ∙ c.args.self.now.blocks.ok.0) c.in-Ok.ensures.content c.in_ok-push.ensures.items in
    record { answers = seen; leaves_only = λ left is. is.1 ∙ seen }

pub returns-clause-others : goal.returns-clause-others
returns-clause-others c = λ left is.
    let seen : seen_in c.push.new.self.items c.apply.new.self ≡ after_batch c.args.batch.now.items (seen_in c.args.self.now.blocks.items c.args.self.now.tables) =
    seen_now c.args.self.now.blocks.items c.push.new.self.items c.in_ok-block.block c.args.batch.now.items c.block_of.new.batch.items c.drain-items.result _ c.args.self.now.tables c.apply.new.self
    (c.args.self.now.lies is.0) c.in_ok-block.ensures.block c.block_of.ensures.kept c.drain-items.ensures.items
    (c.new-id.ensures.seq ∙ c.len-seq.ensures ∙ c.args.self.now.blocks.ok.0) c.in-Ok.ensures.content c.in_ok-push.ensures.items in (
      seen_in c.args.self.now.blocks.items c.args.self.now.tables,
      (is.0, refl),
      λ group un. ap (λ (one : Content (List ℕ)). one group) (is.1 ∙ seen) ∙ unnamed_stays c.args.batch.now.items _ group un,
    )

pub returns-clause-others_answered : goal.returns-clause-others_answered
returns-clause-others_answered c = λ kept.
    let seen : seen_in c.push.new.self.items c.apply.new.self ≡ after_batch c.args.batch.now.items (seen_in c.args.self.now.blocks.items c.args.self.now.tables) =
    seen_now c.args.self.now.blocks.items c.push.new.self.items c.in_ok-block.block c.args.batch.now.items c.block_of.new.batch.items c.drain-items.result _ c.args.self.now.tables c.apply.new.self
    (c.args.self.now.lies kept) c.in_ok-block.ensures.block c.block_of.ensures.kept c.drain-items.ensures.items
    (c.new-id.ensures.seq ∙ c.len-seq.ensures ∙ c.args.self.now.blocks.ok.0) c.in-Ok.ensures.content c.in_ok-push.ensures.items in
    (kept, λ group un. ap (λ (one : Content (List ℕ)). one group) seen ∙ unnamed_stays c.args.batch.now.items _ group un)
