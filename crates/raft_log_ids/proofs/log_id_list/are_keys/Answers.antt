use Rattle.std.proofs.Common.{◌+◌, refl, sym, subst, ◌∙◌, drop, get_or}
use Rattle.std.proofs.lemmas.List.{drop_all}
use Rattle.raft_log_ids.specs.LogIdList.{AreKeys}
use Rattle.raft_log_ids.proofs.KeyTestLemmas.{rest_whole, LeadsOn, keys-first, keys-before}
use Rattle.raft_log_ids.proofs.log_id_list.are_keys.Goals as goal

pub loop-at-preserved : goal.loop-at-preserved
loop-at-preserved g c =
    let cmp = g.NID.Ord.cmp in
    let keys = c.args.keys.now in
    let at = c.loop-at.at in
    let key = c.index-keys-at.result in
    let on = subst (LeadsOn cmp key) (rest_whole keys (at + 1)) (c.leads_on.ensures.0 c.if-not-leads_on.false) in
    let led : LeadsOn cmp (get_or keys at key) (drop (at + 1) keys) = subst (λ x. LeadsOn cmp x (drop (at + 1) keys)) c.index-keys-at.is on in (
      λ h. (keys-first cmp keys at key c.loop-at-test.true (c.loop-at.invariant.0 h)).1,
      λ h. c.loop-at.invariant.1 (keys-before cmp keys at key c.loop-at-test.true led h),
    )

pub returns-then-not-leads_on : goal.returns-then-not-leads_on
returns-then-not-leads_on g c =
    let cmp = g.NID.Ord.cmp in
    let keys = c.args.keys.now in
    let at = c.loop-at.at in
    let key = c.index-keys-at.result in (
      λ h. cc,
      λ h. sym c.if-not-leads_on.true
          ∙ (c.leads_on.ensures.1
          (subst (LeadsOn cmp key) (sym (rest_whole keys (at + 1)))
          (subst (λ x. LeadsOn cmp x (drop (at + 1) keys)) (sym c.index-keys-at.is) (keys-first cmp keys at key c.loop-at-test.true (c.loop-at.invariant.0 h)).0))),
    )

pub returns : goal.returns
returns g c =
    (λ h. c.loop-at.invariant.1 (subst (AreKeys g.NID.Ord.cmp) (sym (drop_all c.loop-at.at c.args.keys.now c.loop-at-test.false)) (tt, tt)), λ h. refl)
