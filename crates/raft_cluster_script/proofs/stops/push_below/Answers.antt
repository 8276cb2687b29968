use Rattle.std.proofs.Common.{◌≡◌, ℕ, Bool, true, false, nat_lt, take, ap, ◌∙◌, filter, arith}
use Rattle.std.proofs.lemmas.Bool.Decides.{nat_tests}
use Rattle.raft_machines.specs.declared.telling.UnknownTokens.{UnknownTokens}
use Rattle.raft_cluster_script.proofs.StopLemmas.{left_out, picked, tokens_more}
use Rattle.raft_cluster_script.proofs.stops.push_below.Goals as goal
use Rattle.raft_cluster_script.proofs.stops.push_below.Goals.{then-one-group+in_ok-push_tokens, else-one-group}

pub loop-one-preserved : goal.loop-one-preserved
loop-one-preserved c =
    let at = c.loop-one in
    let xs = c.args.unknown.now in
    let g : ℕ = c.args.group in
    let counts : UnknownTokens → Bool = λ one. nat_lt one.group g in
    elim c.if-one-group.branch [
      | then-one-group+in_ok-push_tokens w ↦
          let takes : counts c.one-item.result ≡ true = grind (arith, nat_tests, w.if-one-group.true) in
          ap (λ v. v.items) w.all-is
          ∙ tokens_more c.args.all.now.items at.all.items w.push_tokens.new.all.items w.as_slice.result.now (filter counts (take at.one-index xs)) _ c.one-item.result
          (picked xs at.one-index c.one-item.result c.loop-one-test.true c.one-item.is counts takes) at.invariant w.as_slice.ensures.value w.in_ok-push_tokens.ensures
      | else-one-group w ↦
          let leaves : counts c.one-item.result ≡ false = grind (arith, nat_tests, w.if-one-group.false) in
          ap (λ v. v.items) w.all-is
          ∙ left_out xs at.one-index c.one-item.result c.loop-one-test.true c.one-item.is counts c.args.all.now.items at.all.items leaves at.invariant
    ]
