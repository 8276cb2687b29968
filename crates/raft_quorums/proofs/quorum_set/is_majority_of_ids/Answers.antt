use Rattle.std.proofs.Common.{◌≡◌, ◌≤◌, ◌+◌, ℕ, Bool, true, false, List, length, drop, cond, sym, ap, ◌∙◌, arith}
use Rattle.std.specs.List.{count_by}
use Rattle.raft_quorums.specs.Quorum.{each_once}
use Rattle.raft_quorums.specs.QuorumLaws.{count_more}
use Rattle.raft_quorums.proofs.EachOnceLemmas.{stands_again, stands_last}
use Rattle.raft_quorums.proofs.quorum_set.is_majority_of_ids.Goals as goal
use Rattle.raft_quorums.proofs.quorum_set.is_majority_of_ids.Goals.{then-has_id, else-has_id}

pub loop-at-preserved-then-contains : goal.loop-at-preserved-then-contains
loop-at-preserved-then-contains g c =
    let same = stands_again g.ID.PartialEq.eq c.args.ids.now c.loop-at.at c.index-ids-at.result c.loop-at-test.true c.index-ids-at.is
    c.contains.result c.contains.ensures.value c.if-contains.true in
    record {
      few = omega (arith, c.loop-at.invariant.few);
      within = c.loop-at.invariant.within;
      all = ap (λ (l : List _). c.loop-at.total + length l) (sym same) ∙ c.loop-at.invariant.all;
      counted = ap (λ l. c.loop-at.count + count_by (g.S.HasId.has c.args.nodes.now) l) (sym same) ∙ c.loop-at.invariant.counted;
    }

one_counted : (b : Bool) (n m : ℕ) → b ≡ true → m ≡ n + 1 → m ≡ n + cond b 1 0
one_counted true n m h e = e
one_counted false n m h e = cc h

none_counted : (b : Bool) (n m : ℕ) → b ≡ false → m ≡ n → m ≡ n + cond b 1 0
none_counted false n m h e = omega (arith, e)
none_counted true n m h e = cc h

pub loop-at-preserved : goal.loop-at-preserved
loop-at-preserved g c =
    let p = g.S.HasId.has c.args.nodes.now in
    let id = c.index-ids-at.result in
    let rest = each_once g.ID.PartialEq.eq (drop (c.loop-at.at + 1) c.args.ids.now) in
    let more = stands_last g.ID.PartialEq.eq c.args.ids.now c.loop-at.at id c.loop-at-test.true c.index-ids-at.is
    c.contains.result c.contains.ensures.value c.if-contains.false in
    let all = ap (λ (l : List _). c.loop-at.total + length l) (sym more) ∙ c.loop-at.invariant.all in
    let counted = ap (λ l. c.loop-at.count + count_by p l) (sym more) ∙ c.loop-at.invariant.counted in
    let grown : c.if-has_id.count ≡ c.loop-at.count + cond (p id) 1 0 =
    elim c.if-has_id.branch [
      | then-has_id w ↦ one_counted (p id) c.loop-at.count c.if-has_id.count (sym c.has_id.ensures ∙ w.if-has_id.true) w.count-is
      | else-has_id w ↦ none_counted (p id) c.loop-at.count c.if-has_id.count (sym c.has_id.ensures ∙ w.if-has_id.false) w.count-is
    ] in
    let below : cond (p id) 1 0 ≤ 1 = elim (p id) as (λ b. cond b 1 0 ≤ 1) [ true ↦ omega arith | false ↦ omega arith ] in
    record {
      few = omega (arith, c.loop-at.invariant.few);
      within = omega (arith, c.loop-at.invariant.within, grown, below);
      all = omega (arith, all);
      counted = omega (arith, counted, grown, count_more p id rest);
    }
