use Rattle.std.proofs.Common.{◌≡◌, ℕ, ◌+◌, ◌-◌, ◌<◌, ◌≤◌, List, ◌∷◌, ◌++◌, length, set, take, drop, sym, ◌∙◌, arith, ap, subst, length-drop, length-set}
use Rattle.std.proofs.lemmas.List.{drop-set, take_at}
use Rattle.raft_values.specs.declared.log_id.LogId.{LogId}
use Rattle.raft_log_ids.specs.LogIdList.{ids_of, AreKeys}
use Rattle.raft_log_ids.proofs.KeyCutLemmas.{id_by}
use Rattle.raft_log_ids.proofs.KeyCountLemmas.{purged-none_counted, purged-inside_counted}
use Rattle.raft_log_ids.proofs.KeyRestLemmas.{AreKeys-rest}
use Rattle.raft_log_ids.proofs.log_id_list.drop_keys.Given as given
use Rattle.raft_log_ids.proofs.log_id_list.drop_keys.Goals as goal

pub returns-then-count-eq0-clause-ids : goal.returns-then-count-eq0-clause-ids
returns-then-count-eq0-clause-ids g c =
    let said = rw c.as_slice.ensures at c.count_up_to-count.ensures in
    let none = rw c.if-count-eq0.true at said.above c.requires.keys.0 in
    sym (purged-none_counted c.args.keys.now c.args.upto.now c.requires.keys.0 c.requires.reaches none)

left : (g : given.Over) (c : goal.After-drop_front g)
    → c.drop_front.new.self ≡ id_by c.index-as_slice-first.result.leader_id c.args.upto.now.index ∷ drop c.count_up_to-count.result c.args.keys.now
left g c =
    let said = rw c.as_slice.ensures at c.count_up_to-count.ensures in
    let keys = c.args.keys.now in
    let count = c.count_up_to-count.result in
    let back : count - 1 + 1 ≡ count = omega arith in
    c.drop_front.ensures ∙ ap (drop (count - 1)) c.set.ensures ∙ drop-set keys (count - 1) c.new.result (omega arith)
    ∙ ap (λ m. c.new.result ∷ drop m keys) back ∙ ap (λ x. x ∷ drop count keys) c.new.ensures

kept : (g : given.Over) (c : goal.After-drop_front g)
    → AreKeys g.NID.Ord.cmp (id_by c.index-as_slice-first.result.leader_id c.args.upto.now.index ∷ drop c.count_up_to-count.result c.args.keys.now)
kept g c =
    let said = rw c.as_slice.ensures at c.count_up_to-count.ensures in
    let found = rw c.as_slice-2.ensures at c.index-as_slice-first.is in
    AreKeys-rest g.NID.Ord.cmp c.args.keys.now c.count_up_to-count.result c.index-as_slice-first.result c.args.upto.now.index c.requires.keys
    (omega arith) said.within found (said.above c.requires.keys.0)

pub returns-clause-ids : goal.returns-clause-ids
returns-clause-ids g c =
    let said = rw c.as_slice.ensures at c.count_up_to-count.ensures in
    let found = rw c.as_slice-2.ensures at c.index-as_slice-first.is in
    let low : c.index-as_slice-first.result.index ≤ c.args.upto.now.index =
    subst (λ (x : LogId _). x.index ≤ c.args.upto.now.index) (sym found) (said.below c.requires.keys.0 (c.count_up_to-count.result - 1) c.index-as_slice-first.result (omega arith)) in
    ap ids_of (left g c)
    ∙ sym (purged-inside_counted c.args.keys.now c.count_up_to-count.result c.index-as_slice-first.result c.args.upto.now c.requires.keys.0 c.requires.reaches
    (omega arith) said.within found low (said.above c.requires.keys.0) (kept g c).0)

pub returns-clause-keys : goal.returns-clause-keys
returns-clause-keys g c = rw (left g c) (kept g c)
