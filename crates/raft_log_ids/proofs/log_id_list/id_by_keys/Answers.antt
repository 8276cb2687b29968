use Rattle.std.proofs.Common.{◌≡◌, ◌<◌, ◌≤◌, ◌-◌, ℕ, length, get_or, List, sym, ◌∙◌, arith, ap, subst}
use Rattle.std.specs.Prelude.{Some}
use Rattle.raft_values.specs.declared.log_id.LogId.{LogId}
use Rattle.raft_log_ids.proofs.KeyCountLemmas.{id_at-none_counted, id_at-some_counted, id_at-last_counted, id_at-past_counted}
use Rattle.raft_log_ids.proofs.log_id_list.id_by_keys.Goals as goal

pub returns-then-count-eq0 : goal.returns-then-count-eq0
returns-then-count-eq0 g c =
    sym (id_at-none_counted c.args.keys.now c.args.index c.requires
    (λ d h. subst (λ n. c.args.index < (get_or c.args.keys.now n d).index) c.if-count-eq0.true (c.count_up_to-count.ensures.above c.requires d (omega arith))))

-- the key is one of those up to the place
low : {K : Type 0} (keys : List (LogId K)) (count : ℕ) (key : LogId K) (index : ℕ) → ((k : ℕ) (d : LogId K) → k < count → (get_or keys k d).index ≤ index)
    → 0 < count → key ≡ get_or keys (count - 1) key → key.index ≤ index
low keys count key index below h e = subst (λ (x : LogId _). x.index ≤ index) (sym e) (below (count - 1) key (omega arith))

pub returns-then-count-keys : goal.returns-then-count-keys
returns-then-count-keys g c =
    ap Some c.new.ensures
    ∙ sym (id_at-some_counted c.args.keys.now c.count_up_to-count.result c.index-keys-count.result c.args.index c.requires (omega arith) (omega arith) c.index-keys-count.is
    (low c.args.keys.now c.count_up_to-count.result c.index-keys-count.result c.args.index (c.count_up_to-count.ensures.below c.requires) (omega arith) c.index-keys-count.is)
    (λ d. c.count_up_to-count.ensures.above c.requires d c.if-count-keys.true))

pub returns-then-key-index : goal.returns-then-key-index
returns-then-key-index g c =
    let all : c.count_up_to-count.result ≡ length c.args.keys.now = omega arith in
    sym (id_at-last_counted c.args.keys.now c.index-keys-count.result c.args.index c.requires (omega arith)
    (c.index-keys-count.is ∙ ap (λ n. get_or c.args.keys.now (n - 1) c.index-keys-count.result) all) c.if-key-index.true)

pub returns-else-key-index : goal.returns-else-key-index
returns-else-key-index g c =
    let all : c.count_up_to-count.result ≡ length c.args.keys.now = omega arith in
    let at_most : c.index-keys-count.result.index ≤ c.args.index =
    low c.args.keys.now c.count_up_to-count.result c.index-keys-count.result c.args.index (c.count_up_to-count.ensures.below c.requires) (omega arith) c.index-keys-count.is in
    sym (id_at-past_counted c.args.keys.now c.index-keys-count.result c.args.index c.requires (omega arith)
    (c.index-keys-count.is ∙ ap (λ n. get_or c.args.keys.now (n - 1) c.index-keys-count.result) all) (omega arith))
