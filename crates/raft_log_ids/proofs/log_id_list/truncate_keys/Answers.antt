use Rattle.std.proofs.Common.{◌≡◌, ℕ, ◌-◌, ◌<◌, ◌≤◌, List, length, get_or, sym, ◌∙◌, arith, ap, subst}
use Rattle.raft_values.specs.declared.log_id.LogId.{LogId}
use Rattle.raft_log_ids.specs.LogIdList.{ids_of}
use Rattle.raft_log_ids.proofs.KeyCutLemmas.{id_by, truncated-before}
use Rattle.raft_log_ids.proofs.KeyCountLemmas.{truncated-all_counted, truncated-pair_counted, truncated-front_counted}
use Rattle.raft_log_ids.proofs.KeyRestLemmas.{AreKeys-take, AreKeys-pair}
use Rattle.raft_log_ids.proofs.log_id_list.truncate_keys.Goals as goal

pub returns-then-at-eq0-clause-ids : goal.returns-then-at-eq0-clause-ids
returns-then-at-eq0-clause-ids g c =
    ap ids_of c.clear.ensures ∙ sym (truncated-before c.args.keys.now c.args.at c.requires.0 (λ d h. omega arith))

-- the key at the count is above the place right below
above-place : {K : Type 0} (keys : List (LogId K)) (count at : ℕ) → ((d : LogId K) → count < length keys → at - 1 < (get_or keys count d).index) → count < length keys
    → (d : LogId K) → at ≤ (get_or keys count d).index
above-place keys count at above h d = let more = above d h in omega (arith, more)

pub returns-then-count-eq0-clause-ids : goal.returns-then-count-eq0-clause-ids
returns-then-count-eq0-clause-ids g c =
    let said = rw c.as_slice.ensures at c.count_up_to-count.ensures in
    let none = rw c.if-count-eq0.true at said.above c.requires.0 in
    ap ids_of c.clear-then-count-eq0.ensures
    ∙ sym (truncated-before c.args.keys.now c.args.at c.requires.0 (λ d h. let more = none d h in omega (arith, more)))

pub returns-then-count-len-clause-ids : goal.returns-then-count-len-clause-ids
returns-then-count-len-clause-ids g c =
    let said = rw c.as_slice.ensures at c.count_up_to-count.ensures in
    let long : length c.args.keys.now ≡ c.count_up_to-count.result =
    sym c.len.ensures ∙ sym c.if-count-len.true in
    sym (truncated-all_counted c.args.keys.now c.args.at c.requires.0 (omega arith)
    (λ k d h. let low = said.below c.requires.0 k d (omega arith) in omega (arith, low)))

-- the key is one of those up to the place
low : {K : Type 0} (keys : List (LogId K)) (count : ℕ) (key : LogId K) (index : ℕ) → ((k : ℕ) (d : LogId K) → k < count → (get_or keys k d).index ≤ index)
    → 0 < count → key ≡ get_or keys (count - 1) key → key.index ≤ index
low keys count key index below h e = subst (λ (x : LogId _). x.index ≤ index) (sym e) (below (count - 1) key (omega arith))

pub returns-then-key-at-clause-ids : goal.returns-then-key-at-clause-ids
returns-then-key-at-clause-ids g c =
    let said = rw c.as_slice.ensures at c.count_up_to-count.ensures in
    let found = rw c.as_slice-2.ensures at c.index-as_slice-count.is in
    let long : length c.args.keys.now ≡ c.len.result =
    sym c.len.ensures in
    let within : c.count_up_to-count.result ≤ length c.args.keys.now = said.within in
    let inside : c.count_up_to-count.result < length c.args.keys.now = omega arith in
    rw (c.truncate.ensures, c.set.ensures, c.new.ensures)
    (truncated-pair_counted c.args.keys.now c.count_up_to-count.result c.index-as_slice-count.result c.args.at c.requires.0 (omega arith) inside
    found (omega arith) (above-place c.args.keys.now c.count_up_to-count.result c.args.at (said.above c.requires.0) inside))

pub returns-then-key-at-clause-keys : goal.returns-then-key-at-clause-keys
returns-then-key-at-clause-keys g c =
    let said = rw c.as_slice.ensures at c.count_up_to-count.ensures in
    let found = rw c.as_slice-2.ensures at c.index-as_slice-count.is in
    let long : length c.args.keys.now ≡ c.len.result =
    sym c.len.ensures in
    let within : c.count_up_to-count.result ≤ length c.args.keys.now = said.within in
    let inside : c.count_up_to-count.result < length c.args.keys.now = omega arith in
    rw (c.truncate.ensures, c.set.ensures, c.new.ensures)
    (AreKeys-pair g.NID.Ord.cmp c.args.keys.now c.count_up_to-count.result c.index-as_slice-count.result
    (id_by c.index-as_slice-count.result.leader_id (c.args.at - 1)) c.requires (omega arith) inside found c.if-key-at.true)

pub returns-clause-ids : goal.returns-clause-ids
returns-clause-ids g c =
    let said = rw c.as_slice.ensures at c.count_up_to-count.ensures in
    let found = rw c.as_slice-2.ensures at c.index-as_slice-count.is in
    let long : length c.args.keys.now ≡ c.len.result =
    sym c.len.ensures in
    let within : c.count_up_to-count.result ≤ length c.args.keys.now = said.within in
    let inside : c.count_up_to-count.result < length c.args.keys.now = omega arith in
    let at_most : c.index-as_slice-count.result.index ≤ c.args.at - 1 =
    low c.args.keys.now c.count_up_to-count.result c.index-as_slice-count.result (c.args.at - 1) (said.below c.requires.0) (omega arith) found in
    rw c.truncate-2.ensures
    (truncated-front_counted c.args.keys.now c.count_up_to-count.result c.index-as_slice-count.result c.args.at c.requires.0 (omega arith) inside
    found (omega arith) (above-place c.args.keys.now c.count_up_to-count.result c.args.at (said.above c.requires.0) inside))

pub returns-clause-keys : goal.returns-clause-keys
returns-clause-keys g c =
    rw c.truncate-2.ensures
    (AreKeys-take g.NID.Ord.cmp c.count_up_to-count.result c.args.keys.now c.requires)
