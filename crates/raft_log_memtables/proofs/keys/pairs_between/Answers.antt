use Rattle.std.proofs.Common.{◌≡◌, map, List, sym, ap, subst, ◌∙◌, [], ◌∷◌, ◌++◌, refl, ℕ}
use Rattle.std.specs.Option.{option_copied}
use Rattle.std.specs.Map.Iter.{deref_pair}
use Rattle.std.proofs.lemmas.List.{map_push}
use Rattle.raft_log_memtables.specs.KeyRange.{shown}
use Rattle.raft_log_memtables.specs.MemTable.{value_of}
use Rattle.raft_log_memtables.specs.Scan.{AreKeysBetween}
use Rattle.raft_log_memtables.proofs.Scanning.{empty_backwards, keys_between, is_forward, shown_more, shown_all}
use Rattle.raft_log_memtables.proofs.keys.pairs_between.Goals as goal

pub returns-then-is_backwards : goal.returns-then-is_backwards
returns-then-is_backwards c = rw c.new-pairs.ensures.items (empty_backwards _ _ _ (sym c.is_backwards.ensures ∙ c.if-is_backwards.true))

pub range-key-items-requires : goal.range-key-items-requires
range-key-items-requires c = is_forward c.in_ok-first.first c.in_ok-limit.limit (option_copied c.args.start) (option_copied c.args.end) c.in_ok-first.ensures c.in_ok-limit.ensures (sym c.is_backwards.ensures ∙ c.if-is_backwards.false)

pub loop-key-init : goal.loop-key-init
loop-key-init c = rw c.new-pairs.ensures.items refl

pub loop-key-preserved : goal.loop-key-preserved
loop-key-preserved c =
    let pair : deref_pair (c.as_slice.result, c.as_slice-in-loop-key.result) ≡ shown (c.in-Some.key.now, c.in-Some.value.now) = λ i. (c.as_slice.ensures.value i, c.as_slice-in-loop-key.ensures.value i) in
    shown_more (map deref_pair c.loop-key.pairs.items) (map deref_pair c.push.new.self.items) (c.in-Some.key.now, c.in-Some.value.now) c.next.new.self c.loop-key.key-iterator _
    (ap (map deref_pair) c.in_ok-push.ensures.items ∙ map_push deref_pair c.loop-key.pairs.items (c.as_slice.result, c.as_slice-in-loop-key.result) ∙ ap (λ (p : List ℕ × List ℕ). map deref_pair c.loop-key.pairs.items ++ p ∷ []) pair)
    c.in-Some.ensures.steps c.loop-key.invariant

pub returns : goal.returns
returns c =
    subst (AreKeysBetween (value_of c.args.keys.now) (option_copied c.args.start) (option_copied c.args.end))
    (shown_all (map deref_pair c.loop-key.pairs.items) c.loop-key.key-iterator c.into_iter-key-iterator.result _ c.in-None.ensures.steps.0 (c.into_iter-key-iterator.ensures.into_iter_gives ∙ c.range-key-items.ensures.between tt) c.loop-key.invariant)
    (keys_between c.args.keys.now c.in_ok-first.first c.in_ok-limit.limit (option_copied c.args.start) (option_copied c.args.end) c.in_ok-first.ensures c.in_ok-limit.ensures c.range-key-items.ensures.ordered)
