use Rattle.std.proofs.Common.{◌≡◌, sym, ◌∙◌, ap, true, false, length}
use Rattle.std.specs.Ordering.{is_eq}
use Rattle.raft_log_ids.specs.LogIdList.{ends_in_pair}
use Rattle.raft_log_ids.proofs.KeyOrderLemmas.{ids_of-replace, AreKeys-push, AreKeys-replace}
use Rattle.raft_log_ids.proofs.LogIdListLemmas.{ids_of-push}
use Rattle.raft_log_ids.proofs.GrowthLemmas.{on_err, fewer_keys-pushed}
use Rattle.raft_log_ids.proofs.log_id_list.append_key.Given as given
use Rattle.raft_log_ids.proofs.log_id_list.append_key.Goals as goal

told_apart : (g : given.Over) (x y : _) → is_eq (g.NID.Ord.cmp x y) ≡ true → x ≡ y
told_apart g x y e = g.met.NID.NodeIdEssential.equal_is_same x y (g.met.NID.Ord.matches_eq x y ∙ e)

paired : (g : given.Over) (c : goal.After-set g) → ends_in_pair g.NID.Ord.cmp c.args.keys.now ≡ true
paired g c = ap (ends_in_pair g.NID.Ord.cmp) (sym c.as_slice.ensures) ∙ sym c.ends_in_pair.ensures ∙ c.if-ends_in_pair.true

unpaired : (g : given.Over) (c : goal.In_ok-push g) → ends_in_pair g.NID.Ord.cmp c.args.keys.now ≡ false
unpaired g c = ap (ends_in_pair g.NID.Ord.cmp) (sym c.as_slice.ensures) ∙ sym c.ends_in_pair.ensures ∙ c.if-ends_in_pair.false

pub returns-then-ends_in_pair-clause-ok : goal.returns-then-ends_in_pair-clause-ok
returns-then-ends_in_pair-clause-ok g c =
    rw (c.set.ensures, c.len-last.ensures) (ids_of-replace g.NID.Ord.cmp (told_apart g) c.args.keys.now c.args.id c.requires.keys.0 (paired g c)
    c.requires.goes_on)

pub returns-then-ends_in_pair-clause-keys : goal.returns-then-ends_in_pair-clause-keys
returns-then-ends_in_pair-clause-keys g c =
    rw (c.set.ensures, c.len-last.ensures) (AreKeys-replace g.NID.Ord.cmp c.args.keys.now c.args.id c.requires.keys c.requires.goes_on)

pub returns-clause-ok : goal.returns-clause-ok
returns-clause-ok g c =
    rw c.in_ok-push.ensures.ok (ids_of-push c.args.keys.now c.args.id c.requires.keys.0 c.requires.goes_on)

pub returns-clause-keys : goal.returns-clause-keys
returns-clause-keys g c =
    rw c.in_ok-push.ensures.ok (AreKeys-push g.NID.Ord.cmp c.args.keys.now c.args.id c.requires.keys (unpaired g c) c.requires.goes_on)

pub returns-in_err-push-clause-only : goal.returns-in_err-push-clause-only
returns-in_err-push-clause-only g c =
    let unpaired : ends_in_pair g.NID.Ord.cmp c.args.keys.now ≡ false =
    ap (ends_in_pair g.NID.Ord.cmp) (sym c.as_slice.ensures) ∙ sym c.ends_in_pair.ensures ∙ c.if-ends_in_pair.false in
    on_err c.from_residual.result
    (fewer_keys-pushed g.NID.Ord.cmp g.met.NID.Ord.total c.args.keys.now c.args.id c.requires.keys unpaired c.requires.goes_on)
