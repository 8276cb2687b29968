use Rattle.std.specs.Prelude.{◌≡◌, ◌-◌, ◌++◌, ℕ, List, Some, drop, length, replicate, take, vec_len, refl}
use Rattle.std.proofs.Common.{get_or, sym, ap, ◌∙◌, subst, arith}
use Rattle.std.proofs.lemmas.Option.{slice_get_read}
use Rattle.raft_group_step.specs.Values.{Entry}
use Rattle.raft_group_lists.specs.declared.notes.Noted.{Noted}
use Rattle.raft_group_lists.specs.Notes.{AreWithin, count_in, count_to, entries_at, list_to}
use Rattle.raft_group_lists.proofs.ListLemmas.{entries_append, kept_front, whole_slice, within_append}
use Rattle.raft_group_lists.proofs.settle.go_on.Goals as goal

pub returns-clause-ok : goal.returns-clause-ok
returns-clause-ok c =
    let noted = c.args.noted.now in
    let old = c.args.listed.now.items in
    let new = c.fill_above.new.listed in
    let floor = c.len-floor.result in
    let x = c.index-noted-last.result in
    let there = slice_get_read noted (length noted) c.args.last x refl c.requires.within c.index-noted-last.is in
    let count : count_to noted (Some c.args.last) ≡ x.count = ap count_in there in
    let start : floor ≡ length old = omega (arith, c.len-floor.ensures, c.args.listed.now.ok.0) in
    let size : length new ≡ length c.resize.new.self.items = c.fill_above.ensures.size ∙ ap length c.as_mut_slice.ensures.value in
    let whole = whole_slice c.resize.new.self.len new c.resize.new.self.items size c.resize.new.self.ok.0 in
    let same : take floor new ≡ take floor c.resize.new.self.items = c.fill_above.ensures.before ∙ ap (take floor) c.as_mut_slice.ensures.value in
    let m = (get_or noted c.args.last x).count in
    let read : x.count ≡ m = ap (λ (y : Noted). y.count) c.index-noted-last.is in
    let front = kept_front floor m old new c.resize.new.self.items (replicate (m - vec_len c.args.listed.now) c.args.last) start (omega (arith, c.requires.above)) c.in_ok-resize.ensures.items same in
    ap (entries_at noted) (whole ∙ front)
    ∙ entries_append noted old (drop floor new)
    ∙ ap (λ (es : List Entry). entries_at noted old ++ es)
    (c.fill_above.ensures.entries ∙ ap (λ (n : ℕ). drop n (list_to noted (Some c.args.last))) start)

pub returns-clause-within : goal.returns-clause-within
returns-clause-within c =
    let noted = c.args.noted.now in
    let old = c.args.listed.now.items in
    let new = c.fill_above.new.listed in
    let floor = c.len-floor.result in
    let x = c.index-noted-last.result in
    let there = slice_get_read noted (length noted) c.args.last x refl c.requires.within c.index-noted-last.is in
    let count : count_to noted (Some c.args.last) ≡ x.count = ap count_in there in
    let start : floor ≡ length old = omega (arith, c.len-floor.ensures, c.args.listed.now.ok.0) in
    let size : length new ≡ length c.resize.new.self.items = c.fill_above.ensures.size ∙ ap length c.as_mut_slice.ensures.value in
    let whole = whole_slice c.resize.new.self.len new c.resize.new.self.items size c.resize.new.self.ok.0 in
    let same : take floor new ≡ take floor c.resize.new.self.items = c.fill_above.ensures.before ∙ ap (take floor) c.as_mut_slice.ensures.value in
    let m = (get_or noted c.args.last x).count in
    let read : x.count ≡ m = ap (λ (y : Noted). y.count) c.index-noted-last.is in
    let front = kept_front floor m old new c.resize.new.self.items (replicate (m - vec_len c.args.listed.now) c.args.last) start (omega (arith, c.requires.above)) c.in_ok-resize.ensures.items same in
    subst (AreWithin noted) (sym (whole ∙ front)) (within_append noted old (drop floor new) c.requires.listed c.fill_above.ensures.within)
