use Rattle.std.specs.Prelude.{◌≡◌, ◌++◌, ◌<◌, ◌≤◌, ℕ, List, Some, drop, length, refl}
use Rattle.std.proofs.Common.{sym, ap, ◌∙◌, arith}
use Rattle.raft_group_step.specs.Values.{Entry}
use Rattle.raft_group_lists.specs.Notes.{entries_at, list_to, passes, settled_by}
use Rattle.raft_group_lists.proofs.KeepLemmas.{count_low}
use Rattle.raft_group_lists.proofs.ListLemmas.{entries_size, grows_on, stays_on}
use Rattle.raft_group_lists.proofs.WalkLemmas.{list_size, within_some}
use Rattle.raft_group_lists.proofs.settle.settle.Goals as goal

pub returns-in_ok-go_on-in-Some-clause-ok : goal.returns-in_ok-go_on-in-Some-clause-ok
returns-in_ok-go_on-in-Some-clause-ok c =
    let j = c.args.judge.now in
    let noted = c.args.noted.now in
    let old = c.args.listed.now.items in
    let settled = settled_by (passes j.voters.now j.leader j.reached.now j.node j.place) (list_to noted c.args.last) in
    let count : c.len.result ≡ length old = omega (arith, c.len.ensures, c.args.listed.now.ok.0) in
    let size = entries_size noted old c.requires.listed in
    let long = ap length c.in-Some.ensures.2 ∙ list_size noted c.requires.joined (Some c.in-Some.at) (within_some noted c.in-Some.at c.in-Some.ensures.0) in
    let more : length (entries_at noted old) < length settled = let less = c.in-Some.ensures.1 in omega arith in
    grows_on (entries_at noted old) settled (entries_at noted c.go_on.new.listed.items) more
    (c.in_ok-go_on-in-Some.ensures.ok
    ∙ ap (λ (es : List Entry). entries_at noted old ++ drop (length old) es) (sym c.in-Some.ensures.2)
    ∙ ap (λ (n : ℕ). entries_at noted old ++ drop n settled) (sym size))

pub returns-in-None-clause-ok : goal.returns-in-None-clause-ok
returns-in-None-clause-ok c =
    let j = c.args.judge.now in
    let noted = c.args.noted.now in
    let old = c.args.listed.now.items in
    let settled = settled_by (passes j.voters.now j.leader j.reached.now j.node j.place) (list_to noted c.args.last) in
    let count : c.len.result ≡ length old = omega (arith, c.len.ensures, c.args.listed.now.ok.0) in
    let size = entries_size noted old c.requires.listed in
    let short : length settled ≤ length (entries_at noted old) = let less = c.in-None.ensures in omega arith in
    stays_on (entries_at noted old) settled (entries_at noted old) short refl

pub returns-in_err-go_on-in-Some-clause-room : goal.returns-in_err-go_on-in-Some-clause-room
returns-in_err-go_on-in-Some-clause-room c =
    let noted = c.args.noted.now in
    let low = count_low noted c.requires.joined (Some c.in-Some.at) (within_some noted c.in-Some.at c.in-Some.ensures.0) in
    λ fits. absurd (let no = c.in_err-go_on-in-Some.ensures.room (omega arith) in cc)
