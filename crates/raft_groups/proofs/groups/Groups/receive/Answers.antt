-- The group's member takes the message, and the others stay.
use Rattle.std.proofs.Common.{rules, ◌≡◌, ℕ, Option, Some, None, sym, subst}
use Rattle.std.specs.Ordering.{nat_cmp}
use Rattle.std.specs.BTreeMap.{get}
use Rattle.raft_group_step.specs.GroupEvent.{Receive}
use Rattle.raft_member.specs.Member.{HasEnded, HasStopped, IsLawful, IsUp}
use Rattle.raft_groups.proofs.StandingLemmas.{of_group, stays}
use Rattle.raft_groups.proofs.groups.Groups.receive.Goals as goal

pub returns-in-Ok-clause-ok : goal.returns-in-Ok-clause-ok
returns-in-Ok-clause-ok g c = λ said s going says up lawful.
    let old : ℕ → Option _ = get nat_cmp c.args.self.now.members in
    let new : ℕ → Option _ = get nat_cmp (c.get_mut.follows.lender c.receive.new.self) in
    let was : old c.args.group ≡ Some c.in-Some.member.now = search rules in
    let now : new c.args.group ≡ Some c.receive.new.self = search rules in
    of_group c.args.self.now.id c.args.group old new c.in-Some.member.now c.receive.new.self
    (λ m. IsUp (g.S.GroupStorage.is_well c.args.self.now.storage) (g.S.GroupStorage.shows c.args.self.now.storage c.args.group) m s)
    (λ n m. HasEnded g.S.GroupStorage.stands (g.S.GroupStorage.is_well c.receive.new.storage) (g.S.GroupStorage.shows c.receive.new.storage c.args.group) n s (Receive c.args.message.now.sender said c.args.now) None m c.in-Ok.ended)
    up was now c.receive.ensures.id
    (λ own here. c.in-Ok.ensures.ok said s says here (subst (λ n. IsLawful n s) (sym own) lawful))

pub returns-in-Ok-clause-others : goal.returns-in-Ok-clause-others
returns-in-Ok-clause-others g c = λ other x apart stands.
    let old : ℕ → Option _ = get nat_cmp c.args.self.now.members in
    let new : ℕ → Option _ = get nat_cmp (c.get_mut.follows.lender c.receive.new.self) in
    let same : new other ≡ old other = search rules in
    stays c.args.self.now.id old new _ _ _ _ c.args.group other x same c.in-Ok.ensures.well c.receive.ensures.others apart stands

pub returns-in-Err-clause-err : goal.returns-in-Err-clause-err
returns-in-Err-clause-err g c = λ said s going says up lawful.
    let old : ℕ → Option _ = get nat_cmp c.args.self.now.members in
    let new : ℕ → Option _ = get nat_cmp (c.get_mut.follows.lender c.receive.new.self) in
    let was : old c.args.group ≡ Some c.in-Some.member.now = search rules in
    let now : new c.args.group ≡ Some c.receive.new.self = search rules in
    of_group c.args.self.now.id c.args.group old new c.in-Some.member.now c.receive.new.self
    (λ m. IsUp (g.S.GroupStorage.is_well c.args.self.now.storage) (g.S.GroupStorage.shows c.args.self.now.storage c.args.group) m s)
    (λ n m. HasStopped (g.S.GroupStorage.shows c.receive.new.storage c.args.group) (g.S.GroupStorage.fails c.receive.new.storage) n s (Receive c.args.message.now.sender said c.args.now) m)
    up was now c.receive.ensures.id
    (λ own here. c.in-Err.ensures.err said s says here (subst (λ n. IsLawful n s) (sym own) lawful))
