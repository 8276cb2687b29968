-- The log ids and the memberships of the entries come behind the others.
use Rattle.std.proofs.Common.{◌≡◌, ◌∙◌, ap, sym, subst, length, refl, arith}
use Rattle.std.proofs.lemmas.Bool.Decides.{nat_tests}
use Rattle.std.proofs.lemmas.Result.{on_ok_weaker}
use Rattle.raft_known_state.specs.KnownState.{AreInOrder, KnownState, Knows, memberships_in}
use Rattle.raft_known_state.proofs.KnownStateLemmas.{StateOf, both_ok, grown_in_order, grown_log, none_added, noted_known, noted_still, put}
use Rattle.raft_known_state.proofs.known_state.KnownState+u64+BasicNode.append.Goals as goal

pub returns-clause-known : goal.returns-clause-known
returns-clause-known c = λ s k p q.
    let old = c.args.self.now in
    let now : KnownState = record { state = c.extend_log_ids.new.self; memberships = c.push_memberships.new.memberships; wish = old.wish; highest_term = c.highest_term-self.result } in
    let same = c.in_ok-extend_log_ids.ensures.ok in
    let more = c.in_ok-push_memberships.ensures in
    both_ok c.refresh_if.result
    (c.refresh_if.ensures.noted (subst AreInOrder (sym more) (grown_in_order old s c.args.entries.now k p q))
    (λ h. noted_still old now (noted_known old s k) (ap (λ (y : StateOf). y.membership_state) same) (ap (λ (y : StateOf). y.snapshot_meta) same) (ap (λ (y : StateOf). y.committed) same)
    (more ∙ none_added old.memberships (memberships_in c.args.entries.now)
    (ap length (sym more) ∙ (let many : length now.memberships ≡ length old.memberships = grind (arith, nat_tests, h, c.len.ensures, c.len-before.ensures) in many)))))
    c.refresh_if.ensures.rest
    (λ noted both. put old now c.refresh_if.new.self s k noted both p c.args.entries.now q c.highest_term-self.ensures.least c.highest_term-self.ensures.above refl same more)

pub returns-clause-grown : goal.returns-clause-grown
returns-clause-grown c = λ s k p q.
    on_ok_weaker c.refresh_if.result (subst (Knows c.refresh_if.new.self) (grown_log s c.args.entries.now)) (returns-clause-known c s k p q)
