-- A change that isn't refused has a membership to change, makes a valid one, and has room.
use Rattle.std.proofs.Common.{Some, MatchOption, ap, sym, ◌∙◌, ◌≡◌, subst, false, true}
use Rattle.std.proofs.lemmas.Bool.{both_ways}
use Rattle.raft_group_step.specs.Values.{after_change, is_valid}
use Rattle.raft_group_step.specs.StoredGroup.{membership_in_force}
use Rattle.raft_messages.specs.Memberships.{logged_or_none}
use Rattle.raft_member.proofs.CallLemmas.{change_is_valid, has_membership, has_room_when_ready}
use Rattle.raft_member.proofs.calls.change.Goals as goal

pub returns-in_default : goal.returns-in_default
returns-in_default c = λ x own at token s may. absurd
    (has_membership own at token s c.args.change.now may.accepted
    (sym (c.membership_in_force.ensures s.stored may.stands.knows) ∙ ap logged_or_none c.in_default.is))

pub returns-in_default-2 : goal.returns-in_default-2
returns-in_default-2 c = λ x own at token s may.
    let known : membership_in_force s.stored ≡ Some (record { log_id = c.in-Some.field-0-0; membership = c.in-Some.old.now }) =
    sym (c.membership_in_force.ensures s.stored may.stands.knows) ∙ ap logged_or_none c.in-Some.is in
    let invalid : is_valid (after_change c.in-Some.old.now c.args.change.now) ≡ false =
    subst (λ o. MatchOption o (is_valid (after_change c.in-Some.old.now c.args.change.now) ≡ false) (λ new. new ≡ after_change c.in-Some.old.now c.args.change.now))
    c.in_default-2.is c.in_ok-new.ensures in
    let valid = change_is_valid own at token s c.args.change.now may.accepted _ known in
    absurd (let no : false ≡ true = sym invalid ∙ valid in cc)

pub returns-then-not-has_room : goal.returns-then-not-has_room
returns-then-not-has_room c = λ x own at token s may.
    absurd (both_ways c.has_room.result c.if-not-has_room.true (c.has_room.ensures.1 (has_room_when_ready own _ s may.stands may.ready)))

pub returns : goal.returns
returns c = λ x own at token s may.
    let known : membership_in_force s.stored ≡ Some (record { log_id = c.in-Some.field-0-0; membership = c.in-Some.old.now }) =
    sym (c.membership_in_force.ensures s.stored may.stands.knows) ∙ ap logged_or_none c.in-Some.is in
    (c.in_ok-_answer.ensures.taken x own at token s _ c.args.change.now known
    (subst (λ o. MatchOption o (is_valid (after_change c.in-Some.old.now c.args.change.now) ≡ false) (λ new. new ≡ after_change c.in-Some.old.now c.args.change.now))
    c.in-Some-2.is c.in_ok-new.ensures)
    may).1
