-- A call that brings a token.
use Rattle.std.proofs.Common.{◌≡◌, true, false, Result, Ok, Err, OnOk, refl}
use Rattle.std.specs.Prelude.{is_err}
use Rattle.raft_group_step.specs.GroupEvent.{GroupEvent}
use Rattle.raft_group_step.specs.GroupState.{GroupState}
use Rattle.raft_member.specs.declared.member.Broken.TheVariants as broken
use Rattle.raft_groups.specs.declared.fault.GroupsFault.TheVariants as groups_fault
use Rattle.raft_applier.specs.Following.{with_brought}
use Rattle.raft_framed_groups.specs.Answers.{IsTurnedAway}
use Rattle.raft_framed_groups.specs.declared.answering.AnswerError.{AnswerError}
use Rattle.raft_framed_groups.specs.declared.answering.AnswerError.TheVariants as error
use Rattle.raft_framed_groups.specs.declared.answering.Outcome.{Outcome as Framed}
use Rattle.raft_framed_groups.specs.declared.answering.Outcome.TheVariants as framed
use Rattle.raft_node_faults.specs.declared.fault.Fault.{Fault}
use Rattle.raft_node.specs.Asking.{is_not_begun}
use Rattle.raft_node.specs.Settling.{IsPassedOn, waits_in}
use Rattle.raft_node.specs.declared.outcome.Outcome.{Outcome}

pub ok_holds : {T E P : Type 0} (r : Result T E) → is_err r ≡ false → OnOk r P → P
ok_holds (Ok x) is p = p
ok_holds (Err x) is p = absurd (let no : true ≡ false = is in cc)

module _ {F : Type 0} where
  pub waits_begun : (s : GroupState) (e : GroupEvent) (answered : Result Framed (AnswerError F)) → is_not_begun answered ≡ false → waits_in s e answered ≡ with_brought s e
  waits_begun s e (Ok (framed.Refused why)) is = absurd (let no : true ≡ false = is in cc)
  waits_begun s e (Ok framed.Waits) is = refl
  waits_begun s e (Ok (framed.Sent frames)) is = refl
  waits_begun s e (Ok framed.Down) is = refl
  waits_begun s e (Err (error.Groups (groups_fault.Stopped (broken.Unjudged met)))) is = absurd (let no : true ≡ false = is in cc)
  waits_begun s e (Err (error.Groups (groups_fault.Stopped (broken.Begun met)))) is = refl
  waits_begun s e (Err (error.Groups groups_fault.Failed)) is = refl
  waits_begun s e (Err (error.Groups groups_fault.UnknownGroup)) is = refl
  waits_begun s e (Err (error.Groups groups_fault.GroupExists)) is = refl
  waits_begun s e (Err (error.Stream why)) is = refl
  waits_begun s e (Err error.WrongParty) is = refl
  waits_begun s e (Err (error.Unsent why)) is = refl

  pub waits_before : (s : GroupState) (e : GroupEvent) (answered : Result Framed (AnswerError F)) → is_not_begun answered ≡ true → waits_in s e answered ≡ s
  waits_before s e (Ok (framed.Refused why)) is = refl
  waits_before s e (Ok framed.Waits) is = absurd (let no : false ≡ true = is in cc)
  waits_before s e (Ok (framed.Sent frames)) is = absurd (let no : false ≡ true = is in cc)
  waits_before s e (Ok framed.Down) is = absurd (let no : false ≡ true = is in cc)
  waits_before s e (Err (error.Groups (groups_fault.Stopped (broken.Unjudged met)))) is = refl
  waits_before s e (Err (error.Groups (groups_fault.Stopped (broken.Begun met)))) is = absurd (let no : false ≡ true = is in cc)
  waits_before s e (Err (error.Groups groups_fault.Failed)) is = absurd (let no : false ≡ true = is in cc)
  waits_before s e (Err (error.Groups groups_fault.UnknownGroup)) is = absurd (let no : false ≡ true = is in cc)
  waits_before s e (Err (error.Groups groups_fault.GroupExists)) is = absurd (let no : false ≡ true = is in cc)
  waits_before s e (Err (error.Stream why)) is = absurd (let no : false ≡ true = is in cc)
  waits_before s e (Err error.WrongParty) is = absurd (let no : false ≡ true = is in cc)
  waits_before s e (Err (error.Unsent why)) is = absurd (let no : false ≡ true = is in cc)

  -- what is turned away was no event that wasn't begun
  pub turned_begun : (answered : Result Framed (AnswerError F)) → IsTurnedAway answered → is_not_begun answered ≡ true → ⊥
  turned_begun (Ok done) away is = away
  turned_begun (Err (error.Groups (groups_fault.Stopped met))) away is = away
  turned_begun (Err (error.Groups groups_fault.Failed)) away is = let no : false ≡ true = is in cc
  turned_begun (Err (error.Groups groups_fault.UnknownGroup)) away is = let no : false ≡ true = is in cc
  turned_begun (Err (error.Groups groups_fault.GroupExists)) away is = let no : false ≡ true = is in cc
  turned_begun (Err (error.Stream why)) away is = let no : false ≡ true = is in cc
  turned_begun (Err error.WrongParty) away is = let no : false ≡ true = is in cc
  turned_begun (Err (error.Unsent why)) away is = away

  pub passed_map : {A B : Type 0} → (A → B) → (answered : Result Framed (AnswerError F)) (result : Result Outcome (Fault F)) → IsPassedOn A answered result → IsPassedOn B answered result
  passed_map f (Ok (framed.Refused why)) result p = (p.0, f p.1)
  passed_map f (Ok framed.Waits) result p = tt
  passed_map f (Ok (framed.Sent frames)) result p = tt
  passed_map f (Ok framed.Down) result p = tt
  passed_map f (Err (error.Groups (groups_fault.Stopped met))) result p = p
  passed_map f (Err (error.Groups groups_fault.Failed)) result p = (p.0, f p.1)
  passed_map f (Err (error.Groups groups_fault.UnknownGroup)) result p = (p.0, f p.1)
  passed_map f (Err (error.Groups groups_fault.GroupExists)) result p = (p.0, f p.1)
  passed_map f (Err (error.Stream why)) result p = tt
  passed_map f (Err error.WrongParty) result p = (p.0, f p.1)
  passed_map f (Err (error.Unsent why)) result p = tt
