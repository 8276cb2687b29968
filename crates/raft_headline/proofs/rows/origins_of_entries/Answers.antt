use Rattle.std.specs.Prelude.{◌≡◌, Bool, true, false, [], ◌∷◌, ◌++◌, refl}
use Rattle.std.proofs.Common.{sym, ap, ◌∙◌, arith}
use Rattle.raft_group_step.specs.declared.group_call.GroupCall.TheVariants.{Propose}
use Rattle.raft_laws.specs.Example.{add}
use Rattle.raft_laws.proofs.BallotAgreement.{same_some}
use Rattle.raft_history_laws.specs.NotedIds.{is_noted}
use Rattle.raft_headline.specs.ClusterEvent.{ClusterEvent, AddGroup, Ask, Deliver, ResetPeer, Clean, Fuse, Crash, Reopen, Halt, Done, Recorded, Stopped, silent}
use Rattle.raft_headline.specs.Rows.{asks_seven, at_one, proposes, set_up, tells, told_at, told_event, unknown_of}
use Rattle.raft_headline.proofs.RowOrigins.{again_last, stored_last, told_last}
use Rattle.raft_headline.proofs.rows.origins_of_entries.Goals as goal

pub returns-clause-told : goal.returns-clause-told
returns-clause-told c = record {
  asked = Propose (add 5) 1;
  node = 1;
  now = 0;
  recorded = told_event;
  stands = refl;
  event = refl;
  taken = refl;
  holds = refl;
  last = λ noted. told_last;
}

pub returns-clause-stopped : goal.returns-clause-stopped
returns-clause-stopped c = record {
  asked = Propose (add 7) 5;
  node = 1;
  now = 0;
  recorded = at_one (proposes 7 5) (Stopped (unknown_of 7 5 ∷ []));
  stands = refl;
  event = refl;
  taken = refl;
  holds = refl;
  last = λ noted. stored_last;
}

pub returns-clause-last : goal.returns-clause-last
returns-clause-last c = record {
  asked = Propose (add 7) 6;
  node = 1;
  now = 0;
  recorded = at_one (proposes 7 6) (Done (tells (told_at 6 3 (3 ∷ add 5 ++ add 7))));
  stands = refl;
  event = refl;
  taken = refl;
  holds = refl;
  last = λ noted. again_last;
}

abbrev notes : ClusterEvent → Bool
notes (AddGroup n g) = false
notes (Ask n g call now) = is_noted call
notes (Deliver g number now) = false
notes (ResetPeer n peer) = false
notes (Clean n) = false
notes (Fuse n) = false
notes (Crash n) = false
notes (Reopen n) = false
notes (Halt n) = false

pub returns-clause-earlier : goal.returns-clause-earlier
returns-clause-earlier c = λ h.
    let noted : true ≡ is_noted h.asked = ap (λ (r : Recorded). notes r.event) (same_some h.stands) ∙ ap notes h.event in
    (h.last (sym noted)).last 10 (omega arith) again_last.noted

pub returns-clause-set_up : goal.returns-clause-set_up
returns-clause-set_up c = record {
  asked = set_up;
  node = 1;
  now = 0;
  recorded = at_one (asks_seven set_up) (Done silent);
  stands = refl;
  event = refl;
  taken = refl;
  holds = refl;
  last = λ noted. absurd (let f : false ≡ true = noted in cc);
}
