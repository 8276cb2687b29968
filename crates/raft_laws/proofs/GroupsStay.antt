-- No storing command takes a group away.
use Rattle.std.specs.Prelude.{◌≡◌, true, [], ◌∷◌, refl}
use Rattle.raft_group_step.specs.StoredGroup.{StoredGroup, StoringCommand, MakeGroup, SetVote, PutEntries, CutFrom, RemoveUpTo, SetSnapshot, StartAfter, after_storing}
use Rattle.raft_laws.specs.GroupsStay.{GroupsStay}

one_stays : (c : StoringCommand) (s : StoredGroup) → s.present ≡ true → (after_storing c s).present ≡ true
one_stays MakeGroup s h = refl
one_stays (SetVote vote) s h = h
one_stays (PutEntries place entries) s h = h
one_stays (CutFrom place) s h = h
one_stays (RemoveUpTo id) s h = h
one_stays (SetSnapshot x) s h = h
one_stays (StartAfter id) s h = h

pub groups_stay : GroupsStay
groups_stay [] s h = h
groups_stay (c ∷ cs) s h = groups_stay cs (after_storing c s) (one_stays c s h)
