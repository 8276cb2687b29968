-- Histories cut at an event, and lists at a place.
use Rattle.std.specs.Prelude.{◌≡◌, ℕ, zero, suc, List, [], ◌∷◌, ◌++◌, slice_get, Some, None, refl}
use Rattle.std.proofs.Common.{sym, ap, ◌∙◌, append_assoc}
use Rattle.raft_laws.specs.Origins.{Events}
use Rattle.raft_machines.specs.Machine.{MachineRules}
use Rattle.raft_headline.specs.ClusterEvent.{Recorded}
use Rattle.raft_headline.specs.Seen.{seen_by}
use Rattle.raft_headline.specs.Machines.{Replicas}
use Rattle.raft_headline.specs.OwnEvents.{own_event, own_events}
use Rattle.raft_headline.specs.Replaying.{IsStep, ReplaysFor, ReplaysWith, takes_number, with_number}
use Rattle.raft_headline.proofs.OwnRuns.{own_first}

-- ---- lists

-- what stands before and behind a place
pub record CutAt {A : Type 0} (xs : List A) (x : A) : Type 0 where
  pub front : List A
  pub back : List A
  pub is : xs ≡ front ++ x ∷ back

pub cut_at : {A : Type 0} (xs : List A) (n : ℕ) (x : A) → slice_get xs n ≡ Some x → CutAt xs x
cut_at [] n x e = absurd (let f : None ≡ Some x = e in cc)
cut_at (y ∷ xs) zero x e =
    let same : y ≡ x = (let f : Some y ≡ Some x = e in cc) in
    record { front = []; back = xs; is = ap (λ z. z ∷ xs) same }
cut_at (y ∷ xs) (suc n) x e =
    let rest = cut_at xs n x e in
    record { front = y ∷ rest.front; back = rest.back; is = ap (λ l. y ∷ l) rest.is }

-- a place of the front is one of the whole
pub in_front : {A : Type 0} (xs ys : List A) (n : ℕ) (x : A) → slice_get xs n ≡ Some x → slice_get (xs ++ ys) n ≡ Some x
in_front [] ys n x e = absurd (let f : None ≡ Some x = e in cc)
in_front (y ∷ xs) ys zero x e = e
in_front (y ∷ xs) ys (suc n) x e = in_front xs ys n x e

-- ---- histories

module _ (rules : MachineRules) (h : ℕ) where
  -- the group between two parts of a history, and the group's own events in each
  pub record Between (old : Replicas) (xs ys : List Recorded) (numbers : List ℕ) (end : Replicas) : Type 0 where
    pub middle : Replicas
    pub before : ReplaysFor rules h old xs middle
    pub after : ReplaysFor rules h middle ys end
    pub events : own_events h (xs ++ ys) numbers ≡ own_events h xs before.0 ++ own_events h ys after.0

  one_before : (r : Recorded) (xs ys : List Recorded) (numbers : List ℕ) (old end : Replicas) (one : IsStep rules h r numbers old) → Between one.new xs ys one.others end → Between old (r ∷ xs) ys numbers end
  one_before r xs ys numbers old end one b =
      let ks = (b.before).0 in
      let here : Events = own_event (seen_by h r) r.outcome one.number in
      let all : List ℕ = with_number (takes_number (seen_by h r) r.outcome) one.number ks in
      let again : IsStep rules h r all old = record { number = one.number; others = ks; numbered = refl; new = one.new; step = one.step } in
      record {
        middle = b.middle;
        before = (all, (again, (b.before).1));
        after = b.after;
        events =
            own_first rules h r (xs ++ ys) numbers old one
            ∙ ap (λ es. here ++ es) b.events
            ∙ sym (append_assoc here (own_events h xs ks) (own_events h ys (b.after).0))
            ∙ ap (λ es. es ++ own_events h ys (b.after).0) (sym (own_first rules h r xs all old again));
      }

  pub split : (xs ys : List Recorded) (numbers : List ℕ) (old end : Replicas) → ReplaysWith rules h old (xs ++ ys) numbers end → Between old xs ys numbers end
  split [] ys numbers old end run = record { middle = old; before = ([], (refl, refl)); after = (numbers, run); events = refl }
  split (r ∷ xs) ys numbers old end run =
      one_before r xs ys numbers old end run.0 (split xs ys run.0.others run.0.new end run.1)
