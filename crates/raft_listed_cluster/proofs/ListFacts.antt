-- Lists that go on, and what is the same of what is kept of a group.
use Rattle.std.proofs.Common.{◌≡◌, ℕ, List, [], ◌∷◌, ◌++◌, Some, Result, Ok, Err, length, arith, sym, ap, ◌∙◌, subst, length-append}
use Rattle.std.specs.Prelude.{◌-◌, Contains, OnErr, slice_get}
use Rattle.raft_group_step.specs.Values.{Entry, Membership}
use Rattle.raft_laws.specs.BallotLists.{AgreeBelow}
use Rattle.raft_laws.proofs.BallotAgreement.{agree_more, agree_refl, same_some, slice_get_end}
use Rattle.raft_machines.specs.Machine.{MachineRules}
use Rattle.raft_headline.specs.ClusterEvent.{Recorded as PlainRecord}
use Rattle.raft_cluster_laws.specs.Kept.{Candidates}
use Rattle.raft_cluster_lists.specs.Keeping.{GroupNotes, KeepsList}
use Rattle.raft_cluster_lists.specs.Lists.{AreSame}
use Rattle.raft_cluster_lists.proofs.SameNotes.{same_notes}
use Rattle.raft_listed_cluster.specs.Listed.{Lists, OnlyGrow}

-- ---- results

pub on_err : {T E : Type 0} (r : Result T E) (P : Type 0) → P → OnErr r P
on_err (Ok x) P p = tt
on_err (Err e) P p = p

-- ---- lists

pub grow_on : (one two three : Lists) → OnlyGrow one two → OnlyGrow two three → OnlyGrow one three
grow_on one two three first then h = agree_more (first h) (then h)

front_of_same : (xs ys : List Entry) → ys ≡ xs → AgreeBelow (length xs) xs ys
front_of_same xs ys same = subst (AgreeBelow (length xs) xs) (sym same) (agree_refl (length xs) xs (omega arith))

pub same_grow : (one two : Lists) → ((h : ℕ) → two h ≡ one h) → OnlyGrow one two
same_grow one two same h = front_of_same (one h) (two h) (same h)

-- the last of a list to whose end one was added
pub last_is : {A : Type 0} (xs ys : List A) (x y : A) → ys ≡ xs ++ y ∷ [] → Some x ≡ slice_get ys (length ys - 1) → x ≡ y
last_is xs ys x y added last =
    let end : length (xs ++ y ∷ []) - 1 ≡ length xs = omega (arith, length-append xs (y ∷ [])) in
    same_some (last ∙ ap (λ l. slice_get l (length l - 1)) added ∙ ap (slice_get (xs ++ y ∷ [])) end ∙ slice_get_end xs y)

-- ---- notes

-- where the same is noted of a group, it is kept there
pub same_kept : (rules : MachineRules) (ids : List ℕ) (h : ℕ) (candidates : Candidates) (history : List PlainRecord) (k next : GroupNotes)
    → AreSame k.notes next.notes → ((n : ℕ) → next.stopped n ≡ k.stopped n) → ((x : Membership) → Contains k.asked x → Contains next.asked x)
    → KeepsList rules ids h candidates history (Some k) → KeepsList rules ids h candidates history (Some next)
same_kept rules ids h candidates history k next same stopped more keeps = record {
  one = keeps.one;
  among = keeps.among;
  leads = λ states among.
      let there = keeps.leads states among in record {
        leads = there.leads;
        kept_there = same_notes k next there.leads.end.world same stopped more there.kept_there;
      };
}
