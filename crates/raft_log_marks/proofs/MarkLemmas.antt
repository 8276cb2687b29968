-- The marks of a group in a batch, and in the rewrite queue.
use Rattle.std.proofs.Common.{◌≡◌, ℕ, Bool, true, false, List, [], ◌∷◌, ◌++◌, refl, sym, ap, ◌∙◌, append_assoc}
use Rattle.raft_log_records.specs.Item.{Change, Item}
use Rattle.raft_log_records.specs.Item.Change.{clean, delete}
use Rattle.raft_log_covers.specs.Marks.{of_group, deletes, marks}
use Rattle.raft_log_covers.specs.Trace.{Trace}
use Rattle.raft_log_covers.proofs.KeptLemmas.{marks_keep, cleans_keep}
use Rattle.raft_log_traces.proofs.LawLemmas.{alike_traces_keep}
use Rattle.raft_log_marks.specs.GroupMarks.{marks_of}
use Rattle.raft_log_marks.specs.MarkLaws.{MarksOfAGroupKeep}

-- changes of a group in two parts
pub two_parts : {E : Type 0} (group : ℕ) (first second : List (Change E)) → of_group group (first ++ second) ≡ of_group group first ++ of_group group second
two_parts group [] second = refl
two_parts group (change ∷ first) second = ap (λ l. record { group = group; change = change } ∷ l) (two_parts group first second)

-- a batch to which both parts were added
pub added_both : {E : Type 0} (group : ℕ) (first second whole : List (Change E)) (old mid new : List (Item E)) → whole ≡ first ++ second → mid ≡ old ++ of_group group first → new ≡ mid ++ of_group group second → new ≡ old ++ of_group group whole
added_both {E} group first second whole old mid new w a b =
    b ∙ ap (λ l. l ++ of_group group second) a ∙ regrouped old (of_group group first) (of_group group second)
    ∙ ap (λ l. old ++ l) (sym (two_parts group first second) ∙ ap (of_group group) (sym w))
  where
    regrouped : (x y z : List (Item E)) → (x ++ y) ++ z ≡ x ++ (y ++ z)
    regrouped x y z = rw append_assoc

pub deletes_more : {E : Type 0} (ks : List (List ℕ)) (k : List ℕ) → deletes {E = E} (ks ++ k ∷ []) ≡ deletes ks ++ delete k ∷ []
deletes_more [] k = refl
deletes_more (x ∷ ks) k = ap (λ l. delete x ∷ l) (deletes_more ks k)

pub marks_cleaned : {E : Type 0} (t : Trace) → t.cleaned ≡ true → marks_of {E = E} true t ≡ (clean ∷ []) ++ marks {E = E} false t.low t.deleted
marks_cleaned {E} t h = ap (λ (b : Bool). marks {E = E} b t.low t.deleted) h

pub marks_plain : {E : Type 0} (t : Trace) → t.cleaned ≡ false → marks_of {E = E} true t ≡ marks {E = E} false t.low t.deleted
marks_plain {E} t h = ap (λ (b : Bool). marks {E = E} b t.low t.deleted) h

pub marks_of_a_group_keep : {E : Type 0} → MarksOfAGroupKeep E
marks_of_a_group_keep traces others account records content bs group true k there a =
    (_, alike_traces_keep _ others _ _ content bs (marks_keep traces account records content bs group k there) a)
marks_of_a_group_keep traces others account records content bs group false k gone a =
    (_, alike_traces_keep _ others _ _ content bs (cleans_keep traces account records content bs group k gone) a)
