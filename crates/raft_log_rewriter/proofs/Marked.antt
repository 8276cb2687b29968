-- A batch as one record more of what is written anew: whole groups alone, or a record of an atomic group.
use Rattle.std.proofs.Common.{◌≡◌, ℕ, List, [], ◌∷◌, ◌++◌, Option, Some, None, refl, sym, ap, subst, ◌∙◌, append_assoc, append-nil}
use Rattle.raft_log_records.specs.declared.item.AtomicGroupStatus.TheVariants.{Begin, Middle, End}
use Rattle.raft_log_file.specs.Laws.{Batch}
use Rattle.raft_log_memtables.specs.Content.{Content}
use Rattle.raft_log_memtables.specs.Laws.{all_of}
use Rattle.raft_log_covers.specs.Joined.{without_marks}
use Rattle.raft_log_covers.specs.Kept.{Traces}
use Rattle.raft_log_covers.specs.Written.{IsWritten, Written, all_records, records_of}
use Rattle.raft_log_covers.specs.Written.Written.{alone, grouped, unended}
use Rattle.raft_log_purge.specs.Anew.{AreAnew, AreGroupsAnew, IsAnew, IsGroupAnew}
use Rattle.raft_log_purge.proofs.RewrittenAnew.{begun_groups_are_anew}
use Rattle.raft_log_rewriter.specs.Parts.{AreAmong, AreEnded, AreStored, HasParts, IsEnded, IsMarkedPart, MayFollow, HasId, Open, unended_of}
use Rattle.raft_log_rewriter.specs.Parts.Open.{begun, closed}
use Rattle.raft_log_rewriter.proofs.Items.{all-last, among_more, mark_last, marked, marked_stored, middles-append, unmarked-append, without_last}

-- ---- what was written, one after the other

pub records-append : (ws more : List (Written (List ℕ))) → all_records (ws ++ more) ≡ all_records ws ++ all_records more
records-append [] more = refl
records-append (w ∷ ws) more = ap (λ (l : List Batch). records_of w ++ l) (records-append ws more) ∙ sym (append_assoc (records_of w) (all_records ws) (all_records more))

pub records_last : (ws : List (Written (List ℕ))) (w : Written (List ℕ)) → all_records (ws ++ w ∷ []) ≡ all_records ws ++ records_of w
records_last ws w = records-append ws (w ∷ []) ∙ ap (λ (l : List Batch). all_records ws ++ l) (append-nil (records_of w))

pub anew-append : (content : Content (List ℕ)) (traces : Traces) (ws more : List (Written (List ℕ))) → AreAnew content traces ws → AreAnew content traces more → AreAnew content traces (ws ++ more)
anew-append content traces [] more one two = two
anew-append content traces (w ∷ ws) more one two = (one.0, anew-append content traces ws more one.1 two)

pub anew_front : (content : Content (List ℕ)) (traces : Traces) (ws more : List (Written (List ℕ))) → AreAnew content traces (ws ++ more) → AreAnew content traces ws
anew_front content traces [] more are = tt
anew_front content traces (w ∷ ws) more are = (are.0, anew_front content traces ws more are.1)

pub anew_last : (content : Content (List ℕ)) (traces : Traces) (ws : List (Written (List ℕ))) (w : Written (List ℕ)) → AreAnew content traces (ws ++ w ∷ []) → IsAnew content traces w
anew_last content traces [] w are = are.0
anew_last content traces (x ∷ ws) w are = anew_last content traces ws w are.1

ended-append : (ws : List (Written (List ℕ))) (w : Written (List ℕ)) → AreEnded ws → IsEnded w → AreEnded (ws ++ w ∷ [])
ended-append [] w are is = (is, tt)
ended-append (x ∷ ws) w are is = (are.0, ended-append ws w are.1 is)

pub groups_last : (content : Content (List ℕ)) (traces : Traces) (parts : List Batch) (part : Batch) → AreGroupsAnew content traces parts → IsGroupAnew content traces part → AreGroupsAnew content traces (parts ++ part ∷ [])
groups_last content traces [] part are is = (is, tt)
groups_last content traces (x ∷ parts) part are is = (are.0, groups_last content traces parts part are.1 is)

-- ---- one record more

-- the batch may be written as such items, and then it is empty
pub record Follows (content : Content (List ℕ)) (traces : Traces) (ws : List (Written (List ℕ))) (open_group : Open) (part items : Batch) (other : Option ℕ) : Type 0 where
  pub more : List (Written (List ℕ))
  pub next : Open
  pub id : HasId next other
  pub may : MayFollow content traces (ws ++ unended_of open_group) items (more ++ unended_of next)
  pub parts : HasParts content traces more next [] part

module _ (content : Content (List ℕ)) (traces : Traces) (ws : List (Written (List ℕ))) where
  -- the last record stands behind those of before
  one_more : (w v : Written (List ℕ)) (items : Batch) → records_of w ++ items ∷ [] ≡ records_of v → all_records (ws ++ w ∷ []) ++ items ∷ [] ≡ all_records (ws ++ v ∷ [])
  one_more w v items is =
      ap (λ (l : List Batch). l ++ items ∷ []) (records_last ws w)
      ∙ append_assoc (all_records ws) (records_of w) (items ∷ [])
      ∙ ap (λ (l : List Batch). all_records ws ++ l) is
      ∙ sym (records_last ws v)

  one_first : (w : Written (List ℕ)) (items : Batch) → records_of w ≡ items ∷ [] → all_records (ws ++ []) ++ items ∷ [] ≡ all_records (ws ++ w ∷ [])
  one_first w items is =
      ap (λ (l : List (Written (List ℕ))). all_records l ++ items ∷ []) (append-nil ws)
      ∙ ap (λ (l : List Batch). all_records ws ++ l) (sym is)
      ∙ sym (records_last ws w)

  module _ (items part : Batch) (stored : AreStored content traces items) where
    -- an atomic group begins
    pub begins : (id : ℕ) → AreAnew content traces (ws ++ []) → HasParts content traces ws closed items part → Follows content traces ws closed part (marked items id Begin) (Some id)
    begins id anew p =
        let first : Batch = marked items id Begin in
        let written : IsWritten (unended id first []) = (mark_last items id Begin p.unmarked, tt) in
        record {
          more = ws;
          next = begun id first [];
          id = refl;
          may = record {
            records = one_first (unended id first []) first refl;
            anew = anew-append content traces ws (unended id first [] ∷ []) (anew_front content traces ws [] anew) (begun_groups_are_anew traces content id first [] written, tt);
            stored = marked_stored content traces items id Begin stored;
          };
          parts = record {
            ended = p.ended;
            unmarked = refl;
            parts = p.parts;
            groups = p.groups;
            holds =
                ap without_marks (append-nil (first ++ []) ∙ append-nil first)
                ∙ without_last items id Begin
                ∙ p.holds;
          };
        }

    -- it goes on
    pub goes_on : (id : ℕ) (first : Batch) (middles : List Batch) → AreAnew content traces (ws ++ unended id first middles ∷ []) → HasParts content traces ws (begun id first middles) items part
        → Follows content traces ws (begun id first middles) part (marked items id Middle) (Some id)
    goes_on id first middles anew p =
        let last : Batch = marked items id Middle in
        let was = (anew_last content traces ws (unended id first middles) anew).written in
        let written : IsWritten (unended id first (middles ++ last ∷ [])) = (was.0, middles-append id middles last was.1 (mark_last items id Middle p.unmarked, tt)) in
        record {
          more = ws;
          next = begun id first (middles ++ last ∷ []);
          id = refl;
          may = record {
            records = one_more (unended id first middles) (unended id first (middles ++ last ∷ [])) last refl;
            anew = anew-append content traces ws (unended id first (middles ++ last ∷ []) ∷ []) (anew_front content traces ws (unended id first middles ∷ []) anew)
                (begun_groups_are_anew traces content id first (middles ++ last ∷ []) written, tt);
            stored = marked_stored content traces items id Middle stored;
          };
          parts = record {
            ended = p.ended;
            unmarked = refl;
            parts = p.parts;
            groups = p.groups;
            holds =
                ap without_marks (append-nil (first ++ all_of (middles ++ last ∷ [])) ∙ ap (λ (l : Batch). first ++ l) (all-last middles last) ∙ sym (append_assoc first (all_of middles) last))
                ∙ unmarked-append (first ++ all_of middles) last
                ∙ ap (λ (l : Batch). without_marks (first ++ all_of middles) ++ l) (without_last items id Middle)
                ∙ sym (unmarked-append (first ++ all_of middles) items)
                ∙ p.holds;
          };
        }

  module _ (items : Batch) (stored : AreStored content traces items) where
    no_part : (parts : List Batch) → all_of parts ++ [] ≡ all_of parts
    no_part parts = append-nil (all_of parts)

    -- it ends
    pub ends : (id : ℕ) (first : Batch) (middles : List Batch) → AreAnew content traces (ws ++ unended id first middles ∷ []) → HasParts content traces ws (begun id first middles) items []
        → Follows content traces ws (begun id first middles) [] (marked items id End) None
    ends id first middles anew p =
        let last : Batch = marked items id End in
        let was = (anew_last content traces ws (unended id first middles) anew).written in
        let group : IsAnew content traces (grouped id first middles last) = record {
          written = (was.0, was.1, mark_last items id End p.unmarked);
          parts = p.parts;
          holds =
              ap without_marks (sym (append_assoc first (all_of middles) last))
              ∙ unmarked-append (first ++ all_of middles) last
              ∙ ap (λ (l : Batch). without_marks (first ++ all_of middles) ++ l) (without_last items id End)
              ∙ sym (unmarked-append (first ++ all_of middles) items)
              ∙ p.holds
              ∙ no_part p.parts;
          groups = p.groups;
        } in
        record {
          more = ws ++ grouped id first middles last ∷ [];
          next = closed;
          id = tt;
          may = record {
            records = one_more (unended id first middles) (grouped id first middles last) last refl ∙ ap all_records (sym (append-nil (ws ++ grouped id first middles last ∷ [])));
            anew = subst (λ (l : List (Written (List ℕ))). AreAnew content traces l) (sym (append-nil (ws ++ grouped id first middles last ∷ [])))
                (anew-append content traces ws (grouped id first middles last ∷ []) (anew_front content traces ws (unended id first middles ∷ []) anew) (group, tt));
            stored = marked_stored content traces items id End stored;
          };
          parts = record { ended = ended-append ws (grouped id first middles last) p.ended tt; unmarked = refl; parts = []; groups = tt; holds = refl };
        }

    -- whole groups alone
    pub whole : AreAnew content traces (ws ++ []) → HasParts content traces ws closed items [] → Follows content traces ws closed [] items None
    whole anew p =
        let group : IsAnew content traces (alone items) = record { written = p.unmarked; parts = p.parts; holds = p.holds ∙ no_part p.parts; groups = p.groups } in
        record {
          more = ws ++ alone items ∷ [];
          next = closed;
          id = tt;
          may = record {
            records = one_first (alone items) items refl ∙ ap all_records (sym (append-nil (ws ++ alone items ∷ [])));
            anew = subst (λ (l : List (Written (List ℕ))). AreAnew content traces l) (sym (append-nil (ws ++ alone items ∷ [])))
                (anew-append content traces ws (alone items ∷ []) (anew_front content traces ws [] anew) (group, tt));
            stored = stored;
          };
          parts = record { ended = ended-append ws (alone items) p.ended tt; unmarked = refl; parts = []; groups = tt; holds = refl };
        }

-- as the writer marks it
pub marked_follows : (content : Content (List ℕ)) (traces : Traces) (ws : List (Written (List ℕ))) (open_group : Open) (items part : Batch) (group other : Option ℕ) (more : Batch) → AreStored content traces items
    → AreAnew content traces (ws ++ unended_of open_group) → HasId open_group group → HasParts content traces ws open_group items part → IsMarkedPart group items other more
    → Follows content traces ws open_group part more other
marked_follows content traces ws closed items part None None more stored anew has p marks = absurd marks
marked_follows content traces ws closed items part None (Some id) more stored anew has p marks =
    subst (λ (l : Batch). Follows content traces ws closed part l (Some id)) (sym marks) (begins content traces ws items part stored id anew p)
marked_follows content traces ws closed items part (Some was) other more stored anew has p marks = absurd has
marked_follows content traces ws (begun id first middles) items part None other more stored anew has p marks = absurd has
marked_follows content traces ws (begun id first middles) items part (Some was) None more stored anew has p marks = absurd marks
marked_follows content traces ws (begun id first middles) items part (Some was) (Some other) more stored anew has p marks =
    subst (λ (n : ℕ). Follows content traces ws (begun id first middles) part more (Some n)) (has ∙ sym marks.0)
    (subst (λ (l : Batch). Follows content traces ws (begun id first middles) part l (Some id)) (sym (marks.1 ∙ ap (λ (n : ℕ). marked items n Middle) (sym has)))
    (goes_on content traces ws items part stored id first middles anew p))

-- ---- groups that were written stay so

pub among_written : (content : Content (List ℕ)) (traces : Traces) (ws more : List (Written (List ℕ))) (items behind : Batch) (groups : List ℕ) → all_records ws ++ (items ++ behind) ∷ [] ≡ all_records more
    → AreAmong content traces (all_of (all_records ws) ++ items) groups → AreAmong content traces (all_of (all_records more) ++ []) groups
among_written content traces ws more items behind groups is are =
    subst (λ (l : Batch). AreAmong content traces l groups)
    (append_assoc (all_of (all_records ws)) items behind ∙ sym (all-last (all_records ws) (items ++ behind)) ∙ ap all_of is ∙ sym (append-nil (all_of (all_records more))))
    (among_more content traces (all_of (all_records ws) ++ items) behind groups are)
