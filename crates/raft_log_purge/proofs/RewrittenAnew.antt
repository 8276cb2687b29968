-- Queues may be cleaned as before while the rewrite queue is written anew, and as its old records go.
use Rattle.std.proofs.Common.{◌≡◌, ◌≤◌, ◌<◌, ℕ, Bool, true, false, None, arith, ltb-true, ltb-false, List, [], ◌∷◌, ◌++◌, length, drop, refl, subst}
use Rattle.std.specs.Prelude.{nat_lt}
use Rattle.raft_log_records.specs.Item.{Item}
use Rattle.raft_log_memtables.specs.Content.{Content}
use Rattle.raft_log_memtables.specs.Replay.{content_of}
use Rattle.raft_log_covers.specs.Kept.{Traces, IsKept}
use Rattle.raft_log_covers.specs.Queues.{Filed}
use Rattle.raft_log_covers.specs.Written.{all_records}
use Rattle.raft_log_covers.proofs.FileLemmas.{not_there}
use Rattle.raft_log_covers.proofs.KeptLemmas.{whole_groups_give_all}
use Rattle.raft_log_marks.specs.Standing.{CanBeCleaned}
use Rattle.raft_log_marks.proofs.StandingLemmas.{cleaned_queues_read_as_the_content}
use Rattle.raft_log_purge.specs.Anew.{stored}
use Rattle.raft_log_purge.specs.AnewLaws.{StoredGroupsAreAnew, GoneGroupsAreAnew, BegunGroupsAreAnew, EntriesStandBelow, GroupsAnewLeaveCleanable, AllAnewLeaveCleanable, OldRewritesLeaveCleanable, NewRewritesAreCleanable, QueuesReadAnew, TogetherStays, WrittenGroupsAreNamed}
use Rattle.raft_log_purge.proofs.AnewLemmas.{fronts_anew_keep, all_anew_keep, anew_written, gone_whole, new_are_whole, names_stay, name_added}
use Rattle.raft_log_purge.proofs.StoredLemmas.{stored_unmarked, stored_whole}
use Rattle.raft_log_purge.proofs.TogetherLemmas.{fronts_together, behinds_together, more_together, old_go}

module _ {E : Type 0} where
  pub stored_groups_are_anew : StoredGroupsAreAnew E
  stored_groups_are_anew traces content group limit first stop chunks pairs s = record {
    group = group;
    changes = stored limit chunks pairs;
    written = refl;
    unmarked = stored_unmarked group limit chunks pairs;
    whole = stored_whole (traces group) (content group) limit first stop chunks pairs s;
  }

  pub gone_groups_are_anew : GoneGroupsAreAnew E
  gone_groups_are_anew traces content group gone = record { group = group; changes = []; written = refl; unmarked = refl; whole = gone_whole (traces group) (content group) gone }

  pub begun_groups_are_anew : BegunGroupsAreAnew E
  begun_groups_are_anew traces content id first middles written = record { written = written; parts = []; holds = refl; groups = tt }

  pub entries_stand_below : EntriesStandBelow E
  entries_stand_below first traces records content bs group stop can behind i some none =
      let k = can.cleanable.kept.knows group in (
        omega (arith, λ (l : i < (traces group).low). not_there {P = ⊥} ((content group).entry i) (k.below i l) some),
        omega (arith, λ (l : stop ≤ i). not_there {P = ⊥} ((content group).entry i) (by_place l (nat_lt i (traces group).low) refl (nat_lt i (traces group).next) refl) some),
      )
    where
      by_place : stop ≤ i → (a : Bool) → nat_lt i (traces group).low ≡ a → (b : Bool) → nat_lt i (traces group).next ≡ b → (content group).entry i ≡ None
      by_place l true low b e = (can.cleanable.kept.knows group).below i (ltb-true i (traces group).low low)
      by_place l false low true e = not_there ((traces group).entry_file i) none (behind i l (ltb-true i (traces group).next e))
      by_place l false low false e = (can.cleanable.kept.knows group).above i (ltb-false i (traces group).low low) (ltb-false i (traces group).next e)

  pub written_groups_are_named : WrittenGroupsAreNamed E
  written_groups_are_named ws w = record { stay = names_stay ws w; added = name_added ws w }

  -- ---- while groups are written

  -- the queues with other records of the rewrite queue, by the same account
  with_records : (first : ℕ) (traces : Traces) (records others : List (List (Item E))) (content : Content E) (bs : List (Filed E)) (can : CanBeCleaned first traces records content bs)
      → IsKept traces can.account others content bs → CanBeCleaned first traces others content bs
  with_records first traces records others content bs can k = record {
    account = can.account;
    start = can.start;
    base = can.base;
    cleanable = record { kept = k; behind = can.cleanable.behind };
    rise = can.rise;
    unmarked = can.unmarked;
    kept = can.kept;
    last = can.last;
  }

  pub groups_anew_leave_cleanable : GroupsAnewLeaveCleanable E
  groups_anew_leave_cleanable first traces records ws content bs can a n =
      with_records first traces records _ content bs can (fronts_anew_keep traces can.account records ws content bs can.cleanable.kept a n)

  pub all_anew_leave_cleanable : AllAnewLeaveCleanable E
  all_anew_leave_cleanable first traces records ws content bs can a =
      with_records first traces records (records ++ all_records ws) content bs can (all_anew_keep traces can.account records ws content bs can.cleanable.kept a)

  -- ---- then old records may go

  pub old_rewrites_leave_cleanable : OldRewritesLeaveCleanable E
  old_rewrites_leave_cleanable first traces old ws content bs can together a has n =
      let k = can.cleanable.kept in
      with_records first traces (old ++ all_records ws) (drop n old ++ all_records ws) content bs can
      (old_go traces can.account old ws content bs together (anew_written content traces ws a) k
      (whole_groups_give_all traces can.account (old ++ all_records ws) content (content_of (all_records ws)) bs k (new_are_whole content traces ws a has)) n)

  drop_all : (old : List (List (Item E))) → drop (length old) old ≡ []
  drop_all [] = refl
  drop_all (items ∷ old) = drop_all old

  pub new_rewrites_are_cleanable : NewRewritesAreCleanable E
  new_rewrites_are_cleanable first traces old ws content bs can together a has =
      subst (λ (rs : List (List (Item E))). CanBeCleaned first traces (rs ++ all_records ws) content bs) (drop_all old) (old_rewrites_leave_cleanable first traces old ws content bs can together a has (length old))

  pub queues_read_anew : QueuesReadAnew E
  queues_read_anew first traces old ws content bs can together a = record {
    written = λ n. cleaned_queues_read_as_the_content first traces _ content bs (groups_anew_leave_cleanable first traces old ws content bs can a n);
    gone = λ has n. cleaned_queues_read_as_the_content first traces _ content bs
        (old_rewrites_leave_cleanable first traces old ws content bs (all_anew_leave_cleanable first traces old ws content bs can a) together a has n);
  }

  pub together_stays : TogetherStays E
  together_stays records h = record {
    fronts = fronts_together records h;
    behinds = behinds_together records h;
    more = λ ws written. more_together records ws h written;
  }
