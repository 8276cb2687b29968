-- What is kept of a group's list goes on from event to event, wherever its nodes may be.
use Rattle.std.specs.Prelude.{◌≡◌, ℕ, List, [], ◌∷◌, ◌++◌, length, Option, Some, None, Contains, refl}
use Rattle.std.proofs.Common.{inl, sym, ◌∙◌, subst, ⊎_elim}
use Rattle.raft_group_step.specs.Values.{Entry, EntryPayload}
use Rattle.raft_laws.specs.BallotLists.{AgreeBelow, with_value}
use Rattle.raft_laws.specs.GroupWorld.{GroupWorld, Led, new_world}
use Rattle.raft_laws.specs.Settled.{group_list}
use Rattle.raft_laws.proofs.Counts.{contains_among}
use Rattle.raft_headline.specs.Machines.{new_replicas}
use Rattle.raft_headline.specs.Seen.{seen_by}
use Rattle.raft_headline.proofs.Headlines.{leads_there}
use Rattle.raft_headline.proofs.TheHeadline.{headline_of_histories}
use Rattle.raft_cluster_laws.proofs.EventKept.{at_own, back, choice_before, chosen, goes, is_only, other_choice}
use Rattle.raft_cluster_laws.proofs.Joining.{joins, one_event}
use Rattle.raft_cluster_laws.proofs.NodesActing.{has_first}
use Rattle.raft_list_laws.proofs.SetUps.{nobody_led_before}
use Rattle.raft_group_lists.specs.Notes.{Notes}
use Rattle.raft_list_steps.specs.Lists.{IsListOf}
use Rattle.raft_list_reports.specs.Told.{AreStops}
use Rattle.raft_cluster_lists.specs.Keeping.{EventsKeepLists, GroupNotes, IsKeptIn, KeptListsAreTheGroups, ListsBegin, ListsGrow, NewListsAreKept, list_in}
use Rattle.raft_cluster_lists.proofs.SameNotes.{has_list, none_noted}

pub new_lists_are_kept : NewListsAreKept
new_lists_are_kept rules ids fit h = record {
  one = (new_world ids).nodes;
  among = λ n. has_first ((new_world ids).nodes n);
  leads = λ states among. record {
    leads = record {
      end = new_replicas rules ids;
      replays = ([], (refl, refl));
      nodes = λ n. sym (is_only ((new_world ids).nodes n) (states n) (among n));
    };
    kept_there = record { list = none_noted ids; none = refl };
  };
}

-- nobody led where a group wasn't set up, so no leader stopped
none_stopped : (stopped : ℕ → Option EntryPayload) (w : GroupWorld) → w.led ≡ [] → AreStops stopped w
none_stopped stopped w unled = record {
  down = λ n st down a v is_true led noted own.
      absurd (⊎_elim (λ none. noted none) (λ was. contains_among [] was.0 (subst (λ (ls : List Led). Contains ls was.0) (led ∙ unled) was.1)) (is_true.notes.noted st.vote));
}

pub lists_begin : ListsBegin
lists_begin rules ids fit h candidates history kept k none = record {
  one = kept.one;
  among = kept.among;
  leads = λ states among.
      let before = kept.leads states among in
      let w = before.leads.end.world in
      let led = leads_there rules ids fit h history before.leads.end before.leads.replays in
      let unled : w.led ≡ [] = nobody_led_before ids led.more w led.kept.leads before.kept_there.none in
      record {
        leads = before.leads;
        kept_there = record { list = inl (subst (λ (s : Notes). IsListOf s w) (sym none) before.kept_there.list); stops = none_stopped k.stopped w unled };
      };
}

pub events_keep_lists : EventsKeepLists
events_keep_lists rules ids fit h candidates history was_kept next kept r n news leads on = record {
  one = with_value kept.one n leads.one;
  among = other_choice candidates kept.one n news leads.one kept.among leads.some;
  leads = λ states among.
      let in_news = chosen candidates states n news among in
      let came = leads.came (states n) in_news in
      let x = came.0 in
      let before = kept.leads (with_value states n x) (choice_before candidates states n news x among came.1) in
      let l = before.leads in
      let was = l.nodes n ∙ at_own states n x in
      let g = goes rules ids fit h history l.end l.replays r n x (states n) was (seen_by h r) came.2 in
      let nodes = λ (m : ℕ). g.nodes m ∙ back states l.end.world.nodes n x l.nodes m in
      record {
        leads = record {
          end = g.new;
          replays = joins rules h history (r ∷ []) (new_replicas rules ids) l.end g.new l.replays (one_event rules h r g.number l.end g.new g.step);
          nodes = nodes;
        };
        kept_there =
            on l.end g.new
            (record {
              run = l.replays;
              number = g.number;
              step = g.step;
              before = subst (Contains (candidates n)) (sym was) came.1;
              behind = subst (Contains news) (sym (nodes n)) in_news;
            })
            before.kept_there;
      };
}

list_there : (kept : Option GroupNotes) (w : GroupWorld) → IsKeptIn kept w → list_in kept ≡ group_list w
list_there None w u = u.list.truth.list
list_there (Some k) w k_there = has_list k.notes k.asked w k_there.list

pub kept_lists_are_the_groups : KeptListsAreTheGroups
kept_lists_are_the_groups rules ids fit h candidates history kept keeps states among =
    let l = keeps.leads states among in
    (l.leads, headline_of_histories rules ids fit h history l.leads.end l.leads.replays, list_there kept l.leads.end.world l.kept_there)

-- a list goes on as the groups' lists do that it is equal to
grows_with : (kept next : Option GroupNotes) (w w' : GroupWorld) → list_in kept ≡ group_list w → list_in next ≡ group_list w' → AgreeBelow (length (group_list w)) (group_list w) (group_list w') → AgreeBelow (length (list_in kept)) (list_in kept) (list_in next)
grows_with kept next w w' from to grows =
    subst (λ (xs : List Entry). AgreeBelow (length xs) xs (list_in next)) (sym from)
    (subst (AgreeBelow (length (group_list w)) (group_list w)) (sym to) grows)

-- an event's history goes on from the one before it, in a world where one was kept
pub lists_grow : ListsGrow
lists_grow rules ids fit h candidates history was_kept next kept r n news leads on =
    let states = with_value kept.one n leads.one in
    let among = other_choice candidates kept.one n news leads.one kept.among leads.some in
    let in_news = chosen candidates states n news among in
    let came = leads.came (states n) in_news in
    let x = came.0 in
    let before = kept.leads (with_value states n x) (choice_before candidates states n news x among came.1) in
    let l = before.leads in
    let was = l.nodes n ∙ at_own states n x in
    let g = goes rules ids fit h history l.end l.replays r n x (states n) was (seen_by h r) came.2 in
    let nodes = λ (m : ℕ). g.nodes m ∙ back states l.end.world.nodes n x l.nodes m in
    let event = one_event rules h r g.number l.end g.new g.step in
    let behind = on l.end g.new (record {
      run = l.replays;
      number = g.number;
      step = g.step;
      before = subst (Contains (candidates n)) (sym was) came.1;
      behind = subst (Contains news) (sym (nodes n)) in_news;
    }) before.kept_there in
    let keeps = headline_of_histories rules ids fit h (history ++ r ∷ []) g.new (joins rules h history (r ∷ []) (new_replicas rules ids) l.end g.new l.replays event) in
    grows_with was_kept next l.end.world g.new.world (list_there was_kept l.end.world before.kept_there) (list_there next g.new.world behind)
    (keeps.grows history (r ∷ []) l.end refl l.replays event)
