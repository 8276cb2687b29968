-- Each history that replays keeps the headline.
use Rattle.raft_laws.proofs.GroupList.{is_list}
use Rattle.raft_laws.proofs.ListLaws.{leaders_hold}
use Rattle.raft_laws.proofs.WorldStart.{founded}
use Rattle.raft_history_laws.proofs.ServedNodes.{leaders_serve}
use Rattle.raft_history_laws.proofs.LackedQuorums.{candidates_lack_quorums}
use Rattle.raft_headline.specs.Machines.{new_replicas}
use Rattle.raft_headline.specs.Headline.{HeadlineOfHistories}
use Rattle.raft_headline.proofs.Headlines.{applied_fronts, group_history, leads_there, list_grows_on, snapshot_fronts}
use Rattle.raft_headline.proofs.ListOrigins.{have_origins}
use Rattle.raft_headline.proofs.Stopping.{stops_stay}
use Rattle.raft_headline.proofs.Leading.{leaders_hold_answers}
use Rattle.raft_headline.proofs.Answering.{leaders_tell, none_waits_answered}
use Rattle.raft_headline.proofs.Serving.{peers_are_sent}
use Rattle.raft_headline.proofs.Taking.{commands_are_taken, granted_leads, requests_are_replied}
use Rattle.raft_headline.proofs.OwnRuns.{runs_as_group}
use Rattle.raft_headline.proofs.Ending.{tokens_end}
use Rattle.raft_headline.proofs.Tells.{told_stand}

pub headline_of_histories : HeadlineOfHistories
headline_of_histories rules ids fit h history end run =
    let leads = group_history rules ids fit h history end run in
    let gs = (leads_there rules ids fit h history end run).more in
    let f = founded ids fit gs end.world leads.replays in
    record {
      one_list = is_list f.membership f.some end.world f.is;
      grows = list_grows_on rules ids fit h history end;
      applied = applied_fronts rules ids fit h history end run;
      snapshots = snapshot_fronts rules ids fit h history end run;
      told = told_stand rules ids fit h history end;
      runs = runs_as_group rules ids h history end;
      tokens = tokens_end rules ids fit h history end;
      origins = have_origins rules ids fit h history end;
      leaders = leaders_hold ids gs end.world leads;
      answers_held = leaders_hold_answers rules ids fit h history end;
      taken = commands_are_taken rules ids fit h history end;
      peers_sent = peers_are_sent rules ids fit h history end;
      peers_served = leaders_serve ids gs end.world leads;
      requests = requests_are_replied rules ids fit h history end;
      granted = granted_leads rules ids fit h history end;
      candidates = candidates_lack_quorums ids gs end.world leads;
      answers = none_waits_answered rules ids fit h history end;
      tells = leaders_tell rules ids fit h history end;
      stops = stops_stay rules h (new_replicas rules ids) end history run;
    }
