-- What a clock is behind each call.
use Rattle.std.specs.Prelude.{ℕ, max, List, [], None}
use Rattle.raft_timers.specs.declared.config.TimerConfig.{TimerConfig}
use Rattle.raft_timers.specs.declared.view.GroupView.{GroupView}
use Rattle.raft_timers.specs.Clock.{Clock}
use Rattle.raft_timers.specs.Election.{election_after, first_wait}
use Rattle.raft_timers.specs.Lead.{lead_after}
use Rattle.raft_timers.specs.Request.{requests_after, requests_answered, requests_of}

-- a clock doesn't go back
abbrev pub moment : Clock → ℕ → ℕ
moment c now = max now c.now

abbrev pub new_clock : TimerConfig → ℕ → List ℕ → ℕ → Clock
new_clock config seed peers now =
    record {
      config = config;
      now = now;
      election = first_wait config.settings now seed;
      lead = None;
      requests = requests_of config.settings [] peers;
    }

abbrev pub with_peers : List ℕ → Clock → Clock
with_peers peers c = record c { requests = requests_of c.config.settings c.requests peers }

abbrev pub answered : ℕ → Clock → Clock
answered peer c = record c { requests = requests_answered c.config.settings peer c.requests }

-- each part at this moment
abbrev pub ticked : GroupView → List ℕ → ℕ → Clock → Clock
ticked view waiting now c =
    record {
      config = c.config;
      now = moment c now;
      election = election_after c.config.settings view (moment c now) c.election;
      lead = lead_after c.config.settings view (moment c now) c.lead;
      requests = requests_after c.config.settings waiting (moment c now) c.requests;
    }
