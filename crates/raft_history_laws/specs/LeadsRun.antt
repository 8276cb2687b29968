-- What leaders of worked runs have sent in their present lead, and what they know of their peers by its events.
use Rattle.std.specs.Prelude.{ℕ, Bool, false, List, [], ◌∷◌, ◌++◌, map, Option, Some, None, option_map}
use Rattle.raft_values.specs.declared.vote.Vote.{Vote}
use Rattle.raft_values.specs.declared.log_id.LogId.{LogId}
use Rattle.raft_group_step.specs.Message.{Message, Numbered, ReplyResult}
use Rattle.raft_group_step.specs.Peer.{Outstanding, PeerState, new_peer}
use Rattle.raft_group_step.specs.GroupState.{GroupState, Role, Follower, Candidate, Leader}
use Rattle.raft_group_step.specs.declared.group_call.GroupCall.TheVariants.{Elect, Initialize, Lost, Propose}
use Rattle.raft_laws.specs.declared.world_event.WorldEvent.{WorldEvent}
use Rattle.raft_laws.specs.declared.world_event.WorldEvent.TheVariants.{Add, Ask, Crash, Deliver}
use Rattle.raft_laws.specs.GroupWorld.{new_world}
use Rattle.raft_laws.specs.Origins.{Events}
use Rattle.raft_laws.specs.CrashRuns.{leader_restarts, twice}
use Rattle.raft_laws.specs.Example.{add, addressees_of, membership_of, three, to_their_end}
use Rattle.raft_laws.specs.LawRuns.{state_after}
use Rattle.raft_laws.specs.OneVoter.{alone}
use Rattle.raft_laws.specs.ThreeNodes.{until_accepted, until_proposed, until_told}
use Rattle.raft_step_laws.specs.PeerRows.{asked, before, replies}
use Rattle.raft_step_laws.specs.Serving.{request_number}
use Rattle.raft_step_laws.specs.TokenRows.{leader}
use Rattle.raft_history_laws.specs.KnownPeers.{accepted_by_event, answered_in, has_answered_quorum, peer_after_lead}
use Rattle.raft_history_laws.specs.Leads.{LeadEvent, leads_of}

-- ---- runs

-- the leader crashes before it hears that its command was accepted
abbrev pub leader_crashes : Events
leader_crashes = to_their_end (until_accepted ++ Crash 1 ∷ [])

-- and is opened again
abbrev pub leader_reopens : Events
leader_reopens = to_their_end leader_restarts

-- it stops as it stores a second command
abbrev pub leader_stops : Events
leader_stops = to_their_end until_proposed ++ (Ask 1 (Propose (add 7) 2) 0, Some 1) ∷ []

-- a sole voter is asked to stand for election while it leads, and leads under the next vote at once
abbrev pub elected_again : Events
elected_again = to_their_end (alone ++ Ask 1 Elect 0 ∷ [])

-- the reply to the first of two commands comes, and the second one is sent in that event
abbrev pub next_is_sent : List WorldEvent
next_is_sent = until_proposed ++ Ask 1 (Propose (add 7) 2) 0 ∷ Deliver 8 0 ∷ Deliver 9 0 ∷ []

-- a request comes twice, and so does its reply
abbrev pub replies_twice : List WorldEvent
replies_twice = twice ++ Deliver 10 0 ∷ []

-- a request to node 3 is lost, and sent again
abbrev pub loses_a_request : List WorldEvent
loses_a_request = until_told ++ Ask 1 (Lost 3) 0 ∷ []

-- two voters and a learner: the learner accepts all that the leader has
abbrev pub until_learned : List WorldEvent
until_learned =
    Add 1 ∷ Add 2 ∷ Add 3 ∷ Ask 1 (Initialize (membership_of (1 ∷ 2 ∷ []) (3 ∷ []))) 0
    ∷ Deliver 0 0 ∷ Deliver 1 0 ∷ Deliver 3 0 ∷ Deliver 4 0 ∷ []

-- and then the other voter does
abbrev pub until_both_accepted : List WorldEvent
until_both_accepted = until_learned ++ Deliver 2 0 ∷ Deliver 5 0 ∷ []

-- ---- what was sent

-- to whom a message goes, and the number of the request that it is
abbrev pub numbers_of : List Message → List (ℕ × Option ℕ)
numbers_of ms = map (λ (m : Message). (m.addressee, request_number m.body)) ms

-- so what each event of a node's present lead sent, in a run of these nodes
abbrev pub sent_in_lead : List ℕ → Events → ℕ → List (List (ℕ × Option ℕ))
sent_in_lead ids es n = map (λ (x : LeadEvent). numbers_of x.sent) (leads_of es (new_world ids) n)

-- the same without numbers
abbrev pub addressees_in_lead : List ℕ → Events → ℕ → List (List ℕ)
addressees_in_lead ids es n =
    map (λ (x : LeadEvent). addressees_of x.sent) (leads_of es (new_world ids) n)

abbrev pub notice : ℕ → ℕ × Option ℕ
notice n = (n, None)

abbrev pub request : ℕ → ℕ → ℕ × Option ℕ
request n number = (n, Some number)

-- what the leader of three nodes sent until its command was told
abbrev pub sent_until_told : List (List (ℕ × Option ℕ))
sent_until_told =
    (request 2 1 ∷ request 3 1 ∷ []) ∷ (notice 2 ∷ notice 3 ∷ []) ∷ (request 2 2 ∷ [])
    ∷ (notice 2 ∷ notice 3 ∷ []) ∷ []

-- ---- what came back, on three nodes

-- the place at which a lead began
abbrev pub began_in : Role → ℕ
began_in Follower = 0
began_in (Candidate granters) = 0
began_in (Leader lead) = lead.began

abbrev pub lead_of : List WorldEvent → ℕ → List LeadEvent
lead_of es n = leads_of (to_their_end es) (new_world three) n

-- what a peer has accepted, the number of the next request to it, and that of the outstanding one
abbrev pub in_brief : PeerState → Option (LogId ℕ) × ℕ × Option ℕ
in_brief p = (p.matched, p.next_id, option_map (λ (o : Outstanding). o.id) p.outstanding)

-- so a peer is known by the events of a node's lead
abbrev pub known_of : List WorldEvent → ℕ → ℕ → Option (LogId ℕ) × ℕ × Option ℕ
known_of es n peer =
    let s = state_after (to_their_end es) n
    in in_brief (peer_after_lead s (lead_of es n) (new_peer (began_in s.role) peer))

-- the log ids that a peer has answered with success in it
abbrev pub answers_of : List WorldEvent → ℕ → ℕ → List (LogId ℕ)
answers_of es n peer =
    let s = state_after (to_their_end es) n
    in answered_in s (lead_of es n) (new_peer (began_in s.role) peer)

abbrev pub quorum_in : Role → ℕ → GroupState → List LeadEvent → ℕ → Bool
quorum_in Follower n s events place = false
quorum_in (Candidate granters) n s events place = false
quorum_in (Leader lead) n s events place = has_answered_quorum n s lead events place

-- whether the node leads, and a quorum has answered a place in its lead
abbrev pub has_quorum_for : List WorldEvent → ℕ → ℕ → Bool
has_quorum_for es n place =
    let s = state_after (to_their_end es) n in quorum_in s.role n s (lead_of es n) place

-- what is counted of a reply by a node, at a leader under the vote (2, 2, true) that has sent node 1 its request 1, with
-- entries from behind (1, 1, 1) up to (2, 2, 3)
abbrev pub counted : (peer : ℕ) (vote : Vote ℕ) (number : ℕ) (last : Option (LogId ℕ)) → ReplyResult → List (LogId ℕ)
counted peer vote number end outcome =
    accepted_by_event leader (replies peer vote (Numbered number) before end outcome) asked
