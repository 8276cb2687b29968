-- Which fault of the storage an event met.
use Rattle.std.specs.Prelude.{Option, Some, None, Result, Ok, Err}
use Rattle.raft_member.specs.declared.member.Broken.{Broken}
use Rattle.raft_member.specs.declared.member.Broken.TheVariants as broken

-- none where it wasn't begun
abbrev pub fault_begun : {F : Type 0} → Broken F → Option F
fault_begun (broken.Unjudged refused) = None
fault_begun (broken.Begun why) = Some why

-- none where the event ended
abbrev pub fault_met_by_event : {T F : Type 0} → Result T (Broken F) → Option F
fault_met_by_event (Ok ended) = None
fault_met_by_event (Err met) = fault_begun met
