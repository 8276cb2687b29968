use Rattle.raft_list_reports.proofs.Stops.{stops_are_kept, stops_begin}
use Rattle.raft_list_reports.proofs.laws.stops_are_kept.Goals as goal

pub returns-clause-begin : goal.returns-clause-begin
returns-clause-begin c = stops_begin

pub returns-clause-goes_on : goal.returns-clause-goes_on
returns-clause-goes_on c = stops_are_kept
