use Rattle.raft_list_reports.proofs.TrueReports.{reports_ahead_are_true, reports_are_true}
use Rattle.raft_list_reports.proofs.laws.reports_are_true.Goals as goal

pub returns-clause-told : goal.returns-clause-told
returns-clause-told c = reports_are_true

pub returns-clause-ahead : goal.returns-clause-ahead
returns-clause-ahead c = reports_ahead_are_true
