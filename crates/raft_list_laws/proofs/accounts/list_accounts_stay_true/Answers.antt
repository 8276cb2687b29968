use Rattle.raft_list_laws.proofs.Keeping.{acceptances_keep, notes_keep, set_ups_keep, silent_keep}
use Rattle.raft_list_laws.proofs.accounts.list_accounts_stay_true.Goals as goal

pub returns-clause-setups : goal.returns-clause-setups
returns-clause-setups c = set_ups_keep

pub returns-clause-notes : goal.returns-clause-notes
returns-clause-notes c = notes_keep

pub returns-clause-acceptances : goal.returns-clause-acceptances
returns-clause-acceptances c = acceptances_keep

pub returns-clause-silent : goal.returns-clause-silent
returns-clause-silent c = silent_keep
