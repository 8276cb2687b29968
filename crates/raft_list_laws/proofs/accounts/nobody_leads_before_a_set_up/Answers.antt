use Rattle.raft_list_laws.proofs.SetUps.{nobody_led_before}
use Rattle.raft_list_laws.proofs.accounts.nobody_leads_before_a_set_up.Goals as goal

pub returns : goal.returns
returns c = nobody_led_before
