use Rattle.std.proofs.Common.{rules}
use Rattle.crn_engines.proofs.Refused.{of_each, output_of_lanes, scenario_of_report}
use Rattle.crn_engines.proofs.Sent.{sent, sent_front}
use Rattle.crn_engines.proofs.lanes.simulate_lanes.Goals as goal

pub returns-clause-wrote : goal.returns-clause-wrote
returns-clause-wrote g c = sent _ _ _ c.in_ok-text.text.items c.in_ok-text.ensures.made c.send_made.result (search (rules, c.send_made.ensures.whole))

pub returns-clause-front : goal.returns-clause-front
returns-clause-front g c = sent_front _ _ _ c.in_ok-text.text.items c.in_ok-text.ensures.made c.send_made.result _ c.send_made.ensures.front

pub returns-clause-refused : goal.returns-clause-refused
returns-clause-refused g c = of_each c.send_made.result _ _ (λ e. output_of_lanes e _ _ (scenario_of_report _ _ c.in_ok-text.text.items c.in_ok-text.ensures.made)) c.send_made.ensures.refused
