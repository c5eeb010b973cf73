use Rattle.std.proofs.Common.{rules}
use Rattle.crn_engines.proofs.commands.answer_command.Goals as goal

pub returns-in-Words-clause-wrote : goal.returns-in-Words-clause-wrote
returns-in-Words-clause-wrote g c = search rules

pub returns-in-Words-clause-front : goal.returns-in-Words-clause-front
returns-in-Words-clause-front g c = search rules

pub returns-in-Replay-clause-wrote : goal.returns-in-Replay-clause-wrote
returns-in-Replay-clause-wrote g c = search rules

pub returns-in-Replay-clause-front : goal.returns-in-Replay-clause-front
returns-in-Replay-clause-front g c = search rules

pub returns-in-Leg-clause-wrote : goal.returns-in-Leg-clause-wrote
returns-in-Leg-clause-wrote g c = search rules

pub returns-in-Leg-clause-front : goal.returns-in-Leg-clause-front
returns-in-Leg-clause-front g c = search rules

pub returns-in-Resume-clause-wrote : goal.returns-in-Resume-clause-wrote
returns-in-Resume-clause-wrote g c = search rules

pub returns-in-Resume-clause-front : goal.returns-in-Resume-clause-front
returns-in-Resume-clause-front g c = search rules

pub returns-in-Migrate-clause-wrote : goal.returns-in-Migrate-clause-wrote
returns-in-Migrate-clause-wrote g c = search rules

pub returns-in-Migrate-clause-front : goal.returns-in-Migrate-clause-front
returns-in-Migrate-clause-front g c = search rules

pub returns-in-Help-clause-wrote : goal.returns-in-Help-clause-wrote
returns-in-Help-clause-wrote g c = search rules

pub returns-in-Help-clause-front : goal.returns-in-Help-clause-front
returns-in-Help-clause-front g c = search rules
