use Rattle.std.proofs.Common.{◌∙◌, rules}
use Rattle.toml.specs.View.{table_view}
use Rattle.crn_scenario.specs.Reading.{scenario_of}
use Rattle.crn_scenario.proofs.Policies.{scenario_fits, fits_as}
use Rattle.crn_scenario.proofs.scenario.scenario_of.Goals as goal

pub new-requires : goal.new-requires
new-requires c = fits_as (table_view c.args.table.now) _ _ (search rules) (search rules) (scenario_fits (table_view c.args.table.now) c.requires)

pub returns : goal.returns
unfolding scenario_of
returns c = c.new.ensures ∙ search rules
