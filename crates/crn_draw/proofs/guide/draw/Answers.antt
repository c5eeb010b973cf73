use Rattle.std.proofs.Common.{rules, slice_index}
use Rattle.crn_draw.proofs.Guides.{entry-stands}
use Rattle.crn_draw.proofs.guide.draw.Goals as goal

pub returns-then-value-clause-value : goal.returns-then-value-clause-value
returns-then-value-clause-value c =
    entry-stands c.args.runs.now c.args.total (slice_index c.args.words.now c.args.k) c.args.guide.now (search rules) c.requires.guide c.index-value.result.now (search rules) (search rules)
