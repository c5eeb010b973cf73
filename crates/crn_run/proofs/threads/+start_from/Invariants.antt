use Rattle.std.proofs.Common.{vec_len}
use Rattle.crn_run.proofs.threads.+start_from.Given as goal

abbrev pub decreases-start_from : goal.decreases-start_from
decreases-start_from g l = vec_len l.jobs.now
