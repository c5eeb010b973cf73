use Rattle.std.proofs.Common.{◌≡◌, drop, false, map}
use Rattle.clap.specs.Words.{app_of}
use Rattle.clap.specs.declared.builder.command.Command.TheViews.{out-Command as fields_of}
use Rattle.crn_command_line.specs.Parsing.{with_arguments}
use Rattle.crn_command_line.proofs.words.with_args.Given as goal

abbrev pub invariant-items : goal.invariant-items
invariant-items l = record {
  shape : with_arguments (app_of l.whole) (map (λ a. a.0.now) (drop l.arg-index l.args)) ≡ with_arguments (app_of l.initial.whole) (map (λ a. a.0.now) l.args);
  local : (fields_of l.whole).has_globals ≡ false;
}
