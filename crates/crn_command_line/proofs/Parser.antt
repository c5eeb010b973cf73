-- What `clap` knows of the program, step by step.
use Rattle.std.proofs.Common.{◌≡◌, ◌∙◌, Result, Ok, Err, IfOk, MatchResult, List, [], ap, subst, true, false}
use Rattle.std.specs.declared.alloc.AllocError.{AllocError}
use Rattle.clap.specs.Words.{AddsArg, AddsSubcommand, App, FailsBy, HasKind, HasMatchesOf, Rule, Shape, Text, app_of, fault_of, is_simple_and_free, rule_of, shape_of, subcommand_of, subcommand_rows_of, with_rule, with_subcommand}
use Rattle.clap.specs.Simple.{app_of_fields}
use Rattle.clap.specs.declared.builder.arg.Arg.{Arg}
use Rattle.clap.specs.declared.builder.command.Command.{Command}
use Rattle.clap.specs.declared.builder.command.Command.TheViews.{out-Command}
use Rattle.clap.specs.declared.error.Error.{Error}
use Rattle.clap.specs.declared.parser.matches.ArgMatches.{ArgMatches}
use Rattle.crn_command_line.specs.Parsing.{crnsim}
use Rattle.crn_command_line.proofs.Parsing.{crnsim_free, crnsim_simple}

pub arg_added : (r : Result Command AllocError) (old : Command) (arg : Arg) (rule : Rule) → arg.global ≡ false → rule_of arg ≡ rule
    → IfOk r (λ new. AddsArg old arg new) → IfOk r (λ new. app_of new ≡ with_rule (app_of old) rule)
arg_added (Ok new) old arg rule local same h = h.shape local ∙ ap (with_rule (app_of old)) same
arg_added (Err e) old arg rule local same h = tt

pub command_added : (r : Result Command AllocError) (old sub : Command) (shape : Shape) → (out-Command sub).has_globals ≡ false → shape_of sub ≡ shape
    → IfOk r (λ new. AddsSubcommand old sub new) → IfOk r (λ new. app_of new ≡ with_subcommand (app_of old) shape)
command_added (Ok new) old sub shape local same h = h.shape local ∙ ap (with_subcommand (app_of old)) same
command_added (Err e) old sub shape local same h = tt

pub named : (r : Result Command AllocError) (old : Command) (Rest : Command → Type 0) (a : App)
    → IfOk r (λ new. (out-Command new ≡ record (out-Command old) { bin_name = (out-Command new).bin_name }) × Rest new) → app_of old ≡ a
    → IfOk r (λ new. app_of new ≡ a)
named (Ok new) old Rest a h same = ap app_of_fields h.0 ∙ same
named (Err e) old Rest a h same = tt

pub rows_found : (r : Result ArgMatches Error) (parser : Command) (words : List Text) → app_of parser ≡ crnsim
    → IfOk r (HasMatchesOf (app_of parser) words) → IfOk r (λ m. subcommand_rows_of m ≡ subcommand_of crnsim words)
rows_found (Ok m) parser words same h =
    let matches : HasMatchesOf crnsim words m = subst (λ (a : App). HasMatchesOf a words m) same h in
    (matches crnsim_simple).1
rows_found (Err e) parser words same h = tt

pub kinds_found : (r : Result ArgMatches Error) (parser : Command) (words : List Text) → app_of parser ≡ crnsim
    → (is_simple_and_free (app_of parser) ≡ true → FailsBy (fault_of (app_of parser) words) r)
    → MatchResult r (λ _. fault_of crnsim words ≡ []) (HasKind (fault_of crnsim words))
kinds_found r parser words same h = subst (λ (a : App). FailsBy (fault_of a words) r) same (h (ap is_simple_and_free same ∙ crnsim_free))
