-- What a parse and its faults say of the words.
use Rattle.std.proofs.Common.{◌≡◌, ◌≢◌, List, Result, Ok, Err, IfErr, inl, inr, refl, true}
use Rattle.clap.specs.Words.{HasKind, IsAmong, Kinds, Text, fault_of, is_simple, is_simple_and_free, kind_of}
use Rattle.clap.specs.declared.error.Error.{Error}
use Rattle.clap.specs.declared.error.kind.ErrorKind.TheVariants as kind
use Rattle.clap.proofs.OnLiterals.{clap_on_literals}
use Rattle.crn_command_line.specs.Parsing.{RefusesWords, crnsim}
use Rattle.crn_command_line.specs.declared.commands.Command.{Command}
use Rattle.crn_command_line.specs.declared.fault.CommandLineFault.{CommandLineFault}
use Rattle.crn_command_line.specs.declared.fault.CommandLineFault.TheVariants as fault

pub crnsim_simple : is_simple crnsim ≡ true
unfolding clap_on_literals crnsim
crnsim_simple = refl

pub crnsim_free : is_simple_and_free crnsim ≡ true
unfolding clap_on_literals crnsim
crnsim_free = refl

-- ---- words that are not

among : (answer : Error) (kinds : Kinds) → HasKind kinds answer → kind_of answer ≢ kind.OutOfMemory → IsAmong (kind_of answer) kinds
among answer kinds (inl memory) other = absurd (other memory)
among answer kinds (inr found) other = found

pub not_parsed : (words : List Text) (answer : Error) (r : Result Command CommandLineFault) → HasKind (fault_of crnsim words) answer
    → (r ≡ Err fault.Words → (kind_of answer ≢ kind.DisplayHelp) × (kind_of answer ≢ kind.OutOfMemory)) → IfErr r (λ e. RefusesWords words e)
not_parsed words answer (Ok c) has refused = tt
not_parsed words answer (Err fault.Words) has refused =
    inr (record { why = kind_of answer; found = among answer (fault_of crnsim words) has (refused refl).1; no_help = (refused refl).0 })
not_parsed words answer (Err (fault.Memory _)) has refused = tt
