use Rattle.std.proofs.Common.{◌≡◌, drop}
use Rattle.crn_spelling.specs.Hex.{are_hex_digits}
use Rattle.crn_spelling.proofs.hex.are_hex_digits.Given as goal

abbrev pub invariant-loop-byte : goal.invariant-loop-byte
invariant-loop-byte l = are_hex_digits (drop l.byte-index l.bytes) ≡ are_hex_digits l.bytes
