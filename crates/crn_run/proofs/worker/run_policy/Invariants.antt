use Rattle.std.proofs.Common.{◌≡◌, false}
use Rattle.crn_stock.specs.Stock.{next_block}
use Rattle.crn_ring.specs.Calls.{IsReaderOf, reader_number, reader_part, spec_of}
use Rattle.crn_run.specs.Gates.{PassedUpTo}
use Rattle.crn_run.specs.Turns.{TakesByTurns}
use Rattle.crn_run.specs.Inner.Ends.{Advances}
use Rattle.crn_run.proofs.worker.run_policy.Given as goal

abbrev pub invariant-loop : goal.invariant-loop
invariant-loop g l = record {
  reader : IsReaderOf l.ring l.reader;
  number : reader_number l.reader ≡ reader_number l.initial.reader;
  running : (reader_part l.reader).seen_end ≡ false;
  taken : (reader_part l.reader).taken ≡ next_block l.state;
  advances : Advances l.scenario.model l.rules l.scenario.key l.initial.state l.state;
  gate : g.G.Gate.refused l.gate ≡ false;
  turns : TakesByTurns (spec_of l.ring) (reader_part l.initial.reader) (reader_part l.reader) l.waiting.counted;
  passed : PassedUpTo g.G.Gate.asked l.policy (next_block l.initial.state) (next_block l.state) l.initial.gate l.gate;
}
