use Rattle.std.proofs.Common.{◌≡◌, ◌≤◌, ◌+◌, length}
use Rattle.xod_lang.specs.Scripts.{script_of}
use Rattle.xod_lang.proofs.ReadLemmas.{goes_on}
use Rattle.xod_lang.proofs.read.read_lines.Given as goal

abbrev pub invariant-loop-rest : goal.invariant-loop-rest
invariant-loop-rest l = record {
  goes_on : goes_on l.reading l.line l.rest ≡ script_of l.bytes;
  in_range : l.line + length l.rest ≤ length l.bytes + 1;
}

abbrev pub decreases-loop-rest : goal.decreases-loop-rest
decreases-loop-rest l = length l.rest
