use Rattle.std.proofs.Common.{◌+◌, ◌≤◌, length}
use Rattle.reader.proofs.Reading.{ReadSoFar}
use Rattle.reader.proofs.lines.read.Given as goal

abbrev pub invariant-loop-rest : goal.invariant-loop-rest
invariant-loop-rest l = ReadSoFar l.text l.rest l.count l.into × (l.count + length l.rest ≤ length l.text)

abbrev pub decreases-loop-rest : goal.decreases-loop-rest
decreases-loop-rest l = length l.rest
