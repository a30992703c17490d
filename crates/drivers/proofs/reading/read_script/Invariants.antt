use Rattle.std.proofs.Common.{length}
use Rattle.drivers.specs.Script.{kept_in}
use Rattle.drivers.proofs.Scripts.{IsReading}
use Rattle.drivers.proofs.reading.read_script.Given as goal

abbrev pub decreases-loop-rest : goal.decreases-loop-rest
decreases-loop-rest l = length l.rest

abbrev pub invariant-loop-rest : goal.invariant-loop-rest
invariant-loop-rest l = IsReading l.text l.rest l.room (kept_in l.script l.events.items)
