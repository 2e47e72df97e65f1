use Rattle.std.proofs.Common.{◌≡◌, ◌-◌, ◌≤◌, length, take}
use Rattle.std.specs.Io.KnownBytes.{Appends}
use Rattle.xod_io.specs.Outside.{TellsAsBefore}
use Rattle.xod_io.proofs.whole.write_all.Given as goal

-- What the sink gained is the front that is done.
abbrev pub invariant-loop-done : goal.invariant-loop-done
invariant-loop-done g l =
    (l.done ≤ length l.bytes)
    × Appends (g.K.Sink.written l.initial.sink) (g.K.Sink.written l.sink) (take l.done l.bytes)
    × (g.K.Sink.faults l.sink ≡ g.K.Sink.faults l.initial.sink)
    × TellsAsBefore (g.K.Sink.written l.initial.sink) (g.K.Sink.written l.sink)
    × (g.K.Sink.refs l.sink ≡ g.K.Sink.refs l.initial.sink)

abbrev pub decreases-loop-done : goal.decreases-loop-done
decreases-loop-done g l = length l.bytes - l.done
