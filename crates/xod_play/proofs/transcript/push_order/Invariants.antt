use Rattle.std.proofs.Common.{◌≡◌, ◌++◌, map, take}
use Rattle.std.specs.List.{flat_map}
use Rattle.xod_session.specs.Transcripts.{item_of, item_text}
use Rattle.xod_play.proofs.transcript.push_order.Given as goal

abbrev pub invariant-loop-entry : goal.invariant-loop-entry
invariant-loop-entry l = l.out ≡ l.initial.out ++ flat_map item_text (map (item_of l.names) (take l.entry-index l.journal))
