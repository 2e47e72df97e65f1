use Rattle.std.proofs.Common.{◌≡◌, ◌-◌, take, length}
use Rattle.std.specs.List.{concat}
use Rattle.xod_volume.specs.Leases.{Filled}
use Rattle.xod_volume.proofs.pieces.read_pieces.Given as goal

abbrev pub invariant-loop-piece : goal.invariant-loop-piece
invariant-loop-piece l =
    Filled (concat (take l.piece-index l.pieces)) l.within l.fn.out l.out l.filled
    × (l.from ≡ l.within - length (concat (take l.piece-index l.pieces)))
    × (length l.out ≡ length l.fn.out)
