use Rattle.std.proofs.Common.{length}
use Rattle.xod_volume.proofs.piece.+overwrite_pieces.Given as goal

abbrev pub decreases-overwrite_pieces : goal.decreases-overwrite_pieces
decreases-overwrite_pieces l = length l.pieces.now
