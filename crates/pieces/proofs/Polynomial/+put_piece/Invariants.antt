-- The level is the measure.
use Rattle.pieces.proofs.Polynomial.+put_piece.Given as goal

abbrev pub decreases-put_piece : goal.decreases-put_piece
decreases-put_piece l = l.level
