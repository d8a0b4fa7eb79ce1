-- `cases::checksum` overflows nowhere: sum is below 65521.
-- Assumes nothing.
use Rattle.std.proofs.Common.{◌<◌}
use Rattle.cases.proofs.checksum.Given as goal

abbrev pub invariant-loop-byte : goal.invariant-loop-byte
invariant-loop-byte l = l.sum < 65521
