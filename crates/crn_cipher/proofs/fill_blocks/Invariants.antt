use Rattle.std.proofs.Common.{◌≡◌, length}
use Rattle.crn_cipher.specs.Following.{FollowOn}
use Rattle.crn_cipher.proofs.fill_blocks.Given as goal

abbrev pub invariant-loop-k : goal.invariant-loop-k
invariant-loop-k l = (length l.blocks ≡ length l.initial.blocks) × FollowOn l.key l.n l.k l.blocks
