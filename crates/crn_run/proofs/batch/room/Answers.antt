use Rattle.std.proofs.Common.{refl}
use Rattle.crn_cipher.specs.Blocks.{BlockWords}
use Rattle.crn_cipher.specs.Cipher.{Threefry, even_round, odd_round, key_step, rotl}
use Rattle.crn_run.proofs.batch.room.Goals as goal

-- by computing the cipher
pub from_words-requires : goal.from_words-requires
unfolding BlockWords Threefry even_round odd_round key_step rotl
from_words-requires c = refl
