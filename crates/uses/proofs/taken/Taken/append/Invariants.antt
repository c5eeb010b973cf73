use Rattle.std.proofs.Common.{◌≡◌, ◌+◌, vec_len, vec_capacity}
use Rattle.uses.proofs.taken.Taken.append.Given as goal

abbrev pub invariant-loop-k : goal.invariant-loop-k
invariant-loop-k l = (l.self.key ≡ l.initial.self.key) × (l.self.first ≡ l.initial.self.first) × (vec_capacity l.self.blocks ≡ vec_capacity l.initial.self.blocks) × (vec_len l.self.blocks ≡ vec_len l.initial.self.blocks + l.k)
