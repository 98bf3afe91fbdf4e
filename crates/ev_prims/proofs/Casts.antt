-- Signed numbers of 128 bits that are passed on.
use Rattle.std.proofs.lemmas.Int.{to_z-of_z}

pub ruleset casts = (to_z-of_z)
