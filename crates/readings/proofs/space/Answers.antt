use Rattle.std.proofs.Common.{ℕ, sym}
use Rattle.std.proofs.lemmas.List.{length-replicate}
use Rattle.readings.proofs.space.Goals as goal

pub returns : goal.returns
returns c = sym {0} (length-replicate {0} {A = ℕ} 4194305 0)
