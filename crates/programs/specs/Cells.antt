-- A number that variable 0 must not hold (document 02, order 9: 'A cell number of n or more .. is a fault').
use Rattle.std.specs.Prelude.{ℕ, Bool, not, ◌&&◌, eqb, leb}

abbrev pub is_astray : ℕ → ℕ → Bool
is_astray n c = not (eqb c 0) && leb n c
