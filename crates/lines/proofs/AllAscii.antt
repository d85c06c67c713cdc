-- A text that passes `all_ascii` is ASCII. Assumes nothing.
use Rattle.std.proofs.Common.{ℕ, ◌≡◌, List, [], ◌∷◌, Bool, zero, suc, true, false, cond, nat_lt, refl, arith}
use Rattle.std.proofs.lemmas.Bool.{ltb-true}
use Rattle.std.specs.Str.{IsAscii}
use Rattle.lines.specs.Ascii.{all_ascii}

parts : (x y : Bool) → cond x y false ≡ true → (x ≡ true) × (y ≡ true)
parts true y e = (refl, e)
parts false y e = cc

pub ascii : (bs : List ℕ) → all_ascii bs ≡ true → IsAscii bs
ascii [] e i = omega arith
ascii (b ∷ bs) e zero = ltb-true b 128 (parts (nat_lt b 128) (all_ascii bs) e).0
ascii (b ∷ bs) e (suc i) = ascii bs (parts (nat_lt b 128) (all_ascii bs) e).1 i
