-- The octets that wait and then the piece, copied one after the other.
-- Assumes nothing.
use Prim.Native.Nat.{ℕ, zero, suc, ◌+◌, ◌-◌}
use mathlib.Core.Path.{◌≡◌, sym, ap, ap₂, ◌∙◌}
use mathlib.Core.List.{List, [], ◌∷◌, ◌++◌, append_assoc, append-nil}
use native.Mathlib.Omega.{arith}
use lib.ListN.{length, take, drop, length-append, length-drop, length-take, drop_of_length-le}
use lib.Seq.{take-append_seam, drop-append_seam, drop-drop}
use borrow.Rule.Slice.PartMut.{put_mid}
use Rattle.run.proofs.Puts.{behind, behind_is}
use Rattle.open_elements.specs.Steps.{Gathered}

drop_both : (n : ℕ) (s t : List ℕ) → drop n (s ++ t) ≡ drop n s ++ drop (n - length s) t
drop_both zero s t = let k : 0 ≡ 0 - length s = omega arith in ap (λ (i : ℕ). s ++ drop i t) k
drop_both (suc n) [] t = let k : suc n ≡ suc n - 0 = omega arith in ap (λ (i : ℕ). drop i t) k
drop_both (suc n) (o ∷ s) t =
    let k : n - length s ≡ suc n - suc (length s) = omega arith in drop_both n s t ∙ ap (λ (i : ℕ). drop n s ++ drop i t) k

take_both : (n : ℕ) (s t : List ℕ) → take n (s ++ t) ≡ take n s ++ take (n - length s) t
take_both zero s t = let k : 0 ≡ 0 - length s = omega arith in ap (λ (i : ℕ). take i t) k
take_both (suc n) [] t = let k : suc n ≡ suc n - 0 = omega arith in ap (λ (i : ℕ). take i t) k
take_both (suc n) (o ∷ s) t =
    let k : n - length s ≡ suc n - suc (length s) = omega arith in
    ap (λ (l : List ℕ). o ∷ l) (take_both n s t ∙ ap (λ (i : ℕ). take n s ++ take i t) k)

pub gathered_both : (s t : List ℕ) (from : ℕ) {into mid part : List ℕ} {n m : ℕ} → Gathered (drop from s) 0 into n mid
    → Gathered (drop (from - length s) t) 0 (behind mid n) m part
    → Gathered (s ++ t) from into (n + m) (put_mid n (length mid - n) mid part)
gathered_both s t from {into} {mid} {part} {n} {m} one two =
    let u : List ℕ = drop from s in
    let v : List ℕ = drop (from - length s) t in
    let room : ℕ = length into in
    let size : n ≡ length (take room u) = one.many in
    let front : take n mid ≡ take room u = ap₂ take one.many one.stand ∙ take-append_seam (take room u) (drop (length (take room u)) into) in
    let rest : behind mid n ≡ drop n into =
    behind_is mid n
    ∙ ap₂ drop one.many one.stand
    ∙ drop-append_seam (take room u) (drop (length (take room u)) into)
    ∙ ap (λ (i : ℕ). drop i into) (sym size) in
    let w : List ℕ = take (length (behind mid n)) v in
    let left : length (behind mid n) ≡ room - length u =
    ap length rest ∙ length-drop n into ∙ omega (arith, size, length-take room u) in
    let both : take room (drop from (s ++ t)) ≡ take room u ++ w =
    ap (take room) (drop_both from s t) ∙ take_both room u v ∙ ap (λ (i : ℕ). take room u ++ take i v) (sym left) in
    let long : length (take room (drop from (s ++ t))) ≡ n + m =
    ap length both ∙ length-append (take room u) w ∙ ap₂ ◌+◌ (sym size) (sym two.many) in
    let none : drop (length mid - n) (drop n mid) ≡ [] =
    drop_of_length-le (drop n mid) {i = length mid - n} (omega (arith, length-drop n mid)) in
    let now : part ≡ w ++ drop m (drop n into) =
    two.stand ∙ ap₂ (λ (i : ℕ) (l : List ℕ). w ++ drop i l) (sym two.many) rest in
    record {
      many = sym long;
      stand =
          ap₂ (λ (a b : List ℕ). a ++ (part ++ b)) front none
          ∙ ap (λ (l : List ℕ). take room u ++ l) (append-nil part ∙ now)
          ∙ sym (append_assoc (take room u) w (drop m (drop n into)))
          ∙ ap₂ ◌++◌ (sym both) (drop-drop m n into ∙ ap (λ (i : ℕ). drop i into) (sym long));
    }
