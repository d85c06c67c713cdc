-- What a refusal says of the octets before and behind its deciding one.
-- Assumes nothing.
use Prim.Native.Nat.{ℕ, suc, ◌≤◌}
use mathlib.Core.Path.{◌≡◌, refl, sym, ap, subst, ◌∙◌}
use mathlib.Core.List.{List, [], ◌∷◌, ◌++◌, append_assoc}
use native.Mathlib.Numerals.{add-one}
use native.Mathlib.Omega.{arith}
use lib.ListN.{length, take}
use lib.Seq.{take-append-add, take-append_seam, take-length}
use Rattle.run.specs.Head.{Head, refused}
use Rattle.sorts.specs.Forms.{CSI}
use Rattle.sequence_reading.specs.Grammar.{Sequence, Inside, SpellsSequence, sequence, RefusesSequence, ends, not_allowed, passes, GoesOn}
use Rattle.sequence_reading.specs.Grammar.{fortieth}
use Rattle.sequence_reading.specs.SequenceHead.{sequence_head}
use Rattle.sequence_reading.proofs.Steps.{kind_final}
use Rattle.sequence_reading.proofs.Reach.{Tells, refusal_found}
use Rattle.sequence_reading.proofs.Reader.{refuses_exactly, Beginning, nothing, foreign, told, beginning, foreign_refused}

up_to : (s : List ℕ) (b : ℕ) (t u : List ℕ) → take (suc (length s)) (s ++ (b ∷ t)) ++ u ≡ s ++ (b ∷ u)
up_to s b t u =
    ap (λ (n : ℕ). take n (s ++ (b ∷ t)) ++ u) (sym (add-one (length s)))
    ∙ ap (λ (l : List ℕ). l ++ u) (take-append-add s (b ∷ t) 1)
    ∙ append_assoc s (b ∷ []) u

still_refused : {s : List ℕ} {r d : ℕ} → RefusesSequence s r d → (r ≡ 4 → ⊥) → (t : List ℕ) → RefusesSequence (take (suc d) s ++ t) r d
still_refused (ends h) n t = absurd (n refl)
still_refused (not_allowed {s} b u h n) _ t = rw (up_to s b u t) (not_allowed b t h n)
still_refused (passes {s} b u h n) _ t = rw (up_to s b u t) (passes b t h n)
still_refused (fortieth {s} b u h l n) _ t = rw (up_to s b u t) (fortieth b t h l n)

stays_by : {s : List ℕ} {h : Head Sequence} → Beginning s h → (r d : ℕ) → h ≡ refused r d → (r ≡ 4 → ⊥) → (t : List ℕ)
    → sequence_head (take (suc d) s ++ t) ≡ refused r d
stays_by nothing r d e n t = let z : ◌≡◌ {A = ℕ} 0 1 = cc in absurd (omega arith)
stays_by (foreign {b} m) r d e n t = let ed : d ≡ 0 = cc in rw ed (foreign_refused b t m ∙ e ∙ rw ed)
stays_by (told {t = u} x) r d e n t = refusal_found (still_refused (subst (Tells (CSI ∷ u)) e x) n t)

-- An answer other than 4 does not change whatever follows its deciding octet.
pub stays : (s : List ℕ) (r d : ℕ) → sequence_head s ≡ refused r d → (r ≡ 4 → ⊥) → (t : List ℕ)
    → sequence_head (take (suc d) s ++ t) ≡ refused r d
stays s r d e n t = stays_by (beginning s) r d e n t

inside_before : {s : List ℕ} {r d : ℕ} → RefusesSequence s r d → (m : ℕ) × (vs : List ℕ) × Inside (take d s) m vs
inside_before (ends {s} {vs} {m} h) = (m, vs, rw (take-length s) h)
inside_before (not_allowed {s} {vs} {m} b t h n) = (m, vs, rw (take-append_seam s (b ∷ t)) h)
inside_before (passes {s} {vs} b t h n) = (0, vs, rw (take-append_seam s (b ∷ t)) h)
inside_before (fortieth {s} {vs} {m} b t h l n) = (m, vs, rw (take-append_seam s (b ∷ t)) h)

-- What stands before the deciding octet can be continued to a whole sequence: by a final.
pub goes_on : {s : List ℕ} {r d : ℕ} → RefusesSequence s r d → GoesOn s d
goes_on {s} {r} {d} k =
    let i = inside_before k in
    let e : take d s ++ (0x40 ∷ []) ≡ CSI ∷ ((i.2.parameters ++ i.2.intermediate) ++ (0x40 ∷ [])) =
    ap (λ (l : List ℕ). l ++ (0x40 ∷ [])) i.2.whole in
    let q : Sequence = record { middle = i.0; last = 0x40; values = i.1 } in
    record {
      more = 0x40 ∷ [];
      rest = (i.2.parameters ++ i.2.intermediate) ++ (0x40 ∷ []);
      found = q;
      whole = e;
      spells = subst (λ (l : List ℕ). SpellsSequence l q) e (sequence 0x40 i.2 (kind_final 0x40 (omega arith) (omega arith)));
    }

cut_by : {s : List ℕ} {r d : ℕ} → RefusesSequence s r d → r ≡ 4 → (d ≡ length s) × (length s ≤ 39)
cut_by (ends h) e = (refl, h.short)
cut_by (not_allowed b t h n) e = absurd (omega arith)
cut_by (passes b t h n) e = absurd (omega arith)
cut_by (fortieth b t h l n) e = absurd (omega arith)

-- An answer 4 is at the end of the input, and less than 40 octets stand before it.
pub cut_off : (s : List ℕ) (d : ℕ) → sequence_head (CSI ∷ s) ≡ refused 4 d → (d ≡ length (CSI ∷ s)) × (length (CSI ∷ s) ≤ 39)
cut_off s d e = cut_by ((refuses_exactly s 4 d).0 e) refl
