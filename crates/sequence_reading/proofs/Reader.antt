-- The reader answers exactly what the grammar says.
-- Assumes nothing.
use Prim.Native.Nat.{ℕ, ◌≤◌, ◌<◌}
use mathlib.Core.Path.{◌≡◌, refl, subst}
use mathlib.Core.List.{List, [], ◌∷◌}
use mathlib.Core.Bool.{Bool, true, false}
use mathlib.Core.Logic.{◌↔◌}
use native.Mathlib.Omega.{arith}
use lib.Dec.{eqb}
use lib.ListN.{length, length-append}
use borrow.Author.Tests.{eqb-true, eqb-false, ne_eqb}
use Rattle.run.specs.Choice.{pick}
use Rattle.run.specs.Head.{Head, element, refused, none}
use Rattle.run.specs.Grammar.{Begins, Reads}
use Rattle.sorts.specs.Forms.{CSI}
use Rattle.sequence_reading.specs.Grammar.{Sequence, SpellsSequence, sequence, RefusesSequence, ends, not_allowed, passes, fortieth}
use Rattle.sequence_reading.specs.SequenceHead.{scan, begun, sequence_head}
use Rattle.sequence_reading.proofs.Reach.{snoc_length, Tells, view, standing_start, spelling_found, refusal_found}

head_tells : (t : List ℕ) → Tells (CSI ∷ t) (sequence_head (CSI ∷ t))
unfolding sequence_head
head_tells t = view t (CSI ∷ []) [] begun standing_start

-- Behind a 9B the reader refuses exactly what the grammar refuses, with the same number and deciding octet.
pub refuses_exactly : (t : List ℕ) (r d : ℕ) → (sequence_head (CSI ∷ t) ≡ refused r d) ↔ RefusesSequence (CSI ∷ t) r d
refuses_exactly t r d = (λ e. subst (Tells (CSI ∷ t)) e (head_tells t), refusal_found)

-- how a list begins: with nothing, with another octet than 9B, or with a 9B and what the reader tells of it
pub data Beginning : List ℕ → Head Sequence → Type 0 where
  nothing : Beginning [] none
  foreign : {b : ℕ} {t : List ℕ} → (b ≡ CSI → ⊥) → Beginning (b ∷ t) (refused 6 0)
  told : {t : List ℕ} {h : Head Sequence} → Tells (CSI ∷ t) h → Beginning (CSI ∷ t) h

begins_by : (b : ℕ) (t : List ℕ) (x : Bool) → eqb b CSI ≡ x → Beginning (b ∷ t) (pick x (scan [] begun t) (refused 6 0))
unfolding sequence_head
begins_by b t true e = let z : b ≡ CSI = eqb-true b CSI e in rw z (told (head_tells t))
begins_by b t false e = foreign (eqb-false b CSI e)

pub beginning : (s : List ℕ) → Beginning s (sequence_head s)
unfolding sequence_head
beginning [] = nothing
beginning (b ∷ t) = begins_by b t (eqb b CSI) refl

-- another octet than 9B is refused at once
pub foreign_refused : (b : ℕ) (t : List ℕ) → (b ≡ CSI → ⊥) → sequence_head (b ∷ t) ≡ refused 6 0
unfolding sequence_head
foreign_refused b t n = simp (ne_eqb b CSI n)

refused_some : {u : List ℕ} {r d : ℕ} → RefusesSequence u r d → (0 < r) × (d ≤ length u)
refused_some (ends h) = (omega arith, omega arith)
refused_some (not_allowed {s} b t h n) = (omega arith, omega (arith, length-append s (b ∷ t)))
refused_some (passes {s} b t h n) = (omega arith, omega (arith, length-append s (b ∷ t)))
refused_some (fortieth {s} b t h l n) = (omega arith, omega (arith, length-append s (b ∷ t)))

spelt_some : {p : List ℕ} {q : Sequence} → SpellsSequence p q → 0 < length p
spelt_some (sequence {s} b h e) = omega (arith, snoc_length s b)

found : {s : List ℕ} {h : Head Sequence} → Beginning s h → (q : Sequence) (k : ℕ) → h ≡ element q k → Begins SpellsSequence s q k
found nothing q k e = let z : ◌≡◌ {A = ℕ} 0 1 = cc in absurd (omega arith)
found (foreign n) q k e = let z : ◌≡◌ {A = ℕ} 0 1 = cc in absurd (omega arith)
found (told {t} x) q k e = subst (Tells (CSI ∷ t)) e x

goes : {s : List ℕ} {h : Head Sequence} → Beginning s h → h ≡ none → s ≡ []
goes nothing e = refl
goes (foreign n) e = let z : ◌≡◌ {A = ℕ} 0 1 = cc in absurd (omega arith)
goes (told {t} x) e = absurd (subst (Tells (CSI ∷ t)) e x)

inside : {s : List ℕ} {h : Head Sequence} → Beginning s h → (r d : ℕ) → h ≡ refused r d → (0 < r) × (d ≤ length s)
inside nothing r d e = let z : ◌≡◌ {A = ℕ} 0 1 = cc in absurd (omega arith)
inside (foreign n) r d e = let er : 6 ≡ r = cc in let ed : 0 ≡ d = cc in (omega arith, omega arith)
inside (told {t} x) r d e = refused_some (subst (Tells (CSI ∷ t)) e x)

-- The reader finds exactly the spellings of the grammar, and nothing only at the end.
pub sequence_reads : Reads sequence_head SpellsSequence
unfolding sequence_head
sequence_reads =
    record {
      finds = λ p t e x. spelling_found x t;
      found = λ s e k x. found (beginning s) e k x;
      some = λ p e x. spelt_some x;
      ends = refl;
      goes = λ s x. goes (beginning s) x;
      numbered = λ s r d x. (inside (beginning s) r d x).0;
      inside = λ s r d x. (inside (beginning s) r d x).1;
    }

spelt_eight : {p : List ℕ} {q : Sequence} → SpellsSequence p q → length q.values ≤ 8
spelt_eight (sequence b h e) = h.eight

-- A sequence that is read has eight values at most.
pub read_eight : (s : List ℕ) (q : Sequence) (k : ℕ) → sequence_head s ≡ element q k → length q.values ≤ 8
read_eight s q k e = spelt_eight (sequence_reads.found s q k e).spells
