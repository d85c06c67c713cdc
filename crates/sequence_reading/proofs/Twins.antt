-- Document 02, No. 6: behind 9B an octet of the upper half is read as its twin, so a sequence with any of its octets put there spells the
-- same, or is refused with the same number at the same octet.
-- Assumes nothing.
use Prim.Native.Nat.{ℕ, suc, ◌+◌, ◌-◌}
use mathlib.Core.Path.{◌≡◌, refl, sym, ap, subst, ◌∙◌}
use mathlib.Core.Logic.{◌↔◌}
use mathlib.Core.Bool.{Bool, true, false}
use mathlib.Core.List.{List, [], ◌∷◌, map, append-nil}
use native.Mathlib.Omega.{arith}
use lib.ListN.{length}
use lib.Seq.{take-length}
use Rattle.run.specs.Choice.{pick, within}
use Rattle.run.specs.Head.{Head, element}
use Rattle.run.proofs.Choices.{within_range}
use Rattle.run.proofs.Range as range
use Rattle.run.proofs.Outcomes.{front_taken}
use Rattle.std.proofs.Common.{Result, Ok, Err}
use Rattle.sorts.specs.Forms.{CSI}
use Rattle.sequence_reading.specs.declared.Scan.{Scan}
use Rattle.sequence_reading.specs.declared.Next.{Next}
use Rattle.sequence_reading.specs.declared.Next.TheVariants.{More, Value, Last}
use Rattle.sequence_reading.specs.Kinds.{counts_as, kind_of}
use Rattle.sequence_reading.specs.Grammar.{Sequence, SpellsSequence, RefusesSequence}
use Rattle.sequence_reading.specs.SequenceHead.{step_of, after, scan, sequence_head}
use Rattle.sequence_reading.specs.Twins.{Twin, as_it_is, raised, Twins, none, and}
use Rattle.sequence_reading.proofs.Reader.{sequence_reads, refuses_exactly}

-- an octet's twin is of its kind
pub twin_kind : {b c : ℕ} → Twin b c → kind_of b ≡ kind_of c
twin_kind as_it_is = refl
twin_kind (raised {b} h g) = range.within kind_of (λ o. kind_of (0x80 + o)) 0x21 0x7F (unfold kind_of in refl) b h (omega arith)

pub twins_length : {s t : List ℕ} → Twins s t → length s ≡ length t
twins_length none = refl
twins_length (and k h) = ap suc (twins_length h)

-- ---- what stands at the head

same_after : (n : Result Next ℕ) (vs : List ℕ) (a : Scan) (r q : List ℕ → Scan → Head Sequence) → ((ws : List ℕ) (c : Scan) → r ws c ≡ q ws c)
    → after n vs a r ≡ after n vs a q
same_after (Ok (More c)) vs a r q h = h vs c
same_after (Ok (Value c)) vs a r q h = h _ c
same_after (Ok (Last f)) vs a r q h = refl
same_after (Err n) vs a r q h = refl

same_step : (a : Scan) {b c : ℕ} → Twin b c → step_of a b ≡ step_of a c
unfolding step_of
same_step a k = rw (twin_kind k)

same_scan : {s t : List ℕ} → Twins s t → (vs : List ℕ) (a : Scan) → scan vs a s ≡ scan vs a t
unfolding scan
same_scan none vs a = refl
same_scan (and {b} {c} {s} {t} k h) vs a =
    ap (λ (n : Result Next ℕ). after n vs a (λ ws u. scan ws u s)) (same_step a k)
    ∙ same_after (step_of a c) vs a (λ ws u. scan ws u s) (λ ws u. scan ws u t) (λ ws u. same_scan h ws u)

-- What stands at the head is the same.
pub twins_head : {s t : List ℕ} → Twins s t → sequence_head (CSI ∷ s) ≡ sequence_head (CSI ∷ t)
unfolding sequence_head
twins_head h = same_scan h [] _

-- ---- in the words of the grammar

-- octets that are read, all of them, as a sequence spell it
spelt_all : (s : List ℕ) (q : Sequence) → sequence_head s ≡ element q (length s) → SpellsSequence s q
spelt_all s q e =
    let b = sequence_reads.found s q (length s) e in
    subst (λ (p : List ℕ). SpellsSequence p q) (sym (front_taken b) ∙ take-length s) b.spells

all_spelt : (s : List ℕ) (q : Sequence) → SpellsSequence s q → sequence_head s ≡ element q (length s)
all_spelt s q h = ap sequence_head (sym (append-nil s)) ∙ sequence_reads.finds s [] q h

module _ {s t : List ℕ} (h : Twins s t) where
  sized : (q : Sequence) → element q (length (CSI ∷ s)) ≡ element q (length (CSI ∷ t))
  sized q = ap (λ (n : ℕ). element q (suc n)) (twins_length h)

  -- A sequence with any of its octets behind 9B put into the upper half reads to the same,
  pub twins_spell : (q : Sequence) → SpellsSequence (CSI ∷ s) q ↔ SpellsSequence (CSI ∷ t) q
  twins_spell q = (
    λ k. spelt_all (CSI ∷ t) q (sym (twins_head h) ∙ all_spelt (CSI ∷ s) q k ∙ sized q),
    λ k. spelt_all (CSI ∷ s) q (twins_head h ∙ all_spelt (CSI ∷ t) q k ∙ sym (sized q)),
  )

  -- or is refused with the same number at the same octet.
  pub twins_refuse : (r d : ℕ) → RefusesSequence (CSI ∷ s) r d ↔ RefusesSequence (CSI ∷ t) r d
  twins_refuse r d = (
    λ k. (refuses_exactly t r d).0 (sym (twins_head h) ∙ (refuses_exactly s r d).1 k),
    λ k. (refuses_exactly s r d).0 (twins_head h ∙ (refuses_exactly t r d).1 k),
  )

-- ---- what it counts as

-- what an octet counts as, and the octet
counted_twin : (b : ℕ) → Twin (counts_as b) b
counted_twin b = go (within 0xA1 0xFE b) refl
  where
    go : (x : Bool) → within 0xA1 0xFE b ≡ x → Twin (pick x (b - 0x80) b) b
    go true e =
        let r = within_range 0xA1 0xFE b e in
        subst (Twin (b - 0x80)) (omega (arith, r.0)) (raised (omega (arith, r.0)) (omega (arith, r.1)))
    go false e = as_it_is

-- Whatever stands behind 9B, it is what it counts as, with some octets put into the upper half.
pub counted_twins : (s : List ℕ) → Twins (map counts_as s) s
counted_twins [] = none
counted_twins (b ∷ s) = and (counted_twin b) (counted_twins s)
