-- What an octet's kind says of it, and what each kind does to a state.
-- Assumes nothing.
use Prim.Native.Nat.{ℕ, ◌+◌, ◌*◌, ◌-◌, ◌≤◌, ◌<◌}
use mathlib.Core.Path.{◌≡◌, refl}
use native.Mathlib.Omega.{arith}
use lib.Dec.{eqb}
use borrow.Author.Tests.{le-leb, lt-leb, eq-eqb, ne_eqb}
use Rattle.std.proofs.Common.{Result, Ok, Err}
use Rattle.run.specs.Choice.{pick, within}
use Rattle.run.proofs.Choices.{pick_case, within_range}
use Rattle.run.proofs.Range as range
use Rattle.sequence_reading.specs.declared.Kind.{Kind}
use Rattle.sequence_reading.specs.declared.Kind.TheVariants.{Digit, Separator, Middle, Final, Other}
use Rattle.sequence_reading.specs.declared.Scan.{Scan}
use Rattle.sequence_reading.specs.declared.Next.{Next}
use Rattle.sequence_reading.specs.declared.Next.TheVariants.{More, Value}
use Rattle.sequence_reading.specs.Kinds.{counts_as, kind_counted, kind_of}
use Rattle.sequence_reading.specs.SequenceHead.{unless_late, unless_full, kind_step, digit_step, value_step, middle_step, step_of}

-- ---- a kind

pub kind_digit : (d : ℕ) → d ≤ 9 → kind_of (0x30 + d) ≡ Digit d
kind_digit d h = range.within (λ k. kind_of (0x30 + k)) Digit 0 10 (unfold kind_of in refl) d (omega arith) (omega arith)

pub kind_separator : kind_of 0x3B ≡ Separator
unfolding kind_of
kind_separator = refl

pub kind_middle : (b : ℕ) → 0x20 ≤ b → b ≤ 0x2F → kind_of b ≡ Middle b
kind_middle b h g = range.within kind_of Middle 0x20 0x30 (unfold kind_of in refl) b h (omega arith)

pub kind_final : (b : ℕ) → 0x40 ≤ b → b ≤ 0x7E → kind_of b ≡ Final b
kind_final b h g = range.within kind_of Final 0x40 0x7F (unfold kind_of in refl) b h (omega arith)

-- what a kind carries
abbrev Carries : Kind → Type 0
Carries (Digit d) = Unit {0}
Carries Separator = Unit {0}
Carries (Middle i) = (0x20 ≤ i) × (i ≤ 0x2F)
Carries (Final f) = (0x40 ≤ f) × (f ≤ 0x7E)
Carries Other = Unit {0}

counted_carries : (c : ℕ) → Carries (kind_counted c)
counted_carries c =
    pick_case Carries (within 0x30 0x39 c) (Digit (c - 0x30)) _ (λ u. tt)
    (λ u. pick_case Carries (eqb c 0x3B) Separator _ (λ u. tt)
    (λ u. pick_case Carries (within 0x20 0x2F c) (Middle c) (pick (within 0x40 0x7E c) (Final c) Other) (within_range 0x20 0x2F c)
    (λ u. pick_case Carries (within 0x40 0x7E c) (Final c) Other (within_range 0x40 0x7E c) (λ u. tt))))

carries : (b : ℕ) → Carries (kind_of b)
unfolding kind_of
carries b = counted_carries (counts_as b)

-- an intermediate and a final carry what may stand there
pub middle_says : (b i : ℕ) → kind_of b ≡ Middle i → (0x20 ≤ i) × (i ≤ 0x2F)
middle_says b i e = rw e at (carries b)

pub final_says : (b f : ℕ) → kind_of b ≡ Final f → (0x40 ≤ f) × (f ≤ 0x7E)
final_says b f e = rw e at (carries b)

-- ---- each outcome of a step, under conditions that `omega` can show

module _ (s : Scan) where
  pub is_late : (n : Result Next ℕ) → (s.middle ≡ 0 → ⊥) → unless_late s n ≡ Err 6
  is_late n m = simp (ne_eqb s.middle 0 m)

  pub not_late : (n : Result Next ℕ) → s.middle ≡ 0 → unless_late s n ≡ n
  not_late n m = simp (eq-eqb s.middle 0 m)

  pub is_full : (n : Result Next ℕ) → 39 ≤ s.taken → unless_full s n ≡ Err 8
  is_full n t = simp (le-leb 39 s.taken t)

  pub not_full : (n : Result Next ℕ) → s.taken < 39 → unless_full s n ≡ n
  not_full n t = simp (lt-leb 39 s.taken t)

  pub digit_late : (d : ℕ) → (s.middle ≡ 0 → ⊥) → digit_step s d ≡ Err 6
  unfolding digit_step
  digit_late d m = is_late _ m

  pub digit_passes : (d : ℕ) → 999 < s.current * 10 + d → digit_step s d ≡ unless_late s (Err 7)
  unfolding digit_step
  digit_passes d h = simp (lt-leb (s.current * 10 + d) 999 h)

  pub digit_within : (d v : ℕ) → v ≡ s.current * 10 + d → v ≤ 999
      → digit_step s d ≡ unless_late s (unless_full s (Ok (More (record { current = v; closed = s.closed; middle = 0; taken = s.taken + 1 }))))
  unfolding digit_step
  digit_within d v e h = simp (e, le-leb (s.current * 10 + d) 999 (omega arith))

  pub value_late : (s.middle ≡ 0 → ⊥) → value_step s ≡ Err 6
  unfolding value_step
  value_late m = is_late _ m

  pub value_passes : 7 ≤ s.closed → value_step s ≡ unless_late s (Err 7)
  unfolding value_step
  value_passes h = simp (le-leb 7 s.closed h)

  pub value_within : s.closed < 7
      → value_step s ≡ unless_late s (unless_full s (Ok (Value (record { current = 0; closed = s.closed + 1; middle = 0; taken = s.taken + 1 }))))
  unfolding value_step
  value_within h = simp (lt-leb 7 s.closed h)

  pub middle_within : (i : ℕ)
      → middle_step s i
      ≡ unless_late s (unless_full s (Ok (More (record { current = s.current; closed = s.closed; middle = i; taken = s.taken + 1 }))))
  unfolding middle_step
  middle_within i = refl

-- a step goes by the octet's kind
pub step_as : (s : Scan) (b : ℕ) (k : Kind) → kind_of b ≡ k → step_of s b ≡ kind_step k s
unfolding step_of
step_as s b k e = rw e
