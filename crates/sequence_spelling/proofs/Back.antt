-- Reading and spelling are inverse: a spelling reads back as its sequence, and what is read can be spelt.
-- Assumes nothing.
use Prim.Native.Nat.{ℕ, ◌≤◌}
use mathlib.Core.Path.{◌≡◌, refl}
use mathlib.Core.List.{List, ◌++◌}
use mathlib.Core.Logic.{◌⊎◌, inl, inr}
use lib.ListN.{length}
use Rattle.run.specs.Head.{element}
use Rattle.sequence_reading.specs.Grammar.{Sequence, Intermediate, none, one, SpellsSequence, sequence}
use Rattle.sequence_reading.specs.SequenceHead.{sequence_head}
use Rattle.sequence_spelling.specs.SequenceOctets.{Fine, spell_sequence}
use Rattle.sequence_reading.proofs.Steps.{middle_says, final_says}
use Rattle.sequence_reading.proofs.Reach.{some_value}
use Rattle.sequence_reading.proofs.Reader.{sequence_reads}
use Rattle.sequence_spelling.proofs.Exactly.{spells_canonical}

-- The canonical spelling reads back as its sequence, and takes all its octets, whatever follows.
pub read_back : (q : Sequence) → Fine q → (t : List ℕ) → sequence_head (spell_sequence q ++ t) ≡ element q (length (spell_sequence q))
read_back q h t = sequence_reads.finds (spell_sequence q) t q (spells_canonical h)

middle_fine : {i : List ℕ} {m : ℕ} → Intermediate i m → (m ≡ 0) ⊎ ((0x20 ≤ m) × (m ≤ 0x2F))
middle_fine none = inl refl
middle_fine (one {b} {i} e) = inr (middle_says b i e)

pub spelt_fine : {p : List ℕ} {q : Sequence} → SpellsSequence p q → Fine q
spelt_fine (sequence {s} {vs} {m} {f} b h e) =
    record {
      middle = middle_fine h.at_most_one;
      low = (final_says b f e).0;
      high = (final_says b f e).1;
      some = some_value h.valued;
      eight = h.eight;
      small = h.small;
    }

-- Every sequence that is read can be spelt.
pub read_fine : (s : List ℕ) (q : Sequence) (k : ℕ) → sequence_head s ≡ element q k → Fine q
read_fine s q k e = spelt_fine (sequence_reads.found s q k e).spells
