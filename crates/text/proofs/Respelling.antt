-- Converting keeps the record of promises: what the respelt head finds is what `Respells` says.
-- Assumes nothing.
use Prim.Native.Nat.{ℕ}
use mathlib.Core.Path.{◌≡◌}
use mathlib.Core.List.{List}
use Rattle.run.specs.Grammar.{Reads}
use Rattle.run.specs.Speller.{SpeltBy}
use Rattle.run.proofs.Spellers.{reads_as, spelt_reads}
use Rattle.sorts.specs.declared.Form.{Form}
use Rattle.element_words.specs.declared.Element.{Element}
use Rattle.element_reading.specs.Grammar.{Spells}
use Rattle.element_reading.proofs.Reader.{reads}
use Rattle.element_reading.proofs.ReadBack.{read_held}
use Rattle.element_spelling.specs.ElementOctets.{CanonicalElement, Held, spell_element}
use Rattle.element_spelling.proofs.Writer.{HasOctets, canonical_given, canonical_some, canonical_proper, spells_exactly}
use Rattle.text.specs.Outcomes.{Respells, respell_head}

module _ (f g : Form) where
  -- what one form reads another spells canonically, where it has octets for it
  pub held_proper : {e : Element} → Held f e → (s : List ℕ) → spell_element g e ≡ s → HasOctets s → CanonicalElement g s e
  held_proper {e} (Held.held k) s q n = (spells_exactly g s e).1 (canonical_proper f k, q, n)

  pub respells_of : {p s : List ℕ} {e : Element} → Spells f p e → spell_element g e ≡ s → HasOctets s → Respells f g p s
  respells_of {s = s} h q n = let c = held_proper (read_held f h) s q n in Respells.respells h (Held.held c) c

  respelt_of : {p s : List ℕ} → Respells f g p s → SpeltBy (spell_element g) (Spells f) p s
  respelt_of (Respells.respells {e = e} h w k) = record { of = e; spells = h; gives = canonical_given g k; some = canonical_some g k }

  pub respell_reads : Reads (respell_head f g) (Respells f g)
  respell_reads = reads_as (spelt_reads (reads f) (spell_element g)) (λ p s. (λ h. respells_of h.spells h.gives h.some, respelt_of))
