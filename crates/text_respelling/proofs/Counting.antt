-- What the first pass over a text knows of what it has counted: behind a character that the tables read and spell, behind a run of them,
-- and behind an element; and its answer where it stops, with the fifth number.
-- Assumes nothing.
use Prim.Native.Nat.{ℕ, ◌+◌, ◌*◌, ◌≤◌, ◌<◌}
use mathlib.Core.Path.{◌≡◌, refl, ap, ◌∙◌, subst}
use mathlib.Core.Bool.{Bool}
use mathlib.Core.List.{List}
use native.Mathlib.Nat.{add-zero}
use native.Mathlib.Omega.{arith}
use lib.ListN.{length, drop}
use Rattle.run.specs.Choice.{pick}
use Rattle.run.specs.Head.{outcome}
use Rattle.run.specs.declared.Answer.{Answer}
use Rattle.run.specs.declared.ReadAnswer.{ReadAnswer}
use Rattle.run.specs.Answers.{answer, carrying, roomy_answer, same}
use Rattle.run.specs.Speller.{spelt_by}
use Rattle.run.proofs.Onward.{rest, counted_on}
use Rattle.run.proofs.SpeltLoops.{spelt_start, spelt_small, spelt_on, spelt_end}
use Rattle.sorts.specs.declared.Form.{Form}
use Rattle.std.specs.Prelude.{Some}
use Rattle.squares.specs.Squares.{square_table}
use Rattle.spelling_tables.specs.PackedSpellings.{spelling_table, packed_in, packed_size}
use Rattle.lent_tables.specs.CodeTables.{code_table}
use Rattle.element_words.specs.declared.Element.{Element}
use Rattle.element_reading.specs.declared.Step.TheVariants.{Element as Read}
use Rattle.element_reading.specs.ElementHead.{head_in, step_at}
use Rattle.element_reading.proofs.Reader.{reads}
use Rattle.element_spelling.specs.ElementOctets.{spell_element}
use Rattle.element_spelling.proofs.SpeltSizes.{spelt_short}
use Rattle.text_loops.specs.Fronts.{respelled_before}
use Rattle.text_loops.specs.LawWords.{Tallied}
use Rattle.text_loops.proofs.Tallied.{told_here, told_reads, noted_bound, tally_start, tally_small, tally_turn, tally_end}
use Rattle.text_loops.proofs.Steps.{here}
use Rattle.text_reading.proofs.Edges.{carried_refused, carried}
use Rattle.text_writing.proofs.Runs.{run_turn, element_turn}
use Rattle.text_respelling.specs.declared.Character.{Character}
use Rattle.text_respelling.specs.Parts.{character_in, CountedRespelt}
use Rattle.text_respelling.proofs.Characters.{text_spelt, text_told}

-- what the pass knows at a place, and that it is small
pub record Respelling (f g : Form) (text : List ℕ) (at n count k : ℕ) : Type 0 where
  pub both : CountedRespelt f g text at n count k
  pub inside : at ≤ length text
  pub few : n ≤ at
  pub short : count ≤ 34 * at
  pub respelled : k ≤ n

module _ (f g : Form) (text : List ℕ) where
  pub respelt_start : CountedRespelt f g text 0 0 0 0
  respelt_start = record { counted = spelt_start (reads f) (spell_element g) (spelt_short g) text; tallied = tally_start f text }

  pub respelling : {at n count k : ℕ} → CountedRespelt f g text at n count k → Respelling f g text at n count k
  respelling was =
      let small = spelt_small (reads f) (spell_element g) (spelt_short g) text was.counted in
      record {
        both = was;
        inside = small.2;
        few = small.0;
        short = small.1;
        respelled = (tally_small f text was.tallied).0;
      }

  -- the answer as with room enough
  abbrev pub roomy : Answer
  roomy = roomy_answer same (length text) (outcome (spelt_by (spell_element g) (head_in f)) text)

  -- a refusal carries 0
  pub respelt_refused : {x : ReadAnswer} {a : Answer} {r n p c : ℕ} → x ≡ carrying a 0 → a ≡ answer r n p c → 0 < r → answer r n p c ≡ roomy
      → x ≡ carrying roomy (respelled_before f text)
  respelt_refused e is h q = carried_refused _ _ _ _ e (λ z. omega (arith, ap (λ (y : Answer). y.number) is)) (is ∙ q)

  module _ {at n count k : ℕ} (was : CountedRespelt f g text at n count k) where
    -- behind a character that the tables read and spell, which is canonical
    pub respelt_character : (x : Character) → Some x ≡ character_in (code_table f) square_table (drop at text) → (p : ℕ)
        → p ≡ packed_in (spelling_table g) x.code → (p ≡ 0 → ⊥) → {size : ℕ} → size ≡ packed_size p
        → (0 < x.size) × CountedRespelt f g text (at + x.size) (n + 1) (count + size) k
    respelt_character x found p looked some is =
        let turn = run_turn (reads f) (text_spelt f g text at x found p looked some) was.counted is in (
          turn.0,
          record {
            counted = turn.1;
            tallied =
                subst (Tallied f text (at + x.size) (n + 1)) (add-zero k)
                (tally_turn f text was.tallied (text_told f g text at x found p looked some) refl);
          },
        )

    -- behind a run of such characters
    pub respelt_run : {j m more : ℕ} → CountedRespelt f g (rest text at) j m more 0
        → CountedRespelt f g text (at + j) (n + m) (count + more) k
    respelt_run {j} {m} on =
        record {
          counted = spelt_on (reads f) (spell_element g) (spelt_short g) text was.counted on.counted;
          tallied =
              subst (Tallied f text (at + j) (n + m)) (add-zero k)
              (counted_on (told_reads f) (noted_bound f) text was.tallied on.tallied);
        }

    -- behind an element that the target holds
    pub respelt_element : {e : Element} {next size r : ℕ} {b : Bool} → step_at f text at ≡ Read e next b → size ≡ length (spell_element g e)
        → (size ≡ 0 → ⊥) → r ≡ pick b 0 1 → (at < next) × CountedRespelt f g text next (n + 1) (count + size) (k + r)
    respelt_element {e} {next} {b = b} read is some z =
        let turn = element_turn (reads f) g was.counted (here f text at e next b read) is some in
        (turn.0, record { counted = turn.1; tallied = tally_turn f text was.tallied (told_here f text at e next b read) z })

    -- at the end
    pub respelt_end : {x : ReadAnswer} → x ≡ carrying (answer 0 n at count) k → length text ≤ at
        → x ≡ carrying roomy (respelled_before f text)
    respelt_end e h =
        carried _ _ _ _ e (spelt_end (reads f) (spell_element g) (spelt_short g) text was.counted h) (tally_end f text was.tallied h)
