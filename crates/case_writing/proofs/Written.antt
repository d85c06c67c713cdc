-- What `write_case` answers, exactly when; and what a written case is read as.
-- Assumes nothing.
use Prim.Native.Nat.{ℕ, ◌+◌, ◌*◌, ◌≤◌}
use mathlib.Core.Path.{◌≡◌, refl, sym, ap, subst₂, ◌∙◌}
use mathlib.Core.Logic.{◌↔◌}
use mathlib.Core.Bool.{Bool, true, false}
use mathlib.Core.List.Memᴰ
use mathlib.Core.List.{List, [], ◌∷◌, Memᴰ}
use native.Mathlib.Omega.{arith}
use lib.Dec.{leb}
use lib.ListN.{length, drop, get_or, length-take}
use borrow.Author.Tests.{eq-eqb, leb-true, leb-false, le-leb, lt-leb}
use Rattle.run.specs.Choice.{pick}
use Rattle.run.specs.declared.Answer.{Answer}
use Rattle.run.specs.Answers.{answer, bare, short_room, given, over}
use Rattle.run.proofs.Answers.{over_past}
use Rattle.sorts.specs.declared.Form.{Form}
use Rattle.std.specs.Prelude.{Option, Some, None}
use Rattle.sorts.specs.Forms.{form_of, in_form}
use Rattle.case_table.specs.Layout.{total, of_form, cut, case_with}
use Rattle.case_table.specs.Check.{says, header_of, lengths_of, pages_of}
use Rattle.case_table.specs.Grammar.{CaseOf}
use Rattle.case_writing.specs.CaseWritingNumbers.{Parts, WriteCaseTable}
use Rattle.case_writing.specs.FromParts.{fitting, written_answer, write_case_answer, write_case_octets}
use Rattle.case_writing.specs.Promises.{WriteCasePromise}
use Rattle.case_writing.proofs.Parts.{none_over_lem, over_none, fits}
use Rattle.case_writing.proofs.WaysOut.{case_length}
use Rattle.case_table.proofs.Laid.{header_says, lengths_are, pages_said, joined_pages, parts_case, cut_count, joined_cut}
use Rattle.sorts.specs.Forms.{IsForm}
use Rattle.sorts.proofs.FormNumbers.{found_is, is_found, none_exactly}

-- ---- the test of the parts

pub parts_of : (lengths octets : List ℕ) → fitting lengths (length octets) ≡ true → Parts lengths octets
parts_of lengths octets e =
    let f = fits lengths (length octets) e in
    record { few = f.few; short = none_over_lem 0xFFFF lengths f.short; sum = f.sum }

of_parts : (lengths octets : List ℕ) → Parts lengths octets → fitting lengths (length octets) ≡ true
unfolding fitting
of_parts lengths octets p =
    simp (le-leb (length lengths) 0x100 p.few, over_none 0xFFFF lengths p.short, eq-eqb (total lengths) (length octets) p.sum)

-- ---- which answer, exactly

-- the size of a written case: "8 + 2 x pages + the lengths"
pub written_size : (form : ℕ) (lengths octets : List ℕ) → Parts lengths octets
    → length (case_with form lengths octets) ≡ 8 + 2 * length lengths + total lengths
written_size form lengths octets p = omega (arith, case_length form lengths octets, p.sum)

unfit : (lengths octets : List ℕ) → (Parts lengths octets → ⊥) → fitting lengths (length octets) ≡ false
unfit lengths octets n = go (fitting lengths (length octets)) refl
  where
    go : (t : Bool) → fitting lengths (length octets) ≡ t → t ≡ false
    go true e = absurd (n (parts_of lengths octets e))
    go false e = refl

module _ (form : ℕ) (lengths octets case : List ℕ) where
  abbrev Row : Answer → List ℕ → Type 0
  Row = WriteCaseTable form lengths octets case

  -- the written case, and what the lent octets hold with it
  abbrev whole : List ℕ
  whole = case_with form lengths octets

  abbrev held : Bool → List ℕ
  held t = pick t (over case whole) case

  abbrev fit : Bool
  fit = fitting lengths (length octets)

  abbrev roomy : Bool
  roomy = leb (length whole) (length case)

  abbrev Answered : Answer → List ℕ → Type 0
  Answered a after = (write_case_answer form lengths octets (length case) ≡ a) × (write_case_octets form lengths octets case ≡ after)

  of_row : {a : Answer} {after : List ℕ} → Row a after → Answered a after
  unfolding write_case_answer write_case_octets
  of_row (WriteCaseTable.no_form n) = let q = (none_exactly form).1 n in (simp q, simp q)
  of_row (WriteCaseTable.no_parts i n) =
      let q = (is_found form i).1 in let u = unfit lengths octets n in (simp (q, u), simp (q, u))
  of_row (WriteCaseTable.room_is_short i p h) =
      let q = (is_found form i).1 in
      let o = of_parts lengths octets p in
      let l = lt-leb (length whole) (length case) h in
      (simp (q, o, l), simp (q, o, l))
  of_row (WriteCaseTable.written i p h) =
      let q = (is_found form i).1 in
      let o = of_parts lengths octets p in
      let l = le-leb (length whole) (length case) h in
      (simp (q, o, l), simp (q, o, l))

  by_room : IsForm form → Parts lengths octets → (t : Bool) → roomy ≡ t
      → Row (pick t (answer 0 0 (length octets) (length whole)) (short_room (length whole))) (held t)
  by_room i p true e = WriteCaseTable.written i p (leb-true _ _ e)
  by_room i p false e = WriteCaseTable.room_is_short i p (leb-false _ _ e)

  by_parts : IsForm form → (t : Bool) → fit ≡ t
      → Row (pick t (written_answer (length octets) (length case) whole) (bare 15)) (pick t (held roomy) case)
  by_parts i true e = by_room i (parts_of lengths octets e) roomy refl
  by_parts i false e =
      WriteCaseTable.no_parts i (λ p. let w = of_parts lengths octets p in let z : ◌≡◌ {A = ℕ} 0 1 = cc in omega arith)

  by_form : (y : Option Form) → form_of form ≡ y
      → Row (in_form y (bare 11) (λ f. pick fit (written_answer (length octets) (length case) whole) (bare 15)))
      (in_form y case (λ f. pick fit (held roomy) case))
  by_form (Some f) q = by_parts (found_is form f q) fit refl
  by_form None q = WriteCaseTable.no_form ((none_exactly form).0 q)

  -- What `write_case` promises is exactly a row of the table, "11, then 15 .., then 9", and else accepted: the four numbers, and what the
  -- lent octets hold after.
  pub write_case_exactly : (r : Answer) (after : List ℕ)
      → WriteCasePromise form lengths octets case r after ↔ WriteCaseTable form lengths octets case r after
  unfolding write_case_answer write_case_octets
  write_case_exactly r after = (
    λ p. subst₂ Row (sym p.0) (sym p.1) (by_form (form_of form) refl),
    λ row. let e = of_row row in (sym e.0, sym e.1),
  )

-- ---- what is written

cut_short : (ns s : List ℕ) → ((k : ℕ) → Memᴰ k ns → k ≤ 0xFFFF) → (page : List ℕ) → Memᴰ page (cut ns s) → length page ≤ 0xFFFF
unfolding cut
cut_short [] s h page m = absurd (Memᴰ.not-nil m)
cut_short (n ∷ ns) s h page (Memᴰ.head p) = omega (arith, ap length p, length-take n s, h n (Memᴰ.head refl))
cut_short (n ∷ ns) s h page (Memᴰ.tail m) = cut_short ns (drop n s) (λ k i. h k (Memᴰ.tail i)) page m

module _ (form : ℕ) (lengths octets : List ℕ) (i : IsForm form) (p : Parts lengths octets) where
  -- "The same case is written from its parts": it has the layout of the case of the pages that the lengths cut from the octets
  pub written_laid : CaseOf (case_with form lengths octets) form (cut lengths octets)
  written_laid =
      record {
        is_form = i;
        few = omega (arith, p.few, cut_count lengths octets);
        short = cut_short lengths octets p.short;
        is = parts_case form lengths octets p.sum;
      }

  -- and reads as its parts: header, table and pages, which are the page octets
  pub written_header : header_of (case_with form lengths octets) ≡ says form (length lengths)
  written_header = header_says form lengths octets i p.few p.sum

  pub written_lengths : lengths_of (case_with form lengths octets) ≡ lengths
  written_lengths = lengths_are form lengths octets i p.few p.sum

  pub written_pages : pages_of (case_with form lengths octets) ≡ of_form form (cut lengths octets)
  written_pages = pages_said form lengths octets i p.few p.sum

  pub written_octets : given (λ (page : ℕ × List ℕ). page.1) (pages_of (case_with form lengths octets)) ≡ octets
  written_octets =
      ap (given (λ (page : ℕ × List ℕ). page.1)) written_pages
      ∙ joined_pages form (cut lengths octets)
      ∙ joined_cut lengths octets p.sum

-- ---- what is not written

row_keeps : {form : ℕ} {lengths octets case : List ℕ} {r : Answer} {after : List ℕ} → WriteCaseTable form lengths octets case r after
    → (r.number ≡ 0 → ⊥) → after ≡ case
row_keeps (WriteCaseTable.no_form n) h = refl
row_keeps (WriteCaseTable.no_parts i n) h = refl
row_keeps (WriteCaseTable.room_is_short i p l) h = refl
row_keeps (WriteCaseTable.written i p l) h = absurd (h refl)

row_past : {form : ℕ} {lengths octets case : List ℕ} {r : Answer} {after : List ℕ} → WriteCaseTable form lengths octets case r after
    → (k d : ℕ) → r.count ≤ k → get_or after k d ≡ get_or case k d
row_past (WriteCaseTable.no_form n) k d h = refl
row_past (WriteCaseTable.no_parts i n) k d h = refl
row_past (WriteCaseTable.room_is_short i p l) k d h = refl
row_past {form} {lengths} {octets} {case} (WriteCaseTable.written i p l) k d h = over_past case (case_with form lengths octets) k d h

module _ (form : ℕ) (lengths octets case : List ℕ) (r : Answer) (after : List ℕ)
    (promise : WriteCasePromise form lengths octets case r after) where
  -- "A refusal writes nothing to any buffer."
  pub refused_keeps : (r.number ≡ 0 → ⊥) → after ≡ case
  refused_keeps = row_keeps ((write_case_exactly form lengths octets case r after).0 promise)

  -- "Entries past the count stay."
  pub past_count : (k d : ℕ) → r.count ≤ k → get_or after k d ≡ get_or case k d
  past_count = row_past ((write_case_exactly form lengths octets case r after).0 promise)
