-- What the second pass of reading knows at a page: the words of the pages before it stand over the buffer's first entries.
-- Assumes nothing.
use Prim.Native.Nat.{ℕ, ◌+◌, ◌*◌, ◌-◌, ◌≤◌, ◌<◌}
use mathlib.Core.Path.{◌≡◌, refl, sym, ap, subst, ◌∙◌}
use mathlib.Core.List.{List, [], ◌++◌}
use native.Mathlib.Omega.{arith}
use lib.ListN.{length, drop}
use borrow.Author.Tests.{le-leb}
use borrow.Rule.Slice.PartMut.{put_mid}
use Rattle.run.specs.Head.{Outcome, accepted, refusal}
use Rattle.run.specs.declared.Answer.{Answer}
use Rattle.run.specs.declared.ReadAnswer.{ReadAnswer}
use Rattle.run.specs.Answers.{given, over, answer_of, written_of, RoomFor}
use Rattle.run.specs.Put.{Put}
use Rattle.run.proofs.Answers.{given_length, given_front}
use Rattle.run.proofs.Puts.{put_none, put_length, put_given, put_given_all, behind, behind_length, behind_put}
use Rattle.sorts.specs.declared.Form.{Form}
use Rattle.element_words.specs.declared.Element.{Element}
use Rattle.element_words.specs.Words.{words_of}
use Rattle.text_loops.specs.Fronts.{read_in}
use Rattle.text_reading.specs.ReadAnswers.{read_answer, read_words, read_reading}
use Rattle.case_table.specs.Check.{says, header_of, pages_of}
use Rattle.case_table.specs.PagePlaces.{PartOf, total_before}
use Rattle.tlx.specs.CaseReading.{CaseOutcome, all, fault, join_pages, read_pages, read_case, outcome_of, read_case_words}
use Rattle.tlx.proofs.Pages.{Read, read_start, read_turn, read_stop, read_all, read_small}

-- pages with room for all of their words have room for those of the first
room_front : (es : List Element) (k r : ℕ) (x : CaseOutcome) → RoomFor words_of r (outcome_of (join_pages es k x))
    → length (given words_of es) ≤ r
room_front es k r (all fs) h = given_front words_of es fs h
room_front es k r (fault g n e p d) h = absurd h

-- the lent words have room for those of the case
abbrev pub Roomy : List ℕ → List ℕ → Type 0
Roomy case words₀ = RoomFor words_of (length words₀) (outcome_of (read_case case))

pub record Filled (case : List ℕ) (form pages start page : ℕ) (words₀ words : List ℕ) (o : ℕ) : Type 0 where
  pub es : List Element
  pub read : Read case form pages start page es
  pub put : Put words₀ 0 (given words_of es) words o

pub fill_start : {case : List ℕ} {form pages start : ℕ} (words₀ : List ℕ) → header_of case ≡ says form pages
    → start ≡ 8 + 2 * pages + total_before case 0 → Filled case form pages start 0 words₀ words₀ 0
unfolding given
fill_start words₀ q s = record { es = []; read = read_start q s; put = put_none words₀ 0 }

-- the page's words have room, and were put over the entries behind those of the pages before
record Taken (words : List ℕ) (o : ℕ) (x : Outcome Element) (a : Answer) (l' : List ℕ) : Type 0 where
  pub fs : List Element
  pub is : x ≡ accepted fs
  pub count : a.count ≡ length (given words_of fs)
  pub room : o + length (given words_of fs) ≤ length words
  pub holds : l' ≡ over (behind words o) (given words_of fs)

module _ {case words₀ : List ℕ} (room : Roomy case words₀) {form pages start page : ℕ} {words : List ℕ} {o : ℕ}
    (was : Filled case form pages start page words₀ words o) where
  room_so : {es : List Element} {k s : ℕ} → Read case form pages s k es → length (given words_of es) ≤ length words₀
  room_so {es} {k} r = room_front es k (length words₀) (read_pages (drop k (pages_of case))) (rw r.sofar at room)

  pub fill_place : o ≤ length words
  fill_place = omega (arith, was.put.place, put_length was.put, room_so was.read)

  module _ (h : page < pages) {part : List ℕ} (e : PartOf case page start part) where
    abbrev f : Form
    f = was.read.right.the_form

    taken_by : {a : Answer} {l' : List ℕ} (x : Outcome Element) → read_in f part ≡ x
        → (a ≡ answer_of words_of (length part) (length (behind words o)) x) × (l' ≡ written_of words_of (behind words o) x) → Taken words o x a l'
    taken_by (accepted fs) q w =
        let r = room_so (read_turn was.read h e fs q) in
        let k : o + length (given words_of fs) ≤ length words =
        omega (arith, given_length words_of was.es fs, was.put.place, put_length was.put, r) in
        let t = le-leb (length (given words_of fs)) (length (behind words o)) (omega (arith, behind_length words o)) in
        record {
          fs = fs;
          is = refl;
          count = ap (λ (y : Answer). y.count) w.0 ∙ simp t;
          room = k;
          holds = w.1 ∙ simp t;
        }
    taken_by (refusal r n p d) q w = absurd (rw (read_stop was.read h e r n p d q) at room)

    module _ {five : ReadAnswer} {l' : List ℕ}
        (promised : (five ≡ read_reading form part (length (behind words o))) × (l' ≡ read_words form part (behind words o))) where
      abbrev a : Answer
      a = five.answer

      answered : (a ≡ read_answer form part (length (behind words o))) × (l' ≡ read_words form part (behind words o))
      answered = (ap (λ (x : ReadAnswer). x.answer) promised.0, promised.1)

      taken : Taken words o (read_in f part) a l'
      unfolding read_answer read_words
      taken =
          let k = le-leb (length part) 0x100000 (omega (arith, e.short)) in
          let q = was.read.right.is_form in
          taken_by (read_in f part) refl (answered.0 ∙ simp (q, k), answered.1 ∙ simp (q, k))

      pub fill_turn : Filled case form pages (start + length part) (page + 1) words₀ (put_mid o (length words - o) words l') (o + a.count)
      fill_turn =
          let t = taken in
          let after = put_mid o (length words - o) words l' in
          let p = behind_put words o l' (given words_of t.fs) t.room t.holds in
          record {
            es = was.es ++ t.fs;
            read = read_turn was.read h e t.fs t.is;
            put =
                put_given words_of was.es t.fs was.put
                (subst (λ (k : ℕ). Put words o (given words_of t.fs) after (o + k)) (sym t.count) p);
          }

      -- the count stays small
      pub fill_small : o + a.count ≤ 34 * 16777480
      fill_small = let t = fill_turn in omega (arith, t.put.place, read_small t.read)

  -- at the end the buffer holds the words of all pages, and then the untouched rest
  pub fill_all : pages ≤ page → words ≡ read_case_words case words₀
  unfolding read_case_words
  fill_all h = put_given_all words_of was.put (ap outcome_of (read_all was.read h)) room
