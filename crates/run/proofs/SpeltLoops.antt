-- What a loop knows that goes through a list element after element and spells each by a speller: over any head, so once for writing and
-- converting.
-- Assumes nothing.
use Prim.Native.Nat.{ℕ, ◌+◌, ◌*◌, ◌-◌, ◌≤◌, ◌<◌}
use mathlib.Core.Path.{◌≡◌, refl, sym, ◌∙◌}
use mathlib.Core.List.{List}
use lib.ListN.{length, drop}
use borrow.Rule.Slice.PartMut.{put_mid}
use Rattle.run.specs.Loops.{Counted, Filled}
use Rattle.run.specs.Head.{Head, element, refused, outcome}
use Rattle.run.specs.Grammar.{Reads}
use Rattle.run.specs.declared.Answer.{Answer}
use Rattle.run.specs.Answers.{answer, count_of, written_of, roomy_answer, RoomFor, same}
use Rattle.run.specs.Put.{Put, what_fits}
use Rattle.run.specs.Speller.{spelt_by}
use Rattle.run.proofs.Puts.{put_fits, behind}
use Rattle.run.proofs.Loops as loops
use Rattle.run.proofs.Onward.{rest, counted_on, room_on, filled_on}
use Rattle.run.proofs.Spellers.{spelt_here, spelt_not, spelt_refused, spelt_reads, spelt_bounded}

module _ {X A : Type 0} {head : List X → Head A} {S : List X → A → Type 0} (laws : Reads head S) (speller : A → List ℕ) {most : ℕ}
    (short : (e : A) → length (speller e) ≤ most) (s : List X) where
  abbrev Spelt : List X → Head (List ℕ)
  Spelt = spelt_by speller head

  -- ---- measuring

  pub spelt_start : Counted Spelt same most s 0 0 0
  spelt_start = loops.count_start (spelt_reads laws speller) (spelt_bounded laws speller short) s

  module _ {at n count : ℕ} (was : Counted Spelt same most s at n count) where
    pub spelt_small : (n ≤ at) × (count ≤ most * at) × (at ≤ length s)
    spelt_small = loops.count_small (spelt_reads laws speller) (spelt_bounded laws speller short) s was

    -- the answer at the end, at a refusal of the head, and at an element of which the speller gives nothing
    pub spelt_end : length s ≤ at → ◌≡◌ {A = Answer} (answer 0 n at count) (roomy_answer same (length s) (outcome Spelt s))
    spelt_end = loops.count_end (spelt_reads laws speller) (spelt_bounded laws speller short) s was

    pub spelt_stop : {r d c : ℕ} → head (drop at s) ≡ refused r d → c ≡ count_of r (at + d)
        → ◌≡◌ {A = Answer} (answer r n at c) (roomy_answer same (length s) (outcome Spelt s))
    spelt_stop q z = loops.count_stop (spelt_reads laws speller) (spelt_bounded laws speller short) s was (spelt_refused speller head q) z

    module _ {e : A} {k size : ℕ} (q : head (drop at s) ≡ element e k) (is : size ≡ length (speller e)) where
      pub spelt_ten : size ≡ 0 → ◌≡◌ {A = Answer} (answer 10 n at 0) (roomy_answer same (length s) (outcome Spelt s))
      spelt_ten z =
          loops.count_stop (spelt_reads laws speller) (spelt_bounded laws speller short) s was (spelt_not speller head q (sym is ∙ z)) refl

      some : (size ≡ 0 → ⊥) → Spelt (drop at s) ≡ element (speller e) k
      some z = spelt_here speller head q (λ y. z (is ∙ y))

      -- the element's entries are counted
      pub spelt_onward : (size ≡ 0 → ⊥) → (0 < k) × (at + k ≤ length s) × (length (speller e) ≤ most)
      spelt_onward z = loops.count_onward (spelt_reads laws speller) (spelt_bounded laws speller short) s was (some z)

      pub spelt_turn : {next : ℕ} → next ≡ at + k → (size ≡ 0 → ⊥) → Counted Spelt same most s next (n + 1) (count + size)
      spelt_turn o z = loops.count_turn (spelt_reads laws speller) (spelt_bounded laws speller short) s was (some z) o is

    -- the rest, counted by another loop
    pub spelt_on : {k m more : ℕ} → Counted Spelt same most (rest s at) k m more → Counted Spelt same most s (at + k) (n + m) (count + more)
    spelt_on on = counted_on (spelt_reads laws speller) (spelt_bounded laws speller short) s was on

  -- ---- filling

  module _ (l₀ : List ℕ) where
    pub fill_spelt_start : Filled Spelt same most s l₀ 0 0 l₀
    fill_spelt_start = loops.fill_start (spelt_reads laws speller) (spelt_bounded laws speller short) s l₀

    module _ (room : RoomFor same (length l₀) (outcome Spelt s)) {at o : ℕ} {l : List ℕ} (was : Filled Spelt same most s l₀ at o l) where
      pub fill_spelt_end : length s ≤ at → l ≡ written_of same l₀ (outcome Spelt s)
      fill_spelt_end = loops.fill_end (spelt_reads laws speller) (spelt_bounded laws speller short) s l₀ room was

      -- the place stays within the buffer
      pub fill_spelt_small : o ≤ length l₀
      fill_spelt_small = loops.fill_small (spelt_reads laws speller) (spelt_bounded laws speller short) s l₀ room was

      -- an accepted list has no refusal on the way, and no element of which the speller gives nothing
      pub fill_spelt_never : {r d : ℕ} → head (drop at s) ≡ refused r d → ⊥
      fill_spelt_never q =
          loops.fill_never (spelt_reads laws speller) (spelt_bounded laws speller short) s l₀ room was (spelt_refused speller head q)

      module _ {e : A} {k : ℕ} (q : head (drop at s) ≡ element e k) where
        there : Spelt (drop at s) ≡ element (speller e) k
        there =
            spelt_here speller head q
            (λ z. loops.fill_never (spelt_reads laws speller) (spelt_bounded laws speller short) s l₀ room was (spelt_not speller head q z))

        pub fill_spelt_onward : (0 < k) × (at + k ≤ length s) × (length (speller e) ≤ most)
        fill_spelt_onward = loops.fill_onward (spelt_reads laws speller) (spelt_bounded laws speller short) s l₀ room was there

        -- what the speller gives has room, and is written: by a writer that knows so, or by one that looks for itself
        pub fill_spelt_room : o + length (speller e) ≤ length l
        fill_spelt_room = loops.fill_room (spelt_reads laws speller) (spelt_bounded laws speller short) s l₀ room was there

        pub fill_spelt_put : {next o' : ℕ} {l' : List ℕ} → next ≡ at + k → Put l o (speller e) l' o'
            → Filled Spelt same most s l₀ next o' l'
        fill_spelt_put z p = loops.fill_turn (spelt_reads laws speller) (spelt_bounded laws speller short) s l₀ room was there z p

        pub fill_spelt_turn : {next o' : ℕ} {l' : List ℕ} → next ≡ at + k → Put l o (what_fits l o (speller e)) l' o'
            → Filled Spelt same most s l₀ next o' l'
        fill_spelt_turn z p = fill_spelt_put z (put_fits (speller e) fill_spelt_room p)

      -- the rest, filled by another loop
      pub fill_spelt_rest : RoomFor same (length (behind l o)) (outcome Spelt (rest s at))
      fill_spelt_rest = room_on (spelt_reads laws speller) (spelt_bounded laws speller short) s l₀ room was

      pub fill_spelt_on : {k more : ℕ} {m : List ℕ} → Filled Spelt same most (rest s at) (behind l o) k more m
          → Filled Spelt same most s l₀ (at + k) (o + more) (put_mid o (length l - o) l m)
      fill_spelt_on on = filled_on (spelt_reads laws speller) (spelt_bounded laws speller short) s l₀ room was on
