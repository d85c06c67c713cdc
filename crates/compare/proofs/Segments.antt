-- The elements of a text, each with the octets that spell it: of an accepted text, exactly its run.
-- Assumes nothing.
use Prim.Native.Nat.{ℕ, ◌+◌, ◌≤◌, ◌<◌}
use mathlib.Core.Path.{◌≡◌, refl, sym, ap, ap₂, ◌∙◌, subst}
use mathlib.Core.Logic.{◌↔◌}
use mathlib.Core.List.{List, [], ◌∷◌}
use native.Mathlib.Omega.{arith}
use lib.ListN.{length, take, drop, length-append}
use lib.Seq.{take-append_seam, drop-append_seam}
use Rattle.run.specs.Head.{element, Outcome, accepted, refusal}
use Rattle.run.specs.Grammar.{Run, done, more, RunOf, Reads}
use Rattle.run.specs.Tagged.{Tagged, tagged, untag}
use Rattle.run.proofs.Outcomes as outcomes
use Rattle.run.proofs.Tags.{untag_outcome, tagged_reads, run_untagged, run_tagged}
use Rattle.sorts.specs.declared.Form.{Form}
use Rattle.element_words.specs.declared.Element.{Element}
use Rattle.element_reading.specs.Grammar.{Spells}
use Rattle.element_reading.specs.ElementHead.{head_in}
use Rattle.element_reading.proofs.Reader.{reads}
use Rattle.text_loops.specs.Fronts.{read_in}
use Rattle.text_reading.specs.ReadingNumbers.{ReadingFault}
use Rattle.text_reading.proofs.ReadTexts.{refused_exactly}
use Rattle.compare.specs.Comparing.{Segment, own_octets, segments_in}
use Rattle.compare.proofs.Sharing.{elements_of, pieces_of, octet_count}

-- the octets p spell the element, and are kept beside it
abbrev pub SpellsSegment : Form → List ℕ → Segment → Type 0
SpellsSegment f = Tagged own_octets (Spells f)

module _ (f : Form) where
  pub segments_read : Reads (tagged own_octets (head_in f)) (SpellsSegment f)
  segments_read = tagged_reads own_octets (reads f)

  pub segments_exactly : (s : List ℕ) (xs : List Segment) → (segments_in f s ≡ accepted xs) ↔ RunOf (SpellsSegment f) s xs
  segments_exactly = outcomes.accepts segments_read

  -- the pieces of such a run are the octets that are kept
  pub own_pieces : {s : List ℕ} {ps : List (List ℕ)} {xs : List Segment} → Run (SpellsSegment f) s ps xs → pieces_of xs ≡ ps
  own_pieces done = refl
  own_pieces (more sp r) = ap₂ ◌∷◌ sp.1 (own_pieces r)

  -- and as many as the text has
  pub own_length : {s : List ℕ} {ps : List (List ℕ)} {xs : List Segment} → Run (SpellsSegment f) s ps xs → octet_count xs ≡ length s
  own_length done = refl
  own_length (more {p} {s} sp r) = ap₂ ◌+◌ (ap length sp.1) (own_length r) ∙ sym (length-append p s)

  -- A run of elements, with the octets of each.
  pub record Beside (s : List ℕ) (ps : List (List ℕ)) (es : List Element) : Type 0 where
    pub segments : List Segment
    pub elements : elements_of segments ≡ es
    pub octets : pieces_of segments ≡ ps
    pub reads_so : segments_in f s ≡ accepted segments

  pub beside : {s : List ℕ} {ps : List (List ℕ)} {es : List Element} → Run (Spells f) s ps es → Beside s ps es
  beside {s} {ps} r =
      let t = run_tagged own_octets r in
      record {
        segments = t.0;
        elements = t.2;
        octets = own_pieces t.1;
        reads_so = (segments_exactly s t.0).1 (ps, t.1);
      }

  -- and back
  pub its_run : (s : List ℕ) (xs : List Segment) → segments_in f s ≡ accepted xs → Run (Spells f) s (pieces_of xs) (elements_of xs)
  its_run s xs q =
      let r = (segments_exactly s xs).0 q in
      subst (λ (ps : List (List ℕ)). Run (Spells f) s ps (elements_of xs)) (sym (own_pieces r.1)) (run_untagged own_octets r.1)

  -- ---- reading is the same without the octets

  pub read_segments : (s : List ℕ) → untag (segments_in f s) ≡ read_in f s
  read_segments = untag_outcome own_octets (head_in f)

  refusal_of : (x : Outcome Segment) (r n p d : ℕ) → untag x ≡ refusal r n p d → x ≡ refusal r n p d
  refusal_of (accepted xs) r n p d e = let z : ◌≡◌ {A = ℕ} 0 1 = cc in absurd (omega arith)
  refusal_of (refusal r' n' p' d') r n p d e = cc

  pub refused_segments : (s : List ℕ) (r n p d : ℕ) → (segments_in f s ≡ refusal r n p d) ↔ ReadingFault f s r n p d
  refused_segments s r n p d = (
    λ q. (refused_exactly f s r n p d).0 (sym (read_segments s) ∙ ap untag q),
    λ h. refusal_of (segments_in f s) r n p d (read_segments s ∙ (refused_exactly f s r n p d).1 h),
  )

  -- ---- the first element of an accepted text, and the rest of it

  pub record First (s : List ℕ) (xs : List Segment) : Type 0 where
    pub what : Element
    pub size : ℕ
    pub rest : List Segment
    pub here : head_in f s ≡ element what size
    pub whole : xs ≡ (what, take size s) ∷ rest
    pub reads_on : segments_in f (drop size s) ≡ accepted rest
    pub some : 0 < size
    pub inside : size ≤ length s

  first_of : {s : List ℕ} {ps : List (List ℕ)} {xs : List Segment} → Run (SpellsSegment f) s ps xs → 0 < length s → First s xs
  first_of done h = absurd (omega arith)
  first_of (more {p} {s} {ps} {e = x} {es = xs} sp r) h =
      record {
        what = x.0;
        size = length p;
        rest = xs;
        here = (reads f).finds p s x.0 sp.0;
        whole = ap (λ (o : List ℕ). (x.0, o) ∷ xs) (sp.1 ∙ sym (take-append_seam p s));
        reads_on = ap (segments_in f) (drop-append_seam p s) ∙ (segments_exactly s xs).1 (ps, r);
        some = (reads f).some p x.0 sp.0;
        inside = omega (arith, length-append p s);
      }

  pub first : (s : List ℕ) (xs : List Segment) → segments_in f s ≡ accepted xs → 0 < length s → First s xs
  first s xs q h = first_of ((segments_exactly s xs).0 q).1 h

  -- at its end there is none
  nothing_left : {s : List ℕ} {ps : List (List ℕ)} {xs : List Segment} → Run (SpellsSegment f) s ps xs → length s ≡ 0 → xs ≡ []
  nothing_left done h = refl
  nothing_left (more {p} {s} {e = x} sp r) h =
      absurd (omega (arith, (reads f).some p x.0 sp.0, length-append p s))

  pub at_end : (s : List ℕ) (xs : List Segment) → segments_in f s ≡ accepted xs → length s ≡ 0 → xs ≡ []
  at_end s xs q h = nothing_left ((segments_exactly s xs).0 q).1 h
