-- Conversion as respelling: what it accepts and refuses, what it means, and that two texts of the same elements are respelt alike, and
-- those that differ only in the half of their sequences to the same.
-- Assumes nothing.
use Prim.Native.Nat.{ℕ, ◌+◌, ◌≤◌}
use mathlib.Core.Path.{◌≡◌, refl, sym, ap, ap₂, ◌∙◌, subst}
use mathlib.Core.Logic.{◌↔◌}
use mathlib.Core.List.{List, [], ◌∷◌, ◌++◌}
use native.Mathlib.Omega.{arith}
use lib.ListN.{length}
use Rattle.run.specs.Speller.{Why, spelt_head}
use Rattle.run.specs.Loops.{WholeAnswer}
use Rattle.run.specs.Head.{refused, Outcome, accepted, refusal, from, outcome, join}
use Rattle.run.specs.Grammar.{Run, RunOf, done, more, Stopped}
use Rattle.run.specs.declared.Answer.{Answer}
use Rattle.run.specs.declared.ReadAnswer.{ReadAnswer}
use Rattle.run.specs.Answers.{given, same, after_reading}
use Rattle.run.proofs.Outcomes as outcomes
use Rattle.run.proofs.Spellers.{spelt_not, why}
use Rattle.sorts.specs.declared.Form.{Form}
use Rattle.std.specs.Prelude.{Some}
use Rattle.sorts.specs.Forms.{form_of}
use Rattle.element_words.specs.declared.Element.{Element}
use Rattle.element_reading.specs.Grammar.{Spells}
use Rattle.element_reading.specs.Raised.{Raised}
use Rattle.element_reading.specs.ElementHead.{head_in}
use Rattle.element_reading.proofs.Reader.{reads, begins_head, refuses_exactly_by}
use Rattle.element_reading.proofs.Raised.{raised_same, raised_outcome}
use Rattle.element_reading.proofs.ReadBack.{read_held}
use Rattle.element_spelling.specs.ElementOctets.{CanonicalElement, Held, spell_element}
use Rattle.element_spelling.proofs.Writer.{canonical_given, canonical_some}
use Rattle.text_loops.specs.Fronts.{read_in}
use Rattle.text_reading.specs.ReadAnswers.{respelled_in}
use Rattle.text_reading.specs.ReadingNumbers.{limit}
use Rattle.text_reading.proofs.Edges.{a_form, within, carried}
use Rattle.text_reading.specs.LawWords.{Meets}
use Rattle.text_reading.proofs.ReadTexts.{accepted_exactly, read_meets}
use Rattle.text_respelling.specs.Promises.{RespellPromise}
use Rattle.text.specs.Outcomes.{Respells, respell_head, respell_in, convert_in}
use Rattle.text.specs.WriteAnswers.{convert_answer, convert_text}
use Rattle.text.specs.WritingNumbers.{FirstNotHeld, ConvertingFault}
use Rattle.text.specs.Promises.{ConvertPromise}
use Rattle.text.proofs.Respelling.{respell_reads, respells_of, held_proper}

module _ (f g : Form) where
  -- a text respelt piece after piece: its elements, and the octets as their canonical spelling
  pub respelt_means : {text : List ℕ} {ps ss : List (List ℕ)} → Run (Respells f g) text ps ss
      → (es : List Element) × Run (Spells f) text ps es × Run (CanonicalElement g) (given same ss) ss es
  unfolding given
  respelt_means done = ([], done, done)
  respelt_means (more (Respells.respells {e = e} sp h c) r) = let i = respelt_means r in (e ∷ i.0, more sp i.1, more c i.2)

  -- A text converts exactly when it is a run of elements that the target holds, each respelt.
  pub converted_exactly : (text : List ℕ) (ss : List (List ℕ)) → (convert_in f g text ≡ accepted ss) ↔ RunOf (Respells f g) text ss
  unfolding convert_in
  converted_exactly text ss = (forth (read_in f text), back)
    where
      forth : (x : Outcome Element) → after_reading x (respell_in f g text) ≡ accepted ss → RunOf (Respells f g) text ss
      forth (accepted es) q = (outcomes.accepts (respell_reads f g) text ss).0 q
      forth (refusal r n p d) q = let w : ◌≡◌ {A = ℕ} 0 1 = cc in absurd (omega arith)

      back : RunOf (Respells f g) text ss → after_reading (read_in f text) (respell_in f g text) ≡ accepted ss
      back r =
          let m = respelt_means r.1 in
          ap (λ (x : Outcome Element). after_reading x (respell_in f g text)) ((accepted_exactly f text m.0).1 (r.0, m.1))
          ∙ (outcomes.accepts (respell_reads f g) text ss).1 r

  -- where the text is read, conversion is respelling
  pub read_converts : (text : List ℕ) (es : List Element) → read_in f text ≡ accepted es → convert_in f g text ≡ respell_in f g text
  unfolding convert_in
  read_converts text es q = ap (λ (x : Outcome Element). after_reading x (respell_in f g text)) q

  -- ---- 10, converting

  not_spelt : {e : Element} → spell_element g e ≡ [] → Held g e → ⊥
  not_spelt z (Held.held c) = canonical_some g c (sym (canonical_given g c) ∙ z)

  -- a text that is read is refused, respelt, where an element is not held
  module _ (text : List ℕ) (es : List Element) (is_read : read_in f text ≡ accepted es) (r n p d : ℕ) where
    abbrev Stop : Type 0
    Stop = Stopped (Respells f g) (λ rest b. respell_head f g rest ≡ refused r b) text n p d

    left : (h : Stop) → Why (spell_element g) (head_in f) h.rest r h.behind → (10 ≡ r) × (0 ≡ h.behind) × FirstNotHeld f g h.rest
    left h (Why.not_spelt {e} {k} q z er ed) =
        (sym er, sym ed, record { first = e; size = k; begins = (reads f).found h.rest e k q; not_held = not_spelt z })
    left h (Why.by_head q) =
        let m = respelt_means h.run.1 in
        let front : read_in f h.front ≡ accepted m.0 = (accepted_exactly f h.front m.0).1 (h.run.0, m.1) in
        let stop : read_in f text ≡ join m.0 (length h.front) (refusal r 0 0 h.behind) =
        ap (read_in f) h.whole
        ∙ outcomes.joined (reads f) h.front h.rest m.0 front
        ∙ ap (join m.0 (length h.front)) (outcomes.outcome_stop (reads f) h.rest r h.behind q) in
        let w : ◌≡◌ {A = ℕ} 0 1 = cc in
        absurd (omega arith)

    respelt_refused : respell_in f g text ≡ refusal r n p d → ConvertingFault f g text r n p d
    respelt_refused e =
        let h = (outcomes.refuses (respell_reads f g) text r n p d).0 e in
        let v = left h (why (spell_element g) (head_in f) h.rest r h.behind h.here) in
        subst (λ (i : ℕ). ConvertingFault f g text i n p d) v.0
        (ConvertingFault.not_held ((accepted_exactly f text es).0 is_read) (outcomes.stopped_by_lem h (sym v.1, v.2)))

  first_not_held : {rest : List ℕ} → FirstNotHeld f g rest → respell_head f g rest ≡ refused 10 0
  first_not_held h =
      spelt_not (spell_element g) (head_in f) (begins_head f h.begins) (go (spell_element g h.first) refl)
    where
      go : (x : List ℕ) → spell_element g h.first ≡ x → length (spell_element g h.first) ≡ 0
      go [] q = ap length q
      go (o ∷ x) q =
          let n : o ∷ x ≡ [] → ⊥ = λ z. omega (arith, ap length z) in
          absurd (h.not_held (Held.held (held_proper f g (read_held f h.begins.spells) (o ∷ x) q n)))

  convert_refused : {text : List ℕ} {r n p d : ℕ} → ConvertingFault f g text r n p d → convert_in f g text ≡ refusal r n p d
  unfolding convert_in
  convert_refused {text} {r} {n} {p} {d} (ConvertingFault.reading h) =
      ap (λ (x : Outcome Element). after_reading x (respell_in f g text)) (((read_meets f text).faults r n p d).1 h)
  convert_refused {text} {n = n} {p} {d} (ConvertingFault.not_held {es} run h) =
      read_converts text es ((accepted_exactly f text es).1 run)
      ∙ (outcomes.refuses (respell_reads f g) text 10 n p d).1
      (outcomes.stopped_by_lem h (first_not_held h.here.1 ∙ ap (refused 10) (sym h.here.0)))

  refused_converting : (text : List ℕ) (r n p d : ℕ) (x : Outcome Element) → read_in f text ≡ x
      → after_reading x (respell_in f g text) ≡ refusal r n p d → ConvertingFault f g text r n p d
  refused_converting text r n p d (accepted es) q e = respelt_refused text es q r n p d e
  refused_converting text r n p d (refusal r' n' p' d') q e =
      ConvertingFault.reading (((read_meets f text).faults r n p d).0 (q ∙ reading_too e))
    where
      reading_too : ◌≡◌ {A = Outcome (List ℕ)} (refusal r' n' p' d') (refusal r n p d)
          → ◌≡◌ {A = Outcome Element} (refusal r' n' p' d') (refusal r n p d)
      reading_too z = let a : r' ≡ r = cc in let b : n' ≡ n = cc in let c : p' ≡ p = cc in let d'' : d' ≡ d = cc in rw (a, b, c, d'')

  pub convert_meets : (text : List ℕ) → Meets (RunOf (Respells f g) text) (ConvertingFault f g text) (convert_in f g text)
  unfolding convert_in
  convert_meets text =
      record { runs = converted_exactly text; faults = λ r n p d. (refused_converting text r n p d (read_in f text) refl, convert_refused) }

-- ---- conversions compose

-- what two texts come to, each of which is read: the same octets, or both are refused with 10, at the same element
abbrev pub Alike : Outcome (List ℕ) → Outcome (List ℕ) → Type 0
Alike (accepted ss) y = y ≡ accepted ss
Alike (refusal r n p d) (accepted ss) = ⊥
Alike (refusal r n p d) (refusal r' n' p' d') = (r ≡ 10) × (r' ≡ 10) × (n ≡ n')

alike_join : (o : List ℕ) (k k' : ℕ) (x y : Outcome (List ℕ)) → Alike x y → Alike (join (o ∷ []) k x) (join (o ∷ []) k' y)
alike_join o k k' (accepted ss) y a = ap (join (o ∷ []) k') a
alike_join o k k' (refusal r n p d) (accepted ss) a = absurd a
alike_join o k k' (refusal r n p d) (refusal r' n' p' d') a = (a.0, a.1, ap (λ (i : ℕ). 1 + i) a.2)

-- an element at the head of a text, respelt or not held
module _ (f h : Form) {p : List ℕ} {e : Element} (sp : Spells f p e) (t : List ℕ) where
  head_none : spell_element h e ≡ [] → respell_in f h (p ++ t) ≡ refusal 10 0 0 0
  head_none q =
      outcomes.outcome_stop (respell_reads f h) (p ++ t) 10 0
      (spelt_not (spell_element h) (head_in f) ((reads f).finds p t e sp) (ap length q))

  head_some : (b : ℕ) (s : List ℕ) → spell_element h e ≡ b ∷ s → respell_in f h (p ++ t) ≡ join ((b ∷ s) ∷ []) (length p) (respell_in f h t)
  head_some b s q =
      outcomes.outcome_more (respell_reads f h) p t (b ∷ s) (respells_of f h sp q (λ z. omega (arith, ap length z)))

module _ (f g h : Form) where
  -- two texts of the same elements are respelt alike
  alike_more : {p q : List ℕ} {e : Element} → Spells f p e → Spells g q e → (t u : List ℕ) → Alike (respell_in f h t) (respell_in g h u)
      → (x : List ℕ) → spell_element h e ≡ x → Alike (respell_in f h (p ++ t)) (respell_in g h (q ++ u))
  alike_more sp sq t u a [] z = rw (head_none f h sp t z, head_none g h sq u z) (refl, refl, refl)
  alike_more {p} {q} sp sq t u a (b ∷ s) z =
      rw (head_some f h sp t b s z, head_some g h sq u b s z)
      (alike_join (b ∷ s) (length p) (length q) (respell_in f h t) (respell_in g h u) a)

  pub respelt_alike : {t u : List ℕ} {ps qs : List (List ℕ)} {es : List Element} → Run (Spells f) t ps es → Run (Spells g) u qs es
      → Alike (respell_in f h t) (respell_in g h u)
  unfolding outcome from
  respelt_alike done done = refl
  respelt_alike (more {s = t} {e = e} sp r) (more {s = u} sq r') = alike_more sp sq t u (respelt_alike r r') (spell_element h e) refl

-- ---- document 02, No. 6: octets of a text's sequences in the upper half

-- an outcome behind an element of which the speller gives these octets
abbrev behind : List ℕ → ℕ → Outcome (List ℕ) → Outcome (List ℕ)
behind [] k x = refusal 10 0 0 0
behind (b ∷ s) k x = join ((b ∷ s) ∷ []) k x

module _ (f g : Form) where
  head_behind : {p : List ℕ} {e : Element} → Spells f p e → (t s : List ℕ) → spell_element g e ≡ s
      → respell_in f g (p ++ t) ≡ behind s (length p) (respell_in f g t)
  head_behind sp t [] q = head_none f g sp t q
  head_behind sp t (b ∷ s) q = head_some f g sp t b s q

  respelt_raised : {s t : List ℕ} → Raised f s t → respell_in f g s ≡ respell_in f g t
  respelt_raised =
      raised_same f (respell_head f g) (λ e. behind (spell_element g e)) (λ p t e sp. head_behind sp t (spell_element g e) refl)
      (λ s n d h. outcomes.outcome_stop (respell_reads f g) s n d
      (ap (spelt_head (spell_element g)) ((refuses_exactly_by f s n d).1 h)))

  pub converts_raised : {s t : List ℕ} → Raised f s t → convert_in f g s ≡ convert_in f g t
  unfolding convert_in
  converts_raised h = ap₂ after_reading (raised_outcome f h) (respelt_raised h)

-- ---- the answers, where both forms are known

module _ (source target : ℕ) (f g : Form) (is_source : form_of source ≡ Some f) (is_target : form_of target ≡ Some g) (text out : List ℕ) where
  -- what respelling promises, with the number that it carries
  pub promised : {r : ReadAnswer} {after : List ℕ} → RespellPromise f g text out r after → ConvertPromise source target text out r after
  unfolding convert_answer convert_text convert_in respelled_in
  promised e = (
    carried _ _ _ _ e.0 (a_form _ _ _ _ _ is_source (a_form _ _ _ _ _ is_target refl)) (a_form _ _ _ _ _ is_source refl),
    a_form _ _ _ _ _ is_source (a_form _ _ _ _ _ is_target e.1),
  )

  -- and of a text within the limit
  pub converted : length text ≤ limit → (r : Answer) (after : List ℕ) → WholeAnswer same (length text) out (convert_in f g text) r after
      → (r ≡ convert_answer source target text (length out)) × (after ≡ convert_text source target text out)
  unfolding convert_answer convert_text
  converted inside r after e = (
    a_form _ _ _ _ _ is_source (a_form _ _ _ _ _ is_target (e.0 ∙ within text _ _ inside)),
    a_form _ _ _ _ _ is_source (a_form _ _ _ _ _ is_target (e.1 ∙ within text _ _ inside)),
  )
