-- To be believed: the four numbers of an answer, the fifth of a reading, and what a lent buffer holds after ("The numbers an answer
-- carries"; document 02, No. 5). Below, where it is said: what is proved equal to the documents' tables, and parts of the code.
-- Assumes nothing.
use Rattle.std.specs.Prelude.{ℕ, ◌≤◌, ◌≡◌, List, [], ◌∷◌, ◌++◌, eqb, leb, length, drop}
use Rattle.run.specs.Choice.{pick}
use Rattle.run.specs.Head.{Outcome, accepted, refusal}
use Rattle.run.specs.declared.Answer.{Answer}
use Rattle.run.specs.declared.ReadAnswer.{ReadAnswer}

-- ---- to be believed: the tables of the documents are stated with these

-- four numbers as an answer
abbrev pub answer : ℕ → ℕ → ℕ → ℕ → Answer
answer r n p c = record { number = r; element = n; place = p; count = c }

-- a refusal that carries no place: 11 to 15, and what a later request adds
abbrev pub bare : ℕ → Answer
bare r = answer r 0 0 0

-- "lent room is short": 9, with the room needed
abbrev pub short_room : ℕ → Answer
short_room needed = answer 9 0 0 needed

-- document 02, No. 5: "An accepted reading .. or conversion .. carries a fifth number", which "is 0 on a refusal"
pub record Carries (Counted : ℕ → Type 0) (r : ReadAnswer) : Type 0 where
  pub on_acceptance : r.answer.number ≡ 0 → Counted r.respelled
  pub on_refusal : (r.answer.number ≡ 0 → ⊥) → r.respelled ≡ 0

-- "In 1 to 8 the count is an octet place too and moves up with it"; of any other refusal of an element (10) it is 0
abbrev pub count_of : ℕ → ℕ → ℕ
count_of r d = pick (leb r 8) d 0

-- the entries that a list of elements gives, one element after another
unfoldable pub given : {A : Type 0} → (A → List ℕ) → List A → List ℕ
given gives [] = []
given gives (e ∷ es) = gives e ++ given gives es

-- the entries ws over the first of a buffer l; the rest untouched
abbrev pub over : List ℕ → List ℕ → List ℕ
over l ws = ws ++ drop (length ws) l

-- an element that is known by the entries it gives
abbrev pub same : List ℕ → List ℕ
same s = s

-- ---- proved equal to the tables (crates `text_reading`, `text`, `tlx`): an answer and a buffer, by what a list comes to

-- an answer with its fifth number: exactly one that `Carries` what is counted (proofs/Answers: carries_exactly)
abbrev pub carrying : Answer → ℕ → ReadAnswer
carrying a k = record { answer = a; respelled = pick (eqb a.number 0) k 0 }

-- Accepted: 0, elements, input length, entries written; 9 with the room needed where the room is short; a refusal as it is.
-- n is the input's length, room the length of the lent buffer.
abbrev pub answer_of : {A : Type 0} → (A → List ℕ) → ℕ → ℕ → Outcome A → Answer
answer_of gives n room (accepted es) =
    pick (leb (length (given gives es)) room) (answer 0 (length es) n (length (given gives es))) (short_room (length (given gives es)))
answer_of gives n room (refusal r e p d) = answer r e p (count_of r d)

-- What the lent buffer l holds after: what was given, and then the untouched rest; on any refusal l as it stood.
abbrev pub written_of : {A : Type 0} → (A → List ℕ) → List ℕ → Outcome A → List ℕ
written_of gives l (accepted es) = pick (leb (length (given gives es)) (length l)) (over l (given gives es)) l
written_of gives l (refusal r e p d) = l

-- ---- parts of the code

-- an answer as with room enough
abbrev pub roomy_answer : {A : Type 0} → (A → List ℕ) → ℕ → Outcome A → Answer
roomy_answer gives n (accepted es) = answer 0 (length es) n (length (given gives es))
roomy_answer gives n (refusal r e p d) = answer r e p (count_of r d)

-- the outcome is accepted, and a room of r entries holds what it gives
abbrev pub RoomFor : {A : Type 0} → (A → List ℕ) → ℕ → Outcome A → Type 0
RoomFor gives r (accepted es) = length (given gives es) ≤ r
RoomFor gives r (refusal n e p d) = ⊥

-- the second outcome where the first is accepted, else the refusal of the first
abbrev pub after_reading : {A B : Type 0} → Outcome A → Outcome B → Outcome B
after_reading (accepted es) x = x
after_reading (refusal r n p d) x = refusal r n p d
