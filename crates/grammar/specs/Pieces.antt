-- A text in pieces: its parts one after the other, as many whole ones at a time as a buffer takes. A part is that of a state and a list's next element,
-- which lead to the next state.
use Rattle.std.specs.Prelude.{ℕ, cond, List, [], ◌∷◌, ◌++◌, length, leb}
use Rattle.std.proofs.lemmas.List.Edits.{sets}

-- What was gathered, and the state after it.
pub record Gathered (S : Type 0) : Type 0 where
  pub text : List ℕ
  pub state : S

module _ {S L : Type 0} (part : S → L → List ℕ) (after : S → L → S) where
  -- as many whole parts as `room` bytes take
  unfoldable pub gather : ℕ → Gathered S → List L → Gathered S
  gather room g [] = g
  gather room g (l ∷ ls) =
      cond (leb (length (g.text ++ part g.state l)) room)
      (gather room (record { text = g.text ++ part g.state l; state = after g.state l }) ls)
      g

  abbrev pub fitting : S → List L → ℕ → Gathered S
  fitting s ls room = gather room (record { text = []; state = s }) ls

  -- the first part of those that are left
  abbrev pub first_part : S → List L → List ℕ
  first_part s [] = []
  first_part s (l ∷ ls) = part s l

  -- the buffer then, where `left` says what is left in a state: the parts that fit, after them as much of the next one as there is room for, and the
  -- other bytes as they were
  unfoldable pub piece_into : (S → List L) → S → List ℕ → List ℕ
  piece_into left s b =
      let g = fitting s (left s) (length b) in
      sets b 0 (g.text ++ first_part g.state (left g.state))
