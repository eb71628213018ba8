-- The text of a listing (document 02, order 13), its refusals, and what is put into a lent buffer.
use Rattle.std.specs.Prelude.{ℕ, zero, suc, ◌/◌, ◌%◌, ◌^◌, ◌≤◌, ◌<◌, ◌≡◌, Bool, true, cond, not, ◌&&◌, List, [], ◌∷◌, ◌++◌, length, get_or, drop, eqb, leb}
use Rattle.std.specs.Prelude.{Ok, Err}
use Rattle.grammar.specs.Writing.{decimal}
use Rattle.executions.specs.declared.Request.{Request}
use Rattle.construction.specs.declared.{card.Card.Card, answers.Answer.Answer, answers.Answered.Answered}
use Rattle.construction.specs.declared.answers.Refusal.TheVariants.{NoProgram, ShortBuffer, TooLarge}
use Rattle.construction.specs.Parts.{contents_of}
use Rattle.construction.specs.Answers.{answer_fields, fields_text, is_refused}
use Rattle.construction.specs.Requests.{is_program, step}
use Rattle.construction.specs.Opening.{fresh}
use Rattle.construction.specs.Types.{Written}
use Rattle.executions.specs.Schedules.{no_request, Execution, is_quiet, schedules}

-- 'a line holds the process numbers run together, then each step's answer fields after commas'
unfoldable pub numbers_together : List ℕ → List ℕ
numbers_together [] = []
numbers_together (i ∷ s) = decimal i ++ numbers_together s

abbrev pub answer_text : Answer → List ℕ
answer_text a = fields_text (answer_fields a)

unfoldable pub answers_text : List Answer → List ℕ
answers_text [] = []
answers_text (a ∷ l) = answer_text a ++ answers_text l

-- the line of an execution that goes on from steps whose numbers are x and whose answers are y; it stands alone where both are empty
abbrev pub line_after : List ℕ → List ℕ → Execution → List ℕ
line_after x y e = (x ++ numbers_together e.schedule) ++ ((y ++ answers_text e.answers) ++ (10 ∷ []))

unfoldable pub lines_after : List ℕ → List ℕ → List Execution → List ℕ
lines_after x y [] = []
lines_after x y (e ∷ l) = line_after x y e ++ lines_after x y l

-- 'For a card .. taken as it was opened whatever it has done since'
abbrev pub reopened : Card → Card
reopened c = fresh (contents_of c)

unfoldable pub listing_text : Card → List Request → ℕ → List ℕ
listing_text o calls L = lines_after [] [] (schedules o calls L)

-- The same text by the recursion of the listing, as code makes it: on the steps still to choose, with what was printed of those chosen
abbrev pub branch_text : ℕ → Answered → List ℕ → List ℕ → (Card → List ℕ → List ℕ → List ℕ) → List ℕ
branch_text i r x y rest = cond (is_refused r.answer) [] (rest r.card (x ++ decimal i) (y ++ answer_text r.answer))

unfoldable pub branches_text : Card → List ℕ → List ℕ → (Card → List ℕ → List ℕ → List ℕ) → ℕ → ℕ → List ℕ
branches_text c x y rest zero k = []
branches_text c x y rest (suc m) k = branch_text k (step c k) x y rest ++ branches_text c x y rest m (suc k)

unfoldable pub text_after : ℕ → Card → List ℕ → List ℕ → List ℕ
text_after zero c x y = x ++ (y ++ (10 ∷ []))
text_after (suc n) c x y =
    cond (is_quiet c c.process_count) (x ++ (y ++ (10 ∷ [])))
    (branches_text c x y (λ d z w. text_after n d z w) c.process_count 0)

-- In pieces, by the first m of m + n steps: with p processes there are p ^ m pieces, and piece j has the executions whose first steps are the m digits of j
-- in base p. An execution that ends among the first steps stands in the first of its pieces.
unfoldable pub piece_after : ℕ → ℕ → ℕ → Card → List ℕ → List ℕ → List ℕ
piece_after zero n j c x y = text_after n c x y
piece_after (suc m) n j c x y =
    let block = c.process_count ^ m in
    cond (is_quiet c c.process_count) (cond (eqb j 0) (x ++ (y ++ (10 ∷ []))) [])
    (branch_text (j / block) (step c (j / block)) x y (λ d z w. piece_after m n (j % block) d z w))

-- m texts one after the other, from number k on
unfoldable pub together : (ℕ → List ℕ) → ℕ → ℕ → List ℕ
together f zero k = []
together f (suc m) k = f k ++ together f m (suc k)

-- 6: 'a call whose sheet is not there', of m calls from process k on
unfoldable pub are_callable : Card → List Request → ℕ → ℕ → Bool
are_callable o calls zero k = true
are_callable o calls (suc m) k = is_program o (get_or calls k no_request).program && are_callable o calls m (suc k)

abbrev pub is_callable : Card → List Request → Bool
is_callable o calls = are_callable o calls o.process_count 0

-- 17: 'A larger p or L, or a step limit below L'
abbrev pub is_listable : Card → ℕ → Bool
is_listable o L = leb o.process_count 3 && (leb L 16 && leb L o.limit)

-- the length of the listing, which no buffer is needed for; or 6, then 17
unfoldable pub measured : Card → List Request → ℕ → Written
measured c calls L =
    let o = reopened c in
    cond (not (is_callable o calls)) (Err NoProgram)
    (cond (not (is_listable o L)) (Err TooLarge) (Ok (length (listing_text o calls L))))

-- 6, then 17, then 11; and the length else
unfoldable pub listed : Card → List Request → ℕ → List ℕ → Written
listed c calls L b =
    let o = reopened c in
    let t = listing_text o calls L in
    cond (not (is_callable o calls)) (Err NoProgram) (cond (not (is_listable o L)) (Err TooLarge)
    (cond (leb (length t) (length b)) (Ok (length t)) (Err ShortBuffer)))

-- the buffer then: the text and the bytes past it as they were; or all of them
unfoldable pub listed_into : Card → List Request → ℕ → List ℕ → List ℕ
listed_into c calls L b =
    let o = reopened c in
    let t = listing_text o calls L in
    cond (is_callable o calls && (is_listable o L && leb (length t) (length b))) (t ++ drop (length t) b) b

-- what the two tests say
abbrev pub Callable : Card → List Request → Type 0
Callable o calls = (k : ℕ) → k < o.process_count → is_program o (get_or calls k no_request).program ≡ true

pub record Listable (o : Card) (L : ℕ) : Type 0 where
  pub processes : o.process_count ≤ 3
  pub steps : L ≤ 16
  pub limit : L ≤ o.limit
