-- Schedules in which every step runs on: how soon an operation can return, by its place, and the text of such schedules without a card. A listing steps no card
-- where nothing can return.
use Rattle.std.specs.Prelude.{ℕ, zero, suc, ◌+◌, ◌-◌, Bool, true, cond, ◌&&◌, ◌||◌, List, [], ◌∷◌, ◌++◌, get_or, ltb, leb}
use Rattle.grammar.specs.Writing.{decimal}
use Rattle.construction.specs.declared.{accesses.Label.Label, accesses.Control.Control, answers.Answer.Answer}
use Rattle.construction.specs.declared.accesses.Label.TheVariants.{Idle, P1, P3, P5, P7, P10, C2, C4, P13, P14, P16, H21, H36, P19, P20, P21, P22, F1, F3, P6}
use Rattle.construction.specs.Parts.{idle_control}
use Rattle.construction.specs.Requests.{is_idle}
use Rattle.executions.specs.Listings.{answer_text}

-- the fewest steps with which an operation at a place can return; nothing is under way at 0
abbrev pub distance : Label → ℕ
distance Idle = 0
distance P1 = 5
distance P3 = 4
distance P5 = 3
distance P7 = 2
distance P10 = 4
distance C2 = 3
distance C4 = 2
distance P13 = 3
distance P14 = 2
distance P16 = 3
distance H21 = 5
distance H36 = 5
distance P19 = 4
distance P20 = 3
distance P21 = 2
distance P22 = 1
distance F1 = 1
distance F3 = 1
distance P6 = 3

abbrev pub place_at : List Control → ℕ → Label
place_at l k = (get_or l k idle_control).place

-- none of the first m processes can return with n steps
unfoldable pub are_far : ℕ → List Control → ℕ → Bool
are_far n l zero = true
are_far n l (suc m) = (is_idle (place_at l m) || ltb n (distance (place_at l m))) && are_far n l m

-- process k can step, and neither with that step nor with those left after it can any process return or reach the step limit
unfoldable pub runs_on : ℕ → List Control → ℕ → ℕ → ℕ → ℕ → Bool
runs_on left l count k steps limit = ltb left (distance (place_at l k)) && (are_far (left - 1) l count && leb (steps + left) limit)

-- the lines of all schedules of n steps of processes that are not idle, each step of which answers `run`, after what was printed of those before
abbrev pub run_text : List Control → ℕ → List ℕ → List ℕ → (List ℕ → List ℕ → List ℕ) → List ℕ
run_text l k x y rest = cond (is_idle (place_at l k)) [] (rest (x ++ decimal k) (y ++ answer_text Answer.Run))

unfoldable pub runs_from : List Control → List ℕ → List ℕ → (List ℕ → List ℕ → List ℕ) → ℕ → ℕ → List ℕ
runs_from l x y rest zero k = []
runs_from l x y rest (suc m) k = run_text l k x y rest ++ runs_from l x y rest m (suc k)

unfoldable pub runs_text : ℕ → List Control → ℕ → List ℕ → List ℕ → List ℕ
runs_text zero l count x y = x ++ (y ++ (10 ∷ []))
runs_text (suc n) l count x y = runs_from l x y (λ z w. runs_text n l count z w) count 0
