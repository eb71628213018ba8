-- What an operation has cost at each place of its course, and that no move of another process alters it.
use Prim.Native.Nat.{ℕ, suc, ◌+◌, ◌*◌, ◌≤◌, ◌<◌}
use mathlib.Core.Path.{◌≡◌, refl, sym, ap, ◌∙◌}
use mathlib.Core.Bool.{Bool, true, false}
use mathlib.Core.Logic.{◌⊎◌, inl, ⊎_elim}
use native.Mathlib.Omega.{arith}
use native.Mathlib.Nat.{mul-le-mul_right}
use Rattle.std.specs.Prelude.{None}
use Rattle.construction.specs.Types.{Gate, Active, Announcement, Label, Idle, P1, P3, P5, P7, P10, C2, C4, P13, P14, P16, H21, H36, P19, P20, P21}
use Rattle.construction.specs.Types.{P22, F1, F3, P6}
use Rattle.construction.specs.Parts.{Local}
use Rattle.construction.specs.Requests.{exiting, with_request}
use Rattle.construction.specs.Waits.{longest_wait, extra}

-- what is remembered of an announced operation: a number at which it is its turn, its completed iterations, and the steps of P6 and P7
pub record Tally : Type 0 where
  pub turn : ℕ
  pub laps : ℕ
  pub spent : ℕ

-- the steps of an iteration: P10, C2, C4, P13, P14, P16, H21 and H36 for each item, P19, P20, P21, P22
abbrev pub lap : ℕ → ℕ
lap w = 10 + 2 * w

-- in the loop, with p processes and the weight w: at most p iterations are complete, each under a number of its own up to n, and the own
-- steps are those, P1 and P3, and at most k - 1 in this iteration
pub record Loop (p w n k : ℕ) (x : Tally) (t : Local) : Type 0 where
  pub few : x.laps ≤ p
  pub low : x.turn + x.laps ≤ n + p
  pub wished : x.spent ≤ extra t.exit
  pub cost : t.steps ≤ 1 + (x.spent + x.laps * lap w) + k

-- one more number has passed than iterations are complete
abbrev pub Ahead : ℕ → Gate → Tally → Type 0
Ahead p g x = x.turn + suc x.laps ≤ g.seq + p

-- a process with own state t and announcement a, while the gate is g
abbrev pub CourseAt : Label → ℕ → ℕ → Gate → Announcement → Tally → Local → Type 0
CourseAt Idle p w g a x t = t.steps ≤ longest_wait p w + extra t.exit
CourseAt P1 p w g a x t = t.steps ≤ 0
CourseAt P3 p w g a x t = t.steps ≤ 1
CourseAt P5 p w g a x t = Loop p w g.seq 1 x t × (x.spent ≡ 0) × (a.flag ≡ Active → a ≡ t.announcement)
CourseAt P7 p w g a x t = Loop p w g.seq 0 x t
CourseAt P10 p w g a x t = Loop p w g.seq 1 x t
CourseAt C2 p w g a x t = Loop p w t.gate.seq 2 x t
CourseAt C4 p w g a x t = Loop p w t.gate.seq 3 x t
CourseAt P13 p w g a x t = Loop p w t.gate.seq 4 x t
CourseAt P14 p w g a x t = Loop p w g.seq 5 x t × (g.holder ≡ None → Ahead p g x)
CourseAt P16 p w g a x t = Loop p w t.gate.seq 6 x t
CourseAt H21 p w g a x t = Loop p w t.gate.seq (7 + t.dictionary.length) x t
CourseAt H36 p w g a x t = Loop p w t.gate.seq (7 + t.dictionary.length + t.control.target) x t
CourseAt P19 p w g a x t = Loop p w t.gate.seq (7 + 2 * w) x t
CourseAt P20 p w g a x t = Loop p w t.gate.seq (8 + 2 * w) x t
CourseAt P21 p w g a x t = Loop p w t.gate.seq (9 + 2 * w) x t
CourseAt P22 p w g a x t = Loop p w g.seq (10 + 2 * w) x t × Ahead p g x
CourseAt F1 p w g a x t = t.steps + 2 ≤ longest_wait p w + extra t.exit
CourseAt F3 p w g a x t = t.steps + 1 ≤ longest_wait p w + extra t.exit
CourseAt P6 p w g a x t = ⊥

-- the gate's number does not fall, and a gate that is free was free before or has another number
pub record Onward (g h : Gate) : Type 0 where
  pub above : g.seq ≤ h.seq
  pub freed : h.holder ≡ None → (g.holder ≡ None) ⊎ (g.seq < h.seq)

-- a process that does not step, while the gate goes on, its announcement stays if it is active, and an exit request may come
module _ (p w : ℕ) {g h : Gate} {a b : Announcement} (x : Tally) (t : Local) (exit : Bool) (O : Onward g h) (s : b.flag ≡ Active → b ≡ a)
    (more : extra t.exit ≤ extra exit) where
  -- in the loop, under a number that it has read or under that of the gate
  read : {n k : ℕ} → Loop p w n k x t → Loop p w n k x (with_request t exit)
  read q = record { few = q.few; low = q.low; wished = omega (arith, q.wished); cost = q.cost }

  now : {k : ℕ} → Loop p w g.seq k x t → Loop p w h.seq k x (with_request t exit)
  now q = record { few = q.few; low = omega (arith, q.low, O.above); wished = omega (arith, q.wished); cost = q.cost }

  course_on : (l : Label) → CourseAt l p w g a x t → CourseAt l p w h b x (with_request t exit)
  course_on Idle q = omega (arith, q)
  course_on P1 q = q
  course_on P3 q = q
  course_on P5 q = (now q.0, q.1, λ e. s e ∙ q.2 (ap (λ (r : Announcement). r.flag) (sym (s e)) ∙ e))
  course_on P7 q = now q
  course_on P10 q = now q
  course_on C2 q = read q
  course_on C4 q = read q
  course_on P13 q = read q
  course_on P14 q = (
    now q.0,
    λ e. ⊎_elim (λ f. omega (arith, q.1 f, O.above)) (λ f. omega (arith, q.0.low)) (O.freed e),
  )
  course_on P16 q = read q
  course_on H21 q = read q
  course_on H36 q = read q
  course_on P19 q = read q
  course_on P20 q = read q
  course_on P21 q = read q
  course_on P22 q = (now q.0, omega (arith, q.1, O.above))
  course_on F1 q = omega (arith, q)
  course_on F3 q = omega (arith, q)
  course_on P6 q = absurd q

pub course_stays :
    (l : Label) (p w : ℕ) {g h : Gate} {a b : Announcement} (x : Tally) (t : Local) → Onward g h → (b.flag ≡ Active → b ≡ a) →
    CourseAt l p w g a x t → CourseAt l p w h b x t
course_stays l p w x t O s q = course_on p w x t t.exit O s (omega arith) l q

-- an exit request lets an operation take 2 steps more
extra_most : (exit : Bool) → extra exit ≤ 2
extra_most true = omega arith
extra_most false = omega arith

pub course_exits : (l : Label) (p w : ℕ) (g : Gate) (a : Announcement) (x : Tally) (t : Local) → CourseAt l p w g a x t → CourseAt l p w g a x (exiting t)
course_exits l p w g a x t q =
    course_on p w x t true (record { above = omega arith; freed = inl }) (λ _. refl) (extra_most t.exit) l q

-- in the loop there is room for the rest of the iteration, and for F1, F3 and the return
pub last_lap :
    {p w n k : ℕ} {x : Tally} {t : Local} → Loop p w n k x t → k ≤ 10 + 2 * w → t.steps + 3 ≤ longest_wait p w + extra t.exit
last_lap {w = w} q h = omega (arith, q.cost, q.wished, mul-le-mul_right (lap w) q.few)
