-- Values that their words give back: those whose numbers fit, and so every value of a part's words.
use Prim.Native.Nat.{ℕ, ◌+◌, ◌-◌, ◌*◌, ◌/◌, ◌<◌}
use mathlib.Core.Path.{◌≡◌, refl, ◌∙◌, ap}
use mathlib.Core.Bool.{Bool, true, false, cond}
use mathlib.Core.List.{List}
use native.Mathlib.Omega.{arith}
use lib.Dec.{eqb}
use borrow.Author.Tests.{ne_eqb}
use Rattle.construction.specs.Cells.{FitsWords}
use Rattle.construction.proofs.Simulating.Sizes.{FitsSimulation}
use Rattle.std.specs.Prelude.{Option, None, Some}
use Rattle.codes.specs.Types.{Gate, Flag, Done, Active, Exit, Announcement, Record, Label, Idle, P1, P3, P5, P7, P10, C2, C4}
use Rattle.codes.specs.Types.{P13, P14, P16, H21, H36, P19, P20, P21, P22, F1, F3, P6, Words, Control, Operation, Simulation, Item}
use Rattle.codes.specs.Parts.{word_at}
use Rattle.codes.specs.Codes.{byte, half, odd, bit, holder_from, holder_word, flag_from, flag_word, place_from, place_word, gate_of, gate_words, control_of}
use Rattle.codes.specs.Codes.{control_words, announcement_of, announcement_words, record_of, record_words, operation_of, operation_words, simulation_of}
use Rattle.codes.specs.Codes.{simulation_words, pair, upper, item_of, item_words}

-- a number that fits so many is its own remainder
pub small : (m x : ℕ) → x < 256 → byte x ≡ x
small m x h = omega arith

pub holder_back : (h : Option ℕ) → ((m : ℕ) → h ≡ Some m → m < 256) → holder_from (holder_word h) ≡ h
unfolding holder_from
holder_back None p = refl
holder_back (Some m) p =
    let q = p m refl in
    let z : byte (m + 1 - 1) ≡ m = omega arith in
    rw (ne_eqb (m + 1) 0 (λ e. omega arith), z)

pub flag_back : (f : Flag) → flag_from (flag_word f) ≡ f
unfolding flag_from
flag_back Done = refl
flag_back Active = refl
flag_back Exit = refl

pub place_back : (p : Label) → place_from (place_word p) ≡ p
unfolding place_from
place_back Idle = refl
place_back P1 = refl
place_back P3 = refl
place_back P5 = refl
place_back P7 = refl
place_back P10 = refl
place_back C2 = refl
place_back C4 = refl
place_back P13 = refl
place_back P14 = refl
place_back P16 = refl
place_back H21 = refl
place_back H36 = refl
place_back P19 = refl
place_back P20 = refl
place_back P21 = refl
place_back P22 = refl
place_back F1 = refl
place_back F3 = refl
place_back P6 = refl

pub odd_back : (t : Bool) → odd (bit t) ≡ t
odd_back true = refl
odd_back false = refl

pub bit_small : (t : Bool) → bit t < 2
bit_small true = omega arith
bit_small false = omega arith

-- a holder that fits
pub record Fits (h : Option ℕ) : Type 0 where
  pub byte : (m : ℕ) → h ≡ Some m → m < 256

pub nobody_fits : Fits None
nobody_fits = record { byte = λ m e. let z : ◌≡◌ {A = ℕ} 0 1 = cc in omega arith }

pub process_fits : (m : ℕ) → m < 256 → Fits (Some m)
process_fits m h = record { byte = λ k e. let z : m ≡ k = cc in omega arith }

pub from_fits : (w : ℕ) → Fits (holder_from w)
unfolding holder_from
from_fits w = go (eqb w 0)
  where
    go : (t : Bool) → Fits (cond t None (Some (byte (w - 1))))
    go true = nobody_fits
    go false = process_fits (byte (w - 1)) (omega arith)

pub gate_back : (g : Gate) → Fits g.holder → gate_of (gate_words g) ≡ g
gate_back g p = let h = holder_back g.holder p.byte in λ j. record { holder = h j; seq = g.seq }

pub control_back : (t : Control) → t.target < 256 → control_of (control_words t) ≡ t
control_back t p =
    let place = place_back t.place in
    let target : byte t.target ≡ t.target = omega arith in
    λ j. record { place = place j; target = target j }

-- numbers of an announcement that fit
pub record FitsAnnouncement (a : Announcement) : Type 0 where
  pub program : a.program < 256
  pub w0 : a.words.w0 < 4294967296
  pub w1 : a.words.w1 < 4294967296
  pub w2 : a.words.w2 < 4294967296
  pub w3 : a.words.w3 < 4294967296

pub announcement_back : (a : Announcement) → FitsAnnouncement a → announcement_of (announcement_words a) ≡ a
announcement_back a p =
    let program : byte a.program ≡ a.program = omega (arith, p.program) in
    let flag = flag_back a.flag in
    let w0 : half a.words.w0 ≡ a.words.w0 = omega (arith, p.w0) in
    let w1 : half a.words.w1 ≡ a.words.w1 = omega (arith, p.w1) in
    let w2 : half a.words.w2 ≡ a.words.w2 = omega (arith, p.w2) in
    let w3 : half a.words.w3 ≡ a.words.w3 = omega (arith, p.w3) in
    let fault = odd_back a.fault in
    λ j. record {
      program = program j;
      flag = flag j;
      seq = a.seq;
      number = a.number;
      words = record { w0 = w0 j; w1 = w1 j; w2 = w2 j; w3 = w3 j };
      fault = fault j;
    }

-- numbers of an item that fit
pub record FitsItem (e : Item) : Type 0 where
  pub variable : e.variable < 256
  pub value : e.value < 4294967296
  pub val0 : e.cell.val0 < 4294967296
  pub val1 : e.cell.val1 < 4294967296

-- two numbers in a word
pub lower_pair : (low high : ℕ) → low < 4294967296 → half (pair low high) ≡ low
lower_pair low high p = omega arith

pub upper_pair : (low high : ℕ) → low < 4294967296 → upper (pair low high) ≡ high
upper_pair low high p = omega arith

marked : (v : ℕ) (t : Bool) → v < 256 → (byte (v + bit t * 256) ≡ v) × (odd ((v + bit t * 256) / 256) ≡ t)
marked v true p =
    let z : (v + 256) / 256 ≡ 1 = omega arith in
    (omega arith, ap odd z)
marked v false p =
    let z : (v + 0) / 256 ≡ 0 = omega arith in
    (omega arith, ap odd z)

pub item_back : (e : Item) → FitsItem e → item_of (item_words e) ≡ e
item_back e p =
    let t = bit e.cell.toggle in
    let high = upper_pair e.value (e.variable + t * 256) p.value in
    let mark = marked e.variable e.cell.toggle p.variable in
    let variable : byte (upper (pair e.value (e.variable + t * 256))) ≡ e.variable = ap byte high ∙ mark.0 in
    let value = lower_pair e.value (e.variable + t * 256) p.value in
    let val0 = lower_pair e.cell.val0 e.cell.val1 p.val0 in
    let val1 : half (upper (pair e.cell.val0 e.cell.val1)) ≡ e.cell.val1 =
    ap half (upper_pair e.cell.val0 e.cell.val1 p.val0) ∙ omega (arith, p.val1) in
    let toggle : odd (upper (pair e.value (e.variable + t * 256)) / 256) ≡ e.cell.toggle = ap (λ (x : ℕ). odd (x / 256)) high ∙ mark.1 in
    λ j. record {
      variable = variable j;
      value = value j;
      cell = record { val0 = val0 j; val1 = val1 j; toggle = toggle j; seq = e.cell.seq };
    }

-- a record
pub record FitsRecord (r : Record) : Type 0 where
  pub val0 : r.val0 < 4294967296
  pub val1 : r.val1 < 4294967296

pub record_back : (r : Record) → FitsRecord r → record_of (record_words r) ≡ r
record_back r p =
    let val0 : half r.val0 ≡ r.val0 = omega (arith, p.val0) in
    let val1 : half r.val1 ≡ r.val1 = omega (arith, p.val1) in
    let toggle = odd_back r.toggle in
    λ j. record { val0 = val0 j; val1 = val1 j; toggle = toggle j; seq = r.seq }

-- an operation and a simulation
abbrev halves : Words → Words
halves f = record { w0 = half f.w0; w1 = half f.w1; w2 = half f.w2; w3 = half f.w3 }

words_back : (f : Words) → FitsWords f → halves f ≡ f
words_back f p =
    let w0 : half f.w0 ≡ f.w0 = omega (arith, p.w0) in
    let w1 : half f.w1 ≡ f.w1 = omega (arith, p.w1) in
    let w2 : half f.w2 ≡ f.w2 = omega (arith, p.w2) in
    let w3 : half f.w3 ≡ f.w3 = omega (arith, p.w3) in
    λ j. record { w0 = w0 j; w1 = w1 j; w2 = w2 j; w3 = w3 j }

pub record FitsOperation (o : Operation) : Type 0 where
  pub program : o.program < 256
  pub inputs : FitsWords o.inputs

pub operation_back : (o : Operation) → FitsOperation o → operation_of (operation_words o) ≡ o
operation_back o p =
    let program : byte o.program ≡ o.program = omega (arith, p.program) in
    let inputs = words_back o.inputs p.inputs in
    λ j. record { program = program j; inputs = inputs j }

pub simulation_back : (s : Simulation) → FitsSimulation s → simulation_of (simulation_words s) ≡ s
simulation_back s p =
    let counter : byte s.counter ≡ s.counter = omega (arith, p.counter) in
    let registers = words_back s.registers p.registers in
    let outputs = words_back s.yields.outputs p.outputs in
    let fault = odd_back s.yields.fault in
    λ j. record { counter = counter j; registers = registers j; yields = record { outputs = outputs j; fault = fault j } }

-- a value of words fits
pub half_fits : (w : ℕ) → half w < 4294967296
half_fits w = omega arith

pub byte_fits : (w : ℕ) → byte w < 256
byte_fits w = omega arith

halves_fit : (f : Words) → FitsWords (halves f)
halves_fit f = record { w0 = half_fits f.w0; w1 = half_fits f.w1; w2 = half_fits f.w2; w3 = half_fits f.w3 }

module _ (w : List ℕ) where
  pub announcement_fits : FitsAnnouncement (announcement_of w)
  announcement_fits =
      record {
        program = byte_fits (word_at w 0);
        w0 = half_fits (word_at w 4);
        w1 = half_fits (word_at w 5);
        w2 = half_fits (word_at w 6);
        w3 =
            half_fits (word_at w 7);
      }

  pub record_fits : FitsRecord (record_of w)
  record_fits = record { val0 = half_fits (word_at w 0); val1 = half_fits (word_at w 1) }

  pub operation_fits : FitsOperation (operation_of w)
  operation_fits =
      record {
        program = byte_fits (word_at w 0);
        inputs = halves_fit (record { w0 = word_at w 1; w1 = word_at w 2; w2 = word_at w 3; w3 = word_at w 4 });
      }

  pub simulation_fits : FitsSimulation (simulation_of w)
  simulation_fits =
      record {
        counter = byte_fits (word_at w 0);
        registers = halves_fit (record { w0 = word_at w 1; w1 = word_at w 2; w2 = word_at w 3; w3 = word_at w 4 });
        outputs = halves_fit (record { w0 = word_at w 5; w1 = word_at w 6; w2 = word_at w 7; w3 = word_at w 8 });
      }

  pub item_fits : FitsItem (item_of w)
  item_fits =
      record {
        variable = byte_fits (upper (word_at w 2));
        value = half_fits (word_at w 2);
        val0 = half_fits (word_at w 1);
        val1 = half_fits (upper (word_at w 1));
      }
