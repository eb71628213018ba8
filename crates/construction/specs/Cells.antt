-- The shared cells (document 01, 'Shared cells'): opening values, whole-cell equality, and the swap.
use Rattle.std.specs.Prelude.{ℕ, ◌+◌, ◌%◌, ◌<◌, Bool, true, false, cond, not, ◌&&◌, eqb, Option, None, Some}
use Rattle.construction.specs.Types.{Gate, Flag, Done, Active, Exit, Words, Yield, Announcement, Record, SwappedCell}

-- four zeros
abbrev pub zeros : Words
zeros = record { w0 = 0; w1 = 0; w2 = 0; w3 = 0 }

-- 'unsigned 32-bit words': four numbers of which each fits its word
pub record FitsWords (f : Words) : Type 0 where
  pub w0 : f.w0 < 4294967296
  pub w1 : f.w1 < 4294967296
  pub w2 : f.w2 < 4294967296
  pub w3 : f.w3 < 4294967296

-- what an operation yields that has output nothing, and one that ends as a fault: 'its outputs are 0' (document 02, order 6)
abbrev pub no_yield : Yield
no_yield = record { outputs = zeros; fault = false }

abbrev pub fault_yield : Yield
fault_yield = record { outputs = zeros; fault = true }

-- 'Gate: .. at opening none and 1'
abbrev pub open_gate : Gate
open_gate = record { holder = None; seq = 1 }

-- 'Announcement of each process: .. at opening 0, 0, done, zeros', and done under no gate number yet (document 02, order 4)
abbrev pub open_announcement : Announcement
open_announcement = record { program = 0; flag = Done; seq = 0; number = 0; words = zeros; fault = false }

-- what an announcement says that is done
abbrev pub yield_of : Announcement → Yield
yield_of a = record { outputs = a.words; fault = a.fault }

-- 'Record of each variable: .. at opening the starting value, 0, 0, 0'
abbrev pub open_record : ℕ → Record
open_record start = record { val0 = start; val1 = 0; toggle = false; seq = 0 }

-- equality of the parts of a cell
abbrev pub same_holder : Option ℕ → Option ℕ → Bool
same_holder None None = true
same_holder None (Some n) = false
same_holder (Some m) None = false
same_holder (Some m) (Some n) = eqb m n

abbrev pub is_done : Flag → Bool
is_done Done = true
is_done Active = false
is_done Exit = false

abbrev pub same_flag : Flag → Flag → Bool
same_flag Done Done = true
same_flag Done Active = false
same_flag Done Exit = false
same_flag Active Done = false
same_flag Active Active = true
same_flag Active Exit = false
same_flag Exit Done = false
same_flag Exit Active = false
same_flag Exit Exit = true

abbrev pub same_bool : Bool → Bool → Bool
same_bool true b = b
same_bool false b = not b

unfoldable pub same_words : Words → Words → Bool
same_words a b = eqb a.w0 b.w0 && (eqb a.w1 b.w1 && (eqb a.w2 b.w2 && eqb a.w3 b.w3))

-- 'A swap compares the whole cell'
unfoldable pub same_gate : Gate → Gate → Bool
same_gate a b = same_holder a.holder b.holder && eqb a.seq b.seq

unfoldable pub same_announcement : Announcement → Announcement → Bool
same_announcement a b =
    eqb a.program b.program
    && (eqb a.seq b.seq && (same_flag a.flag b.flag && (eqb a.number b.number && (same_bool a.fault b.fault && same_words a.words b.words))))

unfoldable pub same_record : Record → Record → Bool
same_record a b =
    eqb a.val0 b.val0
    && (eqb a.val1 b.val1 && (same_bool a.toggle b.toggle && eqb a.seq b.seq))

-- '.. with the expected one, stores the new one if equal, and tells which': of a cell, by the equality of its kind
abbrev pub swap_by : {A : Type 0} → (A → A → Bool) → A → A → A → SwappedCell A
swap_by same cell expected new = record { cell = cond (same cell expected) new cell; won = same cell expected }

unfoldable pub swap_gate : Gate → Gate → Gate → SwappedCell Gate
swap_gate = swap_by same_gate

unfoldable pub swap_announcement : Announcement → Announcement → Announcement → SwappedCell Announcement
swap_announcement = swap_by same_announcement

unfoldable pub swap_record : Record → Record → Record → SwappedCell Record
swap_record = swap_by same_record

-- lines P21 and F3: nobody, and the next number; numbers have 64 bits
unfoldable pub released : Gate → Gate
released g = record { holder = None; seq = (g.seq + 1) % 18446744073709551616 }

-- val[toggle] of a record
unfoldable pub current : Record → ℕ
current r = cond r.toggle r.val1 r.val0

-- val[1 - toggle] of a record
unfoldable pub previous : Record → ℕ
previous r = cond r.toggle r.val0 r.val1

-- lines H33 to H35: the record r with the value v written under the number seq
unfoldable pub rewritten : Record → ℕ → ℕ → Record
rewritten r v seq =
    record {
      val0 = cond r.toggle v r.val0;
      val1 = cond r.toggle r.val1 v;
      toggle = not r.toggle;
      seq = seq;
    }
