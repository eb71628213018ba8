-- A program of the block that goes on with the items of a process, by its parts, over plain values
use Prim.Native.Nat.{ℕ, suc, ◌-◌, ◌<◌, ◌≤◌}
use mathlib.Core.Path.{◌≡◌, refl, sym, ◌∙◌, ap}
use mathlib.Core.List.{List}
use native.Mathlib.Omega.{arith}
use lib.ListN.{length, get_or, take}
use Rattle.construction.specs.declared.simulations.Pause.{Pause}
use Rattle.construction.specs.declared.simulations.Simulated.{Simulated}
use Rattle.construction.specs.Instructions.{started, fetch, shortened, next_instruction}
use Rattle.construction.specs.Dictionary.{value_at, empty, noted, next_write}
use Rattle.construction.specs.Machine.{pause_control, after_pause}
use Rattle.helping.specs.declared.simulation.Paused.{Paused}
use Rattle.helping.specs.Numbers.{Runs}
use Rattle.helping.proofs.Laws as laws
use Rattle.helping.proofs.Lines as lines
use Rattle.codes.specs.Types.{Announcement, Instruction, Program, Dictionary, Simulation, Control}
use Rattle.codes.proofs.Blocks.{get_or_table}
use Rattle.block.specs.Layout.{variable_count_in, last_in, simulation_in, put_simulation}
use Rattle.block.specs.Cards.{text_in, dictionary_at}
use Rattle.loan.specs.declared.items.Span.{Span}
use Rattle.loan.specs.Items.{keys_at, values_at, put_values}
use Rattle.loan.specs.Loans.{Fits, span_in}
use Rattle.loan.specs.Simulated.{begun_in, simulated_in, simulated_loan, values_of, Simulates}
use Rattle.loan.proofs.Held.{numbered, values_same, values_are}

-- the instruction at the counter, of a skip at most what is left of the program
pub fetched :
    (y : Program) (lines counter rest : ℕ) (x : Instruction) → lines ≡ y.length → x ≡ fetch y counter → rest ≡ lines - suc counter →
    shortened rest x ≡ next_instruction y counter
fetched y lines counter rest x el ex er = rw (er, el, ex)

-- a run of the announced program, whose state is put into the block
pub simulates :
    (b c : List ℕ) (i number n : ℕ) (y : Program) (a : Announcement) (s : Simulation) (ks : List ℕ) (end : ℕ) (before after : List ℕ) (r : Paused) →
    n ≡ variable_count_in b → y ≡ text_in b a.program number → Runs n y a.words s ks end before after r → c ≡ put_simulation b i r.simulation →
    Simulates b c i number a s ks end before after r.pause
simulates b c i number n y a s ks end before after r en ey h f =
    let g = rw (en, ey) at h in
    record {
      long = g.long;
      left = λ d p.
          let e = g.left d p in (
            f ∙ ap (λ (x : Simulated). put_simulation b i x.simulation) (sym e),
            ap (λ (x : Simulated). x.pause) (sym e),
            ap
                (λ (x : Simulated). x.dictionary) e,
          );
    }

-- it begins on no items
pub begins :
    (b c : List ℕ) (i number : ℕ) (a : Announcement) (s : Simulation) (ks before after : List ℕ) (pause : Pause) (control : Control) → s ≡ started →
    Simulates b c i number a s ks 0 before after pause → control ≡ pause_control pause 0 0 →
    (c ≡ put_simulation b i (begun_in b number a).simulation) × (control ≡ after_pause number (begun_in b number a).dictionary (begun_in b number a).pause)
begins b c i number a s ks before after pause control es ran et =
    let left = (rw es at ran).left empty (record { keyed = refl; valued = refl; count = refl }) in
    (left.0, et ∙ rw (← left.1, left.2) (lines.start_writes number _ pause))

-- it goes on with the items that the process has noted
module _ (b c l m : List ℕ) (i number : ℕ) (after : List ℕ) (pause : Pause) where
  gone :
      (s : Span) → s ≡ span_in b l i → Fits l s →
      Simulates b c i number (last_in b i) (simulation_in b i) (keys_at l s.base s.end) s.end (values_at l s.base s.end) after pause →
      m ≡ put_values l s.base s.end after → ((k : ℕ) → k < s.end → get_or after k 0 < 4294967296) →
      (next : ℕ) → next ≡ next_write number (dictionary_at m s.base s.end) 0 → (control : Control) → control ≡ pause_control pause next s.end →
      (c ≡ put_simulation b i (simulated_in b l i number).simulation) × (m ≡ simulated_loan b l i number)
      × (control ≡ after_pause number (simulated_in b l i number).dictionary (simulated_in b l i number).pause)
  unfolding simulated_loan
  gone s es fits ran put small next en control et =
      let x = simulated_in b l i number in
      let end = s.end in
      let held : dictionary_at l s.base end ≡ dictionary_at l (span_in b l i).base (span_in b l i).end =
      ap (λ (z : Span). dictionary_at l z.base z.end) es in
      let h = numbered l s.base end fits.end in
      let left = rw held at (ran.left (dictionary_at l s.base end) h) in
      let enough : end ≤ length after = omega (arith, ran.long, laws.enough_values h) in
      let same : dictionary_at m s.base end ≡ x.dictionary =
      ap (λ (z : List ℕ). dictionary_at z s.base end) put ∙ values_are l s.base end after fits.long enough small ∙ rw held (sym left.2) in
      let count : end ≡ length (noted x.dictionary) = (laws.keyed h (take end after)).0 ∙ rw held
      (ap (λ (z : Dictionary). length (noted z)) (sym left.2)) in
      let going : control ≡ after_pause number x.dictionary x.pause =
      et ∙ lines.goes_on number x.dictionary pause next end (en ∙ ap (λ (z : Dictionary). next_write number z 0) same) count
      ∙ ap (λ (z : Pause). after_pause number x.dictionary z) left.1 in
      let each : (k : ℕ) → k < end → get_or after k 0 ≡ get_or (values_of x.dictionary end) k 0 =
      λ k p. laws.value_is h after ran.long k p ∙ rw held (ap (λ (z : Dictionary). value_at z k) (sym left.2)) ∙ sym
      (get_or_table end k (λ k. value_at x.dictionary k) 0 p) in (
        left.0,
        put ∙ values_same l s.base end after (values_of x.dictionary end) each ∙ ap
            (λ (z : Span). put_values l z.base z.end (values_of x.dictionary z.end)) es,
        going,
      )

  pub gone_on_lem :
      (s : Span) → s ≡ span_in b l i → Fits l s → (a : Announcement) → a ≡ last_in b i → (state : Simulation) → state ≡ simulation_in b i →
      (ks before : List ℕ) → ks ≡ keys_at l s.base s.end → before ≡ values_at l s.base s.end →
      Simulates b c i number a state ks s.end before after pause →
      m ≡ put_values l s.base s.end after → ((k : ℕ) → k < s.end → get_or after k 0 < 4294967296) →
      (next : ℕ) → next ≡ next_write number (dictionary_at m s.base s.end) 0 → (control : Control) → control ≡ pause_control pause next s.end →
      (c ≡ put_simulation b i (simulated_in b l i number).simulation) × (m ≡ simulated_loan b l i number)
      × (control ≡ after_pause number (simulated_in b l i number).dictionary (simulated_in b l i number).pause)
  gone_on_lem s es fits a ea state est ks before ek ev ran = gone s es fits (rw (ea, est, ek, ev) at ran)
