-- What is put into the loan for one process is the dictionary that is meant, and leaves every other word of the loan, and so every other dictionary.
use Prim.Native.Nat.{ℕ, suc, ◌+◌, ◌-◌, ◌*◌, ◌<◌, ◌≤◌}
use mathlib.Core.Path.{◌≡◌, refl, sym, ◌∙◌, ap, subst}
use mathlib.Core.Logic.{◌≢◌, ◌⊎◌, inl, inr, ⊎_elim}
use mathlib.Core.Bool.{Bool, true, false, cond, ◌&&◌}
use mathlib.Core.List.{List, ◌++◌}
use native.Mathlib.Omega.{arith}
use lib.Dec.{ltb}
use lib.ListN.{length, replicate, length-append, length-take}
use borrow.Author.Tests.{lt-ltb, ltb-true}
use Rattle.construction.specs.Instructions.{started}
use Rattle.construction.specs.Dictionary.{no_item, empty, noted, value_at, insert}
use Rattle.construction.specs.Machine.{after_pause}
use Rattle.construction.proofs.Basics.{get_or_replicate_same}
use Rattle.construction.proofs.Simulating.Simulations.{simulate_empty, simulate_length}
use Rattle.codes.specs.Types.{Announcement, Item, Dictionary}
use Rattle.codes.specs.Parts.{word_at, stores, table}
use Rattle.codes.specs.Codes.{item_of, item_words}
use Rattle.codes.proofs.Blocks.{apart, kept, length_stores, length_table, get_or_table, table_same, part_same}
use Rattle.construction.proofs.Simulating.Sizes.{Small, FitsSimulation, started_fits}
use Rattle.codes.proofs.Values.{FitsItem, FitsAnnouncement}
use Rattle.block.specs.Layout.{room_in, noted_in, variable_count_in, last_in, simulation_in}
use Rattle.block.specs.Cards.{item_place, item_at, dictionary_at, dictionary_in, text_in}
use Rattle.block.proofs.Fitting.{variable_count_fits, noted_room, room_fits, last_fits, simulation_fits, text_fits, dictionary_fits}
use Rattle.loan.specs.Items.{put_values}
use Rattle.loan.specs.Loans.{has_items, span_in, held_dictionary, is_inserted, insert_loan}
use Rattle.loan.specs.Simulated.{begun_in, simulated_in, values_of, simulated_loan}
use Rattle.loan.proofs.Held.{values_length, values_kept, values_are}
use Rattle.loan.proofs.Inserting.{item_more}
use Rattle.loan.proofs.Spans.{has_long, span_fits}
use Rattle.loan.proofs.Sizes.{SmallValues, simulate_small}
use Rattle.loan.proofs.Pauses.{pause_narrow, control_narrow}
use Rattle.loan.proofs.Revaluing.{Revalued, simulate_revalued, by_values}

dictionary_length : (l : List ℕ) (base n : ℕ) → n ≡ (dictionary_at l base n).length
unfolding dictionary_at
dictionary_length l base n = refl

dictionary_room : (l : List ℕ) (base n : ℕ) → n ≤ 32 → n ≤ length (dictionary_at l base n).items
unfolding dictionary_at
dictionary_room l base n p =
    let t = length_table n (λ k. item_at l base k) in
    rw (length-append (table n (λ k. item_at l base k)) (replicate (32 - n) no_item), t) (omega arith)

noted_most : (d : Dictionary) → d.length ≤ 32 → length (noted d) ≤ 32
noted_most d p = omega (arith, length-take d.length d.items)

-- only words of the items of process i differ ('Entries past p × w remain untouched')
pub record Only (b l m : List ℕ) (i : ℕ) : Type 0 where
  pub long : length m ≡ length l
  pub at : (q : ℕ) → (q < room_in b * i * 3) ⊎ ((room_in b * i + room_in b) * 3 ≤ q) → word_at m q ≡ word_at l q

-- the dictionary of another process
pub others : (b l m : List ℕ) (i : ℕ) → Only b l m i → (k : ℕ) → k ≢ i → dictionary_in b m k ≡ dictionary_in b l k
unfolding dictionary_at
others b l m i only k ne =
    let w = room_in b in
    let n = noted_in b k in
    let room = noted_room b k in
    let e = table_same n (λ j. item_at l (w * k) j) (λ j. item_at m (w * k) j)
    (λ j p. ap item_of (part_same l m (item_place (w * k) j) 3
    (λ q r s. only.at q (⊎_elim (λ (z : w * i + w ≤ w * k). inr (omega arith)) (λ (z : w * k + w ≤ w * i). inl (omega arith)) (apart w i k ne))))) in
    λ j. record { length = n; items = e j ++ replicate (32 - n) no_item }

-- where the loan is long enough the dictionary that stands there is that of the card
pub held_is : (b l : List ℕ) (i : ℕ) → has_items b l i ≡ true → held_dictionary b l i ≡ dictionary_in b l i
held_is b l i h = rw h

-- one item more
module _ (b l : List ℕ) (i : ℕ) (e : Item) where
  pub insert_only : Only b l (insert_loan b l i e) i
  unfolding insert_loan is_inserted
  insert_only = go (has_items b l i) refl (ltb (noted_in b i) (room_in b)) refl
    where
      go :
          (s : Bool) → has_items b l i ≡ s → (t : Bool) → ltb (noted_in b i) (room_in b) ≡ t →
          Only b l (cond (s && t) (stores l ((room_in b * i + noted_in b i) * 3) (item_words e)) l) i
      go true p true q =
          let r = ltb-true (noted_in b i) (room_in b) q in
          record {
            long = length_stores l ((room_in b * i + noted_in b i) * 3) (item_words e);
            at = λ x h. kept l ((room_in b * i + noted_in b i) * 3) (item_words e) x
                (⊎_elim (λ (z : x < room_in b * i * 3). inl (omega arith)) (λ (z : (room_in b * i + room_in b) * 3 ≤ x). inr (omega arith)) h);
          }
      go true p false q = record { long = refl; at = λ x h. refl }
      go false p t q = record { long = refl; at = λ x h. refl }

  pub insert_is :
      FitsItem e → has_items b l i ≡ true → noted_in b i < room_in b →
      dictionary_at (insert_loan b l i e) (room_in b * i) (noted_in b i + 1) ≡ insert (dictionary_in b l i) e
  unfolding insert_loan is_inserted
  insert_is fits has room =
      let long = has_long b l i has in
      let w = room_fits b in
      let one : noted_in b i + 1 ≡ suc (noted_in b i) = omega arith in
      rw (has, lt-ltb (noted_in b i) (room_in b) room, one) (item_more l (room_in b * i) (noted_in b i) e fits (omega arith) (omega arith))

-- values put back
put_back :
    (l : List ℕ) (base n : ℕ) → n ≤ 32 → (base + n) * 3 ≤ length l → (x : Dictionary) → Revalued (dictionary_at l base n) x → SmallValues x →
    dictionary_at (put_values l base n (values_of x n)) base n ≡ x
put_back l base n p long x same small =
    let all = length_table n (λ k. value_at x k) in
    values_are l base n (values_of x n) long (omega arith) (λ k q. subst Small (sym (get_or_table n k (λ j. value_at x j) 0 q)) (small k))
    ∙ by_values (dictionary_at l base n) x n (dictionary_length l base n) (dictionary_room l base n p) same

-- a simulation that went on
module _ (b l : List ℕ) (i number : ℕ) where
  pub simulated_only : Only b l (simulated_loan b l i number) i
  unfolding simulated_loan
  simulated_only = go (has_items b l i) refl (values_of (simulated_in b l i number).dictionary (span_in b l i).end)
    where
      go :
          (t : Bool) → has_items b l i ≡ t → (xs : List ℕ) →
          Only b l (put_values l (span_in b l i).base (span_in b l i).end xs) i
      go true p xs =
          let room = noted_room b i in
          rw p (record {
            long = values_length l (room_in b * i) (noted_in b i) xs;
            at = λ q h. values_kept l (room_in b * i) xs (noted_in b i) q
                (λ k r z. ⊎_elim (λ (y : q < room_in b * i * 3). omega arith) (λ (y : (room_in b * i + room_in b) * 3 ≤ q). omega arith) h);
          })
      go false p xs = rw p (record { long = values_length l 0 0 xs; at = λ q h. values_kept l 0 xs 0 q (λ k r. absurd (omega arith)) })

  -- what it leaves fits its words
  pub simulated_fits :
      FitsSimulation (simulated_in b l i number).simulation × SmallValues (simulated_in b l i number).dictionary
  simulated_fits =
      let a = last_fits b i in
      simulate_small (variable_count_in b) (text_in b (last_in b i).program number) (last_in b i).words (simulation_in b i) (held_dictionary b l i)
      (text_fits b (last_in b i).program number) (record { w0 = a.w0; w1 = a.w1; w2 = a.w2; w3 = a.w3 }) (simulation_fits b i)
      (λ k. (dictionary_fits l (span_in b l i).base (span_in b l i).end k).value)

  simulated_held :
      i < 256 → dictionary_at (simulated_loan b l i number) (span_in b l i).base (span_in b l i).end ≡ (simulated_in b l i number).dictionary
  unfolding simulated_loan
  simulated_held p =
      let s = span_in b l i in
      let fits = span_fits b l i p s refl in
      put_back l s.base s.end fits.end fits.long (simulated_in b l i number).dictionary
      (simulate_revalued (variable_count_in b) (text_in b (last_in b i).program number) (last_in b i).words (simulation_in b i) (held_dictionary b l i))
      simulated_fits.1

  pub simulated_is : i < 256 → has_items b l i ≡ true → dictionary_in b (simulated_loan b l i number) i ≡ (simulated_in b l i number).dictionary
  simulated_is p has = rw has (rw has at (simulated_held p))

  -- and so does where the process goes on
  pub simulated_target : i < 256 → (after_pause number (simulated_in b l i number).dictionary (simulated_in b l i number).pause).target < 256
  unfolding dictionary_at
  simulated_target p =
      let x = simulated_in b l i number in
      let program = text_in b (last_in b i).program number in
      let inputs = (last_in b i).words in
      let count = simulate_length (variable_count_in b) program inputs (simulation_in b i) (held_dictionary b l i) in
      let fits = span_fits b l i p (span_in b l i) refl in
      control_narrow number x.dictionary x.pause (noted_most x.dictionary (omega (arith, fits.end)))
      (pause_narrow (variable_count_in b) (variable_count_fits b) program inputs (simulation_in b i) (held_dictionary b l i))

-- a program that begins: its state fits, its dictionary is empty, and where the process goes on fits
module _ (b : List ℕ) (number : ℕ) (a : Announcement) where
  pub begun_fits : FitsAnnouncement a → FitsSimulation (begun_in b number a).simulation
  begun_fits fits =
      (simulate_small (variable_count_in b) (text_in b a.program number) a.words started empty (text_fits b a.program number)
      (record { w0 = fits.w0; w1 = fits.w1; w2 = fits.w2; w3 = fits.w3 }) started_fits
      (λ k. subst (λ (e : Item). Small e.value) (sym (get_or_replicate_same 32 k no_item)) (omega arith))).0

  pub begun_empty : (begun_in b number a).dictionary ≡ empty
  begun_empty = simulate_empty (variable_count_in b) (text_in b a.program number) a.words

  pub begun_target : (after_pause number (begun_in b number a).dictionary (begun_in b number a).pause).target < 256
  begun_target =
      let x = begun_in b number a in
      control_narrow number x.dictionary x.pause (rw begun_empty (omega arith))
      (pause_narrow (variable_count_in b) (variable_count_fits b) (text_in b a.program number) a.words started empty)
