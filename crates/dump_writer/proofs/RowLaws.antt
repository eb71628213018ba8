-- The row of a card, by the pieces that code takes out of it.
use mathlib.Core.Path.{◌≡◌, refl, sym, ◌∙◌, ap}
use mathlib.Core.Bool.{cond}
use mathlib.Core.List.{List}
use Prim.Native.Nat.{ℕ, zero, suc, ◌+◌, ◌-◌, ◌%◌, ◌<◌, ◌≤◌, min}
use lib.Dec.{ltb}
use lib.ListN.{length, get_or, set, replicate}
use lib.Seq.{set_out}
use native.Mathlib.Omega.{arith}
use native.Mathlib.Numerals.{add-one}
use native.Mathlib.Decide.{dec_le}
use Rattle.construction.specs.declared.{cells.Gate.Gate, cells.Announcement.Announcement, cells.Record.Record, card.Card.Card}
use Rattle.construction.specs.Cells.{open_announcement, open_record}
use Rattle.construction.specs.Parts.{announcement_at, record_at}
use Rattle.construction.specs.Machine.{holder_of}
use Rattle.construction.specs.Requests.{shown, value_of}
use Rattle.requests.proofs.Arrays.{found}
use Rattle.dump.specs.Histories.{row_from, row_of}
use Rattle.dump_writer.specs.Courses.{shown_from}

module _ (g : Gate) (a : Announcement) (records : List Record) where
  -- past the room nothing changes
  shown_past : (m v : ℕ) (row : List ℕ) → length row ≤ v → shown_from g a records m v row ≡ row
  unfolding shown_from
  shown_past zero v row h = refl
  shown_past (suc m) v row h = rw (set_out row v (shown g a (get_or records v (open_record 0))) h) (shown_past m (suc v) row (omega arith))

  shown_none : (v : ℕ) (row : List ℕ) → shown_from g a records 0 v row ≡ row
  unfolding shown_from
  shown_none v row = refl

  pub shown_turn :
      (n v : ℕ) (row : List ℕ) {x : ℕ} → v < n → x ≡ shown g a (get_or records v (open_record 0)) →
      shown_from g a records (n - v) v row ≡ shown_from g a records (n - (v + 1)) (v + 1) (set row v x)
  unfolding shown_from
  shown_turn n v row h e = let k : n - v ≡ suc (n - (v + 1)) = omega arith in rw (k, e, add-one v)

  pub shown_end : (n v : ℕ) (row : List ℕ) → length row ≡ 64 → min 64 n ≤ v → shown_from g a records (n - v) v row ≡ row
  shown_end n v row full h = by (dec_le n v)
    where
      by : Dec (n ≤ v) → shown_from g a records (n - v) v row ≡ row
      by (yes l) = let k : n - v ≡ 0 = omega arith in ap (λ (y : ℕ). shown_from g a records y v row) k ∙ shown_none v row
      by (no l) = shown_past (n - v) v row (omega arith)

row_from_lem : (c : Card) (m v : ℕ) (row : List ℕ) → row_from c m v row ≡ shown_from c.gate (announcement_at c (holder_of c.gate.holder)) c.records m v row
unfolding row_from shown_from value_of
row_from_lem c zero v row = refl
row_from_lem c (suc m) v row = row_from_lem c m (suc v) (set row v (shown c.gate (announcement_at c (holder_of c.gate.holder)) (record_at c v)))

pub row_is :
    (c : Card) → length c.announcements ≡ 8 → (m : ℕ) → m ≡ holder_of c.gate.holder →
    (a : Announcement) → a ≡ cond (ltb m 8) (get_or c.announcements (m % 8) open_announcement) open_announcement → (r : List ℕ) →
    r ≡ shown_from c.gate a c.records c.variable_count 0 (replicate 64 0) → r ≡ row_of c
unfolding row_of
row_is c full m em a ea r er =
    let same : a ≡ announcement_at c (holder_of c.gate.holder) =
    found c.announcements 8 full m open_announcement open_announcement a ea ∙ ap (λ (k : ℕ). announcement_at c k) em in
    er ∙ ap (λ (y : Announcement). shown_from c.gate y c.records c.variable_count 0 (replicate 64 0)) same ∙ sym
    (row_from_lem c c.variable_count 0 (replicate 64 0))
