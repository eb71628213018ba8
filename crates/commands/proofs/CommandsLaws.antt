-- Where the command at a place ends, and the commands of a text one after the other.
use mathlib.Core.Bool.{Bool, true, cond}
use mathlib.Core.Path.{◌≡◌, refl, sym, ◌∙◌}
use mathlib.Core.List.{List, [], ◌∷◌}
use Prim.Native.Nat.{ℕ, zero, suc, ◌+◌, ◌-◌, ◌<◌, ◌≤◌}
use lib.Dec.{ltb, eqb}
use lib.ListN.{length, drop, get_or, length-drop, drop_of_length-le}
use lib.Seq.{drop-cons}
use native.Mathlib.Omega.{arith}
use borrow.Author.Tests.{ltb-true}
use Rattle.std.specs.Prelude.{Option, Some, None, unwrap_or}
use Rattle.std.specs.Option.{option_map}
use Rattle.grammar.specs.declared.Found.{Found}
use Rattle.grammar.specs.Reading.{with_found, field, has_word}
use Rattle.grammar.proofs.Cases.{on_test}
use Rattle.grammar.proofs.Bytes.{word_within}
use Rattle.grammar.proofs.Fields.{field_within}
use Rattle.grammar.proofs.Items.{items_end, items_more, items_induction}
use Rattle.commands.specs.declared.{Verb.Verb, Parsed.Parsed}
use Rattle.commands.specs.Commands.{call_word, wish_word, step_word, look_word, trace_word, change_word, line_end, lines_end, malformed, limited, word}
use Rattle.commands.specs.Commands.{one_line, with_number, numbered, call_at, change_at, Inside, verb_at, parsed_at, fields_at, command, commands}

-- what holds of a thing that is there
abbrev pub OnSome : {A : Type 0} → (A → Type 0) → Option A → Type 0
OnSome P None = Unit
OnSome P (Some x) = P x

pub on_unwrap : {A : Type 0} (P : A → Type 0) (o : Option A) (x : A) → OnSome P o → P x → P (unwrap_or o x)
on_unwrap P None x p q = q
on_unwrap P (Some y) x p q = p

-- ---- a command ends past its place
end_past : (xs : List ℕ) (at : ℕ) → at ≤ line_end at xs
unfolding line_end
end_past [] at = omega arith
end_past (x ∷ xs) at =
    let h = end_past xs (suc at) in
    on_test (λ (n : ℕ). at ≤ n) (eqb x 10) (λ e. omega arith) (λ e. omega arith)

pub line_past : (t : List ℕ) (at : ℕ) → at < length t → at < (malformed t at).next
unfolding line_end
line_past t at h =
    rw (drop-cons t at 0 h)
    (on_test (λ (n : ℕ). at < n) (eqb (get_or t at 0) 10) (λ e. omega arith) (λ e. let m = end_past (drop (suc at) t) (suc at) in omega arith))

lines_past : (k at : ℕ) (t : List ℕ) → at ≤ lines_end k at t
unfolding lines_end
lines_past zero at t = omega arith
lines_past (suc k) at t =
    let h = end_past (drop at t) at in
    let l = lines_past k (line_end at (drop at t)) t in
    omega arith

-- the lines of a text, counted down
pub lines_none : (k at : ℕ) (t : List ℕ) → length t ≤ at → lines_end k at t ≡ at
unfolding line_end lines_end
lines_none zero at t h = refl
lines_none (suc k) at t h = rw (drop_of_length-le t h) (lines_none k at t h)

pub lines_step : (k n at : ℕ) (t : List ℕ) → k < n → lines_end (n - k) at t ≡ lines_end (n - (k + 1)) (line_end at (drop at t)) t
unfolding lines_end
lines_step k n at t h = let e : n - k ≡ suc (n - (k + 1)) = omega arith in rw e

pub lines_last : (k n at : ℕ) (t : List ℕ) → n ≤ k → lines_end (n - k) at t ≡ at
unfolding lines_end
lines_last k n at t h = let e : n - k ≡ 0 = omega arith in rw e

-- a word that stands in a text ends at a place that the code can name, as the text and its place do
pub word_fits :
    (t : List ℕ) (at : ℕ) (w : List ℕ) {b : Bool} → b ≡ has_word t at w → b ≡ true → {n : ℕ} → at ≤ n → length t ≤ n → at + length w ≤ n
word_fits t at [] e h l m = omega arith
word_fits t at (x ∷ xs) e h l m = omega (arith, word_within t (x ∷ xs) at (omega arith) (sym e ∙ h))

-- a field of 32 bits, by cases
pub on_word :
    {A : Type 0} (P : Option A → Type 0) (t : List ℕ) → P None → (s at : ℕ) {go : Found ℕ → Option A} →
    ((x : Found ℕ) → at < x.next → x.next ≤ length t → x.value < 4294967296 → P (go x)) → P (with_found (word t s at) go)
unfolding word
on_word P t p s at {go} f = by (field t s at) refl
  where
    by : (n : Option (Found ℕ)) → field t s at ≡ n → P (with_found (with_found n limited) go)
    by (Some x) e =
        on_test (λ w. P (with_found w go)) (ltb x.value 4294967296)
        (λ h. let l = field_within t s at x.value x.next e in f x l.0 l.1 (ltb-true x.value 4294967296 h)) (λ _. p)
    by None e = p

-- a field of 32 bits ends past its place
pub word_past : (t : List ℕ) (s at : ℕ) → OnSome (λ x. at < x.next) (word t s at)
unfolding word
word_past t s at = by (field t s at) refl
  where
    by : (n : Option (Found ℕ)) → field t s at ≡ n → OnSome (λ x. at < x.next) (with_found n limited)
    by (Some x) e =
        on_test (OnSome (λ x. at < x.next)) (ltb x.value 4294967296) (λ _. (field_within t s at x.value x.next e).0) (λ _. tt)
    by None e = tt

-- the fields of a command end past the place of its line
pub fields_past : (t : List ℕ) (v : Verb) (line at : ℕ) → line < length t → line ≤ at → line < (fields_at t v line at).next
unfolding fields_at parsed_at call_at change_at
fields_past t v line at h p = on_unwrap (λ m. line < m.next) (parsed_at t v at) _ (go v) (line_past t line h)
  where
    P : Option Parsed → Type 0
    P o = OnSome (λ m. line < m.next) o

    one : (v : Verb) → P (numbered t v at)
    one v = by (word t 10 at) (word_past t 10 at)
      where
        by : (w : Option (Found ℕ)) → OnSome (λ x. at < x.next) w → P (option_map (λ x. one_line (with_number v x.value) x.next) w)
        by None l = tt
        by (Some x) l = omega arith

    go : (v : Verb) → P (parsed_at t v at)
    go Verb.Call =
        on_word P t tt 44 at
        (λ i a _ _. on_word P t tt 44 i.next
        (λ j b _ _. on_word P t tt 44 j.next
        (λ k c _ _. on_word P t tt 44 k.next
        (λ n d _ _. on_word P t tt 44 n.next
        (λ o e _ _. on_word P t tt 10 o.next (λ q f _ _. omega arith))))))
    go Verb.Exit = one Verb.Exit
    go Verb.Step = one Verb.Step
    go Verb.Trace = one Verb.Trace
    go Verb.Read = one Verb.Read
    go Verb.Change =
        on_word P t tt 44 at
        (λ i a _ _. on_word P t tt 44 i.next
        (λ j b _ _. on_word P t tt 10 j.next
        (λ k d _ _. omega (arith, lines_past k.value k.next t))))
    go Verb.Unknown = tt

-- a verb ends at its place or past it
pub verb_past : (t : List ℕ) (at : ℕ) → at ≤ (verb_at t at).next
unfolding verb_at
verb_past t at =
    or call_word _ _ (omega arith)
    (or wish_word _ _ (omega arith)
    (or step_word _ _ (omega arith)
    (or look_word _ _ (omega arith)
    (or trace_word _ _ (omega arith) (or change_word _ _ (omega arith) (omega arith))))))
  where
    or : (w : List ℕ) (x y : Found Verb) → at ≤ x.next → at ≤ y.next → at ≤ (cond (has_word t at w) x y).next
    or w x y p q = on_test (λ (z : Found Verb). at ≤ z.next) (has_word t at w) (λ _. p) (λ _. q)

pub command_past : (t : List ℕ) (at : ℕ) → at < length t → at < (command t at).next
unfolding command
command_past t at h = fields_past t (verb_at t at).value at (verb_at t at).next h (verb_past t at)

-- ---- the text of a change lies in the calls text
end_within : (xs : List ℕ) (at : ℕ) → line_end at xs ≤ at + length xs
unfolding line_end
end_within [] at = omega arith
end_within (x ∷ xs) at =
    let h = end_within xs (suc at) in
    on_test (λ (n : ℕ). n ≤ at + suc (length xs)) (eqb x 10) (λ e. omega arith) (λ e. omega arith)

lines_within : (k at : ℕ) (t : List ℕ) → at ≤ length t → lines_end k at t ≤ length t
unfolding lines_end
lines_within zero at t h = h
lines_within (suc k) at t h = lines_within k (line_end at (drop at t)) t (omega (arith, end_within (drop at t) at, length-drop at t))

pub fields_inside : (t : List ℕ) (v : Verb) (line at : ℕ) → Inside t (fields_at t v line at).command
unfolding fields_at parsed_at call_at change_at
fields_inside t v line at = on_unwrap (λ m. Inside t m.command) (parsed_at t v at) (malformed t line) (go v) tt
  where
    P : Option Parsed → Type 0
    P o = OnSome (λ m. Inside t m.command) o

    one : (v : Verb) → ((x : ℕ) → Inside t (with_number v x)) → P (numbered t v at)
    one v p = by (word t 10 at)
      where
        by : (w : Option (Found ℕ)) → P (option_map (λ x. one_line (with_number v x.value) x.next) w)
        by None = tt
        by (Some x) = p x.value

    go : (v : Verb) → P (parsed_at t v at)
    go Verb.Call =
        on_word P t tt 44 at
        (λ i _ _ _. on_word P t tt 44 i.next
        (λ j _ _ _. on_word P t tt 44 j.next
        (λ k _ _ _. on_word P t tt 44 k.next
        (λ n _ _ _. on_word P t tt 44 n.next
        (λ o _ _ _. on_word P t tt 10 o.next (λ _ _ _ _. tt))))))
    go Verb.Exit = one Verb.Exit (λ _. tt)
    go Verb.Step = one Verb.Step (λ _. tt)
    go Verb.Trace = one Verb.Trace (λ _. tt)
    go Verb.Read = one Verb.Read (λ _. tt)
    go Verb.Change =
        on_word P t tt 44 at
        (λ i _ _ _. on_word P t tt 44 i.next
        (λ j _ _ _. on_word P t tt 10 j.next
        (λ k _ l _. (lines_past k.value k.next t, lines_within k.value k.next t l))))
    go Verb.Unknown = tt

pub command_inside : (t : List ℕ) (at : ℕ) → Inside t (command t at).command
unfolding command
command_inside t at = fields_inside t (verb_at t at).value at (verb_at t at).next

-- ---- the commands of a text
module _ (t : List ℕ) where
  pub commands_end : (at : ℕ) → length t ≤ at → commands t at ≡ []
  unfolding commands
  commands_end at h = items_end command (λ (m : Parsed). m.next) t (command_past t) at h

  pub commands_more : (at : ℕ) → at < length t → commands t at ≡ command t at ∷ commands t (command t at).next
  unfolding commands
  commands_more at h = items_more command (λ (m : Parsed). m.next) t (command_past t) at h

  pub commands_induction : (P : List Parsed → Type 0) → P [] → ((at : ℕ) (ms : List Parsed) → P ms → P (command t at ∷ ms)) → (at : ℕ) → P (commands t at)
  unfolding commands
  commands_induction P none more at = items_induction command (λ (m : Parsed). m.next) t P none more at
