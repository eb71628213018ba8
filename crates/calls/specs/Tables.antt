-- The table of calls (document 02, order 12): five words for each process, one process after the other, its program and its four inputs.
use Rattle.std.specs.Prelude.{ℕ, ◌+◌, ◌*◌, Bool, List, [], ◌∷◌, ltb, length, get_or, set}
use Rattle.executions.specs.declared.Request.{Request}

-- whether all five words of process i stand there
abbrev pub has_request : List ℕ → ℕ → Bool
has_request calls i = ltb (i * 5 + 4) (length calls)

unfoldable pub request_in : List ℕ → ℕ → Request
request_in calls i =
    record {
      program = get_or calls (i * 5) 0;
      inputs =
          record {
            w0 = get_or calls (i * 5 + 1) 0;
            w1 = get_or calls (i * 5 + 2) 0;
            w2 = get_or calls (i * 5 + 3) 0;
            w3 = get_or calls (i * 5 + 4) 0;
          };
    }

-- a table with the call of process i; a word past its end is left out
unfoldable pub with_request : List ℕ → ℕ → Request → List ℕ
with_request calls i x =
    let f = x.inputs in
    set (set (set (set (set calls (i * 5) x.program) (i * 5 + 1) f.w0) (i * 5 + 2) f.w1) (i * 5 + 3) f.w2) (i * 5 + 4) f.w3

-- the calls of the first eight processes, as a listing takes them (order 13)
abbrev pub requests_in : List ℕ → List Request
requests_in calls =
    request_in calls 0 ∷ request_in calls 1 ∷ request_in calls 2 ∷ request_in calls 3 ∷ request_in calls 4 ∷ request_in calls 5 ∷ request_in calls 6 ∷ request_in calls 7 ∷ []
