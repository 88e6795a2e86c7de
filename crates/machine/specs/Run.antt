-- "Answers": a list of events, and the checks 7 and 8 of a call that runs one.
use Rattle.std.specs.Prelude.{ℕ, ◌*◌, ◌/◌, ◌%◌, cond, not, ◌||◌, List, [], ◌∷◌, ◌++◌, length, get_or, take, drop, eqb, ltb}
use Rattle.machine.specs.State.{Machine}
use Rattle.machine.specs.Events.{Event, event, step, answer}

-- the event that the first three bytes of a list make
abbrev pub first : List ℕ → Event
first list = event (get_or list 0 0) (get_or list 1 0) (get_or list 2 0)

-- the events of a list of bytes; one or two bytes at its end are not an event
unfoldable pub events : List ℕ → List Event
events [] = []
events (k ∷ []) = []
events (k ∷ l ∷ []) = []
events (k ∷ l ∷ h ∷ rest) = event k l h ∷ events rest

-- the machine after a list of events, and the answers on the way
unfoldable pub after : Machine → List Event → Machine
after m [] = m
after m (e ∷ es) = after (step m e) es

unfoldable pub answers : Machine → List Event → List ℕ
answers m [] = []
answers m (e ∷ es) = answer m e ++ answers (step m e) es

-- The answer buffer after a list: nine bytes an event, and the bytes past the last answer as they were.
unfoldable pub filled : Machine → List Event → List ℕ → List ℕ
filled m es space = answers m es ++ drop (9 * length es) space

-- as many events of a list as the answer buffer has room for
abbrev pub fitting : List ℕ → List ℕ → List Event
fitting list space = take (length space / 9) (events list)

-- Check 7: a length that is no multiple of 3, or above 21,000. Check 8: under 9 bytes of space an event.
unfoldable pub length_refusal : ℕ → ℕ → ℕ
length_refusal list space =
    cond (not (eqb (list % 3) 0) || ltb 21000 list) 7 (cond (ltb space (list / 3 * 9)) 8 0)

abbrev pub list_refusal : List ℕ → List ℕ → ℕ
list_refusal list space = length_refusal (length list) (length space)
