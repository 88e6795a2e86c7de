-- "Answers and the printing program": what panelrun prints for a list of bytes.
use Rattle.std.specs.Prelude.{ℕ, ◌≡◌, Bool, cond, ◌&&◌, List, [], ◌∷◌, ◌++◌, length, drop, eqb, leb, Option, Some, None}
use Rattle.refusals.specs.declared.refusal.Refusal.{Refusal}
use Rattle.refusals.specs.Numbers.{number}
use Rattle.machine.specs.Settings.{Settings}
use Rattle.machine.specs.State.{fresh}
use Rattle.machine.specs.Run.{events, answers, length_refusal}
use Rattle.printing.specs.Lines.{lines}
use Rattle.printing.specs.declared.page.Printout.{Printout}

-- rf rd old st p2 pu to fl fh, and LF
unfoldable pub header : List ℕ
header =
    114 ∷ 102 ∷ 32 ∷ 114 ∷ 100 ∷ 32 ∷ 111 ∷ 108 ∷ 100 ∷ 32 ∷ 115 ∷ 116 ∷ 32 ∷ 112 ∷ 50 ∷ 32 ∷ 112 ∷ 117 ∷ 32 ∷ 116 ∷ 111 ∷ 32 ∷ 102 ∷ 108 ∷ 32 ∷ 102 ∷ 104 ∷ 10 ∷ []

-- refused 7, and LF
unfoldable pub refused_text : List ℕ
refused_text = 114 ∷ 101 ∷ 102 ∷ 117 ∷ 115 ∷ 101 ∷ 100 ∷ 32 ∷ 55 ∷ 10 ∷ []

-- Check 7 stands for a list of so many bytes. It is the first check, so the space of the answers does not matter.
unfoldable pub refused_length : ℕ → Bool
refused_length n = eqb (length_refusal n 0) 7

abbrev pub refused : List ℕ → Bool
refused list = refused_length (length list)

-- the answers to a list run from a start with these settings; a refused one has none
unfoldable pub answered : Settings → List ℕ → List ℕ
answered x list = cond (refused list) [] (answers (fresh x) (events list))

-- "Prints a header and one line an event; refusal 7 prints only `refused 7`."
unfoldable pub page : Settings → List ℕ → List ℕ
page x list = cond (refused list) refused_text (header ++ lines (length (events list)) (answered x list))

-- A buffer with some bytes written at its front; those past them stay.
abbrev pub over : List ℕ → List ℕ → List ℕ
over bytes space = bytes ++ drop (length bytes) space

-- A text in a buffer and its length, or, where it does not fit, the buffer as it was and 0.
pub record Written (bytes out : List ℕ) (r : ℕ) (out' : List ℕ) : Type 0 where
  pub count : r ≡ cond (leb (length bytes) (length out)) (length bytes) 0
  pub text : out' ≡ cond (leb (length bytes) (length out)) (over bytes out) out

-- each buffer is large enough for its bytes
unfoldable pub room : Settings → List ℕ → List ℕ → List ℕ → Bool
room x list space out = leb (length (answered x list)) (length space) && leb (length (page x list)) (length out)

-- Check 7 of the list, whose page is its refusal, and then check 8 of the two buffers.
abbrev pub print_refusal : Settings → List ℕ → List ℕ → List ℕ → ℕ
print_refusal x list space out = cond (refused list) 7 (cond (room x list space out) 0 8)

-- The page of a list in one buffer, its answers in the other, and the page's length.
pub record Paged (x : Settings) (list space out : List ℕ) (r : ℕ) (space' out' : List ℕ) : Type 0 where
  pub count : r ≡ length (page x list)
  pub answers : space' ≡ over (answered x list) space
  pub text : out' ≡ over (page x list) out

-- the number of the check that refuses, and 0 where none does
abbrev pub told : Option Refusal → ℕ
told None = 0
told (Some r) = number r

-- The same; or, where there is no room, the buffers as they were, and 0, which is the length of no page.
pub record Printed (x : Settings) (list space out : List ℕ) (r : Printout) (space' out' : List ℕ) : Type 0 where
  pub refusal : told r.refusal ≡ print_refusal x list space out
  pub count : r.written ≡ cond (room x list space out) (length (page x list)) 0
  pub answers : space' ≡ cond (room x list space out) (over (answered x list) space) space
  pub text : out' ≡ cond (room x list space out) (over (page x list) out) out
