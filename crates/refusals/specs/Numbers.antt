-- The numbers of the checks, as documents 01 and 02 give them.
use Rattle.std.specs.Prelude.{ℕ, Result, Ok, Err}
use Rattle.refusals.specs.declared.refusal.Refusal.{Refusal}
use Rattle.refusals.specs.declared.refusal.Refusal.TheVariants as check

abbrev pub number : Refusal → ℕ
number check.UnknownKind = 1
number check.ValueTooLarge = 2
number check.StillSending = 3
number check.Locked = 4
number check.CannotReceive = 5
number check.NothingSent = 6
number check.ListLength = 7
number check.AnswerSpace = 8
number check.ImageSpace = 9
number check.NoImage = 10
number check.BrokenBody = 11
number check.NoMouse = 12
number check.TableLength = 13
number check.TableKeys = 14
number check.TableFixed = 15
number check.OtherSettings = 16

-- 0 where no check refuses.
abbrev pub outcome : {T : Type 0} → Result T Refusal → ℕ
outcome (Ok _) = 0
outcome (Err r) = number r
