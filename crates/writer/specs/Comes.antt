-- Only the code's way needs this. What a step of putting a sheet's message comes to, where details are cut, and what is built, in words. Assumes
-- nothing.
use Rattle.std.specs.Prelude.{ℕ, Bool, Option, Some, Result, Ok, Err}
use Rattle.base.specs.declared.Refusal.{Refusal}
use Rattle.types.specs.declared.Form.{Form}
use Rattle.writer.specs.declared.Halt.{Halt}
use Rattle.writer.specs.declared.Halt.TheVariants as halt
use Rattle.writer.specs.declared.Cutting.{Cutting}
use Rattle.writer.specs.declared.NewMessage.{NewMessage}

-- a step: the place behind, a byte of the sheet that can't be written, or details that don't fit
abbrev pub Step : Type 0
Step = Result ℕ Halt

pattern abbrev pub Put : ℕ → Step
Put n = Ok n

pattern abbrev pub Stuck : ℕ → Step
Stuck k = Err (halt.Stuck k)

pattern abbrev pub Unfit : Step
Unfit = Err halt.Unfit

-- where the text of 70 is cut, and whether a new 72 is to come
abbrev pub At : ℕ → ℕ → ℕ → Bool → Option Cutting
At start place end new = Some (record { start = start; cut = place; end = end; new = new })

-- a message that is built
abbrev pub Whole : Form → Bool → Option Cutting → ℕ → Result NewMessage Refusal
Whole form sign cutting size = Ok (record { form = form; sign = sign; cutting = cutting; size = size })
