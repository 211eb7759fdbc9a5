-- The whole output of a program for its whole input (R1-R3, O1, O2). Assumes nothing.
use Rattle.std.specs.Prelude.{ℕ, ◌+◌, Bool, ◌&&◌, List, [], ◌∷◌, ◌++◌, eqb, drop}
use Rattle.base.specs.Choice.{pick}
use Rattle.base.specs.Bytes.{byte, digit}
use Rattle.base.specs.Rules.{first}
use Rattle.base.specs.Verdicts.{Verdict, Fine, Broken, Outcome, Refused}
use Rattle.fields.specs.Frame.{limit}
use Rattle.types.specs.declared.Form.{Form}
use Rattle.types.specs.Form.{form_of}
use Rattle.message.specs.Message.{message_rules}
use Rattle.records.specs.Rule19.{type_number}
use Rattle.writer.specs.Sheet.{sheet_rules, message_for, own_rule}
use Rattle.sheets.specs.Gather.{sheet_of}
use Rattle.answers.specs.Line.{shown, Shows}
use Rattle.base.specs.Quoted.{ascii}

-- the order of writing without 17: a program has room enough
abbrev pub message_verdict : List ℕ → Verdict
message_verdict s = first (sheet_rules s ++ own_rule s ∷ [])

-- `tomessage`: the message for the sheet, or its refusal
unfoldable pub message_answer : List ℕ → List ℕ
message_answer s = shown (message_verdict s) (message_for s)

unfoldable pub MessageAnswered : List ℕ → List ℕ → Outcome → List ℕ → Type 0
MessageAnswered s out r after = Shows (message_answer s) out r after

-- `tosheet`: three digits and LF, then a message of that type
unfoldable pub names_type : List ℕ → Bool
names_type i = digit (byte i 0) && (digit (byte i 1) && (digit (byte i 2) && eqb (byte i 3) (ascii "\n")))

abbrev pub message_in : List ℕ → List ℕ
message_in i = drop 4 i

-- 18 where no type is named; the rules of the message else, places counted from its first byte
abbrev pub type_rule : List ℕ → Verdict
type_rule i = pick (names_type i) Fine (Broken 18 0)

abbrev pub form_for : List ℕ → Form
form_for i = form_of (type_number i)

abbrev pub sheet_verdict : List ℕ → Verdict
sheet_verdict i = first (type_rule i ∷ message_rules (form_for i) (message_in i))

-- the sheet of the message, or its refusal
abbrev pub sheet_in : List ℕ → List ℕ
sheet_in i = sheet_of (form_for i) (message_in i)

unfoldable pub sheet_answer : List ℕ → List ℕ
sheet_answer i = shown (sheet_verdict i) (sheet_in i)

-- what the call on the message answers, r, or 18 where no type is named
abbrev pub named_outcome : List ℕ → Outcome → Outcome
named_outcome i r = pick (names_type i) r (Refused 18 0)

unfoldable pub SheetAnswered : List ℕ → List ℕ → Outcome → List ℕ → Type 0
SheetAnswered i out r after = Shows (sheet_answer i) out r after

-- as many bytes of its input as a program reads: one more than a sheet, or the type and a message, can have
abbrev pub sheet_read : ℕ
sheet_read = limit + 1

abbrev pub input_read : ℕ
input_read = limit + 5
