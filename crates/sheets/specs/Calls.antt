-- A message read into its sheet: its own refusal, 17, or the sheet (N17, K4, D2e). Assumes nothing.
use Rattle.std.specs.Prelude.{ℕ, List, [], ◌∷◌, ◌++◌}
use Rattle.types.specs.declared.Form.{Form}
use Rattle.base.specs.Calls.{short, Gives}
use Rattle.base.specs.Verdicts.{Verdict, Outcome}
use Rattle.message.specs.Message.{message_rules}
use Rattle.sheets.specs.Gather.{sheet_of}

abbrev pub read_rules : Form → List ℕ → List ℕ → List Verdict
read_rules form m out = message_rules form m ++ short (sheet_of form m) out ∷ []

unfoldable pub SheetTo : Form → List ℕ → List ℕ → Outcome → List ℕ → Type 0
SheetTo form m out r after = Gives (read_rules form m out) (sheet_of form m) out r after
