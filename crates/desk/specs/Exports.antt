-- What each export comes to, over the answer of the call under it (K1, K2, K4). Assumes nothing.
use Rattle.std.specs.Prelude.{ℕ, ◌≡◌, List}
use Rattle.types.specs.declared.Form.{Form}
use Rattle.alphabets.specs.Text.{ReadTo, WrittenTo}
use Rattle.message.specs.Calls.{Checks}
use Rattle.writer.specs.Sheet.{MessageTo}
use Rattle.sheets.specs.Calls.{SheetTo}
use Rattle.desk.specs.Answer.{word, checked_word, is_on}

-- the number returned is the word of the call's answer, and the lent room is as the call leaves it
pub record WordOf {A : Type 0} (word_for : A → ℕ) (Call : A → List ℕ → Type 0) (r : ℕ) (after : List ℕ) : Type 0 where
  pub answer : A
  pub call : Call answer after
  pub value : r ≡ word_for answer

abbrev pub ReadWord : ℕ → List ℕ → List ℕ → ℕ → List ℕ → Type 0
ReadWord sign bank out = WordOf word (ReadTo (is_on sign) bank out)

abbrev pub WrittenWord : ℕ → List ℕ → List ℕ → ℕ → List ℕ → Type 0
WrittenWord sign text out = WordOf word (WrittenTo (is_on sign) text out)

abbrev pub CheckWord : Form → List ℕ → List ℕ → ℕ → List ℕ → Type 0
CheckWord form message list = WordOf checked_word (Checks form message list)

abbrev pub MessageWord : List ℕ → List ℕ → ℕ → List ℕ → Type 0
MessageWord sheet out = WordOf word (MessageTo sheet out)

abbrev pub SheetWord : Form → List ℕ → List ℕ → ℕ → List ℕ → Type 0
SheetWord form message out = WordOf word (SheetTo form message out)
