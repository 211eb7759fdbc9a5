-- 14: with the sign, the first text that breaks one of three clauses (T1, N14, N14a-N14c). Assumes nothing.
use Rattle.std.specs.Prelude.{ℕ, Bool, true, ◌&&◌, ◌||◌, List, [], ◌∷◌, ◌++◌}
use Rattle.base.specs.Choice.{pick}
use Rattle.base.specs.Bytes.{byte, is_in, begins, empty}
use Rattle.base.specs.Calls.{Answer, said, stuck, text_of}
use Rattle.base.specs.Verdicts.{Verdict, Fine, Broken}
use Rattle.alphabets.specs.Bank.{reading}
use Rattle.fields.specs.Field.{Field, field}
use Rattle.fields.specs.Places.{start_of, next_of}
use Rattle.types.specs.declared.Form.{Form}
use Rattle.types.specs.Sign.{sign_of}
use Rattle.contents.specs.Tests.{word_and_digit, looks_tax}
use Rattle.roles.specs.Role.{shape_of}
use Rattle.roles.specs.Speech.{Manner, as_name, as_tax_name, as_details, Speech, speech, speeches}
use Rattle.base.specs.Quoted.{ascii, bytes}

-- ---- the clauses: b a text, d its reading
-- N14a: no reading, or an empty one
abbrev pub mute : Answer → Bool
mute (said d) = empty d
mute (stuck k) = true

-- N14b: the text begins with an apostrophe, and its reading with / : or -
unfoldable pub hidden : List ℕ → List ℕ → Bool
hidden b d = begins (ascii "'") b && is_in (byte d 0) (bytes "/:-")

-- N14c: the reading begins with INN, or with the same in Cyrillic, and a digit
unfoldable pub is_cyrillic_inn : List ℕ → Bool
is_cyrillic_inn d = word_and_digit (200 ∷ 205 ∷ 205 ∷ []) d

unfoldable pub tax_like : List ℕ → Bool
tax_like d = looks_tax d || is_cyrillic_inn d

-- details meet the first clause, names the first two, a name in the tax place all three; q: the first clause is broken
abbrev pub clauses : Manner → Bool → List ℕ → List ℕ → Bool
clauses as_details q b d = q
clauses as_name q b d = q || hidden b d
clauses as_tax_name q b d = q || (hidden b d || tax_like d)

unfoldable pub breaks_14 : Manner → List ℕ → Bool
breaks_14 m b = clauses m (mute (reading true b)) b (text_of (reading true b))

-- ---- the first text that breaks a clause, by its first byte
unfoldable pub unheard : List Speech → Verdict
unheard [] = Fine
unheard (speech m o b ∷ xs) = pick (breaks_14 m b) (Broken 14 o) (unheard xs)

-- the texts of a field with its colon at o, and of a message's fields, the first colon at o
abbrev pub texts : Form → ℕ → Field → List Speech
texts form o (field t ls) = speeches true (shape_of form t) (start_of o (field t ls)) ls

unfoldable pub speeches_of : Form → ℕ → List Field → List Speech
speeches_of form o [] = []
speeches_of form o (f ∷ fs) = texts form o f ++ speeches_of form (next_of o f) fs

unfoldable pub rule_14 : Form → List Field → Verdict
rule_14 form fs = pick (sign_of fs) (unheard (speeches_of form 5 fs)) Fine
