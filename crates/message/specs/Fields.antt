-- The answer of a call that hands a message on: its fields, or the refusal that was found first. Assumes nothing.
use Rattle.std.specs.Prelude.{◌≡◌, List, ℕ, Result, Ok, Err}
use Rattle.std.specs.Borrow.{Bor}
use Rattle.types.specs.declared.Form.{Form}
use Rattle.base.specs.declared.Refusal.{Refusal}
use Rattle.base.specs.Verdicts.{Verdict, Fine}
use Rattle.message.specs.declared.parts.Fields.{Fields}

abbrev pub HandsOn : Form → Bor (List ℕ) → Verdict → Result Fields Refusal → Type 0
HandsOn form m v (Ok f) = (v ≡ Fine) × (f.form ≡ form) × (f.message ≡ m)
HandsOn form m v (Err r) = v ≡ Err r
