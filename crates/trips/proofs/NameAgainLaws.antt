-- Rule 8 lets pass names that are written again: those of 50K, 59, 58D, 56D and 57D (C50K, C59, C58D, C56D, C57D). Assumes nothing.
use Prim.Native.Nat.{ℕ, ◌≤◌}
use mathlib.Core.Path.{◌≡◌, refl, sym, ap, ◌∙◌, subst}
use mathlib.Core.Bool.{Bool, true, false, true≢false}
use mathlib.Core.Logic.{inl, inr}
use mathlib.Core.List.{List, [], ◌∷◌, map}
use native.Mathlib.Omega.{arith}
use lib.ListN.{length, length-map}
use Rattle.types.specs.declared.Form.{Form}
use Rattle.base.specs.Choice.{pick}
use Rattle.base.specs.Bytes.{begins, empty}
use Rattle.base.proofs.SaysLaws.{is_so}
use Rattle.base.specs.Examples.{AllHold}
use Rattle.fields.specs.Field.{field}
use Rattle.contents.specs.declared.Content.{Content}
use Rattle.contents.specs.declared.Content.TheVariants as holds
use Rattle.contents.specs.Lines.{Name}
use Rattle.contents.specs.Fields.{IsAccount, Names, BankByName, Beside, Customer, Payer, Right}
use Rattle.contents.specs.Tags.{held_by}
use Rattle.contents.specs.Rule8.{right_field}
use Rattle.contents.proofs.RuleLaws.{field_says}
use Rattle.contents.proofs.LineTests.{begins_says, looks_says}
use Rattle.contents.proofs.FieldLaws.{tax_looks}
use Rattle.contents.specs.Tests.{looks_tax}
use Rattle.roles.specs.Role.{copy, name, tax_name, taxed, cast, shape_for, shape_of}
use Rattle.roles.specs.declared.Shape.TheVariants as shape
use Rattle.trips.specs.Again.{again, line_again, field_again}
use Rattle.trips.specs.Shown.{LineByLine}
use Rattle.trips.proofs.Held.{Held, Kept, KeptPart}
use Rattle.trips.proofs.NameLaws.{held_kept, held_lines}

account_slash : (l : List ℕ) → IsAccount l → begins 47 l ≡ true
account_slash l a = is_so (begins_says l) (a.0, a.1.line)

module _ (s : Bool) where
  -- ---- names
  name_pass : (l : List ℕ) → Kept s l → Name l → Name (again s l)
  name_pass l k n = record { least = go (again s l) k.some; most = omega (arith, k.slim, n.most) }
    where
      go : (l : List ℕ) → empty l ≡ false → 1 ≤ length l
      go [] e = absurd (true≢false e)
      go (x ∷ l) e = omega arith

  each_pass : (ls : List (List ℕ)) → AllHold (KeptPart s) (map name ls) → AllHold Name ls → AllHold Name (map (line_again s) (map name ls))
  each_pass [] k e = tt
  each_pass (l ∷ ls) k e = (name_pass l k.0 e.0, each_pass ls k.1 e.1)

  names_pass : {n : ℕ} (ls : List (List ℕ)) → AllHold (KeptPart s) (map name ls) → Names n ls → Names n (map (line_again s) (map name ls))
  names_pass ls k p =
      let z = length-map (map name ls) (line_again s) ∙ length-map ls name in
      let a = p.least in
      let b = p.most in
      record { least = omega arith; most = omega arith; each = each_pass ls k p.each }

  -- ---- the tax place: a tax line is copied, and a name there does not become one
  tax_pass : (twelve : Bool) (ls : List (List ℕ)) → AllHold (KeptPart s) (taxed ls) → Beside twelve ls → Beside twelve (map (line_again s) (taxed ls))
  tax_pass twelve [] k r = r
  tax_pass twelve (l ∷ ls) k r = go (looks_tax l) refl k.0 r
    where
      go : (b : Bool) → looks_tax l ≡ b → KeptPart s (pick b (copy l) (tax_name l)) → Beside twelve (l ∷ ls) → Beside twelve (map (line_again s) (pick b (copy l) (tax_name l) ∷ map name ls))
      go true e a (inl t) = inl (t.0, names_pass ls k.1 t.1)
      go true e a (inr n) = absurd (n.0 ((looks_says l).so e, tt))
      go false e a (inl t) = absurd ((looks_says l).not_so e (tax_looks twelve l t.0))
      go false e a (inr n) = inr (λ t. (looks_says (again s l)).not_so a.untaxed_again t.0, names_pass (l ∷ ls) (a.as_name_lem, k.1) n.1)

  -- ---- by shape: the first line is an account or a party line, which stays, or in 50K the tax place
  customer_pass : (twelve : Bool) (ls : List (List ℕ)) → AllHold (KeptPart s) (cast shape.Payee ls) → Customer twelve ls → Customer twelve (map (line_again s) (cast shape.Payee ls))
  unfolding cast
  customer_pass twelve [] k r = r
  customer_pass twelve (l ∷ ls) k r = rw (account_slash l r.0) (r.0, tax_pass twelve ls k.1 r.1)

  slash_pass : (b : Bool) (l : List ℕ) → KeptPart s (pick b (copy l) (tax_name l)) → begins 47 (line_again s (pick b (copy l) (tax_name l))) ≡ begins 47 l
  slash_pass true l a = refl
  slash_pass false l a = a.as_name_lem.slash

  payer_pass : (ls : List (List ℕ)) → AllHold (KeptPart s) (cast shape.Payer ls) → Payer ls → Payer (map (line_again s) (cast shape.Payer ls))
  unfolding cast
  payer_pass [] k r = r
  payer_pass (l ∷ ls) k r = go (begins 47 l) refl k r
    where
      go : (b : Bool) → begins 47 l ≡ b → AllHold (KeptPart s) (pick b (copy l ∷ taxed ls) (taxed (l ∷ ls))) → Payer (l ∷ ls)
          → Payer (map (line_again s) (pick b (copy l ∷ taxed ls) (taxed (l ∷ ls))))
      go true e k (inl c) = inl (c.0, tax_pass true ls k.1 c.1)
      go true e k (inr p) = absurd (p.0 ((begins_says l).so e, tt))
      go false e k (inl c) = absurd (true≢false (sym (account_slash l c.0) ∙ e))
      go false e k (inr p) = inr (λ x. (begins_says (line_again s (pick (looks_tax l) (copy l) (tax_name l)))).not_so (slash_pass (looks_tax l) l k.0 ∙ e) x.0, tax_pass true (l ∷ ls) k p.1)

  agent_pass : (ls : List (List ℕ)) → AllHold (KeptPart s) (cast shape.Agent ls) → BankByName ls → BankByName (map (line_again s) (cast shape.Agent ls))
  unfolding cast
  agent_pass [] k r = r
  agent_pass (l ∷ ls) k r = (r.0, names_pass ls k.1 r.1)

  -- copied lines stay
  copies_same : (ls : List (List ℕ)) → map (line_again s) (map copy ls) ≡ ls
  copies_same [] = refl
  copies_same (l ∷ ls) = ap (λ (k : List (List ℕ)). l ∷ k) (copies_same ls)

  plain_pass : (c : Content) (ls : List (List ℕ)) → Right c s ls → Right c s (map (line_again s) (cast shape.Plain ls))
  unfolding cast
  plain_pass c ls r = rw (copies_same ls) r

  pub lines_pass : (c : Content) (ls : List (List ℕ)) → LineByLine (shape_for c) → AllHold (KeptPart s) (cast (shape_for c) ls) → Right c s ls
      → Right c s (map (line_again s) (cast (shape_for c) ls))
  lines_pass holds.Details ls v k r = elim v [ ]
  lines_pass holds.DocumentAndRest ls v k r = elim v [ ]
  lines_pass holds.DocumentAndDetails ls v k r = elim v [ ]
  lines_pass holds.Payer ls v k r = payer_pass ls k r
  lines_pass holds.BankByName ls v k r = agent_pass ls k r
  lines_pass holds.BeneficiaryBank ls v k r = customer_pass false ls k r
  lines_pass holds.Beneficiary ls v k r = customer_pass true ls k r
  lines_pass holds.Unknown ls v k r = plain_pass holds.Unknown ls r
  lines_pass holds.Reference ls v k r = plain_pass holds.Reference ls r
  lines_pass holds.Related ls v k r = plain_pass holds.Related ls r
  lines_pass holds.Operation ls v k r = plain_pass holds.Operation ls r
  lines_pass holds.Purpose ls v k r = plain_pass holds.Purpose ls r
  lines_pass holds.Payment ls v k r = plain_pass holds.Payment ls r
  lines_pass holds.BankByBic ls v k r = plain_pass holds.BankByBic ls r
  lines_pass holds.OwnAccount ls v k r = plain_pass holds.OwnAccount ls r
  lines_pass holds.AccountAndBic ls v k r = plain_pass holds.AccountAndBic ls r
  lines_pass holds.Charges ls v k r = plain_pass holds.Charges ls r
  lines_pass holds.Regulatory ls v k r = plain_pass holds.Regulatory ls r

-- ---- 8, of a field written again
pub names_again : (form : Form) (s : Bool) (t : List ℕ) (ls : List (List ℕ)) → LineByLine (shape_of form t) → Held form s t ls → right_field form s (field_again form s (field t ls)) ≡ true
unfolding shape_of
names_again form s t ls v h =
    let c : Content = held_by form t in
    (field_says form s (field_again form s (field t ls))).1
    (subst (Right c s) (sym (held_lines form s t ls v h)) (lines_pass s c ls v (held_kept form s t ls v h) ((field_says form s (field t ls)).0 h.right)))
