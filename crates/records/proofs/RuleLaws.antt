-- 19 in sentences: the parts of a right record, shape by shape; where 19 is given, and what a sheet is that it does not refuse. Assumes nothing.
use Prim.Native.Nat.{ℕ, ◌+◌}
use mathlib.Core.Path.{◌≡◌, refl, sym, ap, ◌∙◌}
use mathlib.Core.Bool.{Bool, true, false, not, ◌&&◌, false≢true}
use mathlib.Core.List.{List, [], ◌∷◌, ◌++◌}
use mathlib.Core.Logic.{◌↔◌}
use native.Mathlib.Omega.{arith}
use lib.Dec.{eqb}
use lib.ListN.{length, length-append}
use borrow.Author.Tests.{eqb-true}
use Rattle.std.specs.Prelude.{Err}
use Rattle.base.specs.Choice.{pick, all}
use Rattle.base.specs.Bytes.{empty, same}
use Rattle.base.specs.Quoted.{bytes}
use Rattle.base.specs.Rules.{then}
use Rattle.base.specs.Verdicts.{Verdict, Fine, Broken}
use Rattle.base.proofs.Bools.{left, right, both, isnt}
use Rattle.base.proofs.ByteLaws.{same_is}
use Rattle.base.proofs.RuleLaws.{fine_broken, then_fine, then_clean}
use Rattle.fields.specs.Field.{field}
use Rattle.types.specs.declared.Form.{Form}
use Rattle.types.specs.Walk.{rule_18}
use Rattle.roles.specs.Rule14.{is_cyrillic_inn}
use Rattle.roles.specs.declared.Shape.{Shape}
use Rattle.roles.specs.declared.Shape.TheVariants.{Plain, Payer, Payee, Agent, Details, Note103, Note202}
use Rattle.types.specs.declared.Form.TheVariants.{Other}
use Rattle.types.specs.Form.{form_of}
use Rattle.records.specs.Record.{Record, line, records, rest}
use Rattle.records.specs.Places.{records_size, next_record}
use Rattle.records.specs.Rule19.{is_digits, general, tax_part, untaxed, sound, good, typed, type_number, form_in, bad_from, judge, sheet_sign, sheet_form, rule_19, verdict_19_and_18}
use Rattle.records.specs.Sentences.{RightParts, plain, agent, payer, payee, details, note_103, note_202, BadSheetAt, unbegun, untyped, wrong, unended, SoundSheet}

-- ---- the parts of a record by its shape
free : (s : Bool) (p : List ℕ) → untaxed s p ≡ true → s ≡ true → is_cyrillic_inn p ≡ false
unfolding untaxed
free s p e k = isnt (is_cyrillic_inn p) (sym (ap (λ (b : Bool). not (b && is_cyrillic_inn p)) k) ∙ e)

is_free : (s : Bool) (p : List ℕ) → (s ≡ true → is_cyrillic_inn p ≡ false) → untaxed s p ≡ true
unfolding untaxed
is_free true p h = ap not (h refl)
is_free false p h = refl

module _ (s : Bool) where
  pub sound_right : (sh : Shape) (ps : List (List ℕ)) → sound s sh ps ≡ true → RightParts s sh ps
  unfolding sound general
  sound_right Plain [] e = absurd (false≢true e)
  sound_right Plain (p ∷ ps) e = plain p ps (isnt (empty p) (left (not (empty p)) _ e)) (right (not (empty p)) _ e)
  sound_right Agent [] e = absurd (false≢true e)
  sound_right Agent (p ∷ ps) e = agent p ps (isnt (empty p) (left (not (empty p)) _ e)) (right (not (empty p)) _ e)
  sound_right Payer [] e = absurd (false≢true e)
  sound_right Payer (p ∷ ps) e =
      let g = left (general (p ∷ ps)) _ e in
      payer p ps (isnt (empty p) (left (not (empty p)) _ g)) (right (not (empty p)) _ g) (free s (tax_part Payer (p ∷ ps)) (right (general (p ∷ ps)) _ e))
  sound_right Payee [] e = absurd (false≢true e)
  sound_right Payee (p ∷ ps) e =
      let g = left (general (p ∷ ps)) _ e in
      payee p ps (isnt (empty p) (left (not (empty p)) _ g)) (right (not (empty p)) _ g) (free s (tax_part Payee (p ∷ ps)) (right (general (p ∷ ps)) _ e))
  sound_right Details [] e = absurd (false≢true e)
  sound_right Details (v ∷ []) e = absurd (false≢true (right (is_digits 5 v) false e))
  sound_right Details (v ∷ t ∷ []) e = details v t (left (is_digits 5 v) _ e) (isnt (empty t) (right (is_digits 5 v) _ e))
  sound_right Details (v ∷ t ∷ x ∷ ps) e = absurd (false≢true (right (is_digits 5 v) false e))
  sound_right Note103 [] e = absurd (false≢true e)
  sound_right Note103 (r ∷ []) e = note_103 r (isnt (empty r) e)
  sound_right Note103 (r ∷ x ∷ ps) e = absurd (false≢true e)
  sound_right Note202 [] e = absurd (false≢true e)
  sound_right Note202 (r ∷ []) e = absurd (false≢true e)
  sound_right Note202 (r ∷ v ∷ []) e = absurd (false≢true (right (is_digits 5 v) false e))
  sound_right Note202 (r ∷ v ∷ t ∷ []) e = note_202 r v t (left (is_digits 5 v) _ e) (isnt (empty t) (right (is_digits 5 v) _ e))
  sound_right Note202 (r ∷ v ∷ t ∷ x ∷ ps) e = absurd (false≢true (right (is_digits 5 v) false e))

  pub right_sound : (sh : Shape) (ps : List (List ℕ)) → RightParts s sh ps → sound s sh ps ≡ true
  unfolding sound general
  right_sound _ _ (plain p ps e g) = both (ap not e) g
  right_sound _ _ (agent p ps e g) = both (ap not e) g
  right_sound _ _ (payer p ps e g f) = both (both (ap not e) g) (is_free s (tax_part Payer (p ∷ ps)) f)
  right_sound _ _ (payee p ps e g f) = both (both (ap not e) g) (is_free s (tax_part Payee (p ∷ ps)) f)
  right_sound _ _ (details v t d e) = both d (ap not e)
  right_sound _ _ (note_103 r e) = ap not e
  right_sound _ _ (note_202 r v t d e) = both d (ap not e)

  pub right_iff : (sh : Shape) (ps : List (List ℕ)) → (sound s sh ps ≡ true) ↔ RightParts s sh ps
  right_iff sh ps = (sound_right sh ps, right_sound sh ps)

-- ---- the first record
pub record Named (r : Record) : Type 0 where
  pub type : List ℕ
  pub is : r ≡ field (bytes "MT") (type ∷ [])
  pub three : is_digits 3 type ≡ true
  pub worth : form_in r ≡ form_of (type_number type)

pub named : (r : Record) → typed r ≡ true → Named r
named (field t []) e = absurd (false≢true (right (same t (bytes "MT")) false e))
named (field t (p ∷ [])) e =
    record {
      type = p;
      is = ap (λ (x : List ℕ). field x (p ∷ [])) (same_is t (bytes "MT") (left (same t (bytes "MT")) _ e));
      three = right (same t (bytes "MT")) _ e;
      worth = ap (λ (b : Bool). pick b (form_of (type_number p)) Other) e;
    }
named (field t (p ∷ q ∷ ps)) e = absurd (false≢true (right (same t (bytes "MT")) false e))

-- it takes seven bytes with its LF
pub named_size : (r : Record) → typed r ≡ true → length (line r) ≡ 6
unfolding is_digits
named_size r e =
    let n = named r e in
    let k : length n.type ≡ 3 = eqb-true (length n.type) 3 (left (eqb (length n.type) 3) _ n.three) in
    ap (λ (x : Record). length (line x)) n.is ∙ omega (arith, length-append n.type [], k)

-- ---- 19 over the records behind the first
pub data Spot (form : Form) (g : Bool) (o : ℕ) (rs : List Record) (w : List ℕ) (p : ℕ) : Type 0 where
  hit : (before : List Record) (r : Record) (behind : List Record) → rs ≡ before ++ r ∷ behind → all (good form g) before ≡ true → good form g r ≡ false → p ≡ o + records_size before → Spot form g o rs w p
  over : all (good form g) rs ≡ true → empty w ≡ false → p ≡ o + records_size rs → Spot form g o rs w p

abbrev place_of : Verdict → ℕ
place_of Fine = 0
place_of (Err r) = r.place

abbrev number_of : Verdict → ℕ
number_of Fine = 0
number_of (Err r) = r.number

module _ (form : Form) (g : Bool) where
  pub from_fine : (o : ℕ) (rs : List Record) (w : List ℕ) → bad_from form g o rs w ≡ Fine → (all (good form g) rs ≡ true) × (w ≡ [])
  unfolding bad_from
  from_fine o [] [] e = (refl, refl)
  from_fine o [] (x ∷ w) e = absurd (fine_broken 19 o (sym e))
  from_fine o (r ∷ rs) w e = go (good form g r) refl e (from_fine (next_record o r) rs w)
    where
      go : (b : Bool) → good form g r ≡ b → pick b (bad_from form g (next_record o r) rs w) (Broken 19 o) ≡ Fine
          → (bad_from form g (next_record o r) rs w ≡ Fine → (all (good form g) rs ≡ true) × (w ≡ [])) → (all (good form g) (r ∷ rs) ≡ true) × (w ≡ [])
      go true k h f = (both k (f h).0, (f h).1)
      go false k h f = absurd (fine_broken 19 o (sym h))

  pub fine_from : (o : ℕ) (rs : List Record) → all (good form g) rs ≡ true → bad_from form g o rs [] ≡ Fine
  unfolding bad_from
  fine_from o [] e = refl
  fine_from o (r ∷ rs) e = rw (left (good form g r) _ e) (fine_from (next_record o r) rs (right (good form g r) _ e))

  pub from_bad : (o : ℕ) (rs : List Record) (w : List ℕ) (n p : ℕ) → bad_from form g o rs w ≡ Broken n p → (19 ≡ n) × Spot form g o rs w p
  unfolding bad_from
  from_bad o [] [] n p e = absurd (fine_broken n p e)
  from_bad o [] (x ∷ w) n p e = let z : o ≡ p = ap place_of e in (ap number_of e, over refl refl (omega arith))
  from_bad o (r ∷ rs) w n p e = go (good form g r) refl e (from_bad (next_record o r) rs w n p)
    where
      on : good form g r ≡ true → Spot form g (next_record o r) rs w p → Spot form g o (r ∷ rs) w p
      on k (hit b x h l a c q) = hit (r ∷ b) x h (ap (λ (y : List Record). r ∷ y) l) (both k a) c (omega arith)
      on k (over a c q) = over (both k a) c (omega arith)

      go : (b : Bool) → good form g r ≡ b → pick b (bad_from form g (next_record o r) rs w) (Broken 19 o) ≡ Broken n p
          → (bad_from form g (next_record o r) rs w ≡ Broken n p → (19 ≡ n) × Spot form g (next_record o r) rs w p) → (19 ≡ n) × Spot form g o (r ∷ rs) w p
      go true k h f = ((f h).0, on k (f h).1)
      go false k h f = let z : o ≡ p = ap place_of h in (ap number_of h, hit [] r rs refl refl k (omega arith))

  hits : (o : ℕ) (before : List Record) (r : Record) (behind : List Record) (w : List ℕ) → all (good form g) before ≡ true → good form g r ≡ false
      → bad_from form g o (before ++ r ∷ behind) w ≡ Broken 19 (o + records_size before)
  unfolding bad_from
  hits o [] r behind w a c = let z : o ≡ o + 0 = omega arith in rw c (ap (Broken 19) z)
  hits o (x ∷ before) r behind w a c =
      let z : next_record o x + records_size before ≡ o + records_size (x ∷ before) = omega arith in
      rw (left (good form g x) _ a) (hits (next_record o x) before r behind w (right (good form g x) _ a) c ∙ ap (Broken 19) z)

  overs : (o : ℕ) (rs : List Record) (w : List ℕ) → all (good form g) rs ≡ true → empty w ≡ false → bad_from form g o rs w ≡ Broken 19 (o + records_size rs)
  unfolding bad_from
  overs o [] w a c = let z : o ≡ o + 0 = omega arith in rw c (ap (Broken 19) z)
  overs o (x ∷ rs) w a c =
      let z : next_record o x + records_size rs ≡ o + records_size (x ∷ rs) = omega arith in
      rw (left (good form g x) _ a) (overs (next_record o x) rs w (right (good form g x) _ a) c ∙ ap (Broken 19) z)

  pub bad_from_lem : (o : ℕ) (rs : List Record) (w : List ℕ) (p : ℕ) → Spot form g o rs w p → bad_from form g o rs w ≡ Broken 19 p
  bad_from_lem o rs w p (hit b r h l a c q) = ap (λ (x : List Record). bad_from form g o x w) l ∙ hits o b r h w a c ∙ ap (Broken 19) (sym q)
  bad_from_lem o rs w p (over a c q) = overs o rs w a c ∙ ap (Broken 19) (sym q)

-- ---- 19 over a sheet: given exactly if a rule is broken, at the first bad record
pub rule_19_bad : (s : List ℕ) (n p : ℕ) → rule_19 s ≡ Broken n p → (19 ≡ n) × BadSheetAt s p
unfolding rule_19 judge
rule_19_bad s n p e = go (records s) refl e
  where
    onto_sheet : (m : Record) (rs : List Record) → records s ≡ m ∷ rs → typed m ≡ true → Spot (form_in m) (sheet_sign s) (next_record 0 m) rs (rest s) p → BadSheetAt s p
    onto_sheet m rs r t (hit b x h l a c q) = wrong m b x h (r ∙ ap (λ (y : List Record). m ∷ y) l) t a c (omega arith)
    onto_sheet m rs r t (over a c q) = unended m rs r t a c (omega arith)

    by_head : (m : Record) (rs : List Record) → records s ≡ m ∷ rs → (b : Bool) → typed m ≡ b
        → pick b (bad_from (form_in m) (sheet_sign s) (next_record 0 m) rs (rest s)) (Broken 19 0) ≡ Broken n p → (19 ≡ n) × BadSheetAt s p
    by_head m rs r true t h = let f = from_bad (form_in m) (sheet_sign s) (next_record 0 m) rs (rest s) n p h in (f.0, onto_sheet m rs r t f.1)
    by_head m rs r false t h = (ap number_of h, untyped m rs r t (sym (ap place_of h)))

    go : (rs : List Record) → records s ≡ rs → judge (sheet_sign s) rs (rest s) ≡ Broken n p → (19 ≡ n) × BadSheetAt s p
    go [] r h = (ap number_of h, unbegun r (sym (ap place_of h)))
    go (m ∷ rs) r h = by_head m rs r (typed m) refl h

module _ (s : List ℕ) where
  -- with a first record that names a type, 19 is what it is behind it
  behind_head : (m : Record) (rs : List Record) → records s ≡ m ∷ rs → typed m ≡ true → rule_19 s ≡ bad_from (form_in m) (sheet_sign s) (next_record 0 m) rs (rest s)
  unfolding rule_19 judge
  behind_head m rs r t =
      ap (λ (x : List Record). judge (sheet_sign s) x (rest s)) r ∙ ap (λ (b : Bool). pick b (bad_from (form_in m) (sheet_sign s) (next_record 0 m) rs (rest s)) (Broken 19 0)) t

  pub bad_rule_19 : (p : ℕ) → BadSheetAt s p → rule_19 s ≡ Broken 19 p
  unfolding rule_19 judge
  bad_rule_19 p (unbegun r q) = ap (λ (x : List Record). judge (sheet_sign s) x (rest s)) r ∙ ap (Broken 19) (sym q)
  bad_rule_19 p (untyped m rs r t q) =
      ap (λ (x : List Record). judge (sheet_sign s) x (rest s)) r
      ∙ ap (λ (b : Bool). pick b (bad_from (form_in m) (sheet_sign s) (next_record 0 m) rs (rest s)) (Broken 19 0)) t ∙ ap (Broken 19) (sym q)
  bad_rule_19 p (wrong m b x h r t a c q) = behind_head m (b ++ x ∷ h) r t ∙ bad_from_lem (form_in m) (sheet_sign s) (next_record 0 m) (b ++ x ∷ h) (rest s) p (hit b x h refl a c (omega arith))
  bad_rule_19 p (unended m rs r t a c q) = behind_head m rs r t ∙ bad_from_lem (form_in m) (sheet_sign s) (next_record 0 m) rs (rest s) p (over a c (omega arith))

  pub rule_19_iff : (p : ℕ) → (rule_19 s ≡ Broken 19 p) ↔ BadSheetAt s p
  rule_19_iff p = ((λ e. (rule_19_bad s 19 p e).1), bad_rule_19 p)

  pub fine_sound : rule_19 s ≡ Fine → SoundSheet s
  unfolding rule_19 judge
  fine_sound e = go (records s) refl e
    where
      by_head : (m : Record) (rs : List Record) → records s ≡ m ∷ rs → (b : Bool) → typed m ≡ b
          → pick b (bad_from (form_in m) (sheet_sign s) (next_record 0 m) rs (rest s)) (Broken 19 0) ≡ Fine → SoundSheet s
      by_head m rs r true t h =
          let f = from_fine (form_in m) (sheet_sign s) (next_record 0 m) rs (rest s) h in
          record { head = m; behind = rs; list = r; names = t; each = f.0; ended = f.1 }
      by_head m rs r false t h = absurd (fine_broken 19 0 (sym h))

      go : (rs : List Record) → records s ≡ rs → judge (sheet_sign s) rs (rest s) ≡ Fine → SoundSheet s
      go [] r h = absurd (fine_broken 19 0 (sym h))
      go (m ∷ rs) r h = by_head m rs r (typed m) refl h

  pub sound_fine : SoundSheet s → rule_19 s ≡ Fine
  sound_fine h =
      behind_head h.head h.behind h.list h.names
      ∙ ap (bad_from (form_in h.head) (sheet_sign s) (next_record 0 h.head) h.behind) h.ended
      ∙ fine_from (form_in h.head) (sheet_sign s) (next_record 0 h.head) h.behind h.each

  pub rule_19_fine : (rule_19 s ≡ Fine) ↔ SoundSheet s
  rule_19_fine = (fine_sound, sound_fine)

  -- a sheet that neither 19 nor 18 refuses
  pub fine_sheet : verdict_19_and_18 s ≡ Fine → SoundSheet s × (rule_18 (sheet_form s) ≡ Fine)
  unfolding verdict_19_and_18
  fine_sheet e = let f = then_clean (rule_19 s) (then (rule_18 (sheet_form s)) Fine) e in (fine_sound f.0, sym (then_fine (rule_18 (sheet_form s))) ∙ f.1)
