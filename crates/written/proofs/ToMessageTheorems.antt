-- What the contract of `to_message` says of a sheet: why one is refused and by which number, each number exactly; what is written where none is
-- given; and that any two outcomes are equal (N1, N15-N19, O2, K6, D2d, D3). Assumes nothing.
use Prim.Native.Nat.{ℕ, ◌<◌, ◌≤◌}
use mathlib.Core.Path.{◌≡◌, refl, sym, ap, ◌∙◌, subst}
use mathlib.Core.Bool.{Bool, true, false}
use mathlib.Core.List.{List, [], ◌∷◌, ◌++◌, tail}
use mathlib.Core.Logic.{◌↔◌, ◌⊎◌, inl, inr}
use native.Mathlib.Omega.{arith}
use lib.Dec.{eqb, ltb}
use lib.ListN.{length}
use borrow.Author.Tests.{ltb-true, ne_eqb}
use Rattle.std.specs.Prelude.{Err}
use Rattle.base.specs.Choice.{pick}
use Rattle.base.specs.Rules.{then, first, Clean, FirstOf}
use Rattle.base.specs.Calls.{long, short, over, room, Gives}
use Rattle.base.specs.Verdicts.{Verdict, Fine, Broken, Outcome, Done, Refused, answered}
use Rattle.base.proofs.RuleLaws.{fine_broken, same_broken, then_fine, first_clean, broken_first}
use Rattle.base.proofs.CallLaws.{gives_one, accepted, refused, is_long, not_long, is_short, not_short, short_within}
use Rattle.fields.specs.Field.{fields}
use Rattle.fields.specs.Frame.{limit}
use Rattle.types.specs.declared.Form.{Form}
use Rattle.types.specs.declared.Form.TheVariants.{Other, Mt103, Mt202}
use Rattle.types.specs.Form.{places_103, places_202}
use Rattle.types.specs.Walk.{rule_18}
use Rattle.message.specs.Message.{verdict_of}
use Rattle.records.specs.Record.{records}
use Rattle.records.specs.Rule19.{sheet_form, sheet_sign, rule_19}
use Rattle.records.specs.Sentences.{BadSheetAt}
use Rattle.records.proofs.RuleLaws.{rule_19_bad, bad_rule_19}
use Rattle.runon.specs.RunOn.{run_on}
use Rattle.writer.specs.Sheet.{rule_15, rule_16, message_for, sheet_rules, at_start, own_rule, write_rules, MessageTo}
use Rattle.writer.proofs.RuleLaws.{sheet_holds, rules_sheet, write_by, write_rules_lem}
use Rattle.written.specs.Sentences as why
use Rattle.written.specs.Sentences.{OneByOne, RunsOn, Made, StuckAt, Crowded, Own, NoType, Reason}
use Rattle.written.proofs.BuiltLaws.{fine_good, fine_said, built_runs}
use Rattle.written.proofs.ExactLaws.{rule_15_broken, rule_15_iff, rule_16_broken, rule_16_number, crowded_rule_16}
use Rattle.written.proofs.OwnLaws.{own_refusal, own_fine}
use Rattle.written.proofs.MadeLaws.{built_made}

-- any two outcomes are equal, lent units counted
pub message_one : (s out : List ℕ) {r q : Outcome} {a b : List ℕ} → MessageTo s out r a → MessageTo s out q b → (r ≡ q) × (a ≡ b)
unfolding MessageTo
message_one s out g h = gives_one g h

-- ---- rules in order
passed : (us vs : List Verdict) → Clean us → first (us ++ vs) ≡ first vs
passed [] vs c = refl
passed (u ∷ us) vs c = ap (λ (v : Verdict). then v (first (us ++ vs))) c.0 ∙ passed us vs c.1

-- ---- 18: the type is neither 103 nor 202
pub rule_18_broken : (form : Form) (n p : ℕ) → rule_18 form ≡ Broken n p → (n ≡ 18) × (p ≡ 0) × NoType form
unfolding rule_18 places_103 places_202
rule_18_broken Mt103 n p e = absurd (fine_broken n p e)
rule_18_broken Mt202 n p e = absurd (fine_broken n p e)
rule_18_broken Other n p e = (sym (same_broken e).0, sym (same_broken e).1, refl)

-- ---- why a sheet is refused
module _ (s out : List ℕ) where
  long_broken : (n p : ℕ) → long limit s ≡ Broken n p → (n ≡ 1) × (p ≡ limit) × (limit < length s)
  unfolding long
  long_broken n p e = go (ltb limit (length s)) refl e
    where
      go : (b : Bool) → ltb limit (length s) ≡ b → pick b (Broken 1 limit) Fine ≡ Broken n p → (n ≡ 1) × (p ≡ limit) × (limit < length s)
      go true h e = (sym (same_broken e).0, sym (same_broken e).1, ltb-true limit (length s) h)
      go false h e = absurd (fine_broken n p e)

  pub short_broken : (n p : ℕ) → short (message_for s) out ≡ Broken n p → (n ≡ 17) × (p ≡ length (message_for s)) × (length out < length (message_for s))
  unfolding short
  short_broken n p e = go (ltb (length out) (length (message_for s))) refl e
    where
      go : (b : Bool) → ltb (length out) (length (message_for s)) ≡ b → pick b (Broken 17 (length (message_for s))) Fine ≡ Broken n p
          → (n ≡ 17) × (p ≡ length (message_for s)) × (length out < length (message_for s))
      go true h e = (sym (same_broken e).0, sym (same_broken e).1, ltb-true (length out) (length (message_for s)) h)
      go false h e = absurd (fine_broken n p e)

  own_broken : (n p : ℕ) → Clean (sheet_rules s) → own_rule s ≡ Broken n p → Reason s out p n
  own_broken n p c e = go (verdict_of (sheet_form s) (message_for s)) refl e
    where
      go : (v : Verdict) → verdict_of (sheet_form s) (message_for s) ≡ v → at_start v ≡ Broken n p → Reason s out p n
      go Fine f e = absurd (fine_broken n p e)
      go (Err r) f e =
          let h = own_refusal s c n p (ap at_start f ∙ e) in
          why.own r.place h.0 (f ∙ ap (λ (k : ℕ). Broken k r.place) (same_broken e).0) h.1

  module _ (n p : ℕ) where
    by_number : (k : ℕ) → n ≡ k → Reason s out p k → Reason s out p n
    by_number k e r = subst (Reason s out p) (sym e) r

    abbrev Why : Verdict → Type 0
    Why v = v ≡ Broken n p → Reason s out p n

    -- where it is the first of the sheet's rules
    abbrev WhyFirst : Verdict → Type 0
    WhyFirst v = first (sheet_rules s) ≡ Broken n p → Why v

    step : (v w : Verdict) → Why v → (v ≡ Fine → Why w) → Why (then v w)
    step Fine w f g e = g refl e
    step (Err r) w f g e = f e

    why_1 : Why (long limit s)
    why_1 e = let h = long_broken n p e in by_number 1 h.0 (why.over h.2 h.1)

    why_19 : Why (rule_19 s)
    why_19 e = let h = rule_19_bad s n p e in by_number 19 (sym h.0) (why.against h.1)

    why_18 : Why (rule_18 (sheet_form s))
    why_18 e = let h = rule_18_broken (sheet_form s) n p e in by_number 18 h.0 (why.typeless h.2 h.1)

    why_15 : Why (rule_15 (sheet_form s) (sheet_sign s) 0 (records s))
    why_15 e = let h = rule_15_broken (sheet_sign s) (sheet_form s) 0 (records s) n p e in by_number 15 h.0 (why.unsaid h.1)

    -- 19 goes before 16
    sound_first : n ≡ 16 → first (sheet_rules s) ≡ Broken n p → rule_19 s ≡ Fine
    sound_first z = go (long limit s) (rule_19 s) refl refl
      where
        go : (v w : Verdict) → long limit s ≡ v → rule_19 s ≡ w → then v (then w (first (rule_18 (sheet_form s) ∷ rule_15 (sheet_form s) (sheet_sign s) 0 (records s) ∷ rule_16 (sheet_form s) (sheet_sign s) (tail (records s)) ∷ []))) ≡ Broken n p
            → w ≡ Fine
        go (Err r) w f g e = absurd (omega (arith, (long_broken r.number r.place f).0, (same_broken e).0))
        go Fine (Err r) f g e = absurd (omega (arith, (rule_19_bad s r.number r.place g).0, (same_broken e).0))
        go Fine Fine f g e = refl

    why_16 : WhyFirst (rule_16 (sheet_form s) (sheet_sign s) (tail (records s)))
    why_16 f e =
        let h = rule_16_number (sheet_sign s) (sheet_form s) (tail (records s)) n p e in
        by_number 16 h.0 (why.crowded (rule_16_broken (sheet_sign s) (sheet_form s) (tail (records s)) (fine_good s (sound_first h.0 f)) n p e) h.1)

    why_17 : Why (short (message_for s) out)
    why_17 e = let h = short_broken n p e in by_number 17 h.0 (why.short h.2 h.1)

    why_sheet : Why (first (sheet_rules s))
    why_sheet e =
        sheet_holds WhyFirst s (λ f e. absurd (fine_broken n p e))
        (record { size = λ f. why_1; sound = λ f. why_19; type = λ f. why_18; texts = λ f. why_15; details = why_16 }) e e

    -- a refusal has one of the reasons
    pub refusal_reason : Why (first (write_rules s out))
    refusal_reason e =
        step (first (sheet_rules s)) _ why_sheet (λ c. step (short (message_for s) out) _ why_17 (λ f. own_broken n p (first_clean (sheet_rules s) c))) (sym (write_by s out) ∙ e)

-- ---- what a number tells
module _ (s out : List ℕ) (p : ℕ) where
  abbrev pub Tells : ℕ → Type 0
  Tells n =
      pick (eqb n 19) (BadSheetAt s p)
      (pick (eqb n 18) ((p ≡ 0) × NoType (sheet_form s))
      (pick (eqb n 15) (StuckAt (sheet_form s) (sheet_sign s) 0 (records s) p)
      (pick (eqb n 16) ((p ≡ 0) × Crowded (sheet_form s) (sheet_sign s) (tail (records s)))
      (pick (eqb n 17) ((p ≡ length (message_for s)) × (length out < length (message_for s)))
      (pick (eqb n 1) (((p ≡ limit) × (limit < length s)) ⊎ (p ≡ 0)) (Unit {0}))))))

  tells_own : (n : ℕ) → n ≤ 13 → p ≡ 0 → Tells n
  tells_own n h z =
      rw (ne_eqb n 19 (λ e. omega arith), ne_eqb n 18 (λ e. omega arith), ne_eqb n 15 (λ e. omega arith), ne_eqb n 16 (λ e. omega arith), ne_eqb n 17 (λ e. omega arith)) (go (eqb n 1))
    where
      go : (b : Bool) → pick b (((p ≡ limit) × (limit < length s)) ⊎ (p ≡ 0)) (Unit {0})
      go true = inr z
      go false = tt

  at_most : {n : ℕ} → Own n → n ≤ 13
  at_most (inl e) = omega arith
  at_most (inr h) = h.1

  tells : {n : ℕ} → Reason s out p n → Tells n
  tells (why.over a b) = inl (b, a)
  tells (why.against h) = h
  tells (why.typeless a b) = (b, a)
  tells (why.unsaid h) = h
  tells (why.crowded h a) = (a, h)
  tells (why.short a b) = (b, a)
  tells (why.own {n} q h f z) = tells_own n (at_most h) z

-- ---- and each is given exactly then, where nothing earlier stands
no_type_lem : (form : Form) → NoType form → rule_18 form ≡ Broken 18 0
unfolding rule_18 places_103 places_202
no_type_lem form h = ap rule_18 h

module _ (s out : List ℕ) (r : Outcome) (after : List ℕ) (g : MessageTo s out r after) where
  -- from the rules to the outcome, and back
  given : (n p : ℕ) → first (write_rules s out) ≡ Broken n p → r ≡ Refused n p
  unfolding MessageTo
  given n p e = g.answers ∙ ap (λ (v : Verdict). answered v (length (message_for s))) e

  rule_of : (n p : ℕ) → r ≡ Refused n p → (first (write_rules s out) ≡ Broken n p) × (after ≡ out)
  unfolding MessageTo
  rule_of n p e = refused (write_rules s out) (message_for s) out n p after (subst (λ (q : Outcome). Gives (write_rules s out) (message_for s) out q after) e g)

  -- a refusal has one of the reasons, and leaves the room as it was
  pub refused_why : (n p : ℕ) → r ≡ Refused n p → Reason s out p n × (after ≡ out)
  refused_why n p e = let h = rule_of n p e in (refusal_reason s out n p h.0, h.1)

  because : (n p : ℕ) → r ≡ Refused n p → Tells s out p n
  because n p e = tells s out p (refused_why n p e).0

  broken_at : (n p : ℕ) → FirstOf (write_rules s out) n p → r ≡ Refused n p
  broken_at n p f = given n p (broken_first (write_rules s out) n p f)

  -- 1 at the limit exactly if the sheet is over it; a message over its own limit is 1 at 0 (exact_own)
  pub exact_1 : (r ≡ Refused 1 limit) ↔ (limit < length s)
  exact_1 = ((λ e. go (because 1 limit e)), (λ h. given 1 limit (rw (is_long limit s h))))
    where
      go : ((limit ≡ limit) × (limit < length s)) ⊎ (limit ≡ 0) → limit < length s
      go (inl h) = h.1
      go (inr z) = absurd (omega (arith, z))

  module _ (p : ℕ) where
    -- 19 exactly if a rule of the sheet is broken, at the first bad record
    pub exact_19 : length s ≤ limit → (r ≡ Refused 19 p) ↔ BadSheetAt s p
    exact_19 h = (
      (λ e. because 19 p e),
      (λ b. given 19 p (rw (not_long limit s h, bad_rule_19 s p b))),
    )

    pub exact_18 : Clean (long limit s ∷ rule_19 s ∷ []) → (r ≡ Refused 18 p) ↔ ((p ≡ 0) × NoType (sheet_form s))
    exact_18 (size, (sound, z)) = (
      (λ e. because 18 p e),
      (λ b. given 18 p (rw (size, sound, no_type_lem (sheet_form s) b.1, b.0))),
    )

    -- 15 exactly if a name or details text has no bank text or a copied part leaves the x set, at the first such byte
    pub exact_15 : Clean (long limit s ∷ rule_19 s ∷ rule_18 (sheet_form s) ∷ []) → (r ≡ Refused 15 p) ↔ StuckAt (sheet_form s) (sheet_sign s) 0 (records s) p
    exact_15 (size, (sound, (type, z))) = (
      (λ e. because 15 p e),
      (λ b. given 15 p (rw (size, sound, type, (rule_15_iff (sheet_sign s) (sheet_form s) 0 (records s) p).1 b))),
    )

    -- 16 exactly if neither the whole nor any cut of the details fits; where nothing may run on, if some details have no division in any way
    pub exact_16 : Clean (long limit s ∷ rule_19 s ∷ rule_18 (sheet_form s) ∷ rule_15 (sheet_form s) (sheet_sign s) 0 (records s) ∷ [])
        → (r ≡ Refused 16 p) ↔ ((p ≡ 0) × Crowded (sheet_form s) (sheet_sign s) (tail (records s)))
    exact_16 (size, (sound, (type, (texts, z)))) = (
      (λ e. because 16 p e),
      (λ b. given 16 p (rw (size, sound, type, texts, crowded_rule_16 (sheet_sign s) (sheet_form s) (tail (records s)) (fine_good s sound) (fine_said s texts) b.1, b.0))),
    )

    -- 17 exactly if the room is shorter than the message, whose length is the place
    pub exact_17 : Clean (sheet_rules s) → (r ≡ Refused 17 p) ↔ ((p ≡ length (message_for s)) × (length out < length (message_for s)))
    exact_17 c = (
      (λ e. because 17 p e),
      λ b. broken_at 17 p (record {
        before = sheet_rules s;
        behind = own_rule s ∷ [];
        list = ap (λ (v : Verdict). sheet_rules s ++ v ∷ own_rule s ∷ []) (is_short (message_for s) out b.1 ∙ ap (Broken 17) (sym b.0));
        clean = c;
      }),
    )

  -- then the message's own refusal, with place 0, and nothing else; it can only be 1 or 5 to 13 (OwnLaws)
  module _ (c : Clean (sheet_rules s)) (h : length (message_for s) ≤ length out) where
    own_alone : first (write_rules s out) ≡ own_rule s
    own_alone = passed (sheet_rules s) (short (message_for s) out ∷ own_rule s ∷ []) c ∙ ap (λ (v : Verdict). then v (then (own_rule s) Fine)) (not_short (message_for s) out h) ∙ then_fine (own_rule s)

    pub exact_own : (n p : ℕ) → (r ≡ Refused n p) ↔ ((q : ℕ) × (verdict_of (sheet_form s) (message_for s) ≡ Broken n q) × (p ≡ 0))
    exact_own n p = (
      (λ e. go (verdict_of (sheet_form s) (message_for s)) refl (sym own_alone ∙ (rule_of n p e).0)),
      (λ w. given n p (own_alone ∙ ap at_start w.1 ∙ ap (Broken n) (sym w.2))),
    )
      where
        go : (v : Verdict) → verdict_of (sheet_form s) (message_for s) ≡ v → at_start v ≡ Broken n p → (q : ℕ) × (verdict_of (sheet_form s) (message_for s) ≡ Broken n q) × (p ≡ 0)
        go Fine f e = absurd (fine_broken n p e)
        go (Err r) f e = let k = same_broken e in (r.place, f ∙ ap (λ (j : ℕ). Broken j r.place) k.0, sym k.1)

  -- ---- a sheet that is written
  pub record Written (n : ℕ) : Type 0 where
    pub clean : Clean (sheet_rules s)
    pub count : n ≡ length (message_for s)
    pub room : length (message_for s) ≤ length out
    pub filled : after ≡ over (message_for s) out
    -- the message is accepted, and has just the fields of the records as they run on
    pub message_fine : verdict_of (sheet_form s) (message_for s) ≡ Fine
    pub running : RunsOn (sheet_form s) (sheet_sign s) (tail (records s)) (run_on (sheet_form s) (sheet_sign s) (tail (records s)))
    pub made : OneByOne (Made (sheet_form s) (sheet_sign s)) (run_on (sheet_form s) (sheet_sign s) (tail (records s))) (fields (message_for s))

  pub written : (n : ℕ) → r ≡ Done n → Written n
  unfolding MessageTo
  written n e =
      let a = accepted (write_rules s out) (message_for s) out n after (subst (λ (q : Outcome). Gives (write_rules s out) (message_for s) out q after) e g) in
      let c = write_rules_lem s out a.clean in
      let k : Clean (sheet_rules s) = rules_sheet s c.sheet in
      record { clean = k; count = a.count; room = short_within (message_for s) out c.room; filled = a.filled; message_fine = own_fine s k c.own; running = built_runs s k; made = built_made s k }

  -- written exactly if the message is accepted, where the sheet is fine and there is room
  pub exact_done : Clean (sheet_rules s) → length (message_for s) ≤ length out
      → (verdict_of (sheet_form s) (message_for s) ≡ Fine) ↔ ((r ≡ Done (length (message_for s))) × (after ≡ over (message_for s) out))
  unfolding MessageTo
  exact_done c h = (
    (λ e.
        let f : first (write_rules s out) ≡ Fine = own_alone c h ∙ ap at_start e in
        (g.answers ∙ ap (λ (v : Verdict). answered v (length (message_for s))) f, g.leaves ∙ ap (λ (v : Verdict). room v (message_for s) out) f)),
    λ w. (written (length (message_for s)) w.0).message_fine,
  )
