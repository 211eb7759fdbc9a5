-- What the calls promise, said of the definitions that their contracts cite (O1, N17, K1-K4). Assumes nothing.
use Prim.Native.Nat.{ℕ, ◌+◌, ◌-◌, ◌*◌, ◌%◌, ◌^◌, ◌<◌}
use mathlib.Core.Path.{◌≡◌, refl, sym, ap, ap₂, ◌∙◌, subst}
use mathlib.Core.Bool.{Bool, true, false, true≢false}
use mathlib.Core.List.{List, []}
use mathlib.Core.Logic.{◌↔◌}
use native.Mathlib.Omega.{arith}
use lib.Count.{ones}
use lib.ListN.{length, take, drop, get_or-append}
use lib.Seq.{drop_at}
use Rattle.std.specs.Prelude.{Result, Ok, Err, Option, None, Some}
use Rattle.base.specs.declared.Refusal.{Refusal}
use Rattle.message.specs.declared.Accepted.{Accepted}
use Rattle.base.specs.Rules.{first, Clean, FirstOf}
use Rattle.base.specs.Bits.{bit}
use Rattle.base.specs.Bytes.{byte, empty}
use Rattle.base.specs.Calls.{short, over, room}
use Rattle.base.specs.Verdicts.{Verdict, Fine, Broken, Refused, answered}
use Rattle.base.proofs.RuleLaws.{as_broken, then_clean, first_last, first_clean, accepted_iff, refused_iff}
use Rattle.base.proofs.CallLaws.{one_answer, short_within}
use Rattle.fields.specs.Field.{fields}
use Rattle.fields.specs.Places.{listed}
use Rattle.fields.proofs.PlaceLaws.{listed_length}
use Rattle.types.specs.declared.Form.{Form}
use Rattle.types.specs.Form.{places_of}
use Rattle.types.specs.Walk.{present}
use Rattle.types.proofs.WordLaws.{present_iff, ones_before}
use Rattle.message.specs.declared.Span.{Span}
use Rattle.frame.specs.Frame.{word_of}
use Rattle.message.specs.Message.{message_rules, verdict_of}
use Rattle.message.specs.Lists.{part_at, Part}
use Rattle.message.specs.declared.Day.{Day}
use Rattle.message.specs.Calls.{check_rules, Checks, Listed, span_by, span_of, part_of, content_of, amount_of, day_of, counted}
use Rattle.message.proofs.PartLaws.{content_some}
use Rattle.frame.proofs.CallLaws.{taken}
use Rattle.message.proofs.VerdictTheorems.{frame_clean}
use Rattle.message.proofs.SpanLaws.{listed_part, part_absent, part_listed}
use Rattle.types.specs.Sentences.{place_of_field, Present}

-- ---- any two outcomes are equal, lent units counted
pub checks_one : {form : Form} {m list : List ℕ} {r s : Result Accepted Refusal} {a b : List ℕ} → Checks form m list r a → Checks form m list s b → (r ≡ s) × (a ≡ b)
checks_one p q = (one_answer p.answers q.answers, one_answer p.leaves q.leaves)

pub span_one : (form : Form) (m : List ℕ) (place : ℕ) {r s : Option Span} → r ≡ span_of form m place → s ≡ span_of form m place → r ≡ s
span_one form m place p q = one_answer p q

-- ---- the call that fills the list
same_counted : {n w k v : ℕ} → ◌≡◌ {A = Result Accepted Refusal} (Ok (counted n w)) (Ok (counted k v)) → (n ≡ k) × (w ≡ v)
same_counted {n} {w} {k} {v} e = let z : counted n w ≡ counted k v = cc in (ap (λ (a : Accepted). a.fields) z, ap (λ (a : Accepted). a.present) z)

not_both : (n w k p : ℕ) → ◌≡◌ {A = Result Accepted Refusal} (Ok (counted n w)) (Refused k p) → ⊥
not_both n w k p e = let z : ◌≡◌ {A = ℕ} 0 1 = cc in omega arith

module _ (form : Form) (m list : List ℕ) where
  both_fine : first (check_rules form m list) ≡ Fine → (verdict_of form m ≡ Fine) × (short (listed 5 (fields m)) list ≡ Fine)
  unfolding verdict_of
  both_fine e = then_clean (first (message_rules form m)) (short (listed 5 (fields m)) list) (sym (first_last (message_rules form m) (short (listed 5 (fields m)) list)) ∙ e)

  fine_listed : (after : List ℕ) → first (check_rules form m list) ≡ Fine → after ≡ over (listed 5 (fields m)) list → Listed form m list (length (fields m)) (word_of form m) after
  fine_listed after e l =
      let b = both_fine e in
      let t = taken form m (frame_clean form m b.0) in
      let n = listed_length 5 (fields m) in
      record {
        clean = first_clean (check_rules form m list) e;
        message_clean = b.0;
        count = refl;
        word_is = refl;
        as_many_ones = t.sound.as_many;
        bits = t.sound.bits;
        few = t.sound.few_fields;
        room = omega (arith, short_within (listed 5 (fields m)) list b.1);
        filled = l;
        behind = ap (drop (3 * length (fields m))) l ∙ drop_at (listed 5 (fields m)) (drop (length (listed 5 (fields m))) list) (3 * length (fields m)) n ∙ ap (λ (k : ℕ). drop k list) n;
      }

  module _ {r : Result Accepted Refusal} {after : List ℕ} (g : Checks form m list r after) where
    pub checks_accepted : {n w : ℕ} → r ≡ Ok (counted n w) → Listed form m list n w after
    checks_accepted {n} {w} q = go (first (check_rules form m list)) refl (sym q ∙ g.answers) g.leaves
      where
        go : (v : Verdict) → first (check_rules form m list) ≡ v → Ok (counted n w) ≡ answered v (counted (length (fields m)) (word_of form m)) → after ≡ room v (listed 5 (fields m)) list
            → Listed form m list n w after
        go Fine e a l =
            let s = same_counted a in
            let x : length (fields m) ≡ n = sym s.0 in
            let y : word_of form m ≡ w = sym s.1 in
            subst (λ (k : ℕ). Listed form m list k w after) x (subst (λ (k : ℕ). Listed form m list (length (fields m)) k after) y (fine_listed after e l))
        go (Err r) e a l = absurd (not_both n w r.number r.place a)

    -- a refused call leaves the list
    pub checks_refused : {n p : ℕ} → r ≡ Refused n p → FirstOf (check_rules form m list) n p × (after ≡ list)
    checks_refused {n} {p} q = go (first (check_rules form m list)) refl (sym q ∙ g.answers) g.leaves
      where
        go : (v : Verdict) → first (check_rules form m list) ≡ v → Refused n p ≡ answered v (counted (length (fields m)) (word_of form m)) → after ≡ room v (listed 5 (fields m)) list
            → FirstOf (check_rules form m list) n p × (after ≡ list)
        go Fine e a l = absurd (not_both (length (fields m)) (word_of form m) n p (sym a))
        go (Err r) e a l = ((refused_iff (check_rules form m list) n p).0 (e ∙ as_broken a), l)

    -- accepted exactly if no rule is broken, and refused exactly by the first that is
    pub checks_accepts : (r ≡ Ok (counted (length (fields m)) (word_of form m))) ↔ Clean (check_rules form m list)
    checks_accepts = (
      λ q. (checks_accepted q).clean,
      λ c. g.answers ∙ ap (λ (v : Verdict). answered v (counted (length (fields m)) (word_of form m))) ((accepted_iff (check_rules form m list)).1 c),
    )

    pub checks_refuses : (n p : ℕ) → (r ≡ Refused n p) ↔ FirstOf (check_rules form m list) n p
    checks_refuses n p = (
      λ q. (checks_refused q).0,
      λ f. g.answers ∙ ap (λ (v : Verdict). answered v (counted (length (fields m)) (word_of form m))) ((refused_iff (check_rules form m list) n p).1 f),
    )

-- ---- the part of a place
-- the message is refused, or has no field of the place
pub data Without (form : Form) (m : List ℕ) (place : ℕ) : Type 0 where
  refused : (n p : ℕ) → verdict_of form m ≡ Broken n p → Without form m place
  absent : (Present (places_of form) (fields m) place → ⊥) → Without form m place

module _ (form : Form) (m : List ℕ) (place : ℕ) where
  clean_span : verdict_of form m ≡ Fine → span_of form m place ≡ part_at (places_of form) place 5 (fields m)
  unfolding span_of
  clean_span e = ap (λ (v : Verdict). span_by v (part_at (places_of form) place 5 (fields m))) e

  -- the start and the end that the list has for the field with that place
  pub span_listed : verdict_of form m ≡ Fine → (k : ℕ) → k < length (fields m) → place_of_field (places_of form) (fields m) k ≡ place → span_of form m place ≡ listed_part (listed 5 (fields m)) k
  span_listed e k h q = clean_span e ∙ part_listed (places_of form) 0 5 (fields m) k place (taken form m (frame_clean form m e)).right h q

  not_nothing : (s t : ℕ) → Part s t ≡ None → ⊥
  not_nothing s t e = let z : ◌≡◌ {A = ℕ} 0 1 = cc in omega arith

  -- and nothing exactly if there is none
  pub span_nothing : (span_of form m place ≡ None) ↔ Without form m place
  unfolding span_of
  span_nothing = (λ e. go (verdict_of form m) refl e, back)
    where
      go : (v : Verdict) → verdict_of form m ≡ v → span_of form m place ≡ None → Without form m place
      go Fine q e = absent (λ p. not_nothing _ _ (sym (span_listed q p.number p.within p.place) ∙ e))
      go (Err r) q e = refused r.number r.place q

      none : (b : Bool) → present (places_of form) (fields m) place ≡ b → (Present (places_of form) (fields m) place → ⊥) → b ≡ false
      none true q h = absurd (h ((present_iff (places_of form) (fields m) place).0 q))
      none false q h = refl

      at : (v : Verdict) → verdict_of form m ≡ v → (Present (places_of form) (fields m) place → ⊥) → span_of form m place ≡ None
      at Fine q h = clean_span q ∙ part_absent (places_of form) place 5 (fields m) (none (present (places_of form) (fields m) place) refl h)
      at (Err r) q h = ap (λ (v : Verdict). span_by v (part_at (places_of form) place 5 (fields m))) q

      back : Without form m place → span_of form m place ≡ None
      back (refused n p q) = ap (λ (v : Verdict). span_by v (part_at (places_of form) place 5 (fields m))) q
      back (absent h) = at (verdict_of form m) refl h

-- the two calls agree: where the word has the place's bit, the part is what the list has behind as many fields as there are ones below
pub span_agrees : {form : Form} {m list : List ℕ} {n w : ℕ} {after : List ℕ} → Listed form m list n w after → (place : ℕ) → bit w place ≡ 1 → span_of form m place ≡ listed_part after (ones (w % 2 ^ place))
span_agrees {form} {m} {list} {n} {w} {after} l place b =
    let p = (l.bits place).0 b in
    let t = taken form m (frame_clean form m l.message_clean) in
    let k = p.number in
    let e : ones (w % 2 ^ place) ≡ k = ap₂ (λ (x i : ℕ). ones (x % 2 ^ i)) l.word_is (sym p.place) ∙ ones_before (places_of form) 0 (fields m) k t.right p.within in
    let s = listed_length 5 (fields m) in
    let h = p.within in
    let front : (i : ℕ) → i < length (listed 5 (fields m)) → byte (listed 5 (fields m)) i ≡ byte after i =
    λ i g. sym (ap (λ (x : List ℕ). byte x i) l.filled ∙ get_or-append (listed 5 (fields m)) (drop (length (listed 5 (fields m))) list) 0 i g) in
    span_listed form m place l.message_clean k p.within p.place
    ∙ ap₂ Part (front (3 * k + 1) (omega arith)) (front (3 * k + 2) (omega arith)) ∙ ap (listed_part after) (sym e)

-- ---- the content of a place
pub content_one : (form : Form) (m : List ℕ) (place : ℕ) {a b : List ℕ} → a ≡ content_of form m place → b ≡ content_of form m place → a ≡ b
content_one form m place p q = one_answer p q

-- empty exactly if the message is refused or has no field there
pub content_empty : (form : Form) (m : List ℕ) (place : ℕ) → (content_of form m place ≡ []) ↔ Without form m place
unfolding content_of
content_empty form m place = (λ e. (span_nothing form m place).0 (go (span_of form m place) refl e), λ w. ap (part_of m) ((span_nothing form m place).1 w))
  where
    go : (s : Option Span) → span_of form m place ≡ s → part_of m s ≡ [] → span_of form m place ≡ None
    go None q e = q
    go (Some p) q e = absurd (true≢false (sym (ap empty (ap (part_of m) q ∙ e)) ∙ content_some form m place (λ z. not_nothing form m place p.start p.end (sym q ∙ z))))

-- and else the part between the start and the end that the list has for that place
pub content_listed : {form : Form} {m list : List ℕ} {n w : ℕ} {after : List ℕ} → Listed form m list n w after → (place : ℕ) → bit w place ≡ 1
    → let k : ℕ = ones (w % 2 ^ place) in content_of form m place ≡ take (byte after (3 * k + 2) - byte after (3 * k + 1)) (drop (byte after (3 * k + 1)) m)
unfolding content_of
content_listed {m = m} l place b = ap (part_of m) (span_agrees l place b)

-- ---- kopecks and date
pub amount_one : (form : Form) (m : List ℕ) {r s : Result ℕ Refusal} → r ≡ amount_of form m → s ≡ amount_of form m → r ≡ s
amount_one form m p q = one_answer p q

pub day_one : (form : Form) (m : List ℕ) {r s : Result Day Refusal} → r ≡ day_of form m → s ≡ day_of form m → r ≡ s
day_one form m p q = one_answer p q
