-- 21 by the contents of 70 and 72, which stand at their places. Assumes nothing.
use Prim.Native.Nat.{ℕ, ◌+◌, ◌-◌, ◌%◌, ◌^◌, ◌≤◌, ◌<◌}
use mathlib.Core.Path.{◌≡◌, refl, sym, ap, ◌∙◌, subst}
use mathlib.Core.Bool.{Bool, true, false, ◌||◌, false≢true, true≢false}
use mathlib.Core.List.{List, [], ◌∷◌}
use native.Mathlib.Omega.{arith}
use native.Mathlib.Decide.{dec_lt}
use lib.Count.{ones}
use lib.Dec.{eqb}
use lib.ListN.{length, take, drop, length-take}
use borrow.Author.Tests.{eq-eqb, ne_eqb}
use Rattle.std.specs.Prelude.{Option, None, Some}
use Rattle.base.specs.Choice.{pick, all}
use Rattle.base.specs.Bits.{bit}
use Rattle.base.specs.Bytes.{byte, same, without}
use Rattle.base.specs.Quoted.{bytes}
use Rattle.base.specs.Verdicts.{Fine, Broken}
use Rattle.base.proofs.Bools.{left, right}
use Rattle.base.proofs.ByteLaws.{same_is}
use Rattle.fields.specs.Field.{Field, field, fields}
use Rattle.fields.specs.Frame.{limit}
use Rattle.fields.specs.Lines.{split, lines_in}
use Rattle.fields.specs.Places.{start_of, next_of, end_of}
use Rattle.fields.specs.Shapes.{follows, lineable}
use Rattle.fields.specs.ByLines.{Standing}
use Rattle.fields.proofs.ContentLaws.{lines_joined}
use Rattle.fields.proofs.PlaceLaws.{next_standing, content_part}
use Rattle.types.specs.declared.Form.TheVariants.{Mt103}
use Rattle.types.specs.Form.{Place, places_of, places_103}
use Rattle.types.specs.Walk.{is_of, find, walked}
use Rattle.types.specs.Sign.{sign_of}
use Rattle.types.specs.Sentences.{place_at, place_of_field, Accepted}
use Rattle.types.proofs.WalkLaws.{find_stands, walked_accepted}
use Rattle.types.proofs.WordLaws.{placed, rises, present_iff, needed}
use Rattle.frame.specs.Frame.{word_of}
use Rattle.contents.specs.Fields.{Right}
use Rattle.contents.specs.Tags.{tags_103, held_by}
use Rattle.contents.specs.Rule8.{EachRight, rule_8}
use Rattle.contents.proofs.RuleLaws.{rule_8_right}
use Rattle.contents.proofs.SizeLaws.{names_70}
use Rattle.roles.specs.Places.{verdict_at}
use Rattle.roles.specs.Speech as speech
use Rattle.roles.specs.Rule21.{size_70, over_most, of_first, bytes_in_70, rule_21}
use Rattle.roles.proofs.LengthLaws.{over_short, lines_within, size_names}
use Rattle.roles.proofs.OverTheorems.{rule_21_within}
use Rattle.message.specs.declared.Span.{Span}
use Rattle.message.specs.Lists.{part_at, Part}
use Rattle.message.specs.Calls.{part_of, Inside}
use Rattle.message.proofs.FieldLaws.{Settled, stands, here}
use Rattle.message.proofs.SpanLaws.{part_none, part_number, part_found}
use Rattle.message.proofs.PartLaws.{part_inside, inside_is}

-- ---- a tag that has a place alone
tag_place : (ps : List Place) (u t : List ℕ) → find ps u < length ps → is_of t (place_at ps (find ps u)) ≡ same t u → eqb (find ps t) (find ps u) ≡ same t u
tag_place ps u t h e = go (same t u) refl
  where
    go : (b : Bool) → same t u ≡ b → eqb (find ps t) (find ps u) ≡ b
    go true g = eq-eqb (find ps t) (find ps u) (ap (find ps) (same_is t u g))
    go false g =
        ne_eqb (find ps t) (find ps u) (λ z. true≢false (sym (find_stands ps t (omega (arith, z))).has ∙ ap (λ (q : ℕ). is_of t (place_at ps q)) z ∙ e ∙ g))

or_none : (b : Bool) → (b || false) ≡ b
or_none true = refl
or_none false = refl

place_70 : (t : List ℕ) → eqb (find places_103 t) 10 ≡ same t (bytes "70")
unfolding places_103 find same
place_70 t = tag_place places_103 (bytes "70") t (omega arith) (or_none (same t (bytes "70")))

place_72 : (t : List ℕ) → eqb (find places_103 t) 12 ≡ same t (bytes "72")
unfolding places_103 find same
place_72 t = tag_place places_103 (bytes "72") t (omega arith) (or_none (same t (bytes "72")))

-- ---- what is made of the first field with a tag is made of the content of its place
abbrev by_part : {A : Type 0} → List ℕ → A → (ℕ → List (List ℕ) → A) → Option Span → A
by_part m z g None = z
by_part m z g (Some p) = g p.start (lines_in (take (p.end - p.start) (drop p.start m)))

first_part : {A : Type 0} (m : List ℕ) (ps : List Place) (q : ℕ) (u : List ℕ) → ((t : List ℕ) → eqb (find ps t) q ≡ same t u) → (z : A) (g : ℕ → List (List ℕ) → A) (o : ℕ) (fs : List Field) → Standing m o fs
    → of_first u z g o fs ≡ by_part m z g (part_at ps q o fs)
unfolding part_at
first_part m ps q u h z g o [] w = refl
first_part m ps q u h z g o (field t [] ∷ fs) w = absurd (false≢true w.able)
first_part {A} m ps q u h z g o (field t (l ∷ ls) ∷ fs) w =
    ap (λ (b : Bool). pick b (g (start_of o f) (l ∷ ls)) (of_first u z g (next_of o f) fs)) (sym (h t))
    ∙ go (eqb (find ps t) q) (first_part m ps q u h z g (next_of o f) fs (next_standing m o t l ls fs w))
  where
    f : Field
    f = field t (l ∷ ls)

    no_cr : all (without 13) (l ∷ ls) ≡ true
    no_cr =
        let able = left (lineable (field t (l ∷ ls))) (all lineable fs) w.able in
        left (all (without 13) (l ∷ ls)) (all follows ls) (right (without 13 t) _ (right (without 58 t) _ able))

    here : l ∷ ls ≡ lines_in (take (end_of o (field t (l ∷ ls)) - start_of o (field t (l ∷ ls))) (drop (start_of o (field t (l ∷ ls))) m))
    here = sym (ap lines_in (content_part m o t l ls fs w) ∙ lines_joined l ls no_cr)

    go : (b : Bool) → of_first u z g (next_of o (field t (l ∷ ls))) fs ≡ by_part m z g (part_at ps q (next_of o (field t (l ∷ ls))) fs)
        → pick b (g (start_of o (field t (l ∷ ls))) (l ∷ ls)) (of_first u z g (next_of o (field t (l ∷ ls))) fs)
        ≡ by_part m z g (pick b (Part (start_of o (field t (l ∷ ls))) (end_of o (field t (l ∷ ls)))) (part_at ps q (next_of o (field t (l ∷ ls))) fs))
    go true r = ap (g (start_of o (field t (l ∷ ls)))) here
    go false r = r

-- ---- a right 70 has at most so many bytes
right_70 : (sign : Bool) (o : ℕ) (fs : List Field) → EachRight Mt103 sign fs → of_first {A = ℕ} (bytes "70") 0 (λ s ls. size_70 ls) o fs ≤ 140
unfolding held_by tags_103 same
right_70 sign o [] r = omega arith
right_70 sign o (field t ls ∷ fs) r = go (same t (bytes "70")) refl (right_70 sign (next_of o (field t ls)) fs r.1)
  where
    details : t ≡ bytes "70" → size_70 ls ≤ 140
    details e = size_names 4 ls (names_70 sign ls (subst (λ (u : List ℕ). Right (held_by Mt103 u) sign ls) e r.0))

    go : (b : Bool) → same t (bytes "70") ≡ b → of_first {A = ℕ} (bytes "70") 0 (λ s ls. size_70 ls) (next_of o (field t ls)) fs ≤ 140
        → pick b (size_70 ls) (of_first {A = ℕ} (bytes "70") 0 (λ s ls. size_70 ls) (next_of o (field t ls)) fs) ≤ 140
    go true e h = details (same_is t (bytes "70") e)
    go false e h = h

-- ---- 21, by what stands at the two places
module _ {m spots : List ℕ} (s : Settled m spots) where
  abbrev at : ℕ → Option Span
  at q = part_at (places_of Mt103) q 5 (fields m)

  stand : Standing m 5 (fields m)
  stand = subst (λ (o : ℕ). Standing m o (fields m)) s.start (s.stand 0 (omega arith))

  -- no 70 has as many bytes as an empty one
  bytes_70 : bytes_in_70 (fields m) ≡ size_70 (lines_in (part_of m (at 10)))
  unfolding split speech.later_text
  bytes_70 = first_part m places_103 10 (bytes "70") place_70 0 (λ s ls. size_70 ls) 5 (fields m) stand ∙ go (at 10)
    where
      go : (p : Option Span) → by_part m 0 (λ s ls. size_70 ls) p ≡ size_70 (lines_in (part_of m p))
      go None = refl
      go (Some p) = refl

  by_72 : {p : Option Span} → p ≡ at 12 → rule_21 Mt103 (fields m) ≡ by_part m Fine (λ a ls. verdict_at 21 a (over_most (bytes_in_70 (fields m)) ls)) p
  unfolding rule_21
  by_72 e =
      first_part m places_103 12 (bytes "72") place_72 Fine (λ a ls. verdict_at 21 a (over_most (bytes_in_70 (fields m)) ls)) 5 (fields m) stand
      ∙ ap (by_part m Fine (λ a ls. verdict_at 21 a (over_most (bytes_in_70 (fields m)) ls))) (sym e)

  pub no_72 : {p : Option Span} → p ≡ at 12 → p ≡ None → Fine ≡ rule_21 Mt103 (fields m)
  no_72 e q = sym (by_72 (sym q ∙ e))

  module _ {p : Option Span} (h : p ≡ at 12) {a e : ℕ} (q : p ≡ Part a e) where
    abbrev in_72 : List ℕ
    in_72 = take (e - a) (drop a m)

    pub some_72 : {in_70 : List ℕ} {v : Option ℕ} → in_70 ≡ part_of m (at 10) → v ≡ over_most (size_70 (lines_in in_70)) (lines_in in_72) → verdict_at 21 a v ≡ rule_21 Mt103 (fields m)
    some_72 {in_70} {v} b g =
        sym (by_72 (sym q ∙ h) ∙ ap (λ (n : ℕ). verdict_at 21 a (over_most n (lines_in in_72))) (bytes_70 ∙ ap (λ (c : List ℕ). size_70 (lines_in c)) (sym b)) ∙ ap (verdict_at 21 a) (sym g))

    -- a 72 that short can't have too many
    short_72 : rule_8 Mt103 m ≡ Fine → e - a ≤ 70 → Fine ≡ rule_21 Mt103 (fields m)
    short_72 r k =
        let n = right_70 (sign_of (fields m)) 5 (fields m) ((rule_8_right Mt103 m).0 r) in
        let c = lines_within in_72 in
        sym (by_72 (sym q ∙ h) ∙ ap (verdict_at 21 a) (over_short (bytes_in_70 (fields m)) (lines_in in_72) (omega (arith, n, c, k, length-take (e - a) (drop a m)))))

  -- the parts stand in the message, and so does the place
  pub inside : {p : Option Span} (q : ℕ) → p ≡ at q → Inside m p
  inside q e = inside_is m e (part_inside m (places_of Mt103) q 5 (fields m) stand)

  pub inside_part : {p : Option Span} (q : ℕ) {a e : ℕ} → p ≡ at q → p ≡ Part a e → (a ≤ e) × (e ≤ length m)
  inside_part q h k = inside q (sym k ∙ h)

  pub place_21 : {n p : ℕ} → Broken n p ≡ rule_21 Mt103 (fields m) → p ≤ limit
  place_21 {n} {p} e = omega (arith, (rule_21_within Mt103 (fields m) n p (sym e)).1, stand.dash, s.within)

-- ---- 72 is one of the last two fields
module _ {m spots : List ℕ} (s : Settled m spots) {n w : ℕ} (c : n ≡ length (fields m)) (e : w ≡ word_of Mt103 m) (a : walked Mt103 m ≡ Fine) where
  accepted : Accepted places_103 0 (fields m)
  accepted = (walked_accepted Mt103 m).0 a

  -- there are two at least
  pub two_fields : 2 ≤ n
  unfolding places_103
  two_fields =
      let x = (present_iff places_103 (fields m) 0).0 (needed places_103 0 (fields m) accepted 0 (omega arith) refl) in
      let y = (present_iff places_103 (fields m) 1).0 (needed places_103 0 (fields m) accepted 1 (omega arith) refl) in
      go x.number y.number x.within y.within (λ z. zero_one (sym x.place ∙ ap (place_of_field places_103 (fields m)) z ∙ y.place))
    where
      zero_one : ◌≡◌ {A = ℕ} 0 1 → ⊥
      zero_one z = omega arith

      go : (i j : ℕ) → i < length (fields m) → j < length (fields m) → (i ≡ j → ⊥) → 2 ≤ n
      go i j h k d = omega (arith, c)

  -- behind a field of that place stands one at most
  late : (k : ℕ) → k < length (fields m) → place_of_field places_103 (fields m) k ≡ 12 → n ≤ k + 2
  unfolding places_103
  late k h p = go (dec_lt (k + 2) n)
    where
      go : Dec (k + 2 < n) → n ≤ k + 2
      go (no l) = omega arith
      go (yes l) =
          absurd (omega (arith, c, p, rises places_103 0 (fields m) accepted.fine k (k + 1) (omega arith) (omega (arith, c)), rises places_103 0 (fields m) accepted.fine (k + 1) (k + 2) (omega arith) (omega (arith, c)), placed places_103 0 (fields m) accepted.fine (k + 2) (omega (arith, c))))

  -- so it has no more bytes than they
  in_last : (k : ℕ) → k < length (fields m) → n ≤ k + 2 → byte spots (k + 1) - byte spots k ≤ byte spots n - byte spots (n - 2)
  in_last k h l = go (dec_lt (k + 1) n)
    where
      go : Dec (k + 1 < n) → byte spots (k + 1) - byte spots k ≤ byte spots n - byte spots (n - 2)
      go (yes g) =
          let z : n - 2 ≡ k = omega arith in
          let y : n ≡ k + 1 + 1 = omega arith in
          let f = (stands s (k + 1) (omega (arith, c))).far in
          omega (arith, ap (byte spots) z, ap (byte spots) y, f)
      go (no g) =
          let y : n ≡ k + 1 = omega (arith, c) in
          let z : k ≡ n - 2 + 1 = omega (arith, two_fields) in
          let f = (stands s (n - 2) (omega (arith, c, two_fields))).far in
          omega (arith, ap (byte spots) z, ap (byte spots) y, f)

  pub short_last : (bit w 12 ≡ 0 → ⊥) → rule_8 Mt103 m ≡ Fine → byte spots n - byte spots (n - 2) ≤ 70 → Fine ≡ rule_21 Mt103 (fields m)
  short_last h r l =
      let k : ℕ = ones (w % 2 ^ 12) in
      let g = part_number s Mt103 e a 12 h refl in
      let f = here s k g.within refl refl refl refl in
      short_72 s (part_found s Mt103 e a 12 h refl f) refl r
      (omega (arith, l, in_last k g.within (late k g.within g.place), f.start_is))

  -- no 72
  pub none_72 : bit w 12 ≡ 0 → Fine ≡ rule_21 Mt103 (fields m)
  none_72 h = no_72 s (part_none s Mt103 e a 12 h) refl

  pub dash_after : byte spots (n - 2) ≤ byte spots n
  dash_after =
      let f = (stands s (n - 2) (omega (arith, c, two_fields))).far in
      let g = (stands s (n - 2 + 1) (omega (arith, c, two_fields))).far in
      let z : n - 2 + 1 + 1 ≡ n = omega (arith, two_fields) in
      omega (arith, f, g, ap (byte spots) z)
