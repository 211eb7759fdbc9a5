-- Details: the VO code, and field 70. Assumes nothing.
use Rattle.base.specs.Says.{Not}
use Prim.Native.Nat.{ℕ, ◌+◌, ◌-◌, ◌≤◌, ◌<◌}
use mathlib.Core.Path.{◌≡◌, refl, sym, ap, ap₂, ◌∙◌}
use mathlib.Core.Bool.{Bool}
use mathlib.Core.List.{List, [], ◌∷◌, ◌++◌, map}
use native.Mathlib.Omega.{arith}
use native.Mathlib.Decide.{dec_lt}
use lib.ListN.{length, drop, length-map}
use Rattle.base.specs.Quoted.{bytes}
use Rattle.contents.specs.Words.{Text, Line, Digits, join}
use Rattle.contents.specs.Lines.{code_opening, code_closing}
use Rattle.contents.specs.Fields.{Names, Several, In70, In72}
use Rattle.contents.specs.Answers.{cut, VoFirst, text_at, Marked, NzpFirst, RppWith}
use Rattle.contents.proofs.RppLaws.{rpp_is}
use Rattle.contents.proofs.Laws.{Spot, spot, stands_at, made}
use Rattle.contents.proofs.MarkedLaws.{marked_texts, texts_marked, rpp_not_nzp}

-- where the code's digits begin, and where the text behind it
abbrev pub code_at : Bool → ℕ
code_at sign = length (code_opening sign)

abbrev spots : Bool → ℕ → List Spot
spots sign n = spot (code_at sign) (code_at sign) ∷ spot 5 (5 + code_at sign) ∷ spot (length (code_closing sign)) (text_at sign) ∷ spot n (n + text_at sign) ∷ []

pub record VoTests (sign : Bool) (l : Text) : Type 0 where
  pub size : text_at sign ≤ length l
  pub front : cut 0 (code_at sign) l ≡ code_opening sign
  pub close : cut (5 + code_at sign) (length (code_closing sign)) l ≡ code_closing sign
  pub digits : Digits 5 (cut (code_at sign) 5 l)

pub vo_tests : (sign : Bool) (l : Text) → VoFirst sign l → VoTests sign l
vo_tests sign l v =
    let p = stands_at (spots sign (length v.text)) (code_opening sign ∷ v.vo ∷ code_closing sign ∷ v.text ∷ []) l (refl, omega arith, (v.digits.size, refl, (refl, refl, (refl, refl, tt)))) v.line in
    record { size = omega (arith, p.1.1.1.1); front = p.0; close = p.1.1.0; digits = rw p.1.0 v.digits }

pub vo_made : (sign : Bool) (l : Text) → VoTests sign l → VoFirst sign l
vo_made sign l t =
    let n : ℕ = length l - text_at sign in
    let z = t.size in
    record {
      vo = cut (code_at sign) 5 l;
      text = cut (text_at sign) n l;
      digits = t.digits;
      line = made (spots sign n) l (omega arith, (refl, (refl, (refl, omega arith)))) ∙ rw (t.front, t.close);
    }

-- ---- field 70, of the lines l and ms
same_lines : (ts : List Text) → map (λ (s : Text). bytes "" ++ s) ts ≡ ts
same_lines [] = refl
same_lines (t ∷ ts) = ap (λ (x : List Text). t ∷ x) (same_lines ts)

pub vo_size : (sign : Bool) (l : Text) (v : VoFirst sign l) → length l ≡ length v.text + text_at sign
vo_size sign l v =
    let p = stands_at (spots sign (length v.text)) (code_opening sign ∷ v.vo ∷ code_closing sign ∷ v.text ∷ []) l (refl, omega arith, (v.digits.size, refl, (refl, refl, (refl, refl, tt)))) v.line in
    p.1.1.1.1

empty : (s : Text) → length s ≡ 0 → s ≡ []
empty [] e = refl
empty (x ∷ s) e = absurd (omega arith)

module _ (sign : Bool) (l : Line) where
  -- what makes a 70
  pub in_70_more : (ms : List Line) → VoFirst sign l → length l ≤ 35 → Names 3 ms → In70 sign (l ∷ ms)
  in_70_more ms v h n = let a = n.most in let b = n.least in (
    v.vo,
    v.text,
    ms,
    record {
      number = v.digits;
      lines = ap₂ (λ (x : Line) (y : List Line). x ∷ y) v.line (sym (same_lines ms));
      front = omega (arith, ap length v.line);
      back = n.each;
      count = omega arith;
      text = λ z. let e = ap length z.1 in absurd (omega arith);
    },
  )

  pub in_70_one : VoFirst sign l → length l ≤ 35 → text_at sign < length l → In70 sign (l ∷ [])
  in_70_one v h n = (
    v.vo,
    v.text,
    [],
    record {
      number = v.digits;
      lines = ap (λ (x : Line). x ∷ []) v.line;
      front = omega (arith, ap length v.line);
      back = tt;
      count = omega arith;
      text = λ z. let e = ap length z.0 in absurd (omega (arith, vo_size sign l v));
    },
  )

  -- and what a 70 has
  module _ (ms : List Line) (d : In70 sign (l ∷ ms)) where
    head_is : l ≡ join (code_opening sign ∷ d.0 ∷ code_closing sign ∷ d.1 ∷ [])
    head_is = let e = d.3.lines in cc

    tail_is : ms ≡ d.2
    tail_is = let e = d.3.lines in let f = same_lines d.2 in cc

    pub in_70_vo : VoFirst sign l
    in_70_vo = record { vo = d.0; text = d.1; digits = d.3.number; line = head_is }

    pub in_70_wide : length l ≤ 35
    in_70_wide = omega (arith, ap length head_is, d.3.front)

    pub in_70_names : 1 ≤ length ms → Names 3 ms
    in_70_names h = record { least = h; most = omega (arith, d.3.count); each = rw tail_is d.3.back }

    pub in_70_text : ms ≡ [] → text_at sign < length l
    in_70_text e = go (dec_lt (text_at sign) (length l))
      where
        go : Dec (text_at sign < length l) → text_at sign < length l
        go (yes k) = k
        go (no k) = absurd (d.3.text (empty d.1 (omega (arith, vo_size sign l (record { vo = d.0; text = d.1; digits = d.3.number; line = head_is }))), sym tail_is ∙ e))

-- ---- 72 in 202, of the lines l and ms
many : (ts : List Text) → length (map (λ (s : Text). bytes "//" ++ s) ts) ≡ length ts
many ts = length-map ts (λ (s : Text). bytes "//" ++ s)

module _ (sign : Bool) (most : ℕ) (l : Line) where
  pub in_72_more : (ms : List Line) → 1 ≤ most → NzpFirst sign l → Several (Marked (bytes "//") 33) (most - 1) ms → In72 sign most (l ∷ ms)
  in_72_more ms g v n =
      let r = marked_texts (bytes "//") 33 ms n.each in
      let a = n.most in let b = n.least in let z = ap length r.1 ∙ many r.0 in (
        v.vo_first.vo,
        v.vo_first.text,
        r.0,
        record {
          number = v.vo_first.digits;
          lines = ap₂ (λ (x : Line) (y : List Line). x ∷ y) (v.line ∙ rw v.vo_first.line) r.1;
          front = omega (arith, ap length v.vo_first.line, v.room);
          back = r.2;
          count = omega arith;
          text = λ w. let e = ap length w.1 in absurd (omega arith);
        },
      )

  pub in_72_one : 1 ≤ most → NzpFirst sign l → 5 + text_at sign < length l → In72 sign most (l ∷ [])
  in_72_one g v n = (
    v.vo_first.vo,
    v.vo_first.text,
    [],
    record {
      number = v.vo_first.digits;
      lines = ap (λ (x : Line). x ∷ []) (v.line ∙ rw v.vo_first.line);
      front = omega (arith, ap length v.vo_first.line, v.room);
      back = tt;
      count = omega arith;
      text = λ z. let e = ap length z.0 in absurd (omega (arith, vo_size sign v.rest v.vo_first, ap length v.line));
    },
  )

  module _ (ms : List Line) (d : In72 sign most (l ∷ ms)) where
    first_is : l ≡ bytes "/NZP/" ++ join (code_opening sign ∷ d.0 ∷ code_closing sign ∷ d.1 ∷ [])
    first_is = let e = d.3.lines in cc

    others_are : ms ≡ map (λ (s : Text). bytes "//" ++ s) d.2
    others_are = let e = d.3.lines in cc

    pub in_72_nzp : NzpFirst sign l
    in_72_nzp = record { rest = join (code_opening sign ∷ d.0 ∷ code_closing sign ∷ d.1 ∷ []); line = first_is; vo_first = record { vo = d.0; text = d.1; digits = d.3.number; line = refl }; room = d.3.front }

    pub in_72_marked : 1 ≤ length ms → Several (Marked (bytes "//") 33) (most - 1) ms
    in_72_marked h = record { least = h; most = omega (arith, d.3.count); each = rw others_are (texts_marked (bytes "//") 33 d.2 d.3.back) }

    pub in_72_text : ms ≡ [] → 5 + text_at sign < length l
    in_72_text e = go (dec_lt (5 + text_at sign) (length l))
      where
        none : (ts : List Text) → length ts ≡ 0 → ts ≡ []
        none [] x = refl
        none (y ∷ ys) x = absurd (omega arith)

        z : length d.2 ≡ 0
        z = sym (many d.2) ∙ ap length (sym others_are ∙ e)

        go : Dec (5 + text_at sign < length l) → 5 + text_at sign < length l
        go (yes k) = k
        go (no k) =
            absurd (d.3.text (empty d.1 (omega (arith, ap length first_is, vo_size sign (join (code_opening sign ∷ d.0 ∷ code_closing sign ∷ d.1 ∷ [])) (record { vo = d.0; text = d.1; digits = d.3.number; line = refl }))), none d.2 z))

pub nzp_tests : (sign : Bool) (l : Text) → NzpFirst sign l → Marked (bytes "/NZP/") 30 l × VoFirst sign (drop 5 l)
nzp_tests sign l v = let z = (vo_tests sign v.rest v.vo_first).size in ((v.rest, v.line, record { least = omega arith; most = v.room }), rw (ap (drop 5) v.line) v.vo_first)

-- an RPP line is no first line of details
pub rpp_not_72 : (sign : Bool) (most n value : ℕ) (l : Line) (ms : List Line) → RppWith n value l → Not (In72 sign most (l ∷ ms))
rpp_not_72 sign most n value l ms t d = rpp_not_nzp l (rpp_is t) (nzp_tests sign l (in_72_nzp sign most l ms d)).0

pub in_72_some : (sign : Bool) (most : ℕ) → Not (In72 sign most [])
in_72_some sign most d = let e = ap length d.3.lines in absurd (omega arith)
