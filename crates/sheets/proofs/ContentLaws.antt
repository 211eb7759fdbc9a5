-- The steps of details and of field 72, and a content by the shape of its tag. Assumes nothing.
use Prim.Native.Nat.{ℕ, ◌+◌, ◌-◌, ◌≤◌, ◌<◌, min}
use mathlib.Core.Path.{◌≡◌, refl, sym, ap, ap₂, ◌∙◌}
use mathlib.Core.Bool.{Bool, true, false}
use mathlib.Core.List.{List, [], ◌∷◌, ◌++◌, map, map-id, append-nil, append_assoc}
use native.Mathlib.Omega.{arith}
use native.Mathlib.Nat.{zero-add}
use types.Run.{OneOf}
use denote.Enum.Declared.{tag_of}
use lib.ListN.{length, take, drop, length-drop, drop_of_length-le}
use Rattle.base.proofs.ByteLaws.{past_in}
use Rattle.base.proofs.Room.{puts_on, puts_by, puts_none}
use Rattle.base.specs.Choice.{pick}
use Rattle.base.specs.Bytes.{count_up_to}
use Rattle.base.specs.Calls.{placed, Puts}
use Rattle.fields.specs.Lines.{lines_in}
use Rattle.contents.specs.Parts.{opens_rpp}
use Rattle.roles.specs.Speech.{code_size}
use Rattle.roles.specs.Found.{lines_past}
use Rattle.roles.specs.Parts.{first_role}
use Rattle.roles.specs.declared.Shape.{Shape}
use Rattle.roles.specs.declared.Shape.TheVariants.{Details, Note103}
use Rattle.roles.specs.declared.Role.{Role}
use Rattle.roles.specs.contracts.Shape.{the_type}
use Rattle.roles.proofs.PartLaws.{each_lined}
use Rattle.roles.proofs.LineLaws.{lines_head, past_none, past_at, head_size, head_within}
use Rattle.records.specs.Record.{tabbed}
use Rattle.sheets.specs.Gather.{code_digits, note_parts}
use Rattle.sheets.specs.Steps.{parts_by, text_pieces, over_by, details_by, rest_text, rest_by, content_by, joined_parts, rpp_part}
use Rattle.sheets.proofs.TextLaws.{tab_put, take_few, code_few}
use Rattle.sheets.proofs.RestLaws.{rpp_first, rpp_few, rest_none}

-- ---- details, of a content whose first line ends at e
module _ (c : List ℕ) (e : ℕ) (q : e ≡ 0 + count_up_to 13 (drop 0 c)) (t : List ℕ) (s : Bool) where
  pub details_put : (first mark : ℕ) {k v : List ℕ} → k ≡ drop first (take e c) → v ≡ code_digits s k → {z : ℕ} → z ≡ code_size s
      → {out mid now after : List ℕ} {at n r : ℕ} → Puts (9 ∷ v) out at n mid → now ≡ placed mid n (9 ∷ []) → Puts (over_by t s false (text_pieces (first + z) mark (lines_in c))) now (n + 1) r after
      → n ≤ at + 1 + length v → r ≤ n + 1 + length c → (r ≤ at + length c + 7) × Puts (tabbed (details_by t s first mark (lines_in c))) out at r after
  details_put first mark {k} {v} hk hv {z} hz p f o i j =
      let ls = lines_past c e in
      let l = take e c in
      let x : List ℕ = over_by t s false (text_pieces (first + z) mark (lines_in c)) in
      let y : List ℕ = over_by t s false (text_pieces (first + code_size s) mark (l ∷ ls)) in
      let same : x ≡ y = ap₂ (λ (i : ℕ) (xs : List (List ℕ)). over_by t s false (text_pieces (first + i) mark xs)) hz (lines_head c e q) in (
        omega (arith, code_few s k hv),
        puts_by (ap₂ (λ (a b : List ℕ). 9 ∷ (a ++ 9 ∷ b)) (hv ∙ ap (code_digits s) hk) (same ∙ sym (append-nil y)) ∙ ap (λ (xs : List (List ℕ)). tabbed (details_by t s first mark xs)) (sym (lines_head c e q)))
            (puts_on (9 ∷ v) (9 ∷ x) p (tab_put f o)),
      )

  pub head_small : (d : ℕ) {l : List ℕ} → l ≡ drop d (take e c) → (length l ≤ e) × (e ≤ length c)
  head_small d z = (omega (arith, ap length z ∙ length-drop d (take e c), head_size c e q), head_within c e q)

  -- 72 of a 202
  note_is : {b : Bool} → b ≡ opens_rpp (take e c) → tabbed (pick b (drop 5 (take e c) ∷ details_by t s 5 2 (lines_past c e)) ([] ∷ details_by t s 5 2 (lines_in c))) ≡ tabbed (note_parts (details_by t s 5 2) (lines_in c))
  note_is {b} f =
      ap (λ (xs : List (List ℕ)). tabbed (pick b (drop 5 (take e c) ∷ details_by t s 5 2 (lines_past c e)) ([] ∷ details_by t s 5 2 xs))) (lines_head c e q)
      ∙ ap (λ (d : Bool). tabbed (pick d (drop 5 (take e c) ∷ details_by t s 5 2 (lines_past c e)) ([] ∷ details_by t s 5 2 (take e c ∷ lines_past c e)))) f
      ∙ ap (λ (xs : List (List ℕ)). tabbed (note_parts (details_by t s 5 2) xs)) (sym (lines_head c e q))

  module _ {b : Bool} (f : b ≡ opens_rpp (take e c)) where
    pub note_none : {out mid after : List ℕ} {at r : ℕ} → b ≡ false → mid ≡ placed out at (9 ∷ []) → r ≤ at + 1 + length c + 7 → Puts (tabbed (details_by t s 5 2 (lines_in c))) mid (at + 1) r after
        → (r ≤ at + length c + 8) × Puts (tabbed (note_parts (details_by t s 5 2) (lines_in c))) out at r after
    note_none g m k p = (omega arith, puts_by (note_is (sym g ∙ f)) (tab_put m p))

    module _ (g : b ≡ true) {p : List ℕ} (h : p ≡ drop 5 (take e c)) where
      pub note_alone : {out mid : List ℕ} {at n : ℕ} → length c ≤ e → n ≤ at + 1 + length p → Puts (9 ∷ p) out at n mid → (n ≤ at + length c + 8) × Puts (tabbed (note_parts (details_by t s 5 2) (lines_in c))) out at n mid
      note_alone k i a =
          (omega (arith, head_small 5 h), puts_by (ap (λ (x : List ℕ). 9 ∷ x) (h ∙ sym (append-nil (drop 5 (take e c)))) ∙ ap (λ (xs : List (List ℕ)). 9 ∷ (drop 5 (take e c) ++ tabbed (details_by t s 5 2 xs))) (sym (past_none c e k)) ∙ note_is (sym g ∙ f)) a)

      pub note_more : {out mid after : List ℕ} {at n r : ℕ} (i : ℕ) → e < length c → i ≡ min (e + 2) (length c) → n ≤ at + 1 + length p → Puts (9 ∷ p) out at n mid
          → r ≤ n + length (take (length c - i) (drop i c)) + 7 → Puts (tabbed (details_by t s 5 2 (lines_in (take (length c - i) (drop i c))))) mid n r after
          → (r ≤ at + length c + 8) × Puts (tabbed (note_parts (details_by t s 5 2) (lines_in c))) out at r after
      note_more i k j x a y d = (
        omega (arith, head_small 5 h, take_few (length c - i) (drop i c)),
        puts_by
            (ap₂ (λ (x : List ℕ) (xs : List (List ℕ)). 9 ∷ (x ++ tabbed (details_by t s 5 2 xs))) h (ap lines_in (past_in c i) ∙ sym (past_at c e i k j)) ∙ note_is (sym g ∙ f))
            (puts_on (9 ∷ p) (tabbed (details_by t s 5 2 (lines_in (take (length c - i) (drop i c))))) a d),
      )

-- ---- details with what runs on
two_tabs : (v x two : List ℕ) → tabbed (v ∷ x ∷ []) ++ two ≡ tabbed (v ∷ (x ++ two) ∷ [])
two_tabs v x two =
    ap (λ (y : List ℕ). 9 ∷ y)
    (append_assoc v (9 ∷ (x ++ [])) two ∙ ap (λ (y : List ℕ). v ++ 9 ∷ y) (ap (λ (y : List ℕ). y ++ two) (append-nil x) ∙ sym (append-nil (x ++ two))))

module _ (t : List ℕ) (s : Bool) (c : List ℕ) {out mid : List ℕ} {at n : ℕ} (p : Puts (tabbed (details_by t s 0 0 (lines_in c))) out at n mid) where
  details_join : (two : List ℕ) → tabbed (details_by t s 0 0 (lines_in c)) ++ two ≡ tabbed (joined_parts Details two (details_by t s 0 0 (lines_in c)))
  details_join two =
      let n : ℕ = count_up_to 13 c in
      let e = lines_head c n (sym (zero-add n)) in
      ap (λ (ls : List (List ℕ)). tabbed (details_by t s 0 0 ls) ++ two) e
      ∙ two_tabs (code_digits s (drop 0 (take n c))) (over_by t s false (text_pieces (0 + code_size s) 0 (take n c ∷ lines_past c n))) two
      ∙ sym (ap (λ (ls : List (List ℕ)). tabbed (joined_parts Details two (details_by t s 0 0 ls))) e)

  pub whole_more : (two : List ℕ) {after : List ℕ} {r : ℕ} → Puts two mid n r after → Puts (tabbed (joined_parts Details two (details_by t s 0 0 (lines_in c)))) out at r after
  whole_more two q = puts_by (details_join two) (puts_on (tabbed (details_by t s 0 0 (lines_in c))) two p q)

  pub whole_alone : (rest : List ℕ) → length rest ≡ 0 → Puts (tabbed (joined_parts Details (rest_text t s (lines_in rest)) (details_by t s 0 0 (lines_in c)))) out at n mid
  whole_alone rest h =
      let e : rest ≡ [] = drop_of_length-le rest {i = 0} (omega arith) in
      whole_more (rest_text t s (lines_in rest)) (puts_by (sym (ap (λ (x : List ℕ). rest_text t s (lines_in x)) e ∙ rest_none t s)) puts_none)

-- ---- a content by the shape of its tag
module _ (t : List ℕ) (s : Bool) (two c : List ℕ) {out after : List ℕ} {at r : ℕ} where
  pub shape_put : {sh to : Shape} → sh ≡ to → Puts (tabbed (joined_parts to two (content_by t s to (lines_in c)))) out at r after → Puts (tabbed (joined_parts sh two (content_by t s sh (lines_in c)))) out at r after
  shape_put e p = puts_by (ap (λ (x : Shape). tabbed (joined_parts x two (content_by t s x (lines_in c)))) (sym e)) p

  -- the RPP part alone
  pub rpp_put : {p : List ℕ} → p ≡ rpp_part c → r ≤ at + 1 + length p → Puts (9 ∷ p) out at r after
      → (r ≤ at + length c + 1) × Puts (tabbed (joined_parts Note103 two (note_parts (rest_by t s) (lines_in c)))) out at r after
  rpp_put {p} e h a =
      let f = e ∙ rpp_first (rest_by t s) c in
      (omega (arith, ap length e, rpp_few c), puts_by (ap (λ (x : List ℕ). 9 ∷ x) (sym (append-nil p) ∙ ap (λ (x : List ℕ). x ++ []) f)) a)

  -- parts that are all lines
  pub lines_put : (sh : Shape) {role : Role} → OneOf (0 ∷ 1 ∷ 2 ∷ 3 ∷ []) (tag_of the_type sh) → role ≡ first_role sh → Puts (tabbed (parts_by t s role (map (drop 0) (lines_in c)))) out at r after
      → Puts (tabbed (joined_parts sh two (content_by t s sh (lines_in c)))) out at r after
  unfolding content_by
  lines_put sh h e p =
      puts_by (ap₂ (λ (x : Role) (ls : List (List ℕ)). tabbed (parts_by t s x ls)) e (map-id (lines_in c))
      ∙ each_lined (λ x. tabbed (parts_by t s (first_role x) (lines_in c)) ≡ tabbed (joined_parts x two (content_by t s x (lines_in c)))) refl refl refl refl sh h) p
