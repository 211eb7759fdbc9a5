-- 14 over one content, line by line; and that with the table backwards it is the rule over the field. Assumes nothing.
use Prim.Native.Nat.{ℕ, ◌+◌, ◌-◌, ◌<◌, ◌≤◌, min}
use mathlib.Core.Path.{◌≡◌, refl, sym, ap, ap₂, ◌∙◌}
use mathlib.Core.Bool.{Bool, true, false, not, ◌&&◌, ◌||◌}
use mathlib.Core.List.{List, [], ◌∷◌, ◌++◌, map}
use native.Mathlib.Omega.{arith}
use native.Mathlib.Decide.{dec_le}
use borrow.Author.Tests.{eq-eqb, ne_eqb, lt-ltb, le-ltb}
use lib.Dec.{eqb, ltb}
use lib.ListN.{length, take, drop, drop_of_length-le}
use lib.Seq.{drop-nil}
use Rattle.std.specs.Prelude.{Option, None, Some}
use Rattle.types.specs.declared.Form.{Form}
use Rattle.base.specs.Choice.{pick}
use Rattle.base.specs.Bytes.{begins, count_up_to}
use Rattle.std.specs.Prelude.{Ok, Err}
use Rattle.alphabets.specs.Pieces.{Piece, piece_in, piece_after}
use Rattle.fields.specs.Lines.{split, lines_in}
use Rattle.contents.specs.Tests.{looks_tax}
use Rattle.contents.specs.Parts.{opens_rpp}
use Rattle.roles.specs.Role.{copy, name, tax_name, shape_of, taxed, cast}
use Rattle.roles.specs.Speech.{as_name, as_tax_name, name_speeches, later_text, details_text, details_start, details_speech, note_speeches, speeches}
use Rattle.roles.specs.Found.{lines_past, mute_in, breaks_14_in, found, broken_in, cast_from, line_breaks, mute_after}
use Rattle.roles.specs.declared.Shape.{Shape}
use Rattle.roles.specs.declared.Shape.TheVariants.{Plain, Payer, Payee, Agent, Details}
use Rattle.roles.proofs.LineLaws.{past_none, past_some, past_at, lines_from, lines_head, line_length, head_size}

-- ---- names
names_line : (t : List ℕ) (i : ℕ) (tax : Bool) (l : List ℕ) (ls : List (List ℕ))
    → found t (name_speeches i (cast_from tax (l ∷ ls))) ≡ pick (line_breaks t tax l) (Some i) (found t (name_speeches (i + length l + 2) (cast_from false ls)))
unfolding name_speeches found line_breaks
names_line t i false l ls = refl
names_line t i true l ls = go (looks_tax l)
  where
    go : (q : Bool) → found t (name_speeches i (pick q (copy l) (tax_name l) ∷ map name ls)) ≡ pick (pick q false (breaks_14_in t as_tax_name l)) (Some i) (found t (name_speeches (i + length l + 2) (map name ls)))
    go true = refl
    go false = refl

names_none : (t : List ℕ) (i : ℕ) (tax : Bool) → found t (name_speeches i (cast_from tax [])) ≡ None
unfolding name_speeches found
names_none t i true = refl
names_none t i false = refl

-- the loop over names: behind the line that ends at e as from the start
module _ (t c : List ℕ) (e : ℕ) (tax : Bool) where
  none_left : (o : ℕ) → length c ≤ e → found t (name_speeches o (cast_from tax (lines_past c e))) ≡ None
  none_left o h = ap (λ (ls : List (List ℕ)). found t (name_speeches o (cast_from tax ls))) (past_none c e h) ∙ names_none t o tax

  pub names_end : length c ≤ e → None ≡ found t (name_speeches (e + 2) (cast_from tax (lines_past c e)))
  names_end h = sym (none_left (e + 2) h)

-- the next line begins at i and ends at n
module _ (t c : List ℕ) (e : ℕ) (tax : Bool) (i n : ℕ) (h : e < length c) (p : i ≡ min (e + 2) (length c)) (q : n ≡ i + count_up_to 13 (drop i c)) where
  names_step : found t (name_speeches (e + 2) (cast_from tax (lines_past c e)))
      ≡ pick (line_breaks t tax (take (n - i) (drop i c))) (Some (e + 2)) (found t (name_speeches (n + 2) (cast_from false (lines_past c n))))
  names_step =
      ap (λ (ls : List (List ℕ)). found t (name_speeches (e + 2) (cast_from tax ls))) (past_at c e i h p ∙ lines_from c i n q)
      ∙ names_line t (e + 2) tax l (lines_past c n)
      ∙ ap (pick (line_breaks t tax l) (Some (e + 2))) (go (dec_le (e + 2) (length c)))
    where
      l : List ℕ
      l = take (n - i) (drop i c)

      go : Dec (e + 2 ≤ length c) → found t (name_speeches (e + 2 + length l + 2) (cast_from false (lines_past c n))) ≡ found t (name_speeches (n + 2) (cast_from false (lines_past c n)))
      go (yes k) = let z : e + 2 + length l + 2 ≡ n + 2 = omega (arith, line_length c i n q) in ap (λ (o : ℕ). found t (name_speeches o (cast_from false (lines_past c n)))) z
      go (no k) = none_left t c n false (e + 2 + length l + 2) (omega arith) ∙ sym (none_left t c n false (n + 2) (omega arith))

  pub names_hit : true ≡ line_breaks t tax (take (n - i) (drop i c)) → Some (e + 2) ≡ found t (name_speeches (e + 2) (cast_from tax (lines_past c e)))
  names_hit b = sym (names_step ∙ ap (λ (u : Bool). pick u (Some (e + 2)) (found t (name_speeches (n + 2) (cast_from false (lines_past c n))))) (sym b))

  pub names_miss : false ≡ line_breaks t tax (take (n - i) (drop i c)) → found t (name_speeches (e + 2) (cast_from tax (lines_past c e))) ≡ found t (name_speeches (n + 2) (cast_from false (lines_past c n)))
  names_miss b = names_step ∙ ap (λ (u : Bool). pick u (Some (e + 2)) (found t (name_speeches (n + 2) (cast_from false (lines_past c n))))) (sym b)

-- ---- the first line of a content, to its end e
module _ (t c : List ℕ) (e : ℕ) (q : e ≡ 0 + count_up_to 13 (drop 0 c)) where
  width : 0 + length (take e c) + 2 ≡ e + 2
  width = omega (arith, head_size c e q)

  -- the texts are those of a first line and the lines behind it
  by_first : (s : Shape) → found t (speeches true s 0 (lines_in c)) ≡ found t (speeches true s 0 (take e c ∷ lines_past c e))
  by_first s = ap (λ (ls : List (List ℕ)). found t (speeches true s 0 ls)) (lines_head c e q)

  -- behind a first line that is copied, and one that is not
  after_copy : (tax : Bool) → found t (name_speeches 0 (copy (take e c) ∷ cast_from tax (lines_past c e))) ≡ found t (name_speeches (e + 2) (cast_from tax (lines_past c e)))
  unfolding name_speeches
  after_copy tax = ap (λ (k : ℕ). found t (name_speeches k (cast_from tax (lines_past c e)))) width

  pub party_account_lem : (payer : Bool) → true ≡ begins 47 (take e c) → found t (name_speeches (e + 2) (cast_from true (lines_past c e))) ≡ found t (speeches true (pick payer Payer Payee) 0 (lines_in c))
  unfolding speeches cast
  party_account_lem true b =
      sym (by_first Payer ∙ ap (λ (u : Bool). found t (name_speeches 0 (pick u (copy (take e c) ∷ taxed (lines_past c e)) (taxed (take e c ∷ lines_past c e))))) (sym b) ∙ after_copy true)
  party_account_lem false b =
      sym (by_first Payee ∙ ap (λ (u : Bool). found t (name_speeches 0 (pick u (copy (take e c)) (name (take e c)) ∷ taxed (lines_past c e)))) (sym b) ∙ after_copy true)

  party_name : (payer : Bool) → false ≡ begins 47 (take e c)
      → found t (speeches true (pick payer Payer Payee) 0 (lines_in c)) ≡ pick (line_breaks t payer (take e c)) (Some 0) (found t (name_speeches (e + 2) (cast_from (not payer) (lines_past c e))))
  unfolding speeches cast name_speeches found line_breaks
  party_name true b =
      by_first Payer ∙ ap (λ (u : Bool). found t (name_speeches 0 (pick u (copy (take e c) ∷ taxed (lines_past c e)) (taxed (take e c ∷ lines_past c e))))) (sym b)
      ∙ names_line t 0 true (take e c) (lines_past c e)
      ∙ ap (λ (k : ℕ). pick (line_breaks t true (take e c)) (Some 0) (found t (name_speeches k (cast_from false (lines_past c e))))) width
  party_name false b =
      by_first Payee ∙ ap (λ (u : Bool). found t (name_speeches 0 (pick u (copy (take e c)) (name (take e c)) ∷ taxed (lines_past c e)))) (sym b)
      ∙ ap (λ (k : ℕ). pick (breaks_14_in t as_name (take e c)) (Some 0) (found t (name_speeches k (taxed (lines_past c e))))) width

  module _ (payer : Bool) (b : false ≡ begins 47 (take e c)) where
    pub party_hit : true ≡ line_breaks t payer (take e c) → Some 0 ≡ found t (speeches true (pick payer Payer Payee) 0 (lines_in c))
    party_hit n = sym (party_name payer b ∙ ap (λ (u : Bool). pick u (Some 0) (found t (name_speeches (e + 2) (cast_from (not payer) (lines_past c e))))) (sym n))

    pub party_miss : false ≡ line_breaks t payer (take e c) → found t (name_speeches (e + 2) (cast_from (not payer) (lines_past c e))) ≡ found t (speeches true (pick payer Payer Payee) 0 (lines_in c))
    party_miss n = sym (party_name payer b ∙ ap (λ (u : Bool). pick u (Some 0) (found t (name_speeches (e + 2) (cast_from (not payer) (lines_past c e))))) (sym n))

  pub agent_names : found t (name_speeches (e + 2) (cast_from false (lines_past c e))) ≡ found t (speeches true Agent 0 (lines_in c))
  unfolding speeches cast
  agent_names = sym (by_first Agent ∙ after_copy false)

  -- 72, its text behind so many bytes of the first line
  module _ (front : ℕ) where
    note_by : (r : Bool) → r ≡ opens_rpp (take e c) → found t (note_speeches front 0 (lines_in c)) ≡ found t (pick r (details_speech front 2 (e + 2) (lines_past c e)) (details_speech front 2 0 (lines_in c)))
    unfolding note_speeches
    note_by r b =
        ap (λ (ls : List (List ℕ)). found t (note_speeches front 0 ls)) (lines_head c e q)
        ∙ ap₂ (λ (u : Bool) (k : ℕ). found t (pick u (details_speech front 2 k (lines_past c e)) (details_speech front 2 0 (take e c ∷ lines_past c e)))) (sym b) width
        ∙ ap (λ (ls : List (List ℕ)). found t (pick r (details_speech front 2 (e + 2) (lines_past c e)) (details_speech front 2 0 ls))) (sym (lines_head c e q))

    pub note_none : false ≡ opens_rpp (take e c) → found t (details_speech front 2 0 (lines_in c)) ≡ found t (note_speeches front 0 (lines_in c))
    note_none b = sym (note_by false b)

    pub note_alone : true ≡ opens_rpp (take e c) → length c ≤ e → None ≡ found t (note_speeches front 0 (lines_in c))
    unfolding details_speech found
    note_alone b h = sym (note_by true b ∙ ap (λ (ls : List (List ℕ)). found t (details_speech front 2 (e + 2) ls)) (past_none c e h))

    pub note_more : true ≡ opens_rpp (take e c) → e < length c → found t (details_speech front 2 (e + 2) (lines_in (drop (e + 2) c))) ≡ found t (note_speeches front 0 (lines_in c))
    note_more b h = sym (note_by true b ∙ ap (λ (ls : List (List ℕ)). found t (details_speech front 2 (e + 2) ls)) (past_some c e h))

-- ---- a text over lines, piece by piece
pub mute_after_lem : (some : Bool) (i n : ℕ) (p : Piece) → mute_after some (piece_after i n p) ≡ mute_after (some || not (eqb n 0)) p
mute_after_lem true i n (Ok p) = refl
mute_after_lem false i n (Ok p) = ap (λ (q : Bool). p.latin || q) (go p.units (dec_le 1 n))
  where
    go : (m : ℕ) → Dec (1 ≤ n) → eqb (n + m) 0 ≡ (not (not (eqb n 0)) && eqb m 0)
    go m (yes h) = ne_eqb (n + m) 0 (λ z. omega arith) ∙ sym (ap (λ (q : Bool). not (not q) && eqb m 0) (ne_eqb n 0 (λ z. omega arith)))
    go m (no h) =
        let z : n ≡ 0 = omega arith in
        let y : n + m ≡ m = omega arith in
        ap (λ (k : ℕ). eqb k 0) y ∙ sym (ap (λ (q : Bool). not (not q) && eqb m 0) (eq-eqb n 0 z))
mute_after_lem true i n (Err k) = refl
mute_after_lem false i n (Err k) = refl

pub mute_start : (p : Piece) → mute_in p ≡ mute_after false p
mute_start (Ok p) = refl
mute_start (Err k) = refl

pub later_details : (mark : ℕ) (ls : List (List ℕ)) → later_text mark ls ≡ details_text mark mark ls
unfolding later_text
later_details mark [] = refl
later_details mark (l ∷ ls) = refl

-- from behind the end on there is none
pub text_past : (c : List ℕ) (from front mark : ℕ) → length c < from → details_text front mark (lines_in (drop from c)) ≡ []
unfolding later_text split
text_past c from front mark h =
    ap (λ (d : List ℕ). details_text front mark (lines_in d)) (drop_of_length-le c {i = from} (omega arith)) ∙ ap (λ (d : List ℕ). d ++ []) (drop-nil front)

-- ---- details
module _ (t c : List ℕ) (at front mark e : ℕ) (q : e ≡ at + count_up_to 13 (drop at c)) where
  details_is : found t (details_speech front mark at (lines_in (drop at c))) ≡ pick (mute_in (piece_in t false (details_text front mark (lines_in (drop at c))))) (Some (details_start front mark at (take (e - at) (drop at c)))) None
  unfolding details_speech found breaks_14_in
  details_is =
      ap (λ (ls : List (List ℕ)). found t (details_speech front mark at ls)) (lines_from c at e q)
      ∙ ap (λ (ls : List (List ℕ)). pick (mute_in (piece_in t false (details_text front mark ls))) (Some (details_start front mark at (take (e - at) (drop at c)))) None) (sym (lines_from c at e q))

  pub details_heard : false ≡ mute_in (piece_in t false (details_text front mark (lines_in (drop at c)))) → None ≡ found t (details_speech front mark at (lines_in (drop at c)))
  details_heard m = sym (details_is ∙ ap (λ (u : Bool). pick u (Some (details_start front mark at (take (e - at) (drop at c)))) None) (sym m))

  module _ (m : true ≡ mute_in (piece_in t false (details_text front mark (lines_in (drop at c))))) where
    details_mute : Some (details_start front mark at (take (e - at) (drop at c))) ≡ found t (details_speech front mark at (lines_in (drop at c)))
    details_mute = sym (details_is ∙ ap (λ (u : Bool). pick u (Some (details_start front mark at (take (e - at) (drop at c)))) None) (sym m))

    long : length (take (e - at) (drop at c)) ≡ e - at
    long = line_length c at e q

    pub details_here : front < e - at → Some (at + front) ≡ found t (details_speech front mark at (lines_in (drop at c)))
    details_here l =
        let g : ltb front (length (take (e - at) (drop at c))) ≡ true = lt-ltb front (length (take (e - at) (drop at c))) (omega (arith, long)) in
        ap (λ (u : Bool). Some (pick u (at + front) (at + (length (take (e - at) (drop at c)) + 2 + mark)))) (sym g) ∙ details_mute

    pub details_next : e - at ≤ front → Some (e + 2 + mark) ≡ found t (details_speech front mark at (lines_in (drop at c)))
    details_next l =
        let g : ltb front (length (take (e - at) (drop at c))) ≡ false = le-ltb front (length (take (e - at) (drop at c))) (omega (arith, long)) in
        let z : e + 2 + mark ≡ at + (length (take (e - at) (drop at c)) + 2 + mark) = omega (arith, long) in
        ap Some z ∙ ap (λ (u : Bool). Some (pick u (at + front) (at + (length (take (e - at) (drop at c)) + 2 + mark)))) (sym g) ∙ details_mute

-- ---- by the shape
pub by_shape : (t : List ℕ) (form : Form) (tag c : List ℕ) (s : Shape) (r : Option ℕ) → s ≡ shape_of form tag → r ≡ found t (speeches true s 0 (lines_in c)) → r ≡ broken_in t form tag c
unfolding broken_in
by_shape t form tag c s r e f = f ∙ ap (λ (z : Shape). found t (speeches true z 0 (lines_in c))) e

pub plain_none : (t : List ℕ) (ls : List (List ℕ)) → None ≡ found t (speeches true Plain 0 ls)
unfolding speeches found
plain_none t ls = refl

pub details_whole : (t c : List ℕ) → found t (details_speech 11 0 0 (lines_in c)) ≡ found t (speeches true Details 0 (lines_in c))
unfolding speeches
details_whole t c = refl
