-- What is written for one text: its bytes are of the x set, it begins with / : or - exactly if the desk text does, and it is no tax line
-- unless the desk text begins as one (T3, T9, T10, N14b, N14c). Assumes nothing.
use Prim.Native.Nat.{ℕ, zero, suc}
use mathlib.Core.Path.{◌≡◌, refl, sym, ap, ap₂, ◌∙◌}
use mathlib.Core.Bool.{Bool, true, false, not, ◌&&◌, ◌||◌, and-false, true≢false, false≢true}
use mathlib.Core.List.{List, [], ◌∷◌}
use native.Mathlib.Omega.{arith}
use lib.Dec.{eqb}
use lib.ListN.{get_or}
use borrow.Author.Tests.{eqb-true, ne_eqb}
use Rattle.base.specs.Choice.{all}
use Rattle.base.specs.Bytes.{byte, begins, empty, is_in, digit, capital, letter, marks, shared, xset, same}
use Rattle.base.specs.Quoted.{bytes}
use Rattle.base.specs.Calls.{Answer, said, stuck}
use Rattle.base.proofs.Bools.{left, right, both}
use Rattle.base.proofs.ByteLaws.{begins_byte}
use Rattle.base.proofs.CallLaws.{not_said}
use Rattle.alphabets.specs.Grid.{grid, Kind, unwritable, russian, latin, common, kind, spell, allowed, character}
use Rattle.alphabets.specs.Bank.{after, reads, plainly}
use Rattle.alphabets.specs.Best.{latin_next, side_for, cross, best, nowhere, spot_after, bad, writing}
use Rattle.alphabets.proofs.GridLaws.{Back, write_read}
use Rattle.alphabets.proofs.Back.{never}
use Rattle.alphabets.proofs.Shortest.{Came, turned, signed, came}
use Rattle.alphabets.proofs.Theorems.{Written, written, plain_only, plain_iff, reads_back}
use Rattle.fields.specs.Shapes.{goes_on}
use Rattle.contents.specs.Tests.{looks_tax, starts}
use Rattle.roles.specs.Rule14.{hidden, is_cyrillic_inn}

-- ---- without the sign, and copied: the text itself
pub plain_same : (p t : List ℕ) → plainly p ≡ said t → t ≡ p
plain_same p t e = sym (plain_only p t e)

pub plain_set : (p t : List ℕ) → plainly p ≡ said t → all xset p ≡ true
plain_set p t e = (plain_iff p).0 (e ∙ ap said (plain_same p t e))

-- ---- what reads is of the x set
no_character : (s : Bool) (x : ℕ) → letter x ≡ false → shared x ≡ false → character s x ≡ 0
unfolding character
no_character true x a b = rw (a, b)
no_character false x a b = rw (b, a)

outside_character : (s : Bool) (x : ℕ) → xset x ≡ false → character s x ≡ 0
unfolding xset
outside_character s x e = go (letter x) (shared x) refl refl e
  where
    go : (a b : Bool) → letter x ≡ a → shared x ≡ b → (a || (b || eqb x 39)) ≡ false → character s x ≡ 0
    go true b p q e = absurd (true≢false e)
    go false true p q e = absurd (true≢false e)
    go false false p q e = no_character s x p q

apostrophe_set : xset 39 ≡ true
unfolding xset letter capital shared digit is_in marks
apostrophe_set = refl

set_byte : (s : Bool) (x y : ℕ) → allowed (kind y) s ≡ true → spell (kind y) s y ≡ x → xset x ≡ true
set_byte s x y a e = go (xset x) refl
  where
    go : (b : Bool) → xset x ≡ b → xset x ≡ true
    go true h = h
    go false h = let w : Back s y = write_read s y a in absurd (w.not_zero (sym w.reads_back ∙ ap (character s) e ∙ outside_character s x h))

set_by : (s : Bool) (x : ℕ) (b d : List ℕ) → Came s x b d → ((s' : Bool) (d' : List ℕ) → reads s' b ≡ said d' → all xset b ≡ true) → all xset (x ∷ b) ≡ true
set_by s x b d (turned e r) ih = both (ap xset e ∙ apostrophe_set) (ih (not s) d r)
set_by s x b d (signed y t e nm a sp r) ih = both (set_byte s x y a sp) (ih s t r)

pub reads_set : (s : Bool) (b d : List ℕ) → reads s b ≡ said d → all xset b ≡ true
reads_set s [] d r = refl
reads_set s (x ∷ b) d r = set_by s x b d (came s x b d r) (λ s' d' r'. reads_set s' b d' r')

pub spelt_set : (s : Bool) (d t : List ℕ) → writing s d ≡ said t → all xset t ≡ true
spelt_set true d t e = reads_set false t d (reads_back true d t e)
spelt_set false d t e = ap (all xset) (plain_same d t e) ∙ plain_set d t e

-- ---- the first byte
pub data Mark : ℕ → Type 0 where
  slash : Mark 47
  colon : Mark 58
  dash : Mark 45

pub mark_kind : (c : ℕ) → Mark c → kind c ≡ common
unfolding kind grid marks is_in digit capital letter shared
mark_kind c slash = refl
mark_kind c colon = refl
mark_kind c dash = refl

pub mark_character : (c : ℕ) → Mark c → character false c ≡ c
unfolding character marks is_in digit capital letter shared
mark_character c slash = refl
mark_character c colon = refl
mark_character c dash = refl

pub not_apostrophe : (c : ℕ) → Mark c → eqb 39 c ≡ false
not_apostrophe c slash = refl
not_apostrophe c colon = refl
not_apostrophe c dash = refl

apostrophe_not : (c : ℕ) → Mark c → eqb c 39 ≡ false
apostrophe_not c slash = refl
apostrophe_not c colon = refl
apostrophe_not c dash = refl

pub not_none : (c : ℕ) → Mark c → eqb 0 c ≡ false
not_none c slash = refl
not_none c colon = refl
not_none c dash = refl

russian_not : russian ≡ common → ⊥
russian_not e = let z : ◌≡◌ {A = ℕ} 0 1 = cc in omega arith

latin_not : latin ≡ common → ⊥
latin_not e = let z : ◌≡◌ {A = ℕ} 0 1 = cc in omega arith

head_by : (k : Kind) (n : Bool) (x c : ℕ) (xs : List ℕ) → kind x ≡ k → Mark c → spot_after k (bad xs) ≡ nowhere
    → begins c (cross false (side_for k false n) (spell k (side_for k false n) x ∷ best (side_for k false n) xs)) ≡ eqb x c
head_by unwritable n x c xs e m g = absurd (never 0 g)
head_by russian n x c xs e m g =
    let w : Back false x = write_read false x (rw e) in
    let r : character false (get_or grid x 0) ≡ x = rw e at w.reads_back in
    let other : x ≡ c → ⊥ = λ q. russian_not (sym e ∙ ap kind q ∙ mark_kind c m) in
    ne_eqb (get_or grid x 0) c (λ q. other (sym r ∙ ap (character false) q ∙ mark_character c m)) ∙ sym (ne_eqb x c other)
head_by latin n x c xs e m g = not_apostrophe c m ∙ sym (ne_eqb x c (λ q. latin_not (sym e ∙ ap kind q ∙ mark_kind c m)))
head_by common n x c xs e m g = refl

best_head : (c : ℕ) (d : List ℕ) → Mark c → bad d ≡ nowhere → begins c (best false d) ≡ begins c d
unfolding best bad
best_head c [] m e = refl
best_head c (x ∷ xs) m e = head_by (kind x) (latin_next xs) x c xs refl m e

best_empty : (d : List ℕ) → empty (best false d) ≡ empty d
unfolding best
best_empty [] = refl
best_empty (x ∷ xs) = go (side_for (kind x) false (latin_next xs))
  where
    go : (t : Bool) → empty (cross false t (spell (kind x) t x ∷ best t xs)) ≡ false
    go true = refl
    go false = refl

-- a mark stands at the front exactly if it stands at the desk text's
pub spelt_head : (s : Bool) (c : ℕ) (d t : List ℕ) → Mark c → writing s d ≡ said t → begins c t ≡ begins c d
spelt_head true c d t m e = let w : Written d t = written d t e in ap (begins c) w.is ∙ best_head c d m w.whole
spelt_head false c d t m e = ap (begins c) (plain_same d t e)

pub spelt_empty : (s : Bool) (d t : List ℕ) → writing s d ≡ said t → empty t ≡ empty d
spelt_empty true d t e = let w : Written d t = written d t e in ap empty w.is ∙ best_empty d
spelt_empty false d t e = ap empty (plain_same d t e)

pub spelt_on : (s : Bool) (d t : List ℕ) → writing s d ≡ said t → goes_on d ≡ true → goes_on t ≡ true
spelt_on s d t e g =
    ap₂ (λ (a b : Bool). not a && b) (spelt_empty s d t e)
    (ap₂ (λ (a b : Bool). not a && not b) (spelt_head s 45 d t dash e) (spelt_head s 58 d t colon e)) ∙ g

-- ---- 14's second clause: no text that reads from / : or - is written with an apostrophe in front
marked_front : (c : ℕ) (t : List ℕ) → Mark c → begins c t ≡ true → begins 39 t ≡ false
marked_front c [] m e = refl
marked_front c (x ∷ t) m e = ap (λ (y : ℕ). eqb y 39) (eqb-true x c e) ∙ apostrophe_not c m

first_mark : (c : ℕ) (d t : List ℕ) → Mark c → writing true d ≡ said t → eqb (byte d 0) c ≡ true → begins 39 t ≡ false
first_mark c d t m e h = marked_front c t m (spelt_head true c d t m e ∙ begins_byte c d (not_none c m) ∙ h)

pub spelt_open : (d t : List ℕ) → writing true d ≡ said t → hidden t d ≡ false
unfolding hidden is_in
spelt_open d t e = go (eqb (byte d 0) 47) (eqb (byte d 0) 58) (eqb (byte d 0) 45) (first_mark 47 d t slash e) (first_mark 58 d t colon e) (first_mark 45 d t dash e)
  where
    shut : (q : Bool) → begins 39 t ≡ false → (begins 39 t && q) ≡ false
    shut q h = ap (λ (b : Bool). b && q) h

    go : (a b c : Bool) → (a ≡ true → begins 39 t ≡ false) → (b ≡ true → begins 39 t ≡ false) → (c ≡ true → begins 39 t ≡ false) → (begins 39 t && (a || (b || (c || false)))) ≡ false
    go true b c f g h = shut true (f refl)
    go false true c f g h = shut true (g refl)
    go false false true f g h = shut true (h refl)
    go false false false f g h = and-false (begins 39 t)

-- ---- a text that is written as a tax line begins with Cyrillic INN and a digit
digit_character : (x : ℕ) → digit x ≡ true → character false x ≡ x
unfolding character shared
digit_character x e = rw e

inn_characters : (character false 73 ≡ 200) × (character false 78 ≡ 205)
unfolding character grid marks is_in digit capital letter shared
inn_characters = (refl, refl)

digit_not : (x : ℕ) → digit x ≡ true → eqb x 39 ≡ false
unfolding digit
digit_not x e = ne_eqb x 39 (λ q. absurd (false≢true (rw q at e)))

inn_by : (x : ℕ) (d : List ℕ) (a : Answer) → digit x ≡ true → after 200 (after 205 (after 205 (after x a))) ≡ said d → is_cyrillic_inn d ≡ true
unfolding is_cyrillic_inn digit same
inn_by zero d a e r = absurd (false≢true e)
inn_by (suc x) d (stuck k) e r = absurd (not_said (suc (suc (suc (suc k)))) d r)
inn_by (suc x) d (said t) e r = let q : 200 ∷ 205 ∷ 205 ∷ suc x ∷ t ≡ d = cc in ap is_cyrillic_inn (sym q) ∙ e

inn_reads : (x : ℕ) (r d : List ℕ) → digit x ≡ true → reads false (73 ∷ 78 ∷ 78 ∷ x ∷ r) ≡ said d → is_cyrillic_inn d ≡ true
unfolding reads
inn_reads x r d e q = inn_by x d (reads false r) e (rw (inn_characters.0, inn_characters.1, digit_not x e, digit_character x e) at q)

tax_reads : (b d : List ℕ) → looks_tax b ≡ true → reads false b ≡ said d → is_cyrillic_inn d ≡ true
unfolding looks_tax digit same
tax_reads [] d e r = absurd (false≢true e)
tax_reads (x ∷ []) d e r = absurd (false≢true (right (starts (bytes "INN") (x ∷ [])) _ e))
tax_reads (x ∷ y ∷ []) d e r = absurd (false≢true (right (starts (bytes "INN") (x ∷ y ∷ [])) _ e))
tax_reads (x ∷ y ∷ z ∷ []) d e r = absurd (false≢true (right (starts (bytes "INN") (x ∷ y ∷ z ∷ [])) _ e))
tax_reads (x ∷ y ∷ z ∷ w ∷ b) d e r =
    let f = left (starts (bytes "INN") (x ∷ y ∷ z ∷ w ∷ b)) _ e in
    let g = right (eqb x 73) _ f in
    let h = right (eqb y 78) _ g in
    let p : x ≡ 73 = eqb-true x 73 (left (eqb x 73) _ f) in
    let q : y ≡ 78 = eqb-true y 78 (left (eqb y 78) _ g) in
    let u : z ≡ 78 = eqb-true z 78 (left (eqb z 78) _ h) in
    inn_reads w b d (right (starts (bytes "INN") (x ∷ y ∷ z ∷ w ∷ b)) _ e) (rw (p, q, u) at r)

pub spelt_tax : (d t : List ℕ) → writing true d ≡ said t → is_cyrillic_inn d ≡ false → looks_tax t ≡ false
spelt_tax d t e n = go (looks_tax t) refl
  where
    go : (b : Bool) → looks_tax t ≡ b → looks_tax t ≡ false
    go true h = absurd (true≢false (sym (tax_reads t d h (reads_back true d t e)) ∙ n))
    go false h = h
