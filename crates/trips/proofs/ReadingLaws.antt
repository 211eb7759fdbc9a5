-- What a name says that 14 lets pass: its text begins with / : or - exactly if the name does, and has no tab and no LF; and it can be
-- written (T3-T11, N14a-N14c, S7). Assumes nothing.
use Prim.Native.Nat.{ℕ}
use mathlib.Core.Path.{◌≡◌, refl, sym, ap, ◌∙◌}
use mathlib.Core.Bool.{Bool, true, false, ◌&&◌, ◌||◌, true≢false, false≢true}
use mathlib.Core.List.{List, [], ◌∷◌}
use lib.Dec.{eqb}
use borrow.Author.Tests.{eqb-true, eqb-false}
use Rattle.base.specs.Choice.{all}
use Rattle.base.specs.Bytes.{byte, begins, empty, is_in, xset}
use Rattle.base.specs.Calls.{Answer, said, stuck, text_of}
use Rattle.base.proofs.ByteLaws.{begins_byte}
use Rattle.alphabets.specs.Grid.{Kind, kind, spell, allowed, character}
use Rattle.alphabets.specs.Bank.{reads, reading}
use Rattle.alphabets.specs.Best.{writing}
use Rattle.alphabets.proofs.GridLaws.{write_read}
use Rattle.alphabets.proofs.Shortest.{Came, turned, signed, came}
use Rattle.alphabets.proofs.Theorems.{plain_iff}
use Rattle.alphabets.proofs.SaidLaws.{said_is, says_written}
use Rattle.contents.specs.Tests.{looks_tax}
use Rattle.roles.specs.Speech.{as_name, as_tax_name}
use Rattle.roles.specs.Rule14.{mute, hidden, is_cyrillic_inn, tax_like, clauses, breaks_14}
use Rattle.records.specs.Record.{plain_text}
use Rattle.trips.proofs.SaidLaws.{says_text}
use Rattle.written.proofs.SpeltLaws.{Mark, slash, colon, dash, mark_kind, mark_character, not_apostrophe, not_none}

-- ---- the first byte
-- a sign of the Russian side is one of the three marks exactly if its byte is
mark_same : (c x y : ℕ) → Mark c → allowed (kind y) false ≡ true → spell (kind y) false y ≡ x → eqb y c ≡ eqb x c
mark_same c x y m a e = go (eqb y c) (eqb x c) refl refl
  where
    spelt : y ≡ c → x ≡ c
    spelt q = sym e ∙ ap (λ (n : ℕ). spell (kind n) false n) q ∙ ap (λ (k : Kind). spell k false c) (mark_kind c m)

    as_mark : x ≡ c → y ≡ c
    as_mark q = sym (write_read false y a).reads_back ∙ ap (character false) (e ∙ q) ∙ mark_character c m

    go : (u v : Bool) → eqb y c ≡ u → eqb x c ≡ v → u ≡ v
    go true true p q = refl
    go true false p q = absurd (eqb-false x c q (spelt (eqb-true y c p)))
    go false true p q = absurd (eqb-false y c p (as_mark (eqb-true x c q)))
    go false false p q = refl

shown : (x : ℕ) (b d : List ℕ) → x ≡ 39 → hidden (x ∷ b) d ≡ false → is_in (byte d 0) (47 ∷ 58 ∷ 45 ∷ []) ≡ false
unfolding hidden
shown x b d e h = sym (ap (λ (n : ℕ). eqb n 39 && is_in (byte d 0) (47 ∷ 58 ∷ 45 ∷ [])) e) ∙ h

none_of : (c n : ℕ) → Mark c → is_in n (47 ∷ 58 ∷ 45 ∷ []) ≡ false → eqb n c ≡ false
unfolding is_in
none_of c n m h = go c m (eqb n 47) (eqb n 58) (eqb n 45) refl refl refl h
  where
    go : (c : ℕ) → Mark c → (p q r : Bool) → eqb n 47 ≡ p → eqb n 58 ≡ q → eqb n 45 ≡ r → (p || (q || (r || false))) ≡ false → eqb n c ≡ false
    go _ m true q r a b d h = absurd (true≢false h)
    go _ m false true r a b d h = absurd (true≢false h)
    go _ m false false true a b d h = absurd (true≢false h)
    go _ slash false false false a b d h = a
    go _ colon false false false a b d h = b
    go _ dash false false false a b d h = d

head_by : (c x : ℕ) (b d : List ℕ) → Mark c → Came false x b d → hidden (x ∷ b) d ≡ false → begins c d ≡ begins c (x ∷ b)
head_by c x b d m (turned e r) h =
    begins_byte c d (not_none c m) ∙ none_of c (byte d 0) m (shown x b d e h) ∙ sym (ap (λ (n : ℕ). eqb n c) e ∙ not_apostrophe c m)
head_by c x b d m (signed y t e nm a sp r) h = ap (begins c) e ∙ mark_same c x y m a sp

-- where no apostrophe hides it, a mark stands at the front of a reading exactly if it stands at the text's
pub head_read : (c : ℕ) (b d : List ℕ) → Mark c → reads false b ≡ said d → hidden b d ≡ false → begins c d ≡ begins c b
unfolding reads
head_read c [] d m r h = let e : d ≡ [] = cc in ap (begins c) e
head_read c (x ∷ b) d m r h = head_by c x b d m (came false x b d r) h

-- ---- a name that 14 lets pass, or one without the sign
abbrev pub read_as : Bool → List ℕ → List ℕ
read_as s l = text_of (reading s l)

pub record Clear (s : Bool) (l : List ℕ) : Type 0 where
  pub reads : reading s l ≡ said (read_as s l)
  pub means : empty (read_as s l) ≡ false
  pub heads : (c : ℕ) → Mark c → begins c (read_as s l) ≡ begins c l
  pub textual : plain_text (read_as s l) ≡ true

pub record ClearTax (s : Bool) (l : List ℕ) : Type 0 where
  pub as_name_lem : Clear s l
  pub untaxed : looks_tax l ≡ false
  pub untaxed_read : looks_tax (read_as s l) ≡ false
  pub no_inn : s ≡ true → is_cyrillic_inn (read_as s l) ≡ false

clear_by : (s : Bool) (l d : List ℕ) → reading s l ≡ said d → empty d ≡ false → ((c : ℕ) → Mark c → begins c d ≡ begins c l) → Clear s l
clear_by s l d r m h =
    let e : read_as s l ≡ d = ap text_of r in
    record {
      reads = r ∙ ap said (sym e);
      means = ap empty e ∙ m;
      heads = λ c k. ap (begins c) e ∙ h c k;
      textual = ap plain_text e ∙ says_text s l d r;
    }

pub plain_clear : (l : List ℕ) → all xset l ≡ true → empty l ≡ false → Clear false l
plain_clear l h e = clear_by false l l ((plain_iff l).1 h) e (λ c m. refl)

pub plain_tax : (l : List ℕ) → all xset l ≡ true → empty l ≡ false → looks_tax l ≡ false → ClearTax false l
plain_tax l h e t =
    record { as_name_lem = plain_clear l h e; untaxed = t; untaxed_read = ap looks_tax (ap text_of ((plain_iff l).1 h)) ∙ t; no_inn = λ q. absurd (false≢true q) }

signed_clear : (l d : List ℕ) → reads false l ≡ said d → empty d ≡ false → hidden l d ≡ false → Clear true l
signed_clear l d r m h = clear_by true l d r m (λ c k. head_read c l d k r h)

or_none : (a b : Bool) → (a || b) ≡ false → (a ≡ false) × (b ≡ false)
or_none true b e = absurd (true≢false e)
or_none false b e = (refl, e)

pub heard_clear : (l : List ℕ) → breaks_14 as_name l ≡ false → Clear true l
unfolding breaks_14
heard_clear l e = go (reading true l) refl e
  where
    go : (a : Answer) → reading true l ≡ a → clauses as_name (mute a) l (text_of a) ≡ false → Clear true l
    go (stuck k) r e = absurd (true≢false e)
    go (said d) r e = let f = or_none (empty d) (hidden l d) e in signed_clear l d r f.0 f.1

pub heard_tax : (l : List ℕ) → breaks_14 as_tax_name l ≡ false → looks_tax l ≡ false → ClearTax true l
unfolding breaks_14 tax_like
heard_tax l e t = go (reading true l) refl e
  where
    go : (a : Answer) → reading true l ≡ a → clauses as_tax_name (mute a) l (text_of a) ≡ false → ClearTax true l
    go (stuck k) r e = absurd (true≢false e)
    go (said d) r e =
        let f = or_none (empty d) (hidden l d || tax_like d) e in
        let g = or_none (hidden l d) (tax_like d) f.1 in
        let h = or_none (looks_tax d) (is_cyrillic_inn d) g.1 in
        record {
          as_name_lem = signed_clear l d r f.0 g.0;
          untaxed = t;
          untaxed_read = ap looks_tax (ap text_of r) ∙ h.0;
          no_inn = λ q. ap is_cyrillic_inn (ap text_of r) ∙ h.1;
        }

-- ---- it can be written
pub writes_again : (s : Bool) (l : List ℕ) → Clear s l → writing s (read_as s l) ≡ said (text_of (writing s (read_as s l)))
writes_again s l w = said_is (writing s (read_as s l)) (says_written s l (read_as s l) w.reads)
