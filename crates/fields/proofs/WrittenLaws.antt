-- A message that is written is not refused by 2; nor by 3 if its bytes are of the set; nor by 4 if its fields are proper. And there are no other
-- messages that these three let pass. Assumes nothing.
use Prim.Native.Nat.{ℕ}
use mathlib.Core.Path.{◌≡◌, refl, sym, ap, ◌∙◌}
use mathlib.Core.Bool.{Bool, true, false, not, false≢true}
use mathlib.Core.List.{List, [], ◌∷◌, ◌++◌, append_assoc}
use mathlib.Core.Logic.{◌↔◌}
use Rattle.base.specs.Choice.{all}
use Rattle.base.specs.Bytes.{xset, begins, empty, without}
use Rattle.base.specs.Verdicts.{Fine}
use Rattle.fields.specs.Field.{Field, field, opening, closing, with_cr_lf, lines_of, message, lines, fields}
use Rattle.fields.specs.Frame.{scan, line_bad, bad_line, rule_2, rule_3, rule_4}
use Rattle.fields.specs.Shapes.{shaped, follows, lineable, goes_on, proper}
use Rattle.fields.specs.Sentences.{Framed, Written, Good}
use Rattle.fields.specs.ByLines.{joined}
use Rattle.base.proofs.Bools.{left, right, both, isnt, all_front, all_behind, all_imp}
use Rattle.fields.proofs.LineLaws.{lines_crlf, set_no_cr, scan_crlf}
use Rattle.fields.proofs.TagLaws.{tagged_headed, shaped_no_colon, shaped_no_cr}
use Rattle.fields.proofs.FrameLaws.{rule_2_fine, of_good}
use Rattle.fields.proofs.FieldLaws.{Lineable, lineable_is, on_follows, body_message, fields_message, message_fields, fields_in, fields_proper}
use Rattle.fields.proofs.PlaceLaws.{crlf_joined}

-- ---- 2
crlf_framed : (ls : List (List ℕ)) → Framed (opening ++ (with_cr_lf ls ++ closing))
crlf_framed [] = record { rest = closing; starts = refl; front = 123 ∷ 52 ∷ 58 ∷ []; ends = refl }
crlf_framed (l ∷ ls) =
    record {
      rest = with_cr_lf (l ∷ ls) ++ closing;
      starts = refl;
      front = opening ++ joined (l ∷ ls);
      ends = ap (λ (x : List ℕ). opening ++ x) (ap (λ (x : List ℕ). x ++ closing) (crlf_joined l ls) ∙ append_assoc (joined (l ∷ ls)) (13 ∷ 10 ∷ []) closing);
    }

pub rule_2_message : (fs : List Field) → rule_2 (message fs) ≡ Fine
unfolding message
rule_2_message fs = (rule_2_fine (message fs)).1 (crlf_framed (lines_of fs))

-- ---- 3
pub rule_3_message : (fs : List Field) → all (all xset) (lines_of fs) ≡ true → rule_3 (message fs) ≡ Fine
unfolding rule_3
rule_3_message fs e = ap (scan false 5) (body_message fs) ∙ scan_crlf 5 (lines_of fs) e

-- ---- 4
line_on : (l : List ℕ) → goes_on l ≡ true → line_bad false l ≡ false
unfolding line_bad
line_on l e =
    let f = right (not (empty l)) _ e in
    rw (isnt (empty l) (left (not (empty l)) _ e), isnt (begins 45 l) (left (not (begins 45 l)) (follows l) f), isnt (begins 58 l) (right (not (begins 45 l)) (follows l) f))

line_opens : (is_first : Bool) (t l : List ℕ) → shaped t ≡ true → line_bad is_first (58 ∷ (t ++ 58 ∷ l)) ≡ false
unfolding line_bad
line_opens f t l e = ap not (tagged_headed t l e)

good_on : (ls ks : List (List ℕ)) → all goes_on ls ≡ true → Good false ks → Good false (ls ++ ks)
good_on [] ks e g = g
good_on (l ∷ ls) ks e g = (line_on l (left (goes_on l) (all goes_on ls) e), good_on ls ks (right (goes_on l) (all goes_on ls) e) g)

pub good_fields : (is_first : Bool) (fs : List Field) → all proper fs ≡ true → Good is_first (lines_of fs)
good_fields f [] e = tt
good_fields f (field t [] ∷ fs) e = absurd (false≢true e)
good_fields f (field t (l ∷ ls) ∷ fs) e =
    let p = left (proper (field t (l ∷ ls))) (all proper fs) e in
    (line_opens f t l (left (shaped t) (all goes_on ls) p), good_on ls (lines_of fs) (right (shaped t) (all goes_on ls) p) (good_fields false fs (right (proper (field t (l ∷ ls))) (all proper fs) e)))

pub rule_4_message : (fs : List Field) → all (all xset) (lines_of fs) ≡ true → all proper fs ≡ true → rule_4 (message fs) ≡ Fine
unfolding rule_4
rule_4_message fs x e =
    ap (λ (b : List ℕ). bad_line true 5 (lines b)) (body_message fs)
    ∙ ap (bad_line true 5) (lines_crlf (lines_of fs) (all_imp (all xset) (without 13) set_no_cr (lines_of fs) x))
    ∙ of_good true 5 (lines_of fs) (good_fields true fs e)

-- ---- proper fields over the set are read again
pub proper_lineable : (fs : List Field) → all (all xset) (lines_of fs) ≡ true → all proper fs ≡ true → all lineable fs ≡ true
proper_lineable [] x e = refl
proper_lineable (field t [] ∷ fs) x e = absurd (false≢true e)
proper_lineable (field t (l ∷ ls) ∷ fs) x e =
    let p = left (proper (field t (l ∷ ls))) (all proper fs) e in
    let s = left (shaped t) (all goes_on ls) p in
    let y = right (all xset (58 ∷ (t ++ 58 ∷ l))) _ x in
    let u = all_behind xset (58 ∷ t) (58 ∷ l) (left (all xset (58 ∷ (t ++ 58 ∷ l))) _ x) in
    let w : Lineable t l ls =
    record {
      tag = shaped_no_colon t s;
      tag_cr = shaped_no_cr t s;
      line_cr = set_no_cr l (right (xset 58) (all xset l) u);
      lines_cr = all_imp (all xset) (without 13) set_no_cr ls (all_front (all xset) ls (lines_of fs) y);
      later = all_imp goes_on follows (λ k q. ap not (on_follows k q)) ls (right (shaped t) (all goes_on ls) p);
    } in
    both (lineable_is w) (proper_lineable fs (all_behind (all xset) ls (lines_of fs) y) (right (proper (field t (l ∷ ls))) (all proper fs) e))

-- 2, 3 and 4 let pass exactly what is written of proper fields over the set
pub written_iff : (m : List ℕ) → ((rule_2 m ≡ Fine) × (rule_3 m ≡ Fine) × (rule_4 m ≡ Fine)) ↔ Written m
written_iff m = (to, from)
  where
    to : (rule_2 m ≡ Fine) × (rule_3 m ≡ Fine) × (rule_4 m ≡ Fine) → Written m
    to h =
        record {
          parts = fields m;
          is = sym (message_fields m h.0 h.1 h.2);
          inside = fields_in m h.0 h.1 h.2;
          properly = fields_proper m h.2;
        }

    from : Written m → (rule_2 m ≡ Fine) × (rule_3 m ≡ Fine) × (rule_4 m ≡ Fine)
    from w =
        let b = w.is in
        (ap rule_2 b ∙ rule_2_message w.parts, ap rule_3 b ∙ rule_3_message w.parts w.inside, ap rule_4 b ∙ rule_4_message w.parts w.inside w.properly)

-- in one way only
pub written_fields : {m : List ℕ} (w : Written m) → fields m ≡ w.parts
written_fields w = ap fields w.is ∙ fields_message w.parts (proper_lineable w.parts w.inside w.properly)
