-- The texts of a right 72 of a 103: an RPP line has none; the rest of the details is one, over its lines, and begins behind /NZP/ (C72, T7, N14).
-- Assumes nothing.
use Prim.Native.Nat.{ℕ, ◌+◌}
use mathlib.Core.Path.{◌≡◌, sym, ap, ◌∙◌}
use mathlib.Core.Bool.{Bool, true}
use mathlib.Core.List.{List, [], ◌∷◌, ◌++◌, map, append-nil}
use native.Mathlib.Omega.{arith}
use borrow.Author.Tests.{lt-ltb}
use lib.ListN.{length, length-append}
use Rattle.base.specs.Choice.{pick}
use Rattle.base.specs.Bytes.{same}
use Rattle.base.specs.Quoted.{bytes}
use Rattle.contents.specs.Words.{Text, Line, join}
use Rattle.contents.specs.Fields.{IsRpp, One, Rest}
use Rattle.contents.specs.Parts.{opens_rpp}
use Rattle.contents.proofs.RppLaws.{rpp_behind}
use Rattle.roles.specs.Speech.{as_details, speech, later_text, details_speech, nzp_size, later_size, note_speeches, speeches}
use Rattle.roles.specs.declared.Shape.TheVariants.{Note103}

later_join : (t : Text) (ts : List Text) → t ++ later_text later_size (map (λ (s : Text). bytes "//" ++ s) ts) ≡ join (t ∷ ts)
unfolding later_text
later_join t [] = append-nil t
later_join t (u ∷ ts) = ap (λ (k : Text). t ++ k) (later_join u ts)

rest_speech : (o : ℕ) {most : ℕ} {t : Text} {ts : List Text} {ls : List Line} → Rest most t ts ls → details_speech nzp_size later_size o ls ≡ speech as_details (o + nzp_size) (join (t ∷ ts)) ∷ []
unfolding details_speech
rest_speech o {t = t} {ts = ts} r =
    let z = r.front in
    let n = length-append (bytes "/NZP/") t in
    ap (details_speech nzp_size later_size o) r.lines
    ∙ ap (λ (b : Bool). speech as_details (pick b (o + nzp_size) (o + (length (bytes "/NZP/" ++ t) + 2 + later_size))) (t ++ later_text later_size (map (λ (s : Text). bytes "//" ++ s) ts)) ∷ []) (lt-ltb nzp_size (length (bytes "/NZP/" ++ t)) (omega (arith, z.least)))
    ∙ ap (λ (k : Text). speech as_details (o + nzp_size) k ∷ []) (later_join t ts)

opens : (l : Line) → IsRpp l → opens_rpp l ≡ true
unfolding same
opens l r = ap opens_rpp (rpp_behind l r).1

-- behind an RPP line
past_rpp_lem : (front o : ℕ) (l : Line) (ls : List Line) → IsRpp l → note_speeches front o (l ∷ ls) ≡ details_speech front later_size (o + length l + 2) ls
unfolding note_speeches
past_rpp_lem front o l ls r = ap (λ (b : Bool). pick b (details_speech front later_size (o + length l + 2) ls) (details_speech front later_size o (l ∷ ls))) (opens l r)

module _ (s : Bool) (o : ℕ) where
  pub rpp_speeches : (ls : List Line) → One IsRpp ls → speeches s Note103 o ls ≡ []
  unfolding speeches details_speech
  rpp_speeches [] r = absurd r
  rpp_speeches (l ∷ []) r = past_rpp_lem nzp_size o l [] r
  rpp_speeches (l ∷ k ∷ ls) r = absurd r

  pub rest_speeches : {most : ℕ} {t : Text} {ts : List Text} {ls : List Line} → Rest most t ts ls → speeches s Note103 o ls ≡ speech as_details (o + nzp_size) (join (t ∷ ts)) ∷ []
  unfolding speeches note_speeches same
  rest_speeches r = ap (note_speeches nzp_size o) r.lines ∙ ap (details_speech nzp_size later_size o) (sym r.lines) ∙ rest_speech o r

  pub both_speeches : {most : ℕ} {t : Text} {ts : List Text} (l : Line) {ls : List Line} → IsRpp l → Rest most t ts ls → speeches s Note103 o (l ∷ ls) ≡ speech as_details (o + length l + 2 + nzp_size) (join (t ∷ ts)) ∷ []
  unfolding speeches
  both_speeches l {ls} p r = past_rpp_lem nzp_size o l ls p ∙ rest_speech (o + length l + 2) r
