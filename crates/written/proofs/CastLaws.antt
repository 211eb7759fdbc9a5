-- The lines written for a record are cast as its parts are, so that a name stays a name; and details are read over their lines (S6, S7, T7,
-- T12, Cdetails, C72). Assumes nothing.
use Prim.Native.Nat.{ℕ, ◌+◌}
use mathlib.Core.Path.{◌≡◌, refl, sym, ap, ap₂, ◌∙◌}
use mathlib.Core.Bool.{Bool, true, false, false≢true}
use mathlib.Core.List.{List, [], ◌∷◌, ◌++◌, map}
use native.Mathlib.Omega.{arith}
use lib.Dec.{eqb}
use lib.ListN.{length, drop, length-append}
use lib.Seq.{drop-append_seam, drop-append-le, drop-append-add}
use borrow.Author.Tests.{eqb-true}
use Rattle.base.specs.Choice.{pick, all}
use Rattle.base.specs.Bytes.{empty, same}
use Rattle.base.specs.Quoted.{bytes}
use Rattle.base.specs.Calls.{text_of}
use Rattle.base.proofs.Bools.{left, right, isnt}
use Rattle.alphabets.specs.Best.{writing}
use Rattle.alphabets.proofs.SaidLaws.{said_is}
use Rattle.contents.specs.Tests.{looks_tax}
use Rattle.roles.specs.Role.{Part, copy, name, tax_name, cast}
use Rattle.roles.specs.Speech as speech
use Rattle.roles.specs.Speech.{speech, as_details, details_start, code_size, nzp_size, later_size}
use Rattle.roles.specs.declared.Shape.{Shape}
use Rattle.roles.proofs.CastLaws as roles
use Rattle.roles.proofs.CastLaws.{Lines, cast_turned}
use Rattle.records.specs.Rule19.{is_digits}
use Rattle.records.specs.Sentences.{RightParts}
use Rattle.records.proofs.SoundLaws.{calm, cast_calm}
use Rattle.details.specs.Lines.{together}
use Rattle.details.specs.Layouts.{layout, lines_for}
use Rattle.details.specs.declared.DetailsField.{DetailsField}
use Rattle.details.specs.declared.DetailsField.TheVariants.{In70, In72, BehindRpp}
use Rattle.details.specs.Front.{code, rpp_line}
use Rattle.details.proofs.LaidLaws.{Laid}
use Rattle.writer.specs.Spread.{line_for, rpp_lines}
use Rattle.written.proofs.SpeltLaws.{plain_same, slash, spelt_head, spelt_tax}
use Rattle.written.proofs.ReadyLaws.{speaks, lone_rpp}

-- ---- names
-- what is written for a name, and what a part is written as
abbrev pub spelt : Bool → List ℕ → List ℕ
spelt s p = text_of (writing s p)

abbrev pub turned : Bool → Part → Part
turned s = roles.turned (spelt s)

-- a name keeps what decides on its part: a / in front, and that it is no tax line
abbrev pub Steady : Bool → Part → Type 0
Steady s = roles.Steady (spelt s)

abbrev pub AllSteady : Bool → List Part → Type 0
AllSteady s = roles.AllSteady (spelt s)

-- a name in the tax place is no tax line
abbrev pub untaxed : Part → Bool
untaxed = roles.untaxed

pub cast_untaxed : (sh : Shape) (ps : List (List ℕ)) → all untaxed (cast sh ps) ≡ true
cast_untaxed = roles.cast_untaxed

no_tax : (s : Bool) (p : List ℕ) → speaks s (tax_name p) ≡ true → looks_tax p ≡ false → (s ≡ true → calm (tax_name p) ≡ true) → looks_tax (text_of (writing s p)) ≡ false
no_tax true p e t n = spelt_tax p (text_of (writing true p)) (said_is (writing true p) e) (isnt _ (n refl))
no_tax false p e t n = ap looks_tax (plain_same p (text_of (writing false p)) (said_is (writing false p) e)) ∙ t

module _ (s : Bool) where
  steady_one : (x : Part) → speaks s x ≡ true → untaxed x ≡ true → (s ≡ true → calm x ≡ true) → Steady s x
  steady_one (copy p) e t n = tt
  steady_one (name p) e t n = spelt_head s 47 p (text_of (writing s p)) slash (said_is (writing s p) e)
  steady_one (tax_name p) e t n = (spelt_head s 47 p (text_of (writing s p)) slash (said_is (writing s p) e), no_tax s p e (isnt (looks_tax p) t) n)

  all_steady : (xs : List Part) → all (speaks s) xs ≡ true → all untaxed xs ≡ true → (s ≡ true → all calm xs ≡ true) → AllSteady s xs
  all_steady [] e t n = tt
  all_steady (x ∷ xs) e t n = (
    steady_one x (left (speaks s x) _ e) (left (untaxed x) _ t) (λ q. left (calm x) _ (n q)),
    all_steady xs (right (speaks s x) _ e) (right (untaxed x) _ t) (λ q. right (calm x) _ (n q)),
  )

  -- ---- cast again
  spelt_lines : Lines (spelt s) (line_for s)
  spelt_lines = record { copied = λ p. refl; named = λ p. refl; tax_placed = λ p. refl }

calm_if : (s : Bool) (sh : Shape) (ps : List (List ℕ)) → RightParts s sh ps → s ≡ true → all calm (cast sh ps) ≡ true
calm_if true sh ps r q = cast_calm sh ps r
calm_if false sh ps r q = absurd (false≢true q)

-- the lines of a right record are cast as its parts
pub cast_again : (s : Bool) (sh : Shape) (ps : List (List ℕ)) → RightParts s sh ps → all (speaks s) (cast sh ps) ≡ true
    → cast sh (map (line_for s) (cast sh ps)) ≡ map (turned s) (cast sh ps)
cast_again s sh ps r e = cast_turned (spelt s) (line_for s) (spelt_lines s) sh ps (all_steady s (cast sh ps) e (cast_untaxed sh ps) (calm_if s sh ps r))

-- ---- details
pub code_size_lem : (s : Bool) (vo : List ℕ) → is_digits 5 vo ≡ true → length (code s vo) ≡ code_size s
unfolding is_digits
code_size_lem true vo d =
    let n : length vo ≡ 5 = eqb-true (length vo) 5 (left (eqb (length vo) 5) _ d) in
    omega (arith, length-append vo (bytes ")'"))
code_size_lem false vo d =
    let n : length vo ≡ 5 = eqb-true (length vo) 5 (left (eqb (length vo) 5) _ d) in
    omega (arith, length-append vo (bytes ")"))

pub behind_code : (s : Bool) (vo w : List ℕ) → is_digits 5 vo ≡ true → drop (code_size s) (code s vo ++ w) ≡ w
behind_code s vo w d = ap (λ (n : ℕ). drop n (code s vo ++ w)) (sym (code_size_lem s vo d)) ∙ drop-append_seam (code s vo) w

pub unmarked : (m : List ℕ) (ls : List (List ℕ)) → speech.later_text (length m) (map (λ (k : List ℕ). m ++ k) ls) ≡ together ls
unfolding speech.later_text
unmarked m [] = refl
unmarked m (l ∷ ls) = ap₂ (λ (a b : List ℕ). a ++ b) (drop-append_seam m l) (unmarked m ls)

mark_dropped : (n : ℕ) (l : List ℕ) → drop (nzp_size + n) (bytes "/NZP/" ++ l) ≡ drop n l
mark_dropped n l = drop-append-add (bytes "/NZP/") l n

-- the bytes before a text's first: the mark and the front
abbrev pub front_of : DetailsField → ℕ → ℕ
front_of In70 n = n
front_of In72 n = nzp_size + n
front_of BehindRpp n = nzp_size + n

abbrev pub next_of : DetailsField → ℕ
next_of In70 = 0
next_of In72 = later_size
next_of BehindRpp = later_size

front_dropped : (p : DetailsField) (n : ℕ) (l : List ℕ) → drop (front_of p n) ((layout p).mark ++ l) ≡ drop n l
front_dropped In70 n l = refl
front_dropped In72 n l = mark_dropped n l
front_dropped BehindRpp n l = mark_dropped n l

next_dropped : (p : DetailsField) (ls : List (List ℕ)) → speech.later_text (next_of p) (map (λ (k : List ℕ). (layout p).next ++ k) ls) ≡ together ls
next_dropped In70 ls = unmarked (layout In70).next ls
next_dropped In72 ls = unmarked (layout In72).next ls
next_dropped BehindRpp ls = unmarked (layout BehindRpp).next ls

-- over the lines, behind the marks and the front, stands the text
pub details_again : (p : DetailsField) (front w : List ℕ) (o : ℕ) → Laid p (length front) (front ++ w)
    → (at : ℕ) × (speech.details_speech (front_of p (length front)) (next_of p) o (lines_for p (length front) (front ++ w)) ≡ speech as_details at w ∷ [])
unfolding speech.details_speech
details_again p front w o h =
    let n : ℕ = length front in
    let l : List ℕ = (layout p).mark ++ h.front in
    let text : drop (front_of p n) l ++ speech.later_text (next_of p) (map (λ (k : List ℕ). (layout p).next ++ k) h.behind) ≡ w =
    ap₂ (λ (a b : List ℕ). a ++ b) (front_dropped p n h.front) (next_dropped p h.behind)
    ∙ sym (drop-append-le n h.front (together h.behind) h.code) ∙ ap (drop n) h.joins ∙ drop-append_seam front w in
    (details_start (front_of p n) (next_of p) o l, ap (speech.details_speech (front_of p n) (next_of p) o) h.is ∙ ap (λ (b : List ℕ). speech as_details (details_start (front_of p n) (next_of p) o l) b ∷ []) text)

-- ---- 72: /NZP/ is no RPP line, /RPP/ is one
note_first : (n o least : ℕ) (text : List ℕ) → Laid In72 least text → speech.note_speeches n o (lines_for In72 least text) ≡ speech.details_speech n later_size o (lines_for In72 least text)
unfolding speech.note_speeches same
note_first n o least text h = ap (speech.note_speeches n o) h.is ∙ ap (speech.details_speech n later_size o) (sym h.is)

note_behind : (n o : ℕ) (r : List ℕ) (ls : List (List ℕ)) → speech.note_speeches n o (rpp_line r ∷ ls) ≡ speech.details_speech n later_size (o + length (rpp_line r) + 2) ls
unfolding speech.note_speeches same
note_behind n o r ls = refl

pub note_again : (b : Bool) (r front w : List ℕ) (o : ℕ) → Laid (pick b In72 BehindRpp) (length front) (front ++ w)
    → (at : ℕ) × (speech.note_speeches (nzp_size + length front) o (pick b [] (rpp_line r ∷ []) ++ lines_for (pick b In72 BehindRpp) (length front) (front ++ w)) ≡ speech as_details at w ∷ [])
note_again true r front w o h =
    let d = details_again In72 front w o h in
    (d.0, note_first (nzp_size + length front) o (length front) (front ++ w) h ∙ d.1)
note_again false r front w o h =
    let d = details_again BehindRpp front w (o + length (rpp_line r) + 2) h in
    (d.0, note_behind (nzp_size + length front) o r (lines_for BehindRpp (length front) (front ++ w)) ∙ d.1)

-- an RPP line alone holds no text
pub rpp_silent : (n o : ℕ) (r : List ℕ) → empty r ≡ false → speech.note_speeches n o (rpp_lines r ++ []) ≡ []
unfolding speech.note_speeches speech.details_speech same
rpp_silent n o r e = ap (speech.note_speeches n o) (lone_rpp r e)
