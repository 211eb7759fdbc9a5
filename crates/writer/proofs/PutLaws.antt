-- Records as fields, one behind another, and the whole message. Assumes nothing.
use Prim.Native.Nat.{ℕ, ◌+◌, ◌-◌, ◌≤◌, ◌<◌}
use mathlib.Core.Path.{◌≡◌, refl, sym, ap, ap₂, subst, ◌∙◌}
use mathlib.Core.Bool.{Bool, true, false, not, ◌&&◌, ◌||◌, true≢false}
use mathlib.Core.List.{List, [], ◌∷◌, ◌++◌, map, append_assoc}
use native.Mathlib.Omega.{arith}
use native.Mathlib.Decide.{dec_lt}
use types.Run.{OneOf}
use denote.Enum.Declared.{tag_of}
use Rattle.writer.specs.Comes.{Step, Stuck}
use Rattle.std.specs.Prelude.{Err}
use Rattle.types.specs.declared.Form.{Form}
use Rattle.roles.specs.contracts.Shape.{the_type}
use Rattle.roles.proofs.PartLaws.{each_lined}
use lib.ListN.{length, take, drop, length-append}
use Rattle.base.specs.Choice.{pick}
use Rattle.base.specs.Bytes.{begins, empty, count_up_to}
use Rattle.base.specs.Rules.{then}
use Rattle.base.specs.Calls.{Answer, said, stuck, Puts}
use Rattle.base.specs.Verdicts.{Verdict, Fine, Broken}
use Rattle.base.proofs.Bools.{left, right, isnt}
use Rattle.base.proofs.RuleLaws.{fine_broken, then_fine}
use Rattle.alphabets.specs.Bank.{plainly}
use Rattle.fields.specs.Field.{field, with_cr_lf, lined, lines_of}
use Rattle.fields.specs.Shapes.{shaped, pack, unpack}
use Rattle.fields.proofs.PackLaws.{unpack_pack}
use Rattle.fields.proofs.PlaceLaws.{crlf_append}
use Rattle.contents.specs.Tests.{looks_tax}
use Rattle.roles.specs.Role.{Part, copy, name, tax_name, taxed, cast, shape_of, line_of}
use Rattle.roles.specs.declared.Shape.{Shape}
use Rattle.roles.specs.declared.Shape.TheVariants.{Details, Note103, Note202}
use Rattle.records.specs.Record.{Record, line, record_of}
use Rattle.records.specs.Places.{next_record}
use Rattle.records.specs.Found.{pieces_at, tag_number, bad_sheet_line}
use Rattle.records.specs.Rule19.{sole, detailed, rpp_and_detailed, sound, good}
use Rattle.records.specs.Sentences.{RightParts, plain, agent, payer, payee, details, note_103, note_202}
use Rattle.records.proofs.PieceLaws.{end_within, piece_length}
use Rattle.records.proofs.PlaceLaws.{front_at, front_end}
use Rattle.records.proofs.FoundLaws.{record_at, tag_size}
use Rattle.records.proofs.SheetLaws.{line_record}
use Rattle.records.proofs.RuleLaws.{sound_right}
use Rattle.records.proofs.WalkLaws.{bad_last, bad_hit, bad_miss}
use Rattle.details.specs.Lines.{Division, lines}
use Rattle.details.specs.Breaking.{Fit}
use Rattle.details.specs.Layouts.{layout, lines_for, divided, marked, size_for, is_unfit}
use Rattle.details.specs.Layouts as layouts
use Rattle.details.specs.declared.DetailsField.{DetailsField}
use Rattle.details.specs.declared.DetailsField.TheVariants.{In70}
use Rattle.std.specs.declared.option.Option.{Option}
use Rattle.std.specs.declared.option.Option.TheVariants as option
use Rattle.details.proofs.DivisionTheorems.{fitted}
use Rattle.details.specs.Front.{code, rpp_line, note_field}
use Rattle.runon.specs.Run.{bank_of, fits_in}
use Rattle.writer.specs.Spread.{said_part, cast_parts, line_for, laid_lines, details_lines, rpp_lines, note_lines, content_lines, field_for, spread}
use Rattle.writer.specs.Sheet.{stopped_at, unsaid, rule_15, crowded_details, crowded_note, crowded, some_crowded}
use Rattle.roles.specs.Parts.{cast_by, first_role}
use Rattle.roles.specs.declared.Role.{Role}
use Rattle.writer.specs.Steps.{Adds, AddsDetails, record_stops, record_crowded, records_at}
use Rattle.writer.proofs.StepLaws.{adds_by, adds_alike, adds_stuck, adds_front, Goes, adds_join, moved_by, came_stuck}
use Rattle.writer.proofs.PurposeLaws.{twice_not, some_within, sole_part}

-- ---- the content of a record, by the shape of its tag
abbrev ContentIn : Bool → ℕ → List (List ℕ) → List ℕ → List ℕ → ℕ → Step → Shape → Type 0
ContentIn s o ps out after at r sh = Adds (unsaid s o (cast_parts sh ps)) (crowded s sh ps) (with_cr_lf (content_lines s sh ps)) out at r after

abbrev ByRole : Bool → ℕ → List (List ℕ) → List ℕ → List ℕ → ℕ → Step → Role → Type 0
ByRole s o ps out after at r role = Adds (unsaid s o (cast_by role ps)) false (with_cr_lf (map (line_for s) (cast_by role ps))) out at r after

module _ (s : Bool) (o : ℕ) (ps : List (List ℕ)) {out after : List ℕ} {at : ℕ} {r : Step} where
  -- parts that are all lines
  pub content_parts_lem : (sh : Shape) {role : Role} → OneOf (0 ∷ 1 ∷ 2 ∷ 3 ∷ []) (tag_of the_type sh) → role ≡ first_role sh → ByRole s o ps out after at r role → ContentIn s o ps out after at r sh
  unfolding cast crowded content_lines
  content_parts_lem sh h e a =
      each_lined (λ x. ByRole s o ps out after at r (first_role x) → ContentIn s o ps out after at r x) (λ z. z) (λ z. z) (λ z. z) (λ z. z) sh h (subst (ByRole s o ps out after at r) e a)

  pub content_details : {sh : Shape} → sh ≡ Details → AddsDetails s In70 o ps out at r after → ContentIn s o ps out after at r sh
  unfolding crowded content_lines
  content_details e a = subst (ContentIn s o ps out after at r) (sym e) a

  pub content_note : {sh : Shape} → sh ≡ Note202 → Adds (unsaid s o (cast_parts Note202 ps)) (crowded_note (crowded_details s) ps) (with_cr_lf (note_lines (details_lines s) ps)) out at r after → ContentIn s o ps out after at r sh
  unfolding crowded content_lines
  content_note e a = subst (ContentIn s o ps out after at r) (sym e) a

pub content_rpp : (s : Bool) (l : List ℕ) (o : ℕ) {out after : List ℕ} {at : ℕ} {r : Step} {sh : Shape} → sh ≡ Note103 → o ≤ length l → sound s sh (pieces_at 9 l o) ≡ true
    → Adds (stopped_at o (plainly (take (length l - o) (drop o l)))) false (with_cr_lf (rpp_line (take (length l - o) (drop o l)) ∷ [])) out at r after
    → Adds (unsaid s o (cast_parts sh (pieces_at 9 l o))) (crowded s sh (pieces_at 9 l o)) (with_cr_lf (content_lines s sh (pieces_at 9 l o))) out at r after
unfolding sound crowded content_lines unsaid
content_rpp s l o {out} {after} {at} {r} {sh} e h g a =
    let w : sole (pieces_at 9 l o) ≡ true = sym (ap (λ (x : Shape). sound s x (pieces_at 9 l o)) e) ∙ g in
    let p : pieces_at 9 l o ≡ rpp ∷ [] = sole_part l o h w in
    let f : empty rpp ≡ false = isnt (empty rpp) (sym (ap sole p) ∙ w) in
    subst (λ (x : Shape). Adds (unsaid s o (cast_parts x (pieces_at 9 l o))) (crowded s x (pieces_at 9 l o)) (with_cr_lf (content_lines s x (pieces_at 9 l o))) out at r after) (sym e)
    (subst (λ (ps : List (List ℕ)). Adds (unsaid s o (cast_parts Note103 ps)) (crowded s Note103 ps) (with_cr_lf (content_lines s Note103 ps)) out at r after) (sym p)
    (adds_by (sym (then_fine (stopped_at o (plainly rpp)))) (ap (λ (b : Bool). with_cr_lf (pick b [] (rpp_line rpp ∷ []) ++ [])) (sym f)) a))
  where
    rpp : List ℕ
    rpp = take (length l - o) (drop o l)

pub sole_within : (s : Bool) (l : List ℕ) (i : ℕ) {sh : Shape} → sh ≡ Note103 → sound s sh (pieces_at 9 l i) ≡ true → i ≤ length l
unfolding sound
sole_within s l i e g = some_within sole l i refl (sym (ap (λ (x : Shape). sound s x (pieces_at 9 l i)) e) ∙ g)

sound_as : (s : Bool) (ps : List (List ℕ)) {sh : Shape} (to : Shape) → sh ≡ to → sound s sh ps ≡ true → sound s to ps ≡ true
sound_as s ps to e g = sym (ap (λ (x : Shape). sound s x ps) e) ∙ g

pub sound_details : (s : Bool) (ps : List (List ℕ)) {sh : Shape} → sh ≡ Details → sound s sh ps ≡ true → detailed ps ≡ true
unfolding sound
sound_details s ps e g = sound_as s ps Details e g

pub sound_note : (s : Bool) (ps : List (List ℕ)) {sh : Shape} → sh ≡ Note202 → sound s sh ps ≡ true → rpp_and_detailed ps ≡ true
unfolding sound
sound_note s ps e g = sound_as s ps Note202 e g

-- ---- a right record has a line
pub record HasLine (ls : List (List ℕ)) : Type 0 where
  pub one : List ℕ
  pub more : List (List ℕ)
  pub is : ls ≡ one ∷ more

pub some_behind : (ks ls : List (List ℕ)) → HasLine ls → HasLine (ks ++ ls)
some_behind [] ls h = h
some_behind (k ∷ ks) ls h = record { one = k; more = ks ++ ls; is = refl }

some_details : (p : DetailsField) (least : ℕ) (text : List ℕ) → is_unfit (size_for p least text) ≡ false → HasLine (lines_for p least text)
unfolding lines_for
some_details p least text e = go (size_for p least text) refl e
  where
    by : {ok : ℕ → Bool} {ws : List ℕ} {ls : List (List ℕ)} → Division ok least text ws ls → HasLine (marked (layout p) ls)
    by (lines {l = l} {ls = ls} a b h m e) = record { one = (layout p).mark ++ l; more = map (λ (k : List ℕ). (layout p).next ++ k) ls; is = refl }

    go : (z : Option ℕ) → size_for p least text ≡ z → is_unfit z ≡ false → HasLine (marked (layout p) (layouts.fit_lines (divided (layout p) least text)))
    go option.None f g = absurd (true≢false g)
    go (option.Some n) f g = let w = fitted p least text n f in subst (λ (a : Fit (List (List ℕ))). HasLine (marked (layout p) (layouts.fit_lines a))) (sym w.is) (by w.division)

pub some_laid : (s : Bool) (p : DetailsField) (front text : List ℕ) → not (fits_in s p front text) ≡ false → HasLine (laid_lines s p front text)
some_laid s p front text c = some_details p (length front) (front ++ bank_of s text) (sym (twice_not (is_unfit (size_for p (length front) (front ++ bank_of s text)))) ∙ c)

content_some : (s : Bool) (sh : Shape) (ps : List (List ℕ)) → RightParts s sh ps → crowded s sh ps ≡ false → HasLine (content_lines s sh ps)
unfolding crowded content_lines cast
content_some s _ _ (plain p ps e g) c = record { one = p; more = map (line_for s) (map copy ps); is = refl }
content_some s _ _ (agent p ps e g) c = record { one = p; more = map (line_for s) (map name ps); is = refl }
content_some s _ _ (payer p ps e g f) c = go (begins 47 p)
  where
    go : (b : Bool) → HasLine (map (line_for s) (pick b (copy p ∷ taxed ps) (taxed (p ∷ ps))))
    go true = record { one = p; more = map (line_for s) (taxed ps); is = refl }
    go false = record { one = line_for s (pick (looks_tax p) (copy p) (tax_name p)); more = map (line_for s) (map name ps); is = refl }
content_some s _ _ (payee p ps e g f) c = record { one = line_for s (pick (begins 47 p) (copy p) (name p)); more = map (line_for s) (taxed ps); is = refl }
content_some s _ _ (details vo text e g) c = some_laid s In70 (code s vo) text c
content_some s _ _ (note_103 rpp e) c = record { one = rpp_line rpp; more = []; is = ap (λ (b : Bool). pick b [] (rpp_line rpp ∷ []) ++ []) e }
content_some s _ _ (note_202 rpp vo text e g) c =
    some_behind (rpp_lines rpp) (laid_lines s (note_field rpp) (code s vo) text) (some_laid s (note_field rpp) (code s vo) text c)

-- the field's tag before its lines
pub lined_some : (t : List ℕ) (ls : List (List ℕ)) → HasLine ls → (58 ∷ t ++ 58 ∷ []) ++ with_cr_lf ls ≡ with_cr_lf (lined (field t ls))
lined_some t ls h = subst (λ (ks : List (List ℕ)). (58 ∷ t ++ 58 ∷ []) ++ with_cr_lf ks ≡ with_cr_lf (lined (field t ks))) (sym h.is) (go h.one h.more)
  where
    go : (x : List ℕ) (xs : List (List ℕ)) → (58 ∷ t ++ 58 ∷ []) ++ (x ++ 13 ∷ 10 ∷ with_cr_lf xs) ≡ (58 ∷ t ++ 58 ∷ x) ++ 13 ∷ 10 ∷ with_cr_lf xs
    go x xs = ap (λ (y : List ℕ). 58 ∷ y) (append_assoc t (58 ∷ []) (x ++ 13 ∷ 10 ∷ with_cr_lf xs) ∙ sym (append_assoc t (58 ∷ x) (13 ∷ 10 ∷ with_cr_lf xs)))

-- the place behind a tag
pub tag_behind : (t : List ℕ) {out after : List ℕ} {at r : ℕ} → Puts (58 ∷ t ++ 58 ∷ []) out at r after → r ≡ at + length t + 2
tag_behind t p = omega (arith, p.answers, length-append t (58 ∷ []))

-- ---- a record by the end of its tag
module _ (form : Form) (s : Bool) (l : List ℕ) (t : ℕ) (q : t ≡ 0 + count_up_to 9 (drop 0 l)) (g : good form s (record_of l) ≡ true) where
  abbrev ps : List (List ℕ)
  ps = pieces_at 9 l (t + 1)

  abbrev tag : List ℕ
  tag = take t l

  good_at : (shaped tag && sound s (shape_of form tag) ps) ≡ true
  good_at = sym (ap (good form s) (record_at l t q)) ∙ g

  pub shape_is : {sh : Shape} {n : ℕ} → n ≡ tag_number tag → sh ≡ shape_of form (unpack n) → sh ≡ shape_of form tag
  unfolding tag_number
  shape_is {sh} {n} k e =
      let h : shaped tag ≡ true = left (shaped tag) _ good_at in
      let z : n ≡ pack tag = k ∙ ap (λ (b : Bool). pick b (pack tag) 0) h in
      e ∙ ap (shape_of form) (ap unpack z ∙ unpack_pack tag h)

  pub shape_sound : {sh : Shape} → sh ≡ shape_of form tag → sound s sh ps ≡ true
  shape_sound e = ap (λ (x : Shape). sound s x ps) e ∙ right (shaped tag) _ good_at

  pub record_put : {sh : Shape} {out mid after : List ℕ} {at n : ℕ} {r : Step} → sh ≡ shape_of form tag → Puts (58 ∷ tag ++ 58 ∷ []) out at n mid
      → Adds (unsaid s (t + 1) (cast_parts sh ps)) (crowded s sh ps) (with_cr_lf (content_lines s sh ps)) mid n r after
      → Adds (record_stops form s (record_of l)) (record_crowded form s (record_of l)) (with_cr_lf (lined (field_for form s (record_of l)))) out at r after
  record_put {sh} {out} {mid} {after} {at} {n} {r} e f a =
      let a1 = subst (λ (x : Shape). Adds (unsaid s (t + 1) (cast_parts x ps)) (crowded s x ps) (with_cr_lf (content_lines s x ps)) mid n r after) e a in
      let z : t + 1 ≡ length tag + 1 = ap (λ (j : ℕ). j + 1) (tag_size l t q) in
      let w : RightParts s (shape_of form tag) ps = sound_right s (shape_of form tag) ps (right (shaped tag) _ good_at) in
      subst (λ (x : Record). Adds (record_stops form s x) (record_crowded form s x) (with_cr_lf (lined (field_for form s x))) out at r after) (sym (record_at l t q))
      (adds_by (ap (λ (j : ℕ). unsaid s j (cast_parts (shape_of form tag) ps)) z) refl
      (adds_alike (unsaid s (t + 1) (cast_parts (shape_of form tag) ps)) (crowded s (shape_of form tag) ps) {t = (58 ∷ tag ++ 58 ∷ []) ++ with_cr_lf (content_lines s (shape_of form tag) ps)} (λ _ c. lined_some tag (content_lines s (shape_of form tag) ps) (content_some s (shape_of form tag) ps w c))
      (adds_front (58 ∷ tag ++ 58 ∷ []) (with_cr_lf (content_lines s (shape_of form tag) ps)) f a1)))

-- ---- records one behind another
moved_then : (o : ℕ) (v w : Verdict) → moved_by o (then v w) ≡ then (moved_by o v) (moved_by o w)
moved_then o Fine w = refl
moved_then o (Err r) w = refl

moved_stopped : (o k : ℕ) (c : Part) (s : Bool) → moved_by o (stopped_at k (said_part s c)) ≡ stopped_at (o + k) (said_part s c)
moved_stopped o k c s = go (said_part s c)
  where
    go : (a : Answer) → moved_by o (stopped_at k a) ≡ stopped_at (o + k) a
    go (said t) = refl
    go (stuck j) = let z : o + (k + j) ≡ o + k + j = omega arith in ap (Broken 15) z

moved_unsaid : (s : Bool) (o k : ℕ) (cs : List Part) → moved_by o (unsaid s k cs) ≡ unsaid s (o + k) cs
unfolding unsaid
moved_unsaid s o k [] = refl
moved_unsaid s o k (c ∷ cs) =
    let z : o + (k + length (line_of c) + 1) ≡ o + k + length (line_of c) + 1 = omega arith in
    moved_then o (stopped_at k (said_part s c)) (unsaid s (k + length (line_of c) + 1) cs)
    ∙ ap₂ then (moved_stopped o k c s) (moved_unsaid s o (k + length (line_of c) + 1) cs ∙ ap (λ (j : ℕ). unsaid s j cs) z)

pub rule_15_cons : (form : Form) (s : Bool) (o : ℕ) (r : Record) (rs : List Record) → then (moved_by o (record_stops form s r)) (rule_15 form s (next_record o r) rs) ≡ rule_15 form s o (r ∷ rs)
unfolding rule_15
rule_15_cons form s o (field t ps) rs =
    let z : o + (length t + 1) ≡ o + length t + 1 = omega arith in
    ap (λ (v : Verdict). then v (rule_15 form s (next_record o (field t ps)) rs)) (moved_unsaid s o (length t + 1) (cast_parts (shape_of form t) ps) ∙ ap (λ (j : ℕ). unsaid s j (cast_parts (shape_of form t) ps)) z)

pub crowded_cons : (form : Form) (s : Bool) (r : Record) (rs : List Record) → (record_crowded form s r || some_crowded form s rs) ≡ some_crowded form s (r ∷ rs)
crowded_cons form s (field t ps) rs = refl

abbrev pub body_of : Form → Bool → List Record → List ℕ
body_of form s rs = with_cr_lf (lines_of (spread form s rs))

pub body_cons : (form : Form) (s : Bool) (r : Record) (rs : List Record) → with_cr_lf (lined (field_for form s r)) ++ body_of form s rs ≡ body_of form s (r ∷ rs)
unfolding spread
body_cons form s r rs = sym (crlf_append (lined (field_for form s r)) (lines_of (spread form s rs)))

module _ (form : Form) (g : Bool) (s : List ℕ) (i e : ℕ) (h : i ≤ length s) (q : e ≡ i + count_up_to 10 (drop i s)) (l : i < length s) (b : bad_sheet_line form g i (pieces_at 10 s i) ≡ Fine) where
  abbrev this : List ℕ
  this = take (e - i) (drop i s)

  abbrev rest : List Record
  rest = records_at s (e + 1)

  pub ended : e < length s
  ended = go (dec_lt e (length s))
    where
      go : Dec (e < length s) → e < length s
      go (yes k) = k
      go (no k) = absurd (fine_broken 19 i (sym b ∙ sym (bad_last s i e h q form g l (omega (arith, end_within 10 s i e h q)))))

  further : e ≡ length s → ⊥
  further z = let k = ended in omega arith

  pub good_here : good form g (record_of this) ≡ true
  good_here = go (good form g (record_of this)) refl
    where
      go : (c : Bool) → good form g (record_of this) ≡ c → good form g (record_of this) ≡ true
      go true k = k
      go false k = absurd (fine_broken 19 i (sym b ∙ sym (bad_hit s i e h q form g further k)))

  pub good_on : bad_sheet_line form g (e + 1) (pieces_at 10 s (e + 1)) ≡ Fine
  good_on = sym (bad_miss s i e h q form g further good_here) ∙ b

  list : records_at s i ≡ record_of this ∷ rest
  list = front_at s i e h q ended

  next_at : next_record i (record_of this) ≡ e + 1
  next_at = let n : length (line (record_of this)) ≡ e - i = ap length (line_record this) ∙ piece_length s i e (omega arith) (end_within 10 s i e h q) in omega arith

  abbrev Left : Bool → List Record → List ℕ → ℕ → Step → List ℕ → Type 0
  Left fit rs now n r after = Adds (rule_15 form g i rs) (not fit || some_crowded form g rs) (body_of form g rs) now n r after

  stops_here : then (moved_by i (record_stops form g (record_of this))) (rule_15 form g (e + 1) rest) ≡ rule_15 form g i (record_of this ∷ rest)
  stops_here = ap (λ (j : ℕ). then (moved_by i (record_stops form g (record_of this))) (rule_15 form g j rest)) (sym next_at) ∙ rule_15_cons form g i (record_of this) rest

  pub records_stop : (fit : Bool) {now mid after : List ℕ} {n k : ℕ} {q : Step} → q ≡ Stuck k
      → Adds (record_stops form g (record_of this)) (record_crowded form g (record_of this)) (with_cr_lf (lined (field_for form g (record_of this)))) now n q mid
      → Left fit (records_at s i) now n (Stuck (i + k)) after
  records_stop fit {now} {mid} {after} {n} {k} f a =
      let z = came_stuck (record_stops form g (record_of this)) (record_crowded form g (record_of this)) (n + length (with_cr_lf (lined (field_for form g (record_of this))))) k (sym f ∙ a.answers) in
      subst (λ (rs : List Record). Left fit rs now n (Stuck (i + k)) after) (sym list)
      (adds_stuck (sym stops_here ∙ ap (λ (v : Verdict). then (moved_by i v) (rule_15 form g (e + 1) rest)) z.1))

  pub records_on : {fit fit' : Bool} {now mid after : List ℕ} {n n' : ℕ} {q r : Step} → Goes fit n q fit' n'
      → Adds (record_stops form g (record_of this)) (record_crowded form g (record_of this)) (with_cr_lf (lined (field_for form g (record_of this)))) now n q mid
      → Adds (rule_15 form g (e + 1) rest) (not fit' || some_crowded form g rest) (body_of form g rest) mid n' r after → Left fit (records_at s i) now n r after
  records_on {fit} {now = now} {after = after} {n = n} {r = r} m a d =
      subst (λ (rs : List Record). Left fit rs now n r after) (sym list)
      (subst (λ (c : Bool). Adds (rule_15 form g i (record_of this ∷ rest)) (not fit || c) (body_of form g (record_of this ∷ rest)) now n r after) (crowded_cons form g (record_of this) rest)
      (adds_by stops_here (body_cons form g (record_of this) rest)
      (adds_join i (record_stops form g (record_of this)) (rule_15 form g (e + 1) rest) (record_crowded form g (record_of this)) (some_crowded form g rest) (with_cr_lf (lined (field_for form g (record_of this)))) (body_of form g rest) m a d)))

or_none : (b : Bool) → (b || false) ≡ b
or_none true = refl
or_none false = refl

-- no record is left
pub records_end : (form : Form) (g : Bool) (s : List ℕ) (i : ℕ) → i ≤ length s → length s ≤ i → (fit : Bool) {now after : List ℕ} {n : ℕ} {r : Step} → Adds Fine (not fit) [] now n r after
    → Adds (rule_15 form g i (records_at s i)) (not fit || some_crowded form g (records_at s i)) (body_of form g (records_at s i)) now n r after
unfolding rule_15 spread
records_end form g s i h k fit {now} {after} {n} {r} a =
    let z : length s ≡ i = omega arith in
    subst (λ (rs : List Record). Adds (rule_15 form g i rs) (not fit || some_crowded form g rs) (body_of form g rs) now n r after) (sym (ap (records_at s) (sym z) ∙ front_end s)) (subst (λ (b : Bool). Adds Fine b [] now n r after) (sym (or_none (not fit))) a)
