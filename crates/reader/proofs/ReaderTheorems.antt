-- What a reader hands over: the contents of the check's list, in order, then the end; of a refused message nothing (K2, K5, D2c). Assumes nothing.
use Prim.Native.Nat.{ℕ, zero, suc, ◌+◌, ◌-◌, ◌<◌, ◌≤◌}
use mathlib.Core.Path.{◌≡◌, refl, sym, ap, ◌∙◌}
use mathlib.Core.Bool.{Bool, true, false, not, true≢false}
use mathlib.Core.List.{List, [], ◌∷◌}
use native.Mathlib.Omega.{arith}
use native.Mathlib.Decide.{dec_lt}
use lib.ListN.{length}
use denote.Ref.{Bor}
use Rattle.base.specs.Choice.{pick}
use Rattle.base.specs.Bytes.{empty}
use Rattle.base.specs.Verdicts.{Fine, Broken}
use Rattle.base.proofs.RuleLaws.{fine_broken}
use Rattle.fields.specs.Field.{fields}
use Rattle.fields.specs.Places.{listed}
use Rattle.types.specs.declared.Form.{Form}
use Rattle.types.specs.Form.{form_of, Place, places_of, places_103, places_202}
use Rattle.types.specs.Walk.{is_optional}
use Rattle.types.specs.Sentences.{place_at, place_of_field, Present, SoundWalk}
use Rattle.types.proofs.WordLaws.{placed}
use Rattle.types.proofs.TableLaws.{few_places, each_form, no_places}
use Rattle.frame.proofs.CallLaws.{taken}
use Rattle.message.proofs.SpanLaws.{listed_part}
use Rattle.message.specs.Message.{verdict_of}
use Rattle.message.proofs.RuleLaws.{accepted_rules}
use Rattle.message.proofs.VerdictTheorems.{frame_clean}
use Rattle.message.specs.Calls.{part_of, content_of}
use Rattle.message.proofs.CheckTheorems.{Without, refused, absent, content_empty, span_listed}
use Rattle.reader.specs.declared.Reader.{Reader}
use Rattle.reader.specs.Reading.{first_from, filled, place_behind, place_after, at_hand, After, opened, moved}
use Rattle.reader.proofs.PlaceLaws.{at_most, place_far}

-- ---- the first that passes
pub first_found : (t : ℕ → Bool) (p i n : ℕ) → i ≤ p → p < i + n → t p ≡ true → ((j : ℕ) → i ≤ j → j < p → t j ≡ false) → first_from t i n ≡ p
unfolding first_from
first_found t p i zero l h e b = absurd (omega arith)
first_found t p i (suc n) l h e b = go (dec_lt i p) (λ k. first_found t p (suc i) n (omega arith) (omega arith) e (λ j m r. b j (omega arith) r))
  where
    go : Dec (i < p) → (i < p → first_from t (suc i) n ≡ p) → pick (t i) i (first_from t (suc i) n) ≡ p
    go (yes k) r = ap (λ (c : Bool). pick c i (first_from t (suc i) n)) (b i (omega arith) k) ∙ r k
    go (no k) r = let q : i ≡ p = omega arith in ap (λ (c : Bool). pick c i (first_from t (suc i) n)) (ap t q ∙ e) ∙ q

pub first_none : (t : ℕ → Bool) (i n : ℕ) → ((j : ℕ) → i ≤ j → j < i + n → t j ≡ false) → first_from t i n ≡ i + n
unfolding first_from
first_none t i zero b = omega arith
first_none t i (suc n) b =
    let e : suc i + n ≡ i + suc n = omega arith in
    ap (λ (c : Bool). pick c i (first_from t (suc i) n)) (b i (omega arith) (omega arith)) ∙ first_none t (suc i) n (λ j l h. b j (omega arith) (omega arith)) ∙ e

-- ---- the first place is mandatory in every type
abbrev Opens : List Place → Type 0
Opens ps = 0 < length ps → is_optional (place_at ps 0) ≡ false

opens : (form : Form) → Opens (places_of form)
unfolding places_103 places_202
opens form = each_form Opens (λ h. absurd (omega arith)) (λ h. refl) (λ h. refl) form

-- ---- an accepted message
module _ (form : Form) (m : List ℕ) (e : verdict_of form m ≡ Fine) where
  sound : SoundWalk (places_of form) (fields m)
  sound = (taken form m (frame_clean form m e)).sound

  abbrev place : ℕ → ℕ
  place k = place_of_field (places_of form) (fields m) k

  low : (k : ℕ) → k < length (fields m) → place k < 32
  low k h = omega (arith, placed (places_of form) 0 (fields m) (taken form m (frame_clean form m e)).right k h, few_places form)

  not_without : (i : ℕ) → Present (places_of form) (fields m) i → Without form m i → ⊥
  not_without i p (refused n q v) = fine_broken n q (sym e ∙ v)
  not_without i p (absent a) = a p

  here : (i : ℕ) → Present (places_of form) (fields m) i → filled form m i ≡ true
  here i p = go (content_of form m i) refl
    where
      go : (c : List ℕ) → content_of form m i ≡ c → not (empty c) ≡ true
      go [] q = absurd (not_without i p ((content_empty form m i).0 q))
      go (x ∷ c) q = refl

  gone : (i : ℕ) → (Present (places_of form) (fields m) i → ⊥) → filled form m i ≡ false
  gone i n = ap (λ (c : List ℕ). not (empty c)) ((content_empty form m i).1 (absent n))

  -- no field has a place between those of two that follow each other, before the first or behind the last
  between : (k : ℕ) → suc k < length (fields m) → (i : ℕ) → place k < i → i < place (suc k) → Present (places_of form) (fields m) i → ⊥
  between k h i l r p = go (dec_lt k p.number) (dec_lt p.number (suc k))
    where
      go : Dec (k < p.number) → Dec (p.number < suc k) → ⊥
      go (yes a) (yes b) = omega arith
      go (yes a) (no b) = after (dec_lt (suc k) p.number)
        where
          after : Dec (suc k < p.number) → ⊥
          after (yes c) = omega (arith, sound.later (suc k) p.number c p.within, p.place)
          after (no c) = let q : p.number ≡ suc k = omega arith in omega (arith, ap place q, p.place)
      go (no a) b = before (dec_lt p.number k)
        where
          before : Dec (p.number < k) → ⊥
          before (yes c) = omega (arith, sound.later p.number k c (omega arith), p.place)
          before (no c) = let q : p.number ≡ k = omega arith in omega (arith, ap place q, p.place)

  behind : (k : ℕ) → suc k ≡ length (fields m) → (i : ℕ) → place k < i → Present (places_of form) (fields m) i → ⊥
  behind k h i l p = go (dec_lt p.number k)
    where
      go : Dec (p.number < k) → ⊥
      go (yes c) = omega (arith, sound.later p.number k c (omega arith), p.place)
      go (no c) = let w = p.within in let q : p.number ≡ k = omega arith in omega (arith, ap place q, p.place)

  first_place : 0 < length (fields m) → place 0 ≡ 0
  first_place h = go (dec_lt 0 at0.number)
    where
      at0 : Present (places_of form) (fields m) 0
      at0 = sound.all_needed 0 (opens form (omega (arith, placed (places_of form) 0 (fields m) (taken form m (frame_clean form m e)).right 0 h)))

      go : Dec (0 < at0.number) → place 0 ≡ 0
      go (yes c) = absurd (omega (arith, sound.later 0 at0.number c at0.within, at0.place))
      go (no c) = let q : at0.number ≡ 0 = omega arith in ap place (sym q) ∙ at0.place

  far : (p : ℕ) → p < 32 → place_behind form m p ≡ first_from (filled form m) (suc p) (31 - p)
  unfolding place_behind
  far p h = ap (λ (b : Bool). pick b 32 (first_from (filled form m) (suc p) (31 - p))) (at_most p h)

  step : (k : ℕ) → suc k < length (fields m) → place_behind form m (place k) ≡ place (suc k)
  step k h =
      let a = low k (omega arith) in
      let b = low (suc k) h in
      let c = sound.later k (suc k) (omega arith) h in
      far (place k) a
      ∙ first_found (filled form m) (place (suc k)) (suc (place k)) (31 - place k) c (omega arith) (here (place (suc k)) (record { number = suc k; within = h; place = refl }))
      (λ j l r. gone j (between k h j (omega arith) r))

  last : (k : ℕ) → suc k ≡ length (fields m) → place_behind form m (place k) ≡ 32
  last k h =
      let a = low k (omega arith) in
      let n : suc (place k) + (31 - place k) ≡ 32 = omega arith in
      far (place k) a ∙ first_none (filled form m) (suc (place k)) (31 - place k) (λ j l r. gone j (behind k h j (omega arith))) ∙ n

  -- after k moves the reader stands at the place of field k
  pub in_order : (k : ℕ) → k < length (fields m) → place_after form m k ≡ place_of_field (places_of form) (fields m) k
  unfolding place_after
  in_order zero h = sym (first_place h)
  in_order (suc k) h = ap (place_behind form m) (in_order k (omega arith)) ∙ step k h

  -- and hands over its content: the part between the list's start and end
  pub hands_over : (k : ℕ) → k < length (fields m) → content_of form m (place_after form m k) ≡ part_of m (listed_part (listed 5 (fields m)) k)
  unfolding content_of
  hands_over k h = ap (part_of m) (span_listed form m (place_after form m k) e k h (sym (in_order k h)))

  pub not_yet : (k : ℕ) → k < length (fields m) → empty (content_of form m (place_after form m k)) ≡ false
  not_yet k h = go (empty (content_of form m (place_after form m k))) refl
    where
      go : (b : Bool) → empty (content_of form m (place_after form m k)) ≡ b → b ≡ false
      go false q = refl
      go true q = absurd (true≢false (sym (here (place_after form m k) (record { number = k; within = h; place = sym (in_order k h) })) ∙ ap not q))

  -- behind the last the end comes, and stays
  at_end_lem : (k : ℕ) → length (fields m) ≤ k → 0 < length (fields m) → place_after form m k ≡ 32
  unfolding place_after
  at_end_lem zero h l = absurd (omega arith)
  at_end_lem (suc k) h l = go (dec_lt k (length (fields m))) (λ n. at_end_lem k (omega arith) l)
    where
      go : Dec (k < length (fields m)) → ((k < length (fields m) → ⊥) → place_after form m k ≡ 32) → place_behind form m (place_after form m k) ≡ 32
      go (yes a) r = ap (place_behind form m) (in_order k a) ∙ last k (omega arith)
      go (no a) r = ap (place_behind form m) (r a) ∙ sym (place_far form m 32 (omega arith))

  some_places : 0 < length (places_of form)
  some_places = go (dec_lt 0 (length (places_of form)))
    where
      go : Dec (0 < length (places_of form)) → 0 < length (places_of form)
      go (yes h) = h
      go (no h) = absurd (fine_broken 18 0 (sym (accepted_rules form m e).pass.type ∙ no_places form (omega arith)))

  some_field : 0 < length (fields m)
  some_field = omega (arith, (sound.all_needed 0 (opens form some_places)).within)

  pub ends : (k : ℕ) → length (fields m) ≤ k → content_of form m (place_after form m k) ≡ []
  ends k h = ap (content_of form m) (at_end_lem k h some_field) ∙ (content_empty form m 32).1 (absent (λ p. omega (arith, low p.number p.within, p.place)))

-- of a refused message nothing is handed over
pub refused_nothing : (form : Form) (m : List ℕ) (n p : ℕ) → verdict_of form m ≡ Broken n p → (k : ℕ) → content_of form m (place_after form m k) ≡ []
refused_nothing form m n p e k = (content_empty form m (place_after form m k)).1 (refused n p e)

-- ---- the same of the struct, opened and moved on by the calls
after_k : {kind : ℕ} {m : Bor (List ℕ)} {k : ℕ} {r : Reader} → After kind m k r → (r.kind ≡ kind) × (r.message ≡ m) × (r.place ≡ place_after (form_of kind) m.now k)
unfolding place_after
after_k (opened o) = o
after_k {kind} {m} (moved {q = q} a s) =
    let w = after_k a in (
      s.0 ∙ w.0,
      s.1 ∙ w.1,
      s.2 ∙ ap (λ (n : ℕ). place_behind (form_of n) q.message.now q.place) w.0 ∙ ap (λ (x : Bor (List ℕ)). place_behind (form_of kind) x.now q.place) w.1 ∙ ap (place_behind (form_of kind) m.now) w.2,
    )

module _ {kind : ℕ} {m : Bor (List ℕ)} {k : ℕ} {r : Reader} (a : After kind m k r) where
  at_k : at_hand r ≡ content_of (form_of kind) m.now (place_after (form_of kind) m.now k)
  at_k =
      let w = after_k a in
      ap (λ (n : ℕ). content_of (form_of n) r.message.now r.place) w.0 ∙ ap (λ (x : Bor (List ℕ)). content_of (form_of kind) x.now r.place) w.1 ∙ ap (content_of (form_of kind) m.now) w.2

  module _ (e : verdict_of (form_of kind) m.now ≡ Fine) where
    -- the content at hand is the k-th of the check's list, and it is not empty
    pub reads_on : k < length (fields m.now) → (at_hand r ≡ part_of m.now (listed_part (listed 5 (fields m.now)) k)) × (empty (at_hand r) ≡ false)
    reads_on h = (at_k ∙ hands_over (form_of kind) m.now e k h, ap empty at_k ∙ not_yet (form_of kind) m.now e k h)

    -- behind the last there is nothing
    pub reads_end : length (fields m.now) ≤ k → at_hand r ≡ []
    reads_end h = at_k ∙ ends (form_of kind) m.now e k h

  pub reads_nothing : (n p : ℕ) → verdict_of (form_of kind) m.now ≡ Broken n p → at_hand r ≡ []
  reads_nothing n p e = at_k ∙ refused_nothing (form_of kind) m.now n p e k

-- ---- any two outcomes are equal
pub behind_one : (form : Form) (m : List ℕ) (place : ℕ) {r q : ℕ} → r ≡ place_behind form m place → q ≡ place_behind form m place → r ≡ q
behind_one form m place a b = a ∙ sym b

pub reader_one : {k p : ℕ} {s : Bor (List ℕ)} {r q : Reader} → (r.kind ≡ k) × (r.message ≡ s) × (r.place ≡ p) → (q.kind ≡ k) × (q.message ≡ s) × (q.place ≡ p) → r ≡ q
reader_one {r = r} {q = q} a b =
    ap (λ (n : ℕ). record { kind = n; message = r.message; place = r.place }) (a.0 ∙ sym b.0)
    ∙ ap (λ (x : Bor (List ℕ)). record { kind = q.kind; message = x; place = r.place }) (a.1 ∙ sym b.1)
    ∙ ap (λ (n : ℕ). record { kind = q.kind; message = q.message; place = n }) (a.2 ∙ sym b.2)
