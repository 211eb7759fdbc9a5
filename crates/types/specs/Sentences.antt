-- The walk in words: which of 5, 6 and 7 a field has, what a refused and an accepted walk are, and what an accepted one has (P1, N5-N7, K1). Over any list of places and any fields. Assumes nothing.
use Rattle.std.specs.Prelude.{ℕ, suc, ◌^◌, ◌≤◌, ◌<◌, ◌≡◌, true, false, List, [], ◌∷◌, ◌++◌, ◌↔◌, length, get_or}
use Rattle.std.specs.Int.Count.{ones}
use Rattle.base.specs.Bits.{bit}
use Rattle.fields.specs.Field.{Field, field, tag_of}
use Rattle.fields.specs.Places.{next_of}
use Rattle.types.specs.Form.{Place, optional}
use Rattle.types.specs.Walk.{is_of, is_optional, find, word}

-- ---- a field's fault
-- the place at i; behind the last there is nothing that a message must have
abbrev pub place_at : List Place → ℕ → Place
place_at ps i = get_or ps i (optional [])

-- q is the first place with the tag
pub record Stands (ps : List Place) (t : List ℕ) (q : ℕ) : Type 0 where
  pub within : q < length ps
  pub has : is_of t (place_at ps q) ≡ true
  pub before : (i : ℕ) → i < q → is_of t (place_at ps i) ≡ false

-- no place has the tag
abbrev pub Unknown : List Place → List ℕ → Type 0
Unknown ps t = (i : ℕ) → is_of t (place_at ps i) ≡ false

-- a mandatory place stands from next up to, not including, q
pub record Skipped (ps : List Place) (next q : ℕ) : Type 0 where
  pub at : ℕ
  pub low : next ≤ at
  pub high : at < q
  pub mandatory : is_optional (place_at ps at) ≡ false

-- what is wrong with a field of tag t, where the field before it stands just before place next
pub data Judged (ps : List Place) (next : ℕ) (t : List ℕ) : ℕ → Type 0 where
  unknown : Unknown ps t → Judged ps next t 5
  not_later : (q : ℕ) → Stands ps t q → q < next → Judged ps next t 6
  skipping : (q : ℕ) → Stands ps t q → next ≤ q → Skipped ps next q → Judged ps next t 7
  right : (q : ℕ) → Stands ps t q → next ≤ q → (Skipped ps next q → ⊥) → Judged ps next t 0

-- nothing is wrong at place q
pub record Seated (ps : List Place) (next q : ℕ) : Type 0 where
  pub within : q < length ps
  pub low : next ≤ q
  pub free : Skipped ps next q → ⊥

-- each field is right behind the one before it
abbrev pub AllRight : List Place → ℕ → List Field → Type 0
AllRight ps next [] = Unit {0}
AllRight ps next (f ∷ fs) = Judged ps next (tag_of f) 0 × AllRight ps (suc (find ps (tag_of f))) fs

-- the place behind the last field's, and where that field ends
abbrev pub next_place : List Place → ℕ → List Field → ℕ
next_place ps next [] = next
next_place ps next (f ∷ fs) = next_place ps (suc (find ps (tag_of f))) fs

abbrev pub end_of_fields : ℕ → List Field → ℕ
end_of_fields o [] = o
end_of_fields o (f ∷ fs) = end_of_fields (next_of o f) fs

-- all fields are right, and no mandatory place is missing at the end
pub record Accepted (ps : List Place) (next : ℕ) (fs : List Field) : Type 0 where
  pub fine : AllRight ps next fs
  pub whole : Skipped ps (next_place ps next fs) (length ps) → ⊥

-- the first faulty field has its colon at p, and n is what is wrong with it
pub record Faulty (ps : List Place) (next o : ℕ) (fs : List Field) (n p : ℕ) : Type 0 where
  pub before : List Field
  pub this : Field
  pub rest : List Field
  pub list : fs ≡ before ++ this ∷ rest
  pub fine : AllRight ps next before
  pub fault : Judged ps (next_place ps next before) (tag_of this) n
  pub faulty : n ≡ 0 → ⊥
  pub colon : p ≡ end_of_fields o before

-- all fields are right, a mandatory place is missing at the end, and the - stands at p
pub record Missing (ps : List Place) (next o : ℕ) (fs : List Field) (n p : ℕ) : Type 0 where
  pub fine : AllRight ps next fs
  pub missing : Skipped ps (next_place ps next fs) (length ps)
  pub number : n ≡ 7
  pub dash : p ≡ end_of_fields o fs

pub data Refused (ps : List Place) (next o : ℕ) (fs : List Field) (n p : ℕ) : Type 0 where
  at_field : Faulty ps next o fs n p → Refused ps next o fs n p
  at_end : Missing ps next o fs n p → Refused ps next o fs n p

-- ---- the places present, and the word
abbrev pub field_at : List Field → ℕ → Field
field_at fs k = get_or fs k (field [] [])

-- the place of field k
abbrev pub place_of_field : List Place → List Field → ℕ → ℕ
place_of_field ps fs k = find ps (tag_of (field_at fs k))

-- some field has place i
pub record Present (ps : List Place) (fs : List Field) (i : ℕ) : Type 0 where
  pub number : ℕ
  pub within : number < length fs
  pub place : place_of_field ps fs number ≡ i

-- what an accepted walk has: few fields, each at a later place than the one before, every mandatory one; as many ones in the word as fields, and a bit for each place present
pub record SoundWalk (ps : List Place) (fs : List Field) : Type 0 where
  pub few_fields : length fs ≤ length ps
  pub later : (j k : ℕ) → j < k → k < length fs → place_of_field ps fs j < place_of_field ps fs k
  pub own : (i : ℕ) (a b : Present ps fs i) → a.number ≡ b.number
  pub all_needed : (i : ℕ) → is_optional (place_at ps i) ≡ false → Present ps fs i
  pub as_many : ones (word ps fs) ≡ length fs
  pub below : word ps fs < 2 ^ length ps
  pub bits : (i : ℕ) → (bit (word ps fs) i ≡ 1) ↔ Present ps fs i
