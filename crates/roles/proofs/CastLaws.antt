-- Lines cast, each name turned into another text, and cast again: where a name keeps what decides on its part, it stays a name (S6, S7, Ctax,
-- Cname). Assumes nothing.
use Prim.Native.Nat.{ℕ}
use mathlib.Core.Path.{◌≡◌, refl, ap, ap₂, ◌∙◌}
use mathlib.Core.Bool.{Bool, true, false, not}
use mathlib.Core.List.{List, [], ◌∷◌, map}
use Rattle.base.specs.Choice.{pick, all}
use Rattle.base.specs.Bytes.{begins}
use Rattle.base.proofs.Bools.{both}
use Rattle.contents.specs.Tests.{looks_tax}
use Rattle.roles.specs.Role.{Part, copy, name, tax_name, taxed, cast}
use Rattle.roles.specs.declared.Shape.{Shape}
use Rattle.roles.specs.declared.Shape.TheVariants.{Plain, Payer, Payee, Agent, Details, Note103, Note202}

-- ---- what a part becomes where each name p becomes turn p
abbrev pub turned : (List ℕ → List ℕ) → Part → Part
turned turn (copy p) = copy p
turned turn (name p) = name (turn p)
turned turn (tax_name p) = tax_name (turn p)

-- the line of each
pub record Lines (turn : List ℕ → List ℕ) (line : Part → List ℕ) : Type 0 where
  pub copied : (p : List ℕ) → line (copy p) ≡ p
  pub named : (p : List ℕ) → line (name p) ≡ turn p
  pub tax_placed : (p : List ℕ) → line (tax_name p) ≡ turn p

-- a name keeps what decides on its part: a / in front, and that it is no tax line
abbrev pub Steady : (List ℕ → List ℕ) → Part → Type 0
Steady turn (copy p) = Unit {0}
Steady turn (name p) = begins 47 (turn p) ≡ begins 47 p
Steady turn (tax_name p) = (begins 47 (turn p) ≡ begins 47 p) × (looks_tax (turn p) ≡ false)

abbrev pub AllSteady : (List ℕ → List ℕ) → List Part → Type 0
AllSteady turn [] = Unit {0}
AllSteady turn (x ∷ xs) = Steady turn x × AllSteady turn xs

-- ---- a name in the tax place is no tax line
abbrev pub untaxed : Part → Bool
untaxed (copy p) = true
untaxed (name p) = true
untaxed (tax_name p) = not (looks_tax p)

names_untaxed : (ps : List (List ℕ)) → all untaxed (map name ps) ≡ true
names_untaxed [] = refl
names_untaxed (p ∷ ps) = names_untaxed ps

copies_untaxed : (ps : List (List ℕ)) → all untaxed (map copy ps) ≡ true
copies_untaxed [] = refl
copies_untaxed (p ∷ ps) = copies_untaxed ps

taxed_untaxed : (ps : List (List ℕ)) → all untaxed (taxed ps) ≡ true
taxed_untaxed [] = refl
taxed_untaxed (p ∷ ps) = both (go (looks_tax p) refl) (names_untaxed ps)
  where
    go : (b : Bool) → looks_tax p ≡ b → untaxed (pick b (copy p) (tax_name p)) ≡ true
    go true e = refl
    go false e = ap not e

pub cast_untaxed : (sh : Shape) (ps : List (List ℕ)) → all untaxed (cast sh ps) ≡ true
unfolding cast
cast_untaxed Plain ps = copies_untaxed ps
cast_untaxed Payer [] = refl
cast_untaxed Payer (p ∷ ps) = go (begins 47 p)
  where
    go : (b : Bool) → all untaxed (pick b (copy p ∷ taxed ps) (taxed (p ∷ ps))) ≡ true
    go true = taxed_untaxed ps
    go false = taxed_untaxed (p ∷ ps)
cast_untaxed Payee [] = refl
cast_untaxed Payee (p ∷ ps) = both (go (begins 47 p)) (taxed_untaxed ps)
  where
    go : (b : Bool) → untaxed (pick b (copy p) (name p)) ≡ true
    go true = refl
    go false = refl
cast_untaxed Agent [] = refl
cast_untaxed Agent (p ∷ ps) = names_untaxed ps
cast_untaxed Details ps = copies_untaxed ps
cast_untaxed Note103 ps = copies_untaxed ps
cast_untaxed Note202 ps = copies_untaxed ps

-- ---- cast again
module _ (turn : List ℕ → List ℕ) (line : Part → List ℕ) (by : Lines turn line) where
  copies_turned : (ps : List (List ℕ)) → map copy (map line (map copy ps)) ≡ map (turned turn) (map copy ps)
  copies_turned [] = refl
  copies_turned (p ∷ ps) = ap₂ (λ (l : List ℕ) (k : List Part). copy l ∷ k) (by.copied p) (copies_turned ps)

  names_turned : (ps : List (List ℕ)) → map name (map line (map name ps)) ≡ map (turned turn) (map name ps)
  names_turned [] = refl
  names_turned (p ∷ ps) = ap₂ (λ (l : List ℕ) (k : List Part). name l ∷ k) (by.named p) (names_turned ps)

  tax_by : (b : Bool) (p : List ℕ) (ps : List (List ℕ)) → looks_tax p ≡ b → Steady turn (pick b (copy p) (tax_name p))
      → taxed (map line (pick b (copy p) (tax_name p) ∷ map name ps)) ≡ map (turned turn) (pick b (copy p) (tax_name p) ∷ map name ps)
  tax_by true p ps e w =
      ap (λ (l : List ℕ). taxed (l ∷ map line (map name ps))) (by.copied p) ∙ ap₂ (λ (q : Bool) (k : List Part). pick q (copy p) (tax_name p) ∷ k) e (names_turned ps)
  tax_by false p ps e w =
      ap (λ (l : List ℕ). taxed (l ∷ map line (map name ps))) (by.tax_placed p)
      ∙ ap₂ (λ (q : Bool) (k : List Part). pick q (copy (turn p)) (tax_name (turn p)) ∷ k) w.1 (names_turned ps)

  tax_turned : (ps : List (List ℕ)) → AllSteady turn (taxed ps) → taxed (map line (taxed ps)) ≡ map (turned turn) (taxed ps)
  tax_turned [] w = refl
  tax_turned (p ∷ ps) w = tax_by (looks_tax p) p ps refl w.0

  front_by : (b : Bool) (p : List ℕ) → begins 47 p ≡ false → Steady turn (pick b (copy p) (tax_name p)) → begins 47 (line (pick b (copy p) (tax_name p))) ≡ false
  front_by true p e w = ap (begins 47) (by.copied p) ∙ e
  front_by false p e w = ap (begins 47) (by.tax_placed p) ∙ w.0 ∙ e

  payer_by : (b : Bool) (p : List ℕ) (ps : List (List ℕ)) → begins 47 p ≡ b → AllSteady turn (pick b (copy p ∷ taxed ps) (taxed (p ∷ ps)))
      → cast Payer (map line (pick b (copy p ∷ taxed ps) (taxed (p ∷ ps)))) ≡ map (turned turn) (pick b (copy p ∷ taxed ps) (taxed (p ∷ ps)))
  unfolding cast
  payer_by true p ps e w =
      let ks : List (List ℕ) = map line (taxed ps) in
      ap (λ (l : List ℕ). pick (begins 47 l) (copy l ∷ taxed ks) (taxed (l ∷ ks))) (by.copied p)
      ∙ ap (λ (q : Bool). pick q (copy p ∷ taxed ks) (taxed (p ∷ ks))) e ∙ ap (λ (k : List Part). copy p ∷ k) (tax_turned ps w.1)
  payer_by false p ps e w =
      let l : List ℕ = line (pick (looks_tax p) (copy p) (tax_name p)) in
      let ks : List (List ℕ) = map line (map name ps) in
      ap (λ (q : Bool). pick q (copy l ∷ taxed ks) (taxed (l ∷ ks))) (front_by (looks_tax p) p e w.0) ∙ tax_turned (p ∷ ps) w

  payee_by : (b : Bool) (p : List ℕ) (ps : List (List ℕ)) → begins 47 p ≡ b → AllSteady turn (pick b (copy p) (name p) ∷ taxed ps)
      → cast Payee (map line (pick b (copy p) (name p) ∷ taxed ps)) ≡ map (turned turn) (pick b (copy p) (name p) ∷ taxed ps)
  unfolding cast
  payee_by true p ps e w =
      ap (λ (l : List ℕ). pick (begins 47 l) (copy l) (name l) ∷ taxed (map line (taxed ps))) (by.copied p)
      ∙ ap₂ (λ (q : Bool) (k : List Part). pick q (copy p) (name p) ∷ k) e (tax_turned ps w.1)
  payee_by false p ps e w =
      ap (λ (l : List ℕ). pick (begins 47 l) (copy l) (name l) ∷ taxed (map line (taxed ps))) (by.named p)
      ∙ ap₂ (λ (q : Bool) (k : List Part). pick q (copy (turn p)) (name (turn p)) ∷ k) (w.0 ∙ e) (tax_turned ps w.1)

  pub cast_turned : (sh : Shape) (ps : List (List ℕ)) → AllSteady turn (cast sh ps) → cast sh (map line (cast sh ps)) ≡ map (turned turn) (cast sh ps)
  unfolding cast
  cast_turned Plain ps w = copies_turned ps
  cast_turned Payer [] w = refl
  cast_turned Payer (p ∷ ps) w = payer_by (begins 47 p) p ps refl w
  cast_turned Payee [] w = refl
  cast_turned Payee (p ∷ ps) w = payee_by (begins 47 p) p ps refl w
  cast_turned Agent [] w = refl
  cast_turned Agent (p ∷ ps) w = ap₂ (λ (l : List ℕ) (k : List Part). copy l ∷ k) (by.copied p) (names_turned ps)
  cast_turned Details ps w = copies_turned ps
  cast_turned Note103 ps w = copies_turned ps
  cast_turned Note202 ps w = copies_turned ps
