-- Whether a field is right, found by computing, so that the verdict on a message at hand can be computed. Each test is its namesake in Lines or
-- Fields, put to the parts that a line is cut into. What a reader has to believe is the grammar there; that these tests are exact is proved
-- (proofs/LineTests, proofs/FieldTests). Assumes nothing.
use Rattle.std.specs.Prelude.{ℕ, ◌+◌, ◌-◌, ◌*◌, Bool, true, false, not, ◌&&◌, ◌||◌, List, [], ◌∷◌, ◌++◌, eqb, leb, length, take, drop, get_or}
use Rattle.base.specs.Choice.{pick, all}
use Rattle.base.specs.Bytes.{byte, digit, capital, between, begins, empty, same}
use Rattle.base.specs.Quoted.{bytes, ascii}
use Rattle.contents.specs.declared.Content.{Content}
use Rattle.contents.specs.declared.Content.TheVariants as holds
use Rattle.contents.specs.Words.{Text, Line, capital_or_digit}
use Rattle.contents.specs.Lines.{two_digits, code_opening, code_closing}

-- ---- a line cut up: so many bytes; the digits that stand there; so many bytes or none, if they are fewer; and last what is left
pub data Piece : Type 0 where
  sized : ℕ → Piece
  digits : Piece
  all_of : ℕ → Piece

unfoldable pub lead_digits : Text → Text
lead_digits [] = []
lead_digits (x ∷ s) = pick (digit x) (x ∷ lead_digits s) []

-- the piece that a text begins with
abbrev pub front_of : Piece → Text → Text
front_of (sized n) s = take n s
front_of digits s = lead_digits s
front_of (all_of n) s = pick (leb n (length s)) (take n s) []

abbrev pub cut_by : List Piece → Text → List Text
cut_by [] s = s ∷ []
cut_by (p ∷ ps) s = front_of p s ∷ cut_by ps (drop (length (front_of p s)) s)

abbrev pub piece : ℕ → List Text → Text
piece k ts = get_or ts k []

-- ---- parts
abbrev pub sizes : ℕ → ℕ → Text → Bool
sizes a n s = between a (length s) n

abbrev pub just : (ℕ → Bool) → ℕ → Text → Bool
just kind n s = eqb (length s) n && all kind s

abbrev pub starts : Text → Text → Bool
starts w s = same (take (length w) s) w

-- a word, and a digit behind it
abbrev pub word_and_digit : Text → Text → Bool
word_and_digit w s = starts w s && digit (byte s (length w))

-- perhaps a mark, and behind it such a part
abbrev pub perhaps : Text → (Text → Bool) → Text → Bool
perhaps mark p s = empty s || (starts mark s && p (drop (length mark) s))

-- ---- lines
unfoldable pub ends : ℕ → Text → Bool
ends c [] = false
ends c (x ∷ []) = eqb x c
ends c (x ∷ y ∷ s) = ends c (y ∷ s)

unfoldable pub has_pair : ℕ → Text → Bool
has_pair c [] = false
has_pair c (x ∷ s) = (eqb x c && begins c s) || has_pair c s

unfoldable pub is_reference : Line → Bool
is_reference l = sizes 1 16 l && (not (begins (ascii "/") l) && (not (ends (ascii "/") l) && (not (has_pair (ascii "/") l) && not (same l (bytes "+")))))

-- the number behind S
abbrev pub number_in : Line → ℕ
number_in l = (byte l 1 - ascii "0") * 10 + (byte l 2 - ascii "0")

unfoldable pub is_purpose : Line → Bool
is_purpose l = between 1 (number_in l) 26 && (not (eqb (number_in l) 15) && same l (bytes "S" ++ two_digits (number_in l)))

-- date, currency, whole, comma, decimals
abbrev pub payment_parts : Line → List Text
payment_parts l = cut_by (sized 6 ∷ sized 3 ∷ digits ∷ sized 1 ∷ []) l

abbrev pub payment_test : List Text → Bool
payment_test ts =
    just digit 6 (piece 0 ts) && (just capital 3 (piece 1 ts) && ((leb 1 (length (piece 2 ts)) && all digit (piece 2 ts)) && (same (piece 3 ts) (bytes ",")
    && ((leb (length (piece 4 ts)) 2 && all digit (piece 4 ts)) && leb (length (piece 2 ts) + (1 + length (piece 4 ts))) 15))))

unfoldable pub is_payment : Line → Bool
is_payment l = payment_test (payment_parts l)

unfoldable pub is_own_account : Line → Bool
is_own_account l = starts (bytes "/D/") l && just digit 20 (drop 3 l)

-- //RU, BIK, and perhaps an account behind a point
abbrev pub bik_parts : Line → List Text
bik_parts l = cut_by (sized 4 ∷ sized 9 ∷ []) l

unfoldable pub is_party_by_bik : Line → Bool
is_party_by_bik l =
    same (piece 0 (bik_parts l)) (bytes "//RU") && (just digit 9 (piece 1 (bik_parts l)) && (same (take 2 (piece 1 (bik_parts l))) (bytes "04")
    && perhaps (bytes ".") (just digit 20) (piece 2 (bik_parts l))))

unfoldable pub is_party : Line → Bool
is_party l = is_party_by_bik l || (starts (bytes "/") l && just digit 20 (drop 1 l))

-- bank, land, location, branch
abbrev pub bic_parts : Line → List Text
bic_parts l = cut_by (sized 4 ∷ sized 2 ∷ sized 2 ∷ []) l

abbrev pub bic_test : List Text → Bool
bic_test ts =
    just capital 4 (piece 0 ts) && (just capital 2 (piece 1 ts) && (just capital_or_digit 2 (piece 2 ts) && (empty (piece 3 ts) || just capital_or_digit 3 (piece 3 ts))))

unfoldable pub is_bic : Line → Bool
is_bic l = bic_test (bic_parts l)

unfoldable pub is_account : Line → Bool
is_account l = starts (bytes "/") l && (sizes 1 34 (drop 1 l) && not (begins (ascii "/") (drop 1 l)))

abbrev pub is_inn : Bool → Text → Bool
is_inn true s = just digit 10 s || just digit 12 s
is_inn false s = just digit 10 s

-- INN, its digits, and perhaps a KPP
abbrev pub tax_parts : Line → List Text
tax_parts l = cut_by (sized 3 ∷ digits ∷ []) l

unfoldable pub is_tax : Bool → Line → Bool
is_tax twelve l = same (piece 0 (tax_parts l)) (bytes "INN") && (is_inn twelve (piece 1 (tax_parts l)) && perhaps (bytes ".KPP") (just digit 9) (piece 2 (tax_parts l)))

unfoldable pub looks_tax : Line → Bool
looks_tax l = word_and_digit (bytes "INN") l

abbrev pub is_name : Line → Bool
is_name l = sizes 1 35 l

abbrev pub is_way : Text → Bool
is_way w = same w (bytes "POST") || (same w (bytes "TELG") || (same w (bytes "ELEK") || same w (bytes "BESP")))

-- /RPP/, number, point, date, point, turn, point, way; perhaps a value date behind a point; and perhaps two digits behind one
abbrev pub rpp_pieces : List Piece
rpp_pieces = sized 5 ∷ digits ∷ sized 1 ∷ sized 6 ∷ sized 1 ∷ sized 1 ∷ sized 1 ∷ sized 4 ∷ all_of (length (bytes ".") + 6) ∷ []

abbrev pub rpp_parts : Line → List Text
rpp_parts l = cut_by rpp_pieces l

abbrev pub rpp_test : List Text → Bool
rpp_test ts =
    same (piece 0 ts) (bytes "/RPP/") && ((leb 1 (length (piece 1 ts)) && (leb (length (piece 1 ts)) 6 && all digit (piece 1 ts))) && (same (piece 2 ts) (bytes ".")
    && (just digit 6 (piece 3 ts) && (same (piece 4 ts) (bytes ".") && (just digit 1 (piece 5 ts) && (same (piece 6 ts) (bytes ".")
    && (is_way (piece 7 ts) && (perhaps (bytes ".") (just digit 6) (piece 8 ts) && perhaps (bytes ".") (just digit 2) (piece 9 ts)))))))))

unfoldable pub is_rpp : Line → Bool
is_rpp l = rpp_test (rpp_parts l)

-- ---- a field's lines
abbrev pub one : (Line → Bool) → List Line → Bool
one p [] = false
one p (l ∷ []) = p l
one p (l ∷ k ∷ ls) = false

abbrev pub first_then : (Line → Bool) → (List Line → Bool) → List Line → Bool
first_then p q [] = false
first_then p q (l ∷ ls) = p l && q ls

abbrev pub any : List Line → Bool
any ls = true

abbrev pub several : (Line → Bool) → ℕ → List Line → Bool
several p n ls = leb 1 (length ls) && (leb (length ls) n && all p ls)

abbrev pub beside : Bool → List Line → Bool
beside twelve ls = first_then (is_tax twelve) (several is_name 3) ls || (not (first_then looks_tax any ls) && several is_name 4 ls)

abbrev pub customer : Bool → List Line → Bool
customer twelve ls = first_then is_account (beside twelve) ls

abbrev pub payer : List Line → Bool
payer ls = customer true ls || (not (first_then (begins (ascii "/")) any ls) && beside true ls)

-- the mark, what opens the VO code, its digits, what closes it, the text on its line
abbrev pub code_parts : Text → Bool → Line → List Text
code_parts first sign l = cut_by (sized (length first) ∷ sized (length (code_opening sign)) ∷ sized 5 ∷ sized (length (code_closing sign)) ∷ []) l

abbrev pub code_test : Text → ℕ → Bool → List Text → Bool
code_test first room sign ts =
    same (piece 0 ts) first && (same (piece 1 ts) (code_opening sign) && (just digit 5 (piece 2 ts) && (same (piece 3 ts) (code_closing sign)
    && leb (length (code_opening sign) + (5 + (length (code_closing sign) + length (piece 4 ts)))) room)))

-- a mark, and behind it from one byte to its room
abbrev pub marked : Text → ℕ → Line → Bool
marked mark room l = starts mark l && sizes 1 room (drop (length mark) l)

unfoldable pub is_details : Text → Text → ℕ → ℕ → ℕ → Bool → List Line → Bool
is_details first later room rest most sign [] = false
is_details first later room rest most sign (l ∷ ls) =
    code_test first room sign (code_parts first sign l)
    && (all (marked later rest) ls && (leb (length (l ∷ ls)) most && not (empty (piece 4 (code_parts first sign l)) && empty ls)))

abbrev pub in_72 : Bool → ℕ → List Line → Bool
in_72 sign most ls = is_details (bytes "/NZP/") (bytes "//") 30 33 most sign ls

unfoldable pub is_rest : ℕ → List Line → Bool
is_rest most [] = false
is_rest most (l ∷ ls) = marked (bytes "/NZP/") 30 l && (all (marked (bytes "//") 33) ls && leb (length (l ∷ ls)) most)

-- ---- the lines are as what the field holds asks
unfoldable pub right : Content → Bool → List Line → Bool
right holds.Unknown sign ls = false
right holds.Reference sign ls = one is_reference ls
right holds.Related sign ls = one (λ l. same l (bytes "NONREF")) ls
right holds.Operation sign ls = one (λ l. same l (bytes "CRED")) ls
right holds.Purpose sign ls = one is_purpose ls
right holds.Payment sign ls = one is_payment ls
right holds.Payer sign ls = payer ls
right holds.BankByBic sign ls = one is_bic ls || first_then is_party (one is_bic) ls
right holds.BankByName sign ls = first_then is_party (several is_name 4) ls
right holds.OwnAccount sign ls = one is_own_account ls
right holds.AccountAndBic sign ls = first_then is_account (one is_bic) ls
right holds.BeneficiaryBank sign ls = customer false ls
right holds.Beneficiary sign ls = customer true ls
right holds.Details sign ls = is_details [] [] 35 35 4 sign ls
right holds.Charges sign ls = one (λ l. same l (bytes "OUR")) ls
right holds.DocumentAndRest sign ls = one is_rpp ls || (is_rest 6 ls || first_then is_rpp (is_rest 5) ls)
right holds.DocumentAndDetails sign ls = in_72 sign 6 ls || first_then is_rpp (in_72 sign 5) ls
right holds.Regulatory sign ls = first_then (begins (ascii "/")) any ls && several is_name 3 ls
