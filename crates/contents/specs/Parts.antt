-- The parts of a line by name, and where they begin: those that it is cut into (Tests). Of a line of the format they are the parts that the
-- grammar names (proofs/LineTests: `paid_parts`, `bik_parts_lem`, `tax_parts_lem`, `rpp_parts_lem`). Assumes nothing.
use Rattle.std.specs.Prelude.{ℕ, ◌+◌, Bool, List, length, take, drop}
use Prim.Native.String.{String}
use Rattle.base.specs.Quoted.{bytes}
use Rattle.contents.specs.Words.{Text, Line, join}
use Rattle.contents.specs.Tests.{piece, starts, payment_parts, bik_parts, tax_parts, rpp_parts}

-- where the k-th of these begins
abbrev pub before : ℕ → List Text → ℕ
before k ts = length (join (take k ts))

-- a part that is perhaps there, without its mark
abbrev pub unmarked : String → Text → Text
unmarked mark s = drop (length (bytes mark)) s

-- ---- C32A
abbrev pub paid_date : Line → Text
paid_date l = piece 0 (payment_parts l)

abbrev pub paid_currency : Line → Text
paid_currency l = piece 1 (payment_parts l)

abbrev pub paid_whole : Line → Text
paid_whole l = piece 2 (payment_parts l)

abbrev pub paid_decimals : Line → Text
paid_decimals l = piece 4 (payment_parts l)

abbrev pub currency_at : Line → ℕ
currency_at l = before 1 (payment_parts l)

-- ---- Cparty
abbrev pub party_bik : Line → Text
party_bik l = piece 1 (bik_parts l)

abbrev pub party_account : Line → Text
party_account l = unmarked "." (piece 2 (bik_parts l))

-- ---- Ctax
abbrev pub tax_inn : Line → Text
tax_inn l = piece 1 (tax_parts l)

abbrev pub tax_kpp : Line → Text
tax_kpp l = unmarked ".KPP" (piece 2 (tax_parts l))

-- ---- Crpp: a line or a content that begins so is taken for one
abbrev pub opens_rpp : Line → Bool
opens_rpp l = starts (bytes "/RPP/") l

abbrev pub rpp_date : Line → Text
rpp_date l = piece 3 (rpp_parts l)

abbrev pub rpp_date_at : Line → ℕ
rpp_date_at l = before 3 (rpp_parts l)

-- the value date, behind its point
abbrev pub rpp_value : Line → Text
rpp_value l = unmarked "." (piece 8 (rpp_parts l))

abbrev pub rpp_value_at : Line → ℕ
rpp_value_at l = length (bytes ".") + before 8 (rpp_parts l)
