-- Worked examples of 14 and 21, as one list (T7, T8, T12, N14a-N14d, N21, B7). That they hold is proved in proofs/Examples.antt. Assumes nothing.
use Rattle.std.specs.Prelude.{ℕ, ◌≡◌, Bool, true, false, List, [], ◌∷◌}
use Prim.Native.String.{String}
use Rattle.types.specs.Form.{form_of}
use Rattle.base.specs.Quoted.{bytes}
use Rattle.base.specs.Calls.{stuck}
use Rattle.base.specs.Verdicts.{Fine, Broken}
use Rattle.alphabets.specs.Bank.{reading}
use Rattle.fields.specs.Field.{Field}
use Rattle.fields.specs.Cases.{of, texts}
use Rattle.roles.specs.Role.{shape_of, Part, copy, name, tax_name, cast}
use Rattle.roles.specs.Speech.{as_details, Speech, speech, speeches}
use Rattle.roles.specs.Rule14.{rule_14}
use Rattle.roles.specs.Rule21.{rule_21}

pub data Case : Type 0 where
  -- 14 takes these fields of a type, or refuses them at a place; the first field is 20 with the sign, so that the others stand from 13 on
  takes : ℕ → List Field → Case
  refuses : ℕ → List Field → ℕ → Case
  -- the same fields, with that content of 20
  silent : String → ℕ → List Field → Case
  -- the lines of a tag are cast so
  casts : ℕ → String → List String → List Part → Case
  -- the texts of a tag's lines, with the sign or without it, from place 0 on
  says : Bool → ℕ → String → List String → List Speech → Case
  -- a text with the sign stops there
  stops : String → ℕ → Case
  -- 21 takes these fields of a type behind a 20 with that content, or refuses them at a place
  fits : String → ℕ → List Field → Case
  exceeds : String → ℕ → List Field → ℕ → Case

abbrev pub signed : List Field → List Field
signed fs = of "20" ("+A" ∷ []) ∷ fs

abbrev pub Holds : Case → Type 0
Holds (takes kind fs) = rule_14 (form_of kind) (signed fs) ≡ Fine
Holds (refuses kind fs p) = rule_14 (form_of kind) (signed fs) ≡ Broken 14 p
Holds (silent s kind fs) = rule_14 (form_of kind) (of "20" (s ∷ []) ∷ fs) ≡ Fine
Holds (casts kind t ls ps) = cast (shape_of (form_of kind) (bytes t)) (texts ls) ≡ ps
Holds (says s kind t ls xs) = speeches s (shape_of (form_of kind) (bytes t)) 0 (texts ls) ≡ xs
Holds (stops b k) = reading true (bytes b) ≡ stuck k
Holds (fits s kind fs) = rule_21 (form_of kind) (of "20" (s ∷ []) ∷ fs) ≡ Fine
Holds (exceeds s kind fs p) = rule_21 (form_of kind) (of "20" (s ∷ []) ∷ fs) ≡ Broken 21 p

-- one field, its content lines
abbrev pub one : String → List String → List Field
one t ls = of t ls ∷ []

-- 70 as full as can be: its code and its text have 140 bytes, without the sign, and with it, some apostrophes idle
abbrev pub full : Field
full = of "70" ("(VO12345)AAAAAAAAAAAAAAAAAAAAAAAAAA" ∷ "AAAAAAAAAAAAAAAAAAAAAAAAAAAAAAAAAAA" ∷ "AAAAAAAAAAAAAAAAAAAAAAAAAAAAAAAAAAA" ∷ "AAAAAAAAAAAAAAAAAAAAAAAAAAAAAAAAAAA" ∷ [])

abbrev pub full_signed : Field
full_signed = of "70" ("'(VO12345)'''AAAAAAAAAAAAAAAAAAAAAA" ∷ "AAAAAAAAAAAAAAAAAAAAAAAAAAAAAAAAAAA" ∷ "''''AAAAAAAAAAAAAAAAAAAAAAAAAAAAAAA" ∷ "AAAAAAAAAAAAAAAAAAAAAAAAAAAAAAAAAAA" ∷ [])

-- 72: /NZP/ with 30 bytes, // with 33, then these lines; 7 of the 210 are left for them
abbrev pub up_to : List String → List String
up_to ls = "/NZP/BBBBBBBBBBBBBBBBBBBBBBBBBBBBBB" ∷ "//BBBBBBBBBBBBBBBBBBBBBBBBBBBBBBBBB" ∷ ls

unfoldable pub cases : List Case
cases =
    -- who is who: the account, the tax line, names; a tax line outside the tax place is a name
    casts 103 "50K" ("/40702" ∷ "INN7" ∷ "NORD" ∷ []) (copy (bytes "/40702") ∷ copy (bytes "INN7") ∷ name (bytes "NORD") ∷ [])
    ∷ casts 103 "50K" ("INN7" ∷ "INN7" ∷ []) (copy (bytes "INN7") ∷ name (bytes "INN7") ∷ [])
    ∷ casts 103 "50K" ("NORD" ∷ "/A" ∷ []) (tax_name (bytes "NORD") ∷ name (bytes "/A") ∷ [])
    ∷ casts 103 "59" ("NORD" ∷ "INN" ∷ []) (name (bytes "NORD") ∷ tax_name (bytes "INN") ∷ [])
    ∷ casts 202 "58D" ("/1" ∷ "NORD" ∷ []) (copy (bytes "/1") ∷ tax_name (bytes "NORD") ∷ [])
    ∷ casts 103 "58D" ("/1" ∷ "NORD" ∷ []) (copy (bytes "/1") ∷ copy (bytes "NORD") ∷ [])
    ∷ casts 103 "57D" ("NORD" ∷ "INN7" ∷ []) (copy (bytes "NORD") ∷ name (bytes "INN7") ∷ [])
    ∷ casts 202 "70" ("A" ∷ []) (copy (bytes "A") ∷ [])
    ∷ casts 101 "50K" ("A" ∷ []) (copy (bytes "A") ∷ [])
    -- S6, S7, parts of a sheet: the tax place of 59 and 58D is the second part, of 50K the second behind a first that begins with /; there
    -- Latin INN and a digit are copied, with an apostrophe too, and any other part is a name
    ∷ casts 103 "50K" ("/1" ∷ "NORD" ∷ "INN7" ∷ []) (copy (bytes "/1") ∷ tax_name (bytes "NORD") ∷ name (bytes "INN7") ∷ [])
    ∷ casts 103 "50K" ("//1" ∷ "INN7'" ∷ []) (copy (bytes "//1") ∷ copy (bytes "INN7'") ∷ [])
    ∷ casts 103 "50K" ("INNA" ∷ "INN7" ∷ []) (tax_name (bytes "INNA") ∷ name (bytes "INN7") ∷ [])
    ∷ casts 103 "59" ("INN7" ∷ "INN7" ∷ "INN7" ∷ []) (name (bytes "INN7") ∷ copy (bytes "INN7") ∷ name (bytes "INN7") ∷ [])
    ∷ casts 103 "59" ("/1" ∷ "/2" ∷ []) (copy (bytes "/1") ∷ tax_name (bytes "/2") ∷ [])
    ∷ casts 202 "58D" ("NORD" ∷ "INN7" ∷ "/1" ∷ []) (name (bytes "NORD") ∷ copy (bytes "INN7") ∷ name (bytes "/1") ∷ [])
    -- the first part of 56D and 57D is copied, whatever it is, and every later one is a name; all other tags' parts are copied
    ∷ casts 103 "56D" ("INN7" ∷ "/1" ∷ "INN7" ∷ []) (copy (bytes "INN7") ∷ name (bytes "/1") ∷ name (bytes "INN7") ∷ [])
    ∷ casts 202 "56D" ("//RU" ∷ "NORD" ∷ []) (copy (bytes "//RU") ∷ name (bytes "NORD") ∷ [])
    ∷ casts 202 "57D" ("//RU" ∷ "NORD" ∷ []) (copy (bytes "//RU") ∷ name (bytes "NORD") ∷ [])
    ∷ casts 103 "57A" ("/1" ∷ "NORD" ∷ []) (copy (bytes "/1") ∷ copy (bytes "NORD") ∷ [])
    ∷ casts 202 "50K" ("NORD" ∷ []) (copy (bytes "NORD") ∷ [])
    ∷ casts 202 "59" ("NORD" ∷ []) (copy (bytes "NORD") ∷ [])
    ∷ casts 103 "77B" ("/A" ∷ "B" ∷ []) (copy (bytes "/A") ∷ copy (bytes "B") ∷ [])
    -- T12: the text behind the code starts afresh
    ∷ says true 103 "70" ("'(VO10100)''A'" ∷ []) (speech as_details 11 (bytes "'A'") ∷ [])
    ∷ takes 103 (one "70" ("'(VO10100)''A'" ∷ []))
    -- without the sign the code is shorter
    ∷ says false 103 "70" ("(VO10100)A" ∷ "B" ∷ []) (speech as_details 9 (bytes "AB") ∷ [])
    ∷ says false 202 "72" ("/NZP/(VO10100)" ∷ "//A" ∷ "//B" ∷ []) (speech as_details 18 (bytes "AB") ∷ [])
    -- N14d: the code ends its line
    ∷ refuses 103 (one "70" ("'(VO10100)'A" ∷ "W" ∷ [])) 28
    ∷ refuses 103 (one "70" ("'(VO10100)'" ∷ "W" ∷ [])) 30
    ∷ refuses 202 (one "72" ("/NZP/'(VO10100)'W" ∷ [])) 33
    ∷ refuses 202 (one "72" ("/NZP/'(VO10100)'" ∷ "//W" ∷ [])) 37
    ∷ refuses 202 (one "72" ("/RPP/1.240229.1.ELEK" ∷ "/NZP/'(VO10100)'" ∷ "//W" ∷ [])) 59
    ∷ takes 103 (one "72" ("/RPP/W" ∷ []))
    -- 72 of a 103: no text in an RPP line; the rest of the details is one text over its lines, and a code there is part of it
    ∷ says true 103 "72" ("/RPP/1.240229.1.ELEK" ∷ []) []
    ∷ says true 103 "72" ("/NZP/A" ∷ "//B" ∷ []) (speech as_details 5 (bytes "AB") ∷ [])
    ∷ says false 103 "72" ("/NZP/(VO12345)" ∷ "//A" ∷ []) (speech as_details 5 (bytes "(VO12345)A") ∷ [])
    ∷ says true 103 "72" ("/RPP/1.240229.1.ELEK" ∷ "/NZP/'(VO12345)'A" ∷ []) (speech as_details 27 (bytes "'(VO12345)'A") ∷ [])
    ∷ takes 103 (one "72" ("/NZP/'W" ∷ "//W'" ∷ []))
    ∷ refuses 103 (one "72" ("/NZP/W" ∷ [])) 22
    ∷ refuses 103 (one "72" ("/NZP/''" ∷ [])) 22
    ∷ refuses 103 (one "72" ("/NZP/A" ∷ "//'B" ∷ [])) 22
    ∷ refuses 103 (one "72" ("/RPP/1.240229.1.ELEK" ∷ "/NZP/A" ∷ "//W" ∷ [])) 44
    -- each half is a text by itself, and 70 stands before 72
    ∷ refuses 103 (of "70" ("'(VO12345)''A" ∷ []) ∷ of "72" ("/NZP/B'" ∷ []) ∷ []) 28
    ∷ refuses 103 (of "70" ("'(VO12345)''A'" ∷ []) ∷ of "72" ("/NZP/B'" ∷ []) ∷ []) 42
    ∷ takes 103 (of "70" ("'(VO12345)''A'" ∷ []) ∷ of "72" ("/NZP/'B'" ∷ []) ∷ [])
    -- N14a: an empty reading, no reading; T7: a name ends on the Russian side by itself, details at their end
    ∷ refuses 103 (one "50K" ("''" ∷ [])) 18
    ∷ refuses 103 (one "50K" ("A" ∷ "W" ∷ [])) 21
    ∷ refuses 103 (one "50K" ("'A" ∷ "B'" ∷ [])) 18
    ∷ takes 103 (one "70" ("'(VO10100)'A'B" ∷ "W'C" ∷ []))
    ∷ refuses 103 (one "70" ("'(VO10100)'A'B" ∷ "W" ∷ [])) 28
    ∷ refuses 103 (one "70" ("'(VO10100)'''" ∷ [])) 28
    ∷ takes 103 (one "56D" ("W" ∷ "A" ∷ []))
    ∷ refuses 103 (one "56D" ("W" ∷ "W" ∷ [])) 21
    -- N14b: every name, even where it would do no harm
    ∷ refuses 103 (one "50K" ("'-'" ∷ [])) 18
    ∷ refuses 103 (one "50K" ("A" ∷ "''/" ∷ [])) 21
    ∷ refuses 103 (one "50K" ("A" ∷ "':A'" ∷ [])) 21
    ∷ takes 103 (one "50K" ("A" ∷ "/A" ∷ "'A-'" ∷ []))
    ∷ takes 103 (one "70" ("'(VO10100)''-'" ∷ []))
    -- N14c: three letters of one alphabet and a digit, in whatever spelling
    ∷ refuses 103 (one "59" ("/1" ∷ "I''NN7" ∷ [])) 21
    ∷ refuses 103 (one "59" ("/1" ∷ "INN''7" ∷ [])) 21
    ∷ refuses 103 (one "59" ("/1" ∷ "'INN'7" ∷ [])) 21
    ∷ refuses 103 (one "50K" ("'INN7'" ∷ [])) 18
    ∷ takes 103 (one "59" ("/1" ∷ "'I'NN7" ∷ []))
    ∷ takes 103 (one "59" ("/1" ∷ "'INN'A" ∷ "'INN'7" ∷ []))
    ∷ takes 103 (one "59" ("/1" ∷ "INN7" ∷ []))
    -- T8: a byte outside the x set, before an open end
    ∷ stops "'A;B" 2
    ∷ stops ";" 0
    ∷ stops "'AB" 3
    -- the first of two, and no sign: no 20 with a +, or not the first
    ∷ refuses 103 (of "50K" ("A" ∷ "W" ∷ []) ∷ of "59" ("W" ∷ []) ∷ []) 21
    ∷ refuses 103 (of "50K" ("A" ∷ "B" ∷ []) ∷ of "59" ("W" ∷ []) ∷ []) 28
    ∷ silent "A+" 103 (one "50K" ("W" ∷ []))
    ∷ silent "A" 103 (of "20" ("+A" ∷ []) ∷ of "50K" ("W" ∷ []) ∷ [])
    -- 21: 210 bytes and 211, at /NZP/; an RPP line in front does not count, and one alone has no text
    ∷ fits "A" 103 (full ∷ of "72" (up_to ("//CCCCCCC" ∷ [])) ∷ [])
    ∷ exceeds "A" 103 (full ∷ of "72" (up_to ("//CCCCCCCC" ∷ [])) ∷ []) 168
    ∷ fits "A" 103 (full ∷ of "72" ("/RPP/1.240229.1.ELEK" ∷ up_to ("//CCCCCCC" ∷ [])) ∷ [])
    ∷ exceeds "A" 103 (full ∷ of "72" ("/RPP/1.240229.1.ELEK" ∷ up_to ("//CCCCCCCC" ∷ [])) ∷ []) 190
    ∷ fits "A" 103 (full ∷ of "72" ("/RPP/1.240229.1.ELEK" ∷ []) ∷ [])
    -- with the sign, every byte as it stands: an apostrophe that changes nothing, too
    ∷ fits "+A" 103 (full_signed ∷ of "72" (up_to ("//CCC''''" ∷ [])) ∷ [])
    ∷ exceeds "+A" 103 (full_signed ∷ of "72" (up_to ("//CCCC''''" ∷ [])) ∷ []) 169
    -- the code is counted once, in 70; what looks like one in 72 is text
    ∷ fits "A" 103 (full ∷ of "72" ("/NZP/(VO12345)BBBBBBBBBBBBBBBBBBBBB" ∷ "//BBBBBBBBBBBBBBBBBBBBBBBBBBBBBBBBB" ∷ "//CCCCCCC" ∷ []) ∷ [])
    ∷ exceeds "A" 103 (full ∷ of "72" ("/NZP/(VO12345)BBBBBBBBBBBBBBBBBBBBB" ∷ "//BBBBBBBBBBBBBBBBBBBBBBBBBBBBBBBBB" ∷ "//CCCCCCCC" ∷ []) ∷ []) 168
    -- in a 202 never
    ∷ fits "A" 202 (full ∷ of "72" (up_to ("//CCCCCCCC" ∷ [])) ∷ [])
    ∷ []
