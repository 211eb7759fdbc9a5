-- What a text of details comes to in a 103, as a test of every cut from the last on: it is what Cut.antt says in sentences (B6-B8, T10, N15, N16).
-- Assumes nothing.
use Rattle.std.specs.Prelude.{ℕ, zero, suc, ◌+◌, Bool, not, ◌&&◌, List, [], ◌++◌, ltb, leb, length, take, drop}
use Rattle.base.specs.Choice.{pick}
use Rattle.base.specs.Calls.{Answer, said, stuck, text_of}
use Rattle.alphabets.specs.Best.{writing}
use Rattle.fields.specs.Frame.{limit}
use Rattle.details.specs.declared.DetailsField.{DetailsField}
use Rattle.details.specs.declared.DetailsField.TheVariants.{In70}
use Rattle.details.specs.Layouts.{size_for, is_unfit}
use Rattle.roles.specs.Rule21.{most}
use Rattle.runon.specs.declared.Run.{Run}
use Rattle.runon.specs.declared.Run.TheVariants.{Stuck, Whole, Cut, Unfit}

-- the bank text of a desk text, none where there is none
abbrev pub bank_of : Bool → List ℕ → List ℕ
bank_of s text = text_of (writing s text)

abbrev pub fits_in : Bool → DetailsField → List ℕ → List ℕ → Bool
fits_in s into front text = not (is_unfit (size_for into (length front) (front ++ bank_of s text)))

abbrev pub within_most : Bool → List ℕ → List ℕ → List ℕ → Bool
within_most s front one two = leb (length front + length (bank_of s one) + length (bank_of s two)) most

-- the text may be cut behind its first k bytes
unfoldable pub cut_at : Bool → List ℕ → DetailsField → List ℕ → ℕ → Bool
cut_at s front note text k =
    ltb 0 k && (ltb k (length text) && (within_most s front (take k text) (drop k text) && (fits_in s In70 front (take k text) && fits_in s note [] (drop k text))))

-- behind its first k bytes, or fewer: the last such cut
unfoldable pub last_cut : Bool → List ℕ → DetailsField → List ℕ → ℕ → Run
last_cut s front note text zero = Unfit
last_cut s front note text (suc k) = pick (cut_at s front note text (suc k)) (Cut (suc k)) (last_cut s front note text k)

abbrev pub unless_stuck : Answer → Run → Run
unless_stuck (said t) r = r
unless_stuck (stuck k) r = Stuck k

unfoldable pub run_for : Bool → List ℕ → DetailsField → List ℕ → Run
run_for s front note text =
    pick (ltb limit (length text)) Unfit
    (unless_stuck (writing s text) (pick (fits_in s In70 front text) Whole (last_cut s front note text (length text))))
