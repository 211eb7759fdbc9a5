-- There and back through the exports: the sheet that `desk_to_message` took comes back from `desk_to_sheet`, byte for byte; and the sheet that
-- `desk_to_sheet` left is written again as a message of that sheet, or refused by 16; and why details break where they do in the message that
-- `desk_to_message` left (D2d, D2e, K4, K7, B10). Assumes nothing.
use Prim.Native.Nat.{ℕ, ◌≤◌}
use mathlib.Core.Path.{◌≡◌, sym, ap, ◌∙◌, subst}
use mathlib.Core.List.{List, ◌++◌}
use lib.ListN.{length, take, drop}
use Rattle.base.specs.Calls.{over}
use Rattle.base.specs.Verdicts.{Fine, Outcome, Done}
use Rattle.fields.specs.Frame.{limit}
use Rattle.types.specs.declared.Form.{Form}
use Rattle.types.specs.Form.{form_of}
use Rattle.message.specs.Message.{verdict_of}
use Rattle.writer.specs.Sheet.{MessageTo}
use Rattle.sheets.specs.Gather.{sheet_of}
use Rattle.sheets.specs.Calls.{SheetTo}
use Rattle.sheets.proofs.ToSheetTheorems.{sheet_wide}
use Rattle.trips.specs.Again.{Returns}
use Rattle.trips.specs.Again as trips
use Rattle.trips.specs.Back.{kind_in}
use Rattle.trips.specs.Why.{WhyMessage}
use Rattle.trips.proofs.BackLaws.{written_type, written_reads}
use Rattle.trips.proofs.AgainTheorems.{read_fine, limit_returns}
use Rattle.trips.proofs.WhyLaws.{written_why}
use Rattle.desk.specs.Answer.{word}
use Rattle.desk.specs.Exports.{WordOf, MessageWord, SheetWord}
use Rattle.desk.specs.Sizes.{SmallOutcome}
use Rattle.desk.specs.Back.{Below, LeavesSheet, Rewritten, again, crowded}
use Rattle.desk.proofs.Sizes.{sheet_as}
use Rattle.desk.proofs.Words.{below_iff, message_fits, sheet_fits}

-- a word below 2^63 is what the call reports as done
module _ {Call : Outcome → List ℕ → Type 0} {r : ℕ} {a : List ℕ} (m : WordOf word Call r a) (s : SmallOutcome m.answer) where
  done_by : Below r → Call (Done r) a
  done_by h =
      let d = (below_iff m.answer s).0 (subst Below m.value h) in
      let e : m.answer ≡ Done r = d.1 ∙ ap Done (sym (m.value ∙ ap word d.1)) in
      subst (λ (o : Outcome). Call o a) e m.call

-- ---- from a sheet
pub words_back : (s out : List ℕ) (k : ℕ) (a : List ℕ) → MessageWord s out k a → Below k → LeavesSheet (form_of (kind_in s)) (take k a) s
words_back s out k a m h back r b l n =
    let g : MessageTo s out (Done k) a = done_by m (message_fits s out m) h in
    let w = written_reads s out a k g back n.answer b (sheet_as (take k a) back b n.answer (written_type s out a k g) n.call) l in
    (n.value ∙ ap word w.0, w.1)

-- in the message that it left no other break saves a line
pub words_why : (s out : List ℕ) (k : ℕ) (a : List ℕ) → MessageWord s out k a → Below k → WhyMessage (form_of (kind_in s)) (take k a)
words_why s out k a m h =
    let g : MessageTo s out (Done k) a = done_by m (message_fits s out m) h in
    subst (λ (form : Form). WhyMessage form (take k a)) (sym (written_type s out a k g)) (written_why s out a k g)

-- ---- from a message
leaves_sheet : (form : Form) (m t : List ℕ) → verdict_of form m ≡ Fine → sheet_of form m ≡ t → LeavesSheet form m t
leaves_sheet form m t e q out r after l n =
    let w = sheet_wide form m out n.answer after n.call e (subst (λ (x : List ℕ). length x ≤ length out) (sym q) l) in
    subst (λ (x : List ℕ). (r ≡ word (Done (length x))) × (after ≡ over x out)) q (n.value ∙ ap word w.0, w.1)

pub words_again : (form : Form) (m out : List ℕ) (k : ℕ) (a : List ℕ) → SheetWord form m out k a → Below k
    → (room : List ℕ) (r : ℕ) (b : List ℕ) → limit ≤ length room → MessageWord (take k a) room r b → Rewritten form m (take k a) room r b
words_again form m out k a x h room r b l y = go (limit_returns form m out a k g room y.answer b y.call l)
  where
    g : SheetTo form m out (Done k) a
    g = done_by x (sheet_fits form m out x) h

    go : Returns form m room y.answer b → Rewritten form m (take k a) room r b
    go (trips.back n d f t q) =
        let v : r ≡ n = y.value ∙ ap word d in
        let c : LeavesSheet form (take n b) (take k a) = leaves_sheet form (take n b) (take k a) f (t ∙ sym (read_fine form m out a k g).1) in
        again (subst Below (sym y.value) ((below_iff y.answer (message_fits (take k a) room y)).1 (n, d)))
        (subst (λ (i : ℕ). LeavesSheet form (take i b) (take k a)) (sym v) c) (subst (λ (i : ℕ). b ≡ take i b ++ drop i room) (sym v) q)
    go (trips.crowded d q c) = crowded (y.value ∙ ap word d) q c
