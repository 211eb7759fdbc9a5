-- That what the quick pass found of a message is one fact, which its fields keep. Assumes nothing.
use Rattle.std.specs.Prelude.{ℕ, ◌≡◌, List, Ok, refl}
use Rattle.std.specs.Coded.{Coded, Coded-set, code_by, coded_ℕ, coded_list, coded×, coded_result}
use Rattle.types.specs.declared.Form.{Form}
use Rattle.base.specs.declared.Refusal.{Refusal}
use Rattle.frame.specs.declared.Frame.{Frame}
use Rattle.frame.specs.Frame.{frame_of}

-- a refusal and what the pass finds, stored as their parts
abbrev refusal_code : Coded Refusal
refusal_code = code_by (ℕ × ℕ) (coded× coded_ℕ coded_ℕ) (λ r. (r.number, r.place)) (λ p. record { number = p.0; place = p.1 }) (λ _. refl)

abbrev frame_code : Coded Frame
frame_code =
    code_by (ℕ × (ℕ × List ℕ)) (coded× coded_ℕ (coded× coded_ℕ (coded_list coded_ℕ))) (λ f. (f.fields, (f.present, f.spots))) (λ p. record { fields = p.0; present = p.1.0; spots = p.1.1 }) (λ _. refl)

pub taken_once : (form : Form) (m : List ℕ) (f : Frame) → IsProp (frame_of form m ≡ Ok f)
taken_once form m f = Coded-set (coded_result frame_code refusal_code) (frame_of form m) (Ok f)
