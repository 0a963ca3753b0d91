-- A refusal as its line tells it.
use Rattle.std.specs.Prelude.{◌≡◌, ℕ, List, ◌++◌, codes, decimal}
use Rattle.records.specs.Refusals as refusals
use Rattle.reports.specs.Texts.{layer_word}
use Rattle.reports.specs.declared.refusal.Refusal.{Refusal}

-- it has the number, the layer's word and the place
abbrev pub Tells : Refusal → refusals.Refusal → Type 0
Tells r told = (r.number ≡ told.number) × (r.layer.now ≡ layer_word told.layer) × (r.place ≡ told.place)

abbrev pub refusal_line : Refusal → List ℕ
refusal_line r =
    codes "fault " ++ (decimal r.number ++ (codes " " ++ (r.layer.now ++ (codes " " ++ (decimal r.place ++ codes "\n")))))
