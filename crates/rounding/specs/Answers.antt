-- What the steps of the projection answer.
use Rattle.std.specs.Prelude.{◌≡◌, ℕ, Bool, false, not, cond, Some, None}
use Rattle.std.specs.Option.{is_some}
use Rattle.formats.specs.Meaning.{Meaning}
use Rattle.formats.specs.Readings.{fine}
use Rattle.formats.specs.Value.{Value, finite, signed, finer}
use Rattle.sums.specs.Cuts.{CutAt}
use Rattle.sums.specs.Sums.{size_of, below_zero}
use Rattle.sums.specs.declared.magnitude.Cut.{Cut}
use Rattle.rounding.specs.Projection.{last_place, is_odd, of_size, mark_of}
use Rattle.rounding.specs.Rule.{Rule}
use Rattle.rounding.specs.declared.answers.Mark.{Mark}
use Rattle.rounding.specs.declared.answers.Mark.TheVariants.{Exact, Low, High}
use Rattle.rounding.specs.declared.answers.Saturation.{Saturation}
use Rattle.rounding.specs.declared.project.Answer.{Answer}
use Rattle.rounding.specs.declared.placed.Placed.{Placed}

-- the reading v and the mark that it gets beside x
pub record Answers (x v : Value) (a : Answer) : Type 0 where
  pub reading : fine a.reading ≡ finer 96 v
  pub mark : a.mark ≡ mark_of x v

-- the mark of a reading above the value, and of one below it
abbrev pub beside : Bool → Mark
beside above = cond above High Low

-- the mark of a number cut at a bit, which goes to the next one away from zero or not
abbrev pub cut_mark : Bool → Cut → Bool → Mark
cut_mark negative cut away = cond (is_some cut.remainder) (beside (cond away (not negative) negative)) Exact

-- whether a number cut at a bit goes to the next one away from zero
abbrev pub cut_away : Rule → Bool → Cut → Bool
cut_away rule negative cut = elim cut.remainder [ None ↦ false | Some left ↦ rule.away negative (is_odd cut.digits) left ]

-- the sign of a finite value, and its size cut at the last place
pub record IsPlaced (m : Meaning) (v : Value) (p : Placed) : Type 0 where
  pub negative : p.negative ≡ below_zero v
  pub place : p.place ≡ last_place m (size_of v)
  pub cut : CutAt (size_of v) p.place p.cut

-- the answer for any size that is so cut at its last place
abbrev pub Settles : Meaning → Rule → Saturation → Placed → Answer → Type 0
Settles m rule mode p r = (n : ℕ) → p.place ≡ last_place m n → CutAt n p.place p.cut →
    Answers (finite (signed p.negative n)) (of_size m rule mode p.negative n) r
