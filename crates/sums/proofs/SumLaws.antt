-- A value is one sum's.
use Rattle.std.proofs.Common.{◌≡◌, List, [], ℕ, refl, Decides, ap, subst}
use Rattle.std.proofs.Props.{props}
use Rattle.std.proofs.lemmas.Bool.Decides.{Decides-eqb}
use Rattle.std.proofs.lemmas.Slice.Eq.{slice_eq-Decides}
use Rattle.formats.specs.Value.{finite}
use Rattle.formats.specs.ValueLaws.{same_finite}
use Rattle.sums.specs.Sums.{value}
use Rattle.sums.specs.Words.{Eight, twos_complement}
use Rattle.sums.specs.declared.signed.Signed.{Signed}
use Rattle.sums.specs.declared.sum.Sum.{Sum}
use Rattle.sums.specs.declared.sum.Sum.TheVariants.{NotANumber, PositiveInfinity, NegativeInfinity, Finite}
use Rattle.sums.proofs.SignedLaws.{words_signed}
use Rattle.sums.specs.contracts.sum.SumPartialEq.TheImpl as SumPartialEq

one_proof : (ws : List ℕ) → IsProp (Eight ws)
one_proof ws = Prim.hlevel props

held : (ws : List ℕ) → Eight ws → Signed
held ws h = record { words = ws; eight = h }

same_words : (ws vs : List ℕ) → ws ≡ vs → (h : Eight ws) (g : Eight vs) → held ws h ≡ held vs g
same_words ws vs e = subst (λ us. (h : Eight ws) (g : Eight us) → held ws h ≡ held us g) e (λ h g. ap (held ws) (one_proof ws h g))

same_signed : (a b : Signed) → twos_complement a.words ≡ twos_complement b.words → a ≡ b
unfolding held
same_signed a b e = same_words a.words b.words (words_signed a.words b.words a.eight b.eight e) a.eight b.eight

pub value_once : (a b : Sum) → value a ≡ value b → a ≡ b
value_once NotANumber NotANumber e = refl
value_once PositiveInfinity PositiveInfinity e = refl
value_once NegativeInfinity NegativeInfinity e = refl
value_once (Finite a) (Finite b) e = ap (λ s. Finite s) (same_signed a b (same_finite (finite (twos_complement a.words)) _ _ refl e))
value_once NotANumber PositiveInfinity e = cc
value_once NotANumber NegativeInfinity e = cc
value_once NotANumber (Finite b) e = cc
value_once PositiveInfinity NotANumber e = cc
value_once PositiveInfinity NegativeInfinity e = cc
value_once PositiveInfinity (Finite b) e = cc
value_once NegativeInfinity NotANumber e = cc
value_once NegativeInfinity PositiveInfinity e = cc
value_once NegativeInfinity (Finite b) e = cc
value_once (Finite a) NotANumber e = cc
value_once (Finite a) PositiveInfinity e = cc
value_once (Finite a) NegativeInfinity e = cc

words_of_sum : Sum → List ℕ
words_of_sum NotANumber = []
words_of_sum PositiveInfinity = []
words_of_sum NegativeInfinity = []
words_of_sum (Finite a) = a.words

-- the derived equality
pub decided : (a b : Sum) → Decides (SumPartialEq.ghosts.eq a b) (a ≡ b)
unfolding words_of_sum
decided NotANumber NotANumber = (λ e. refl, λ e. refl)
decided PositiveInfinity PositiveInfinity = (λ e. refl, λ e. refl)
decided NegativeInfinity NegativeInfinity = (λ e. refl, λ e. refl)
decided (Finite a) (Finite b) =
    let words = slice_eq-Decides Decides-eqb a.words b.words _ refl in
    (λ e. ap (λ s. Finite s) (same_signed a b (ap twos_complement (words.0 e))), λ e. words.1 (ap words_of_sum e))
decided NotANumber PositiveInfinity = (λ e. cc, λ e. cc)
decided NotANumber NegativeInfinity = (λ e. cc, λ e. cc)
decided NotANumber (Finite b) = (λ e. cc, λ e. cc)
decided PositiveInfinity NotANumber = (λ e. cc, λ e. cc)
decided PositiveInfinity NegativeInfinity = (λ e. cc, λ e. cc)
decided PositiveInfinity (Finite b) = (λ e. cc, λ e. cc)
decided NegativeInfinity NotANumber = (λ e. cc, λ e. cc)
decided NegativeInfinity PositiveInfinity = (λ e. cc, λ e. cc)
decided NegativeInfinity (Finite b) = (λ e. cc, λ e. cc)
decided (Finite a) NotANumber = (λ e. cc, λ e. cc)
decided (Finite a) PositiveInfinity = (λ e. cc, λ e. cc)
decided (Finite a) NegativeInfinity = (λ e. cc, λ e. cc)

pub decided_value : (a b : Sum) → Decides (SumPartialEq.ghosts.eq a b) (value a ≡ value b)
decided_value a b = let same = decided a b in (λ e. ap value (same.0 e), λ e. same.1 (value_once a b e))
