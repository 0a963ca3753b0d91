-- What a call comes to, and what becomes of it.
use Rattle.std.proofs.Common.{ℕ, length, Ok, Err, Result, refl, sym, ap, ◌∙◌, subst}
use Rattle.formats.specs.Value.{Value}
use Rattle.formats.specs.declared.fault.Fault.{Fault}
use Rattle.terms.specs.Offers.{Offer, refusal, terms, Offers}
use Rattle.terms.specs.Readings.{term_value}
use Rattle.terms.specs.Terms.{exact_sum}
use Rattle.terms.specs.declared.term.Term.{Term}
use Rattle.terms.proofs.SumLaws.{exact_sum_one}
use Rattle.registers.specs.Batches.{Comes}
use Rattle.registers.specs.Calls.{Brings, Answers}
use Rattle.registers.specs.declared.register.Register.{Register}

pub entered : {T : Type 0} (number : T → ℕ) (total : T → Value) (o : Offer) (t : T) (old new : Register) (a : Result Unit Fault) → Comes number total o (Ok t) → Brings (number t) (total t) old a new → Answers o old a new
entered number total (refusal n place) t old new a comes b = absurd comes
entered number total (terms ts) t old new a (count, sum) b =
    subst (λ n. Brings n (exact_sum ts) old a new) count (subst (λ v. Brings (number t) v old a new) sum b)

pub refused : {T : Type 0} (number : T → ℕ) (total : T → Value) (o : Offer) (f : Fault) (r : Register) → Comes number total o (Err f) → Answers o r (Err f) r
refused number total (refusal n place) f r comes = (comes, refl)
refused number total (terms ts) f r comes = absurd comes

-- one term comes alone
pub comes_alone : (o : Offer) (r : Result Term Fault) → Offers o r → Comes (λ t. 1) term_value o r
comes_alone (refusal n place) (Ok t) offers = offers
comes_alone (refusal n place) (Err f) offers = offers
comes_alone (terms ts) (Ok t) offers = (sym (ap length offers), sym (ap exact_sum offers ∙ exact_sum_one (term_value t)))
comes_alone (terms ts) (Err f) offers = offers
