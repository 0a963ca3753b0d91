-- The register that a history leads to has the count and the exact sum of its list in the book.
use Rattle.std.proofs.Common.{◌≡◌, ℕ, ◌+◌, ◌<◌, ◌≤◌, List, [], ◌∷◌, ◌++◌, length, Ok, Err, Result, sym, refl, ap, ◌∙◌, ⊎_elim, arith}
use Rattle.std.proofs.lemmas.Bool.{cases_eq, eq-eqb, ne_eqb, le-leb, lt-leb}
use Rattle.formats.specs.Value.{Value}
use Rattle.formats.specs.declared.fault.Fault.{Fault}
use Rattle.sums.specs.Exact.{plus}
use Rattle.sums.specs.Sums.{value}
use Rattle.terms.specs.Offers.{Offer, refusal, terms, add_offer, product_offer}
use Rattle.terms.specs.Terms.{exact_sum}
use Rattle.terms.proofs.SumLaws.{exact_sum_none, exact_sum-++}
use Rattle.registers.specs.Calls.{New, Has, limit, Brings, Answers}
use Rattle.registers.specs.Histories.{Call, add, product, dot, join, read, named, entered, listed, note, Book, book, Store, Effect, Step, Leads, Known}
use Rattle.registers.specs.Runs.{dot_offer}
use Rattle.registers.specs.declared.register.Register.{Register}

length_both : (ts us : List Value) → length (ts ++ us) ≡ length ts + length us
length_both [] us = omega arith
length_both (t ∷ ts) us = let h = length_both ts us in omega arith

pub has_new : (r : Register) → New r → Has r []
has_new r n = record { counted = n.none; summed = n.zero ∙ sym exact_sum_none }

-- terms that went in, or were refused, where the book is offered as many of the same exact sum
pub brings_has : (n : ℕ) (v : Value) (old new : Register) (a : Result Unit Fault) (ts us : List Value) → n ≡ length us → v ≡ exact_sum us → Has old ts → Brings n v old a new → Has new (entered ts (terms us))
brings_has n v old new (Ok done) ts us long sum has b =
    let h = has.counted in
    let f = b.fits in
    let c = b.counted in
    let l = length_both ts us in
    let fits : length ts + length us ≤ limit = omega arith in
    rw (le-leb (length ts + length us) limit fits)
    (record {
      counted = omega arith;
      summed = b.summed ∙ ap (λ x. plus x v) has.summed ∙ ap (plus (exact_sum ts)) sum ∙ sym (exact_sum-++ ts us);
    })
brings_has n v old new (Err f) ts us long sum has (full, refuses, same) =
    let h = has.counted in
    let over : limit < length ts + length us = omega arith in
    rw (lt-leb (length ts + length us) limit over, same) has

pub answers_has : (o : Offer) (old new : Register) (a : Result Unit Fault) (ts : List Value) → Has old ts → Answers o old a new → Has new (entered ts o)
answers_has (refusal number place) old new (Ok done) ts has b = absurd b
answers_has (refusal number place) old new (Err f) ts has (refuses, same) = rw same has
answers_has (terms us) old new a ts has b = brings_has (length us) (exact_sum us) old new a ts us refl refl has b

-- the register that a call names first
effect_has : (call : Call) (s : Store) (b : Book) (new : Register) → ((i : ℕ) → Has (s i) (b i)) → Effect call s new → Has new (listed call b)
effect_has (add r f c) s b new has (a, e) = answers_has (add_offer f c) (s r) new a (b r) (has r) e
effect_has (product r f g k x y) s b new has (a, e) = answers_has (product_offer f g k x y) (s r) new a (b r) (has r) e
effect_has (dot r f g k run) s b new has (a, e) = answers_has (dot_offer f g k run) (s r) new a (b r) (has r) e
effect_has (join r o) s b new has (a, e) =
    brings_has (s o).count (value (s o).sum) (s r) new a (b r) (b o) (has o).counted (has o).summed (has r) e
effect_has (read r f rule mode) s b new has e = rw e (has r)

step_has : (call : Call) (s s' : Store) (b : Book) → ((i : ℕ) → Has (s i) (b i)) → Step call s s' → (i : ℕ) → Has (s' i) (note call b i)
step_has call s s' b has step i =
    ⊎_elim
    (λ e. rw (eq-eqb i (named call) e, e) (effect_has call s b (s' (named call)) has step.effect))
    (λ ne. rw (ne_eqb i (named call) ne, step.others i ne) (has i))
    (cases_eq i (named call))

pub leads_has : (h : List Call) (s : Store) → Leads h s → (i : ℕ) → Has (s i) (book h i)
leads_has [] s new i = has_new (s i) (new i)
leads_has (call ∷ h) s' (s, leads, step) i = step_has call s s' (book h) (leads_has h s leads) step i

pub known_has : (r : Register) (ts : List Value) → Known r ts → Has r ts
known_has r ts k = rw (sym k.is, sym k.kept) (leads_has k.history k.store k.leads k.name)
