-- The laws of the registers that histories lead to.
use Rattle.std.proofs.Common.{◌≡◌, ℕ, ◌*◌, ◌^◌, ◌≤◌, Decides, false, not, List, [], nat_abs, sym, refl, ap, ◌∙◌, subst}
use lib.Signed.{non_neg}
use Rattle.formats.specs.Meaning.{Meaning, Lawful}
use Rattle.formats.specs.Value.{Value, finite, less}
use Rattle.rounding.specs.Laws.{AnswersNearest, NearestFor, read_back}
use Rattle.rounding.specs.Projection.{projected, is_odd, significand_of}
use Rattle.rounding.specs.Rule.{Rule, Monotone, Nearest}
use Rattle.rounding.specs.declared.answers.Saturation.{Saturation}
use Rattle.rounding.proofs.RoundLaws.{keeps_order, keeps_nearest}
use Rattle.sums.specs.Sums.{value, size}
use Rattle.sums.specs.declared.sum.Sum.{Sum}
use Rattle.sums.proofs.SumLaws.{value_once, decided as sums_decided}
use Rattle.std.proofs.Math.Bridge.{le_prop}
use Rattle.std.proofs.lemmas.Bool.Decides.{Decides-and, Decides-eqb}
use Rattle.terms.specs.Terms.{exact_sum}
use Rattle.registers.specs.Calls.{New, Has, read_of}
use Rattle.registers.specs.Histories.{Known}
use Rattle.registers.specs.Laws.{SameTerms, EqualExactlyWhen, ReadsItsTerms, KeepsOrder, NearestCode, ReadsNearest, RegisterLaws}
use Rattle.registers.specs.declared.register.Register.{Register}
use Rattle.registers.specs.contracts.register.RegisterPartialEq.TheImpl as RegisterPartialEq
use Rattle.registers.proofs.HistoryLaws.{known_has}

known_new : (r : Register) → New r → Known r []
known_new r new = record { history = []; store = λ i. r; name = 0; leads = λ i. new; is = refl; kept = refl }

held : (n : ℕ) (s : Sum) → size s ≤ n * 2 ^ 191 → Register
held n s h = record { count = n; sum = s; bounded = h }

same_held : (n m : ℕ) (s t : Sum) → n ≡ m → s ≡ t → (h : size s ≤ n * 2 ^ 191) (k : size t ≤ m * 2 ^ 191) → held n s h ≡ held m t k
same_held n m s t e f =
    subst (λ j. (h : size s ≤ n * 2 ^ 191) (k : size t ≤ j * 2 ^ 191) → held n s h ≡ held j t k) e
    (subst (λ u. (h : size s ≤ n * 2 ^ 191) (k : size u ≤ n * 2 ^ 191) → held n s h ≡ held n u k) f
    (λ h k. ap (held n s) (le_prop h k)))

pub same_fields : (r r' : Register) → r.count ≡ r'.count → r.sum ≡ r'.sum → r ≡ r'
unfolding held
same_fields r r' e f = same_held r.count r'.count r.sum r'.sum e f r.bounded r'.bounded

-- the derived equality
pub decided : (r r' : Register) → Decides (RegisterPartialEq.ghosts.eq r r') (r ≡ r')
decided r r' =
    let both = Decides-and _ _ (Decides-eqb r.count r'.count) (sums_decided r.sum r'.sum) in
    (λ e. let (count, sum) = both.0 e in same_fields r r' count sum, λ e. both.1 (ap (λ x. x.count) e, ap (λ x. x.sum) e))

pub equal_fields : (r r' : Register) (ts ts' : List Value) → Has r ts → Has r' ts' → SameTerms ts ts' → r ≡ r'
equal_fields r r' ts ts' has has' (long, sum) =
    same_fields r r' (has.counted ∙ long ∙ sym has'.counted) (value_once r.sum r'.sum (has.summed ∙ sum ∙ sym has'.summed))

pub equal_exactly : (r r' : Register) → EqualExactlyWhen r r'
equal_exactly r r' ts ts' k k' =
    let has = known_has r ts k in
    let has' = known_has r' ts' k' in (
      (λ e. (sym has.counted ∙ ap (λ x. x.count) e ∙ has'.counted, sym has.summed ∙ ap (λ x. value x.sum) e ∙ has'.summed)),
      equal_fields r r' ts ts' has has',
    )

pub reads_its_terms : (m : Meaning) (rule : Rule) (mode : Saturation) (r : Register) → ReadsItsTerms m rule mode r (read_of m rule mode r)
reads_its_terms m rule mode r ts k =
    let has = known_has r ts k in
    rw (has.counted, has.summed) refl

keeps : (m : Meaning) (rule : Rule) (mode : Saturation) (r r' : Register) → Lawful m → Monotone rule → KeepsOrder m rule mode r r'
keeps m rule mode r r' laws monotone ts ts' k k' a b lt =
    let left = (known_has r ts k).summed in
    let right = (known_has r' ts' k').summed in
    subst (λ v. less (read_back m rule mode (value r'.sum)) (read_back m rule mode v) ≡ false) (sym left)
    (subst (λ v. less (read_back m rule mode v) (read_back m rule mode (exact_sum ts)) ≡ false) (sym right)
    (keeps_order m rule mode laws monotone (exact_sum ts) (exact_sum ts') a b lt))

pub reads_nearest : (m : Meaning) (rule : Rule) (mode : Saturation) (r : Register) → NearestFor m rule mode (value r.sum) → ReadsNearest m rule mode r
reads_nearest m rule mode r near ts x k e within =
    let is : value r.sum ≡ finite x = (known_has r ts k).summed ∙ e in
    let near-x : AnswersNearest m rule mode x = near x is within in
    subst (λ v. NearestCode m x (projected m rule mode v).0) (sym is)
    (record { value = near-x.0; reads = near-x.1; nearest = near-x.2 })

nearest_for : (m : Meaning) (rule : Rule) (mode : Saturation) (v : Value) → Lawful m → Nearest rule → NearestFor m rule mode v
nearest_for m rule mode v laws nearest x e within =
    keeps_nearest m rule mode laws x within (nearest (not (non_neg x)) (is_odd (significand_of m (nat_abs x))))

pub laws : RegisterLaws
laws = record {
  start = known_new;
  equal = equal_exactly;
  reading = λ m rule mode r lawful monotone. reads_its_terms m rule mode r;
  order = keeps;
  nearest = λ m rule mode r lawful monotone nearest. reads_nearest m rule mode r (nearest_for m rule mode (value r.sum) lawful nearest);
}
