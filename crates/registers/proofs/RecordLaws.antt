-- A call's promise is a step of a history.
use Rattle.std.proofs.Common.{◌≡◌, ℕ, cond, eqb, List, ℤ, Result, sym, refl, ap, ◌∙◌}
use Rattle.std.proofs.lemmas.Bool.{eq-eqb, ne_eqb}
use Rattle.formats.specs.Meaning.{Meaning}
use Rattle.formats.specs.declared.fault.Fault.{Fault}
use Rattle.rounding.specs.Rule.{Rule}
use Rattle.rounding.specs.declared.answers.Saturation.{Saturation}
use Rattle.terms.specs.Offers.{add_offer, product_offer}
use Rattle.registers.specs.Calls.{Answers, Joins}
use Rattle.registers.specs.Histories.{Call, add, product, dot, join, read, named, Store, Effect, Step, Leads}
use Rattle.registers.specs.Laws.{Continued, Recorded, RecordedJoin}
use Rattle.registers.specs.Runs.{dot_offer}
use Rattle.registers.specs.declared.register.Register.{Register}

-- the store with one register changed
abbrev after : Store → ℕ → Register → Store
after s i new j = cond (eqb j i) new (s j)

after_named : (s : Store) (i : ℕ) (new : Register) → after s i new i ≡ new
after_named s i new = rw (eq-eqb i i refl) refl

continued : (call : Call) (h : List Call) (s : Store) (i : ℕ) (new : Register) → named call ≡ i → Leads h s → Effect call s new → Continued call h s i new
continued call h s i new is leads effect =
    let changed = after s i new in
    let named_new : changed (named call) ≡ new = ap changed is ∙ after_named s i new in
    let step : Step call s changed = record {
      effect = rw named_new effect;
      others = λ j ne. rw (ne_eqb j i (λ e. ne (e ∙ sym is))) refl;
    } in
    record { store = changed; step = step; leads = (s, leads, step); is = after_named s i new }

pub recorded_add : (f : Meaning) (c : ℕ) (old new : Register) (a : Result Unit Fault) → Answers (add_offer f c) old a new → Recorded (λ i. add i f c) old new
recorded_add f c old new a answers h s i leads is =
    continued (add i f c) h s i new refl leads (a, rw is answers)

pub recorded_product : (f g : Meaning) (k : ℤ) (x y : ℕ) (old new : Register) (a : Result Unit Fault) → Answers (product_offer f g k x y) old a new → Recorded (λ i. product i f g k x y) old new
recorded_product f g k x y old new a answers h s i leads is =
    continued (product i f g k x y) h s i new refl leads (a, rw is answers)

pub recorded_dot : (f g : Meaning) (k : ℤ) (run : List ℕ) (old new : Register) (a : Result Unit Fault) → Answers (dot_offer f g k run) old a new → Recorded (λ i. dot i f g k run) old new
recorded_dot f g k run old new a answers h s i leads is =
    continued (dot i f g k run) h s i new refl leads (a, rw is answers)

pub recorded_join : (other old new : Register) (a : Result Unit Fault) → Joins other old a new → RecordedJoin other old new
recorded_join other old new a joins h s i o leads is other-is =
    continued (join i o) h s i new refl leads (a, rw (is, other-is) joins)

pub recorded_read : (f : Meaning) (rule : Rule) (mode : Saturation) (r : Register) → Recorded (λ i. read i f rule mode) r r
recorded_read f rule mode r h s i leads is =
    continued (read i f rule mode) h s i r refl leads (sym is)
