-- What stands at the byte of a rule and of a mode.
use Rattle.std.proofs.Common.{Ok, Err, rules}
use Rattle.rounding.specs.declared.answers.Saturation.TheVariants.{SatFinite, SatPropagate, OvfInf}
use Rattle.rounding.specs.declared.rules.AnyRule.TheVariants.{TiesToEven, TiesToAway, Upward, Downward, Chop}
use Rattle.records.specs.Fields.{RulesAt, ModesAt}

pub rule_at : RulesAt
rule_at offset b (Ok TiesToEven) is = rw (← is) (search rules)
rule_at offset b (Ok TiesToAway) is = rw (← is) (search rules)
rule_at offset b (Ok Upward) is = rw (← is) (search rules)
rule_at offset b (Ok Downward) is = rw (← is) (search rules)
rule_at offset b (Ok Chop) is = rw (← is) (search rules)
rule_at offset b (Err f) ((e, most), refuses) = (most, refuses)

pub mode_at : ModesAt
mode_at offset b (Ok SatFinite) is = rw (← is) (search rules)
mode_at offset b (Ok SatPropagate) is = rw (← is) (search rules)
mode_at offset b (Ok OvfInf) is = rw (← is) (search rules)
mode_at offset b (Err f) ((e, most), refuses) = (most, refuses)
