use Rattle.std.proofs.Common.{◌++◌, vec_items, ap, ◌∙◌}
use Rattle.reports.proofs.TextLaws.{joined}
use Rattle.reports.proofs.text.write_line.Goals as goal

pub returns : goal.returns
returns c =
    joined (vec_items c.args.text.now) _ _ c.in_ok-write_decimal.ensures
    (joined (vec_items c.write_decimal.new.text) _ _ c.in_ok-push.ensures.items
    (joined (vec_items c.push.new.self) _ _ c.in_ok-write_decimal-2.ensures
    (joined (vec_items c.write_decimal-2.new.text) _ _ c.in_ok-push-2.ensures.items
    (joined (vec_items c.push-2.new.self) _ _ c.in_ok-write_hexadecimal.ensures
    (joined (vec_items c.write_hexadecimal.new.text) _ _ c.in_ok-push-3.ensures.items
    (joined (vec_items c.push-3.new.self) _ _ c.in_ok-write_decimal-3.ensures
    (joined (vec_items c.write_decimal-3.new.text) _ _ c.in_ok-push-4.ensures.items
    (joined (vec_items c.push-4.new.self) _ _
    (c.in_ok-extend_from_slice.ensures.items ∙ ap (λ w. vec_items c.push-4.new.self ++ w) (c.as_bytes.ensures.value ∙ c.mark_word.ensures))
    c.in_ok-push-5.ensures.items))))))))
