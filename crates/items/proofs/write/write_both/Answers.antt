use Rattle.std.proofs.Common.{◌+◌, ◌≤◌, ◌++◌, length, sym, refl, ◌∙◌, arith, length-append}
use Rattle.std.proofs.lemmas.Bool.{cond-true, le-leb}
use Rattle.octets.proofs.Writing.{wrote, wrote_more}
use Rattle.items.proofs.write.write_both.Goals as goal

pub returns-clause-after : goal.returns-clause-after
returns-clause-after c =
    let a = c.args in
    let xs = a.out.now in
    let head = a.head.now in
    let content = a.content.now in
    let l = length-append head content in
    let room : a.at + length head + length content ≤ length xs = omega arith in
    let one = wrote xs a.at head head c.copy_at.result c.copy_at.new.out (omega arith) refl c.copy_at.ensures.fits c.copy_at.ensures.after in
    wrote_more xs a.at head content content c.copy_at-2.result (a.at + length head) c.copy_at.new.out c.copy_at-2.new.out
    room one refl refl c.copy_at-2.ensures.fits c.copy_at-2.ensures.after
    ∙ sym (cond-true _ _ _ (le-leb (a.at + length (head ++ content)) (length xs) (omega arith)))
